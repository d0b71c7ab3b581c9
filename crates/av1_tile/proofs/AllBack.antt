-- Going back to a mark hides that the tile went back to a later one of the same superblock.
use Rattle.std.proofs.Common.{◌≡◌, ℕ, ◌+◌, ◌-◌, ◌/◌, List, [], Bool, true, false, nat_lt, get_or, if◌then◌else◌, refl, ap, ◌∙◌}
use Rattle.av1_blocks.specs.declared.block.Block.{Block}
use Rattle.av1_blocks.specs.declared.block_context.BlockContext.{BlockContext}
use Rattle.av1_blocks.specs.declared.checkpoint.BlockContextCheckpoint.{BlockContextCheckpoint}
use Rattle.av1_blocks.specs.Edges.{place_in}
use Rattle.av1_blocks.specs.GoingBack.{gone_back}
use Rattle.av1_blocks.specs.Grid.{covers}
use Rattle.av1_blocks.specs.Places.{changed, put, within, sb_column}
use Rattle.av1_blocks.specs.Saved.{Saved, saved_at}
use Rattle.av1_blocks.proofs.Places.{hidden}
use Rattle.av1_geometry.specs.declared.block_offset.BlockOffset.{BlockOffset}
use Rattle.av1_geometry.specs.declared.block_size.BlockSize.TheVariants.{BLOCK_64X64}
use Rattle.av1_geometry.specs.declared.chroma_sampling.ChromaSampling.{ChromaSampling}
use Rattle.av1_geometry.specs.ChromaSampling.{xdec_of, planes_of}

-- a change of some places hides another one of the same places
over_again : {A : Type 0} (test : ℕ → Bool) (f g : ℕ → A → A) (xs : List A) → ((k : ℕ) (x : A) → f k (g k x) ≡ f k x) → changed (λ k x. if test k then f k x else x) (changed (λ k x. if test k then g k x else x) xs) ≡ changed (λ k x. if test k then f k x else x) xs
over_again test f g xs h =
    hidden (λ k x. if test k then f k x else x) (λ k x. if test k then g k x else x) xs
    (λ k x. elim (test k) as (λ b. (if b then f k (if b then g k x else x) else (if b then g k x else x)) ≡ (if b then f k x else x)) [ true ↦ h k x | false ↦ refl ])

put_again : (from count : ℕ) (items before xs : List ℕ) → put from count items (put from count before xs) ≡ put from count items xs
put_again from count items before xs = over_again (within from (from + count)) (λ k x. get_or items (k - from) 0) (λ k x. get_or before (k - from) 0) xs (λ k x. refl)

module _ (c d : BlockContextCheckpoint) (s r : Saved) (bc : BlockContext) where
  pub back_again : sb_column d.x ≡ sb_column c.x → d.chroma_sampling ≡ c.chroma_sampling → r.place ≡ s.place → gone_back c s (gone_back d r bc) ≡ gone_back c s bc
  back_again column sampling place =
      let x = sb_column c.x in
      let g = bc.blocks in
      let planes = planes_of c.chroma_sampling in
      let dec = xdec_of c.chroma_sampling in
      let partition : put (x / 2) 8 c.above_partition_context (put (sb_column d.x / 2) 8 d.above_partition_context bc.above_partition_context) ≡ put (x / 2) 8 c.above_partition_context bc.above_partition_context =
      ap (λ k. put (x / 2) 8 c.above_partition_context (put (k / 2) 8 d.above_partition_context bc.above_partition_context)) column ∙ put_again (x / 2) 8 c.above_partition_context d.above_partition_context bc.above_partition_context in
      let tx : put x 16 c.above_tx_context (put (sb_column d.x) 16 d.above_tx_context bc.above_tx_context) ≡ put x 16 c.above_tx_context bc.above_tx_context =
      ap (λ k. put x 16 c.above_tx_context (put k 16 d.above_tx_context bc.above_tx_context)) column ∙ put_again x 16 c.above_tx_context d.above_tx_context bc.above_tx_context in
      let put_all = λ (n e y : ℕ) (saved : List (List ℕ)) (edges : List (List ℕ)). changed (λ p edge. if nat_lt p n then put (place_in e p y) 16 (get_or saved p []) edge else edge) edges in
      let coeff : put_all planes dec x c.above_coeff_context (put_all (planes_of d.chroma_sampling) (xdec_of d.chroma_sampling) (sb_column d.x) d.above_coeff_context bc.above_coeff_context) ≡ put_all planes dec x c.above_coeff_context bc.above_coeff_context =
      ap (λ k. put_all planes dec x c.above_coeff_context (put_all (planes_of d.chroma_sampling) (xdec_of d.chroma_sampling) k d.above_coeff_context bc.above_coeff_context)) column
      ∙ ap (λ (cs : ChromaSampling). put_all planes dec x c.above_coeff_context (put_all (planes_of cs) (xdec_of cs) x d.above_coeff_context bc.above_coeff_context)) sampling
      ∙ over_again (λ p. nat_lt p planes) (λ p edge. put (place_in dec p x) 16 (get_or c.above_coeff_context p []) edge) (λ p edge. put (place_in dec p x) 16 (get_or d.above_coeff_context p []) edge) bc.above_coeff_context
      (λ p edge. put_again (place_in dec p x) 16 (get_or c.above_coeff_context p []) (get_or d.above_coeff_context p []) edge) in
      let restored = λ (q : BlockOffset) (v : Saved) (blocks : List Block). changed (λ k b. if covers g q BLOCK_64X64 k then saved_at v g k else b) blocks in
      let blocks : restored s.place s (restored r.place r g.frame.blocks) ≡ restored s.place s g.frame.blocks =
      ap (λ (q : BlockOffset). restored s.place s (restored q r g.frame.blocks)) place ∙ over_again (covers g s.place BLOCK_64X64) (λ k b. saved_at s g k) (λ k b. saved_at r g k) g.frame.blocks (λ k b. refl) in
      ap (λ (xs : List ℕ). record (gone_back c s (gone_back d r bc)) { above_partition_context = xs }) partition
      ∙ ap (λ (xs : List ℕ). record (gone_back c s (gone_back d r bc)) { above_partition_context = put (x / 2) 8 c.above_partition_context bc.above_partition_context; above_tx_context = xs }) tx
      ∙ ap (λ (xs : List (List ℕ)). record (gone_back c s (gone_back d r bc)) {
        above_partition_context = put (x / 2) 8 c.above_partition_context bc.above_partition_context;
        above_tx_context = put x 16 c.above_tx_context bc.above_tx_context;
        above_coeff_context = xs;
      }) coeff
      ∙ ap (λ (xs : List Block). record (gone_back c s bc) { blocks = record g { frame = record g.frame { blocks = xs } } }) blocks
