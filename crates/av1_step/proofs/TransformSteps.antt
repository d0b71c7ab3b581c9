-- What the steps of the sizes of transforms bring.
use Rattle.std.proofs.Common.{◌≡◌, ◌≤◌, ◌||◌, Bool, true, false, IsTrue, None, Some, refl, sym, subst, arith, inl, inr, ◌⊎◌}
use Rattle.av1_blocks.specs.declared.block.Block.{Block}
use Rattle.av1_blocks.specs.Grid.{Grid}
use Rattle.av1_cdf.specs.Distribution.{HasSymbols}
use Rattle.av1_geometry.specs.BlockSize.{number_of}
use Rattle.av1_geometry.specs.BlockTables.{max_tx_size}
use Rattle.av1_geometry.specs.Rules.{first_broken}
use Rattle.av1_geometry.specs.TxSize.{tx_width_log2, tx_height_log2}
use Rattle.av1_geometry.specs.declared.block_size.BlockSize.{BlockSize}
use Rattle.av1_geometry.specs.declared.tx_size.TxSize.{TxSize}
use Rattle.av1_geometry.specs.declared.tx_size.TxSize.TheVariants.{TX_4X4}
use Rattle.av1_model.proofs.ElementLaws.{known_reads}
use Rattle.av1_syntax.specs.TransformSizes.{halved, is_offered, same_size}
use Rattle.av1_syntax.proofs.Splits.{split_reads}
use Rattle.av1_syntax.proofs.TransformSizes.{same_is, tx_size_reads}
use Rattle.av1_step.specs.Kept.{IsBlock, IsEntered}
use Rattle.av1_step.specs.Kind.{rules_of, IsKind}
use Rattle.av1_step.specs.Tile.{Tile, CurrentBlock, place_of_block, size_of_block}
use Rattle.av1_step.specs.TransformSteps.{has_tx_choice, inter_tx_size, tx_note_kind, tx_intra_kind, tx_inter_kind}
use Rattle.av1_step.proofs.Effects.{largest_sides, still_sound}
use Rattle.av1_step.proofs.KindLaws.{kind_reads, none_is}
use Rattle.av1_step.proofs.Places.{all_hold, both, is_at_most}
use Rattle.av1_step.proofs.Splitting.{split_blocks}

pub tx_note_is_kind : (t : Tile) (b : CurrentBlock) → IsBlock t.bc.blocks.cols t.bc.blocks.rows (place_of_block b) (size_of_block b) → IsKind t (tx_note_kind t b)
tx_note_is_kind t b h = record {
  reads = kind_reads (tx_note_kind t b) (λ a. a ≡ tt) 0 (omega arith) (λ a g r. refl) (λ g. known_reads HasSymbols tt);
  fit = λ a g. (h, tt);
  at_place = λ a. (refl, tt);
}

-- a block that has a choice is larger than 4x4
larger : (t : Tile) (size : BlockSize) → has_tx_choice t size ≡ true → 1 ≤ number_of size
larger t size h = is_at_most _ _ (both _ _ h).1

-- what an allowed size has
pub tx_intra_allowed : (t : Tile) (b : CurrentBlock) (tx : TxSize) → first_broken (rules_of (tx_intra_kind t b) tx) ≡ None → (1 ≤ number_of (size_of_block b)) × IsTrue (is_offered (max_tx_size (size_of_block b)) tx)
tx_intra_allowed t b tx h = let all = all_hold (rules_of (tx_intra_kind t b) tx) h in (larger t (size_of_block b) all.1.1.0, all.1.1.1.0)

-- a size that is offered is no longer on either side than the largest
abbrev pub IsNoLonger : TxSize → TxSize → Type 0
IsNoLonger tx largest = (tx_width_log2 tx ≤ tx_width_log2 largest) × (tx_height_log2 tx ≤ tx_height_log2 largest)

half_no_longer : (tx : TxSize) → IsNoLonger (halved 1 tx) tx
half_no_longer TX_4X4 = (omega arith, omega arith)
half_no_longer _ = (omega arith, omega arith)

quarter_no_longer : (tx : TxSize) → IsNoLonger (halved 2 tx) tx
quarter_no_longer TX_4X4 = (omega arith, omega arith)
quarter_no_longer _ = (omega arith, omega arith)

either : (a b : Bool) → (a || b) ≡ true → (a ≡ true) ⊎ (b ≡ true)
either true b e = inl refl
either false b e = inr e

pub offered_no_longer : (largest tx : TxSize) → IsTrue (is_offered largest tx) → IsNoLonger tx largest
offered_no_longer largest tx o =
    let is = λ (s : TxSize) (e : same_size tx s ≡ true) (k : IsNoLonger s largest). subst (λ (u : TxSize). IsNoLonger u largest) (sym (same_is tx s e)) k in
    elim (either (same_size tx largest || same_size tx (halved 1 largest)) (same_size tx (halved 2 largest)) o) [
      | inl p ↦ elim (either (same_size tx largest) (same_size tx (halved 1 largest)) p) [
        | inl e ↦ is largest e (omega arith, omega arith)
        | inr e ↦ is (halved 1 largest) e (half_no_longer largest)
      ]
      | inr e ↦ is (halved 2 largest) e (quarter_no_longer largest)
    ]

-- a block stays what was entered where it gets a transform that is no longer than the largest
tx_entered : (size : BlockSize) (tx : TxSize) → IsNoLonger tx (max_tx_size size) → (x : Block) → IsEntered size x → IsEntered size (record x { txsize = tx })
tx_entered size tx n x h = let l = largest_sides size in (h.0, h.1, h.2, omega (arith, n.0, l.0), omega (arith, n.1, l.1))

still_entered : (t : Tile) (b : CurrentBlock) (tx : TxSize) → t.current ≡ Some b → IsNoLonger tx (max_tx_size (size_of_block b)) →
    (c : CurrentBlock) → t.current ≡ Some c → (x : Block) → IsEntered (size_of_block c) x → IsEntered (size_of_block c) (record x { txsize = tx })
still_entered t b tx e n c is =
    let same : b ≡ c = cc (e, is) in
    subst (λ (k : CurrentBlock). (x : Block) → IsEntered (size_of_block k) x → IsEntered (size_of_block k) (record x { txsize = tx })) same (tx_entered (size_of_block b) tx n)

pub tx_intra_is_kind : (t : Tile) (b : CurrentBlock) → t.current ≡ Some b → IsBlock t.bc.blocks.cols t.bc.blocks.rows (place_of_block b) (size_of_block b) → IsKind t (tx_intra_kind t b)
tx_intra_is_kind t b e s = record {
  reads = kind_reads (tx_intra_kind t b) (λ tx. IsTrue (is_offered (max_tx_size (size_of_block b)) tx)) 1 (omega arith) (λ tx h g. (all_hold ((tx_intra_kind t b).answering tx) (none_is _ g)).0)
      (λ h. tx_size_reads t.bc (place_of_block b) (size_of_block b) (larger t (size_of_block b) (all_hold (tx_intra_kind t b).asking (none_is _ h)).1.1.0));
  fit = λ tx g.
      let no_longer = offered_no_longer (max_tx_size (size_of_block b)) tx (tx_intra_allowed t b tx (none_is _ g)).1 in
      ((s, λ x like fine. record { mode = fine.mode; segment = fine.segment; sound = still_sound x x.skip x.cdef_index x.segmentation_idx x.deblock_deltas tx fine.sound }, still_entered t b tx e no_longer, λ c is. inl (λ x. refl)), (s, tt));
  at_place = λ tx. (refl, (refl, tt));
}

-- nor is that of an inter block
pub inter_no_longer : (size : BlockSize) (split : Bool) → IsNoLonger (inter_tx_size size split) (max_tx_size size)
inter_no_longer size true = half_no_longer (max_tx_size size)
inter_no_longer size false = (omega arith, omega arith)

-- what an allowed split has
pub tx_inter_allowed : (t : Tile) (b : CurrentBlock) (split : Bool) → first_broken (rules_of (tx_inter_kind t b) split) ≡ None → 1 ≤ number_of (size_of_block b)
tx_inter_allowed t b split h = let all = all_hold (rules_of (tx_inter_kind t b) split) h in larger t (size_of_block b) (both _ _ all.1.1.1.0).0

pub tx_inter_is_kind : (t : Tile) (b : CurrentBlock) → t.current ≡ Some b → IsBlock t.bc.blocks.cols t.bc.blocks.rows (place_of_block b) (size_of_block b) → IsKind t (tx_inter_kind t b)
tx_inter_is_kind t b e s = record {
  reads = kind_reads (tx_inter_kind t b) (λ split. Unit {0}) 5 (omega arith) (λ split g r. tt)
      (λ g. split_reads t.bc (place_of_block b) (size_of_block b) 0 0 (larger t (size_of_block b) (both _ _ (all_hold (tx_inter_kind t b).asking (none_is _ g)).1.1.1.0).0) s.width s.height);
  fit = λ split g. (s, ((subst (λ (grid : Grid). IsBlock grid.cols grid.rows (place_of_block b) (size_of_block b)) (sym (split_blocks (place_of_block b) (size_of_block b) split t.bc)) s, λ x like fine. record { mode = fine.mode; segment = fine.segment; sound = still_sound x x.skip x.cdef_index x.segmentation_idx x.deblock_deltas (inter_tx_size (size_of_block b) split) fine.sound }, still_entered t b (inter_tx_size (size_of_block b) split) e (inter_no_longer (size_of_block b) split), λ c is. inl (λ x. refl)), tt));
  at_place = λ split. (refl, (refl, tt));
}
