-- What is changed in a superblock is hidden where the superblock goes back.
use Rattle.std.proofs.Common.{◌≡◌, ℕ, zero, suc, ◌+◌, ◌/◌, ◌%◌, ◌^◌, ◌<◌, ◌≤◌, List, [], Bool, true, false, ◌&&◌, nat_eq, nat_lt, if◌then◌else◌, get_or, refl, sym, ap, arith, inl, inr, min, max, subst, ◌⊎◌}
use Rattle.std.proofs.lemmas.Bool.Decides.{nat_tests}
use Rattle.av1_geometry.specs.declared.block_offset.BlockOffset.{BlockOffset}
use Rattle.av1_geometry.specs.declared.block_size.BlockSize.{BlockSize}
use Rattle.av1_geometry.specs.declared.block_size.BlockSize.TheVariants.{BLOCK_64X64}
use Rattle.av1_geometry.specs.declared.chroma_sampling.ChromaSampling.{ChromaSampling}
use Rattle.av1_geometry.specs.declared.chroma_sampling.ChromaSampling.TheVariants.{Cs420, Cs422, Cs444, Cs400}
use Rattle.av1_geometry.specs.BlockSize.{width_mi, height_mi}
use Rattle.av1_geometry.specs.ChromaSampling.{xdec_of, planes_of}
use Rattle.av1_blocks.specs.declared.block.Block.{Block}
use Rattle.av1_blocks.specs.declared.block_context.BlockContext.{BlockContext}
use Rattle.av1_blocks.specs.declared.checkpoint.BlockContextCheckpoint.{BlockContextCheckpoint}
use Rattle.av1_blocks.specs.Edges.{halvings, place_in, side_in, filled_in, with_partition, with_tx_sides, with_skip_reset, with_plane}
use Rattle.av1_blocks.specs.GoingBack.{gone_back, IsWithin}
use Rattle.av1_blocks.specs.Grid.{over, covers}
use Rattle.av1_blocks.specs.Places.{filled, within, put, sb_column}
use Rattle.av1_blocks.specs.Saved.{Saved, saved_at}
use Rattle.av1_blocks.proofs.Places.{hidden, put-filled}

-- where a change is hidden wherever it comes, it is hidden
pick : {A : Type 0} (a b : Bool) (f g : A → A) (x : A) → (b ≡ true → a ≡ true) → (b ≡ true → f (g x) ≡ f x) → (if a then f (if b then g x else x) else (if b then g x else x)) ≡ (if a then f x else x)
pick a false f g x h e = refl
pick true true f g x h e = e refl
pick false true f g x h e = let c : false ≡ true = h refl in cc

pub hides_partition : (c : BlockContextCheckpoint) (s : Saved) (bo : BlockOffset) (subsize size : BlockSize) (bc : BlockContext) → IsWithin (sb_column c.x) bo.x (width_mi size) →
    gone_back c s (with_partition bo subsize size bc) ≡ gone_back c s bc
hides_partition c s bo subsize size bc w =
    let x = sb_column c.x in
    ap (λ (above : List ℕ). record (gone_back c s bc) { above_partition_context = above })
    (put-filled (x / 2) 8 c.above_partition_context (bo.x / 2) ((bo.x + width_mi size) / 2) _ bc.above_partition_context (omega (arith, w.start)) (omega (arith, w.start, w.end)))

pub hides_tx_sides : (c : BlockContextCheckpoint) (s : Saved) (bo : BlockOffset) (size : BlockSize) (width height : ℕ) (bc : BlockContext) → IsWithin (sb_column c.x) bo.x (width_mi size) →
    gone_back c s (with_tx_sides bo size width height bc) ≡ gone_back c s bc
hides_tx_sides c s bo size width height bc w =
    ap (λ (above : List ℕ). record (gone_back c s bc) { above_tx_context = above })
    (put-filled (sb_column c.x) 16 c.above_tx_context bo.x (bo.x + width_mi size) width bc.above_tx_context w.start w.end)

halved_by : (m sb x n : ℕ) → (m ≡ 1) ⊎ (m ≡ 2) → sb % 16 ≡ 0 → IsWithin sb x n → (sb / m ≤ x / m) × (x / m + max (n / m) 1 ≤ sb / m + 16)
halved_by m sb x n h e w = elim h [
  | inl one ↦ subst (λ m. (sb / m ≤ x / m) × (x / m + max (n / m) 1 ≤ sb / m + 16)) (sym one) (omega (arith, w.start), omega (arith, w.some, w.start, w.end))
  | inr two ↦ subst (λ m. (sb / m ≤ x / m) × (x / m + max (n / m) 1 ≤ sb / m + 16)) (sym two) (omega (arith, w.start), omega (arith, w.start, w.end, e))
]

pub one_or_two : (dec : ℕ) (first : Bool) → dec < 2 → (2 ^ (if first then 0 else dec) ≡ 1) ⊎ (2 ^ (if first then 0 else dec) ≡ 2)
one_or_two dec true h = inl refl
one_or_two zero false h = inl refl
one_or_two (suc zero) false h = inr refl
one_or_two (suc (suc d)) false h = absurd (omega arith)

-- also in a plane whose sides are halved
within_plane : (dec plane sb x n : ℕ) → dec < 2 → sb % 16 ≡ 0 → IsWithin sb x n → (place_in dec plane sb ≤ place_in dec plane x) × (place_in dec plane x + side_in dec plane n ≤ place_in dec plane sb + 16)
within_plane dec plane sb x n h m w = halved_by (2 ^ halvings dec plane) sb x n (one_or_two dec (nat_eq plane 0) h) m w

more_planes : (p n m : ℕ) → n ≤ m → nat_lt p n ≡ true → nat_lt p m ≡ true
more_planes p n m h e = grind (arith, nat_tests)

one_plane : (p n m : ℕ) → n < m → nat_eq p n ≡ true → nat_lt p m ≡ true
one_plane p n m h e = grind (arith, nat_tests)

is_plane : (p n : ℕ) → nat_eq p n ≡ true → p ≡ n
is_plane p n e = grind (arith, nat_tests)

pub halved_once : (cs : ChromaSampling) → xdec_of cs < 2
halved_once Cs420 = omega arith
halved_once Cs422 = omega arith
halved_once Cs444 = omega arith
halved_once Cs400 = omega arith

pub hides_skip_reset : (c : BlockContextCheckpoint) (s : Saved) (planes ydec : ℕ) (bo : BlockOffset) (size : BlockSize) (bc : BlockContext) → planes ≤ planes_of c.chroma_sampling → IsWithin (sb_column c.x) bo.x (width_mi size) →
    gone_back c s (with_skip_reset planes (xdec_of c.chroma_sampling) ydec bo size bc) ≡ gone_back c s bc
hides_skip_reset c s planes ydec bo size bc few w =
    let x = sb_column c.x in
    let dec = xdec_of c.chroma_sampling in
    let saved = λ (p : ℕ) (edge : List ℕ). put (place_in dec p x) 16 (get_or c.above_coeff_context p []) edge in
    let reset = λ (p : ℕ) (edge : List ℕ). filled_in dec p bo.x (width_mi size) 0 edge in
    ap (λ (above : List (List ℕ)). record (gone_back c s bc) { above_coeff_context = above })
    (hidden (λ p edge. if nat_lt p (planes_of c.chroma_sampling) then saved p edge else edge) (λ p edge. if nat_lt p planes then reset p edge else edge) bc.above_coeff_context
    (λ p edge. pick (nat_lt p (planes_of c.chroma_sampling)) (nat_lt p planes) (saved p) (reset p) edge (more_planes p planes (planes_of c.chroma_sampling) few)
    (λ e. let inside = within_plane dec p x bo.x (width_mi size) (halved_once c.chroma_sampling) (omega arith) w in
    put-filled (place_in dec p x) 16 (get_or c.above_coeff_context p []) (place_in dec p bo.x) (place_in dec p bo.x + side_in dec p (width_mi size)) 0 edge inside.0 inside.1)))

-- columns of one plane
pub hides_plane : (c : BlockContextCheckpoint) (s : Saved) (plane x width y height v : ℕ) (bc : BlockContext) → plane < planes_of c.chroma_sampling →
    place_in (xdec_of c.chroma_sampling) plane (sb_column c.x) ≤ x → x + width ≤ place_in (xdec_of c.chroma_sampling) plane (sb_column c.x) + 16 →
    gone_back c s (with_plane plane x width y height v bc) ≡ gone_back c s bc
hides_plane c s plane x width y height v bc few start end =
    let dec = xdec_of c.chroma_sampling in
    let sb = sb_column c.x in
    let saved = λ (p : ℕ) (edge : List ℕ). put (place_in dec p sb) 16 (get_or c.above_coeff_context p []) edge in
    let number = λ (edge : List ℕ). filled x (x + width) v edge in
    ap (λ (above : List (List ℕ)). record (gone_back c s bc) { above_coeff_context = above })
    (hidden (λ p edge. if nat_lt p (planes_of c.chroma_sampling) then saved p edge else edge) (λ p edge. if nat_eq p plane then number edge else edge) bc.above_coeff_context
    (λ p edge. pick (nat_lt p (planes_of c.chroma_sampling)) (nat_eq p plane) (saved p) number edge (one_plane p plane (planes_of c.chroma_sampling) few)
    (λ e. let at = ap (λ q. place_in dec q sb) (is_plane p plane e) in
    put-filled (place_in dec p sb) 16 (get_or c.above_coeff_context p []) x (x + width) v edge (omega (arith, at, start)) (omega (arith, at, end)))))

within_part : (place sb from size k end : ℕ) → sb ≤ from → from + size ≤ sb + 16 → within (place + from) (place + min (from + size) end) k ≡ true → within (place + sb) (place + min (sb + 16) end) k ≡ true
within_part place sb from size k end a b e = grind (arith, nat_tests)

both : (a b c d : Bool) → (a ≡ true → c ≡ true) → (b ≡ true → d ≡ true) → (a && b) ≡ true → (c && d) ≡ true
both true true c d h i e = let first = h refl in let second = i refl in cc
both true false c d h i e = let no : false ≡ true = e in cc
both false b c d h i e = let no : false ≡ true = e in cc

pub hides_over : (c : BlockContextCheckpoint) (s : Saved) (bo : BlockOffset) (size : BlockSize) (f : Block → Block) (bc : BlockContext) → IsWithin s.place.x bo.x (width_mi size) → IsWithin s.place.y bo.y (height_mi size) →
    gone_back c s (record bc { blocks = over bo size f bc.blocks }) ≡ gone_back c s bc
hides_over c s bo size f bc w v =
    let g = bc.blocks in
    ap (λ (blocks : List Block). record (gone_back c s bc) { blocks = record g { frame = record g.frame { blocks = blocks } } })
    (hidden (λ k b. if covers g s.place BLOCK_64X64 k then saved_at s g k else b) (λ k b. if covers g bo size k then f b else b) g.frame.blocks
    (λ k b. pick (covers g s.place BLOCK_64X64 k) (covers g bo size k) (λ b. saved_at s g k) f b
    (both _ _ _ _
    (within_part g.x s.place.x bo.x (width_mi size) (k % g.frame.frame_cols) g.cols w.start w.end)
    (within_part g.y s.place.y bo.y (height_mi size) (k / g.frame.frame_cols) g.rows v.start v.end))
    (λ e. refl)))
