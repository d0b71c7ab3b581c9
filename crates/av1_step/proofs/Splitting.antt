-- What entering the transforms of an inter block in the edges keeps.
use Rattle.std.proofs.Common.{◌≡◌, ℕ, zero, suc, ◌+◌, ◌-◌, ◌*◌, ◌/◌, ◌%◌, ◌^◌, ◌<◌, ◌≤◌, List, [], ◌∷◌, Bool, true, false, if◌then◌else◌, map, take, refl, sym, ap, subst, ◌∙◌, arith}
use Rattle.std.specs.List.{range_with_len}
use Rattle.std.proofs.lemmas.Nat.{mul-add-lt}
use Rattle.std.proofs.Math.Nat.{mod-lt}
use Rattle.av1_blocks.specs.declared.block_context.BlockContext.{BlockContext}
use Rattle.av1_blocks.specs.declared.checkpoint.BlockContextCheckpoint.{BlockContextCheckpoint}
use Rattle.av1_blocks.specs.Edges.{HasEdges, with_edges, with_tx_sides, taken}
use Rattle.av1_blocks.specs.GoingBack.{IsWithin}
use Rattle.av1_blocks.specs.Places.{sb_column}
use Rattle.av1_blocks.proofs.GivenBack.{gives_back}
use Rattle.av1_blocks.proofs.Places.{length-changed, put-filled}
use Rattle.av1_geometry.specs.declared.block_offset.BlockOffset.{BlockOffset}
use Rattle.av1_geometry.specs.declared.block_size.BlockSize.{BlockSize}
use Rattle.av1_geometry.specs.declared.block_size.BlockSize.TheVariants.{BLOCK_4X4}
use Rattle.av1_geometry.specs.declared.chroma_sampling.ChromaSampling.{ChromaSampling}
use Rattle.av1_geometry.specs.declared.tx_size.TxSize.{TxSize}
use Rattle.av1_geometry.specs.declared.tx_size.TxSize.TheVariants.{TX_4X4}
use Rattle.av1_geometry.specs.BlockSize.{width_log2, width_mi, height_mi}
use Rattle.av1_geometry.specs.BlockTables.{max_tx_size}
use Rattle.av1_geometry.specs.TxSize.{tx_width_log2, tx_height_log2}
use Rattle.av1_syntax.specs.TransformSizes.{halved, is_within, block_of, entered_tx, parts_of, place_of, entered_parts, entered_split, AreSome}

-- a transform lies in the columns of a block
pub record IsPart (bo : BlockOffset) (size : BlockSize) (place : BlockOffset) (tx : TxSize) : Type 0 where
  pub some : 1 ≤ width_mi (block_of tx)
  pub start : bo.x ≤ place.x
  pub end : place.x + width_mi (block_of tx) ≤ bo.x + width_mi size

block_width : (tx : TxSize) → width_log2 (block_of tx) ≡ tx_width_log2 tx
block_width TX_4X4 = refl
block_width _ = refl

some_side : (n : ℕ) → 1 ≤ 2 ^ n
some_side zero = omega arith
some_side (suc n) = let e = some_side n in omega (arith, e)

part_is : (bo : BlockOffset) (size : BlockSize) (tx : TxSize) (place : BlockOffset) → bo.x ≤ place.x → place.x + 2 ^ (tx_width_log2 tx - 2) ≤ bo.x + width_mi size → IsPart bo size place tx
part_is bo size tx place a b =
    let wide : width_mi (block_of tx) ≡ 2 ^ (tx_width_log2 tx - 2) = ap (λ w. 2 ^ (w - 2)) (block_width tx) in
    record { some = some_side (width_log2 (block_of tx) - 2); start = a; end = subst (λ w. place.x + w ≤ bo.x + width_mi size) (sym wide) b }

-- the largest transform is within its block
pub whole_wide : (size : BlockSize) → 2 ^ (tx_width_log2 (max_tx_size size) - 2) ≤ width_mi size
whole_wide BLOCK_4X4 = omega arith
whole_wide _ = omega arith

pub whole_high : (size : BlockSize) → 2 ^ (tx_height_log2 (max_tx_size size) - 2) ≤ height_mi size
whole_high BLOCK_4X4 = omega arith
whole_high _ = omega arith

whole_part : (bo : BlockOffset) (size : BlockSize) → IsPart bo size bo (max_tx_size size)
whole_part bo size = part_is bo size (max_tx_size size) bo (omega arith) (let w = whole_wide size in omega (arith, w))

-- its parts are as wide together as the block
columns_fill : (size : BlockSize) → let part = halved 1 (max_tx_size size) in 2 ^ (tx_width_log2 part - 2) * 2 ^ (width_log2 size - tx_width_log2 part) ≡ width_mi size
columns_fill BLOCK_4X4 = refl
columns_fill _ = refl

among : (x j n side whole : ℕ) → 1 ≤ side → side * n ≡ whole → j < n → (x ≤ x + j * side) × (x + j * side + side ≤ x + whole)
among x j n side whole some fill before =
    let most : j * side + (side - 1) < side * n = mul-add-lt j side (side - 1) n before (omega (arith, some)) in
    (omega arith, omega (arith, most, some, fill))

part_at : (bo : BlockOffset) (size : BlockSize) (k : ℕ) →
    let part = halved 1 (max_tx_size size) in
    IsPart bo size (place_of bo part (k % 2 ^ (width_log2 size - tx_width_log2 part), k / 2 ^ (width_log2 size - tx_width_log2 part))) part
part_at bo size k =
    let part = halved 1 (max_tx_size size) in
    let columns = 2 ^ (width_log2 size - tx_width_log2 part) in
    let in_row = among bo.x (k % columns) columns (2 ^ (tx_width_log2 part - 2)) (width_mi size) (some_side (tx_width_log2 part - 2)) (columns_fill size) (mod-lt k (some_side (width_log2 size - tx_width_log2 part))) in
    part_is bo size part (place_of bo part (k % columns, k / columns)) in_row.0 in_row.1

-- what holds of all parts
abbrev AllParts : (ℕ × ℕ → Type 0) → List (ℕ × ℕ) → Type 0
AllParts Q [] = Unit {0}
AllParts Q (p ∷ ps) = Q p × AllParts Q ps

all_made : (Q : ℕ × ℕ → Type 0) (f : ℕ → ℕ × ℕ) → ((k : ℕ) → Q (f k)) → (from n : ℕ) → AllParts Q (map f (range_with_len from n))
all_made Q f h from zero = tt
all_made Q f h from (suc n) = (h from, all_made Q f h (from + 1) n)

some_taken : (Q : ℕ × ℕ → Type 0) (n : ℕ) (ps : List (ℕ × ℕ)) → AllParts Q ps → AllParts Q (take n ps)
some_taken Q zero ps all = tt
some_taken Q (suc n) [] all = tt
some_taken Q (suc n) (p ∷ ps) all = (all.0, some_taken Q n ps all.1)

-- what a transform in the columns of a block keeps, the transforms of the block keep
module _ (bo : BlockOffset) (size : BlockSize) (P : BlockContext → Type 0)
    (one : (place : BlockOffset) (tx : TxSize) (bc : BlockContext) → IsPart bo size place tx → P bc → P (with_tx_sides place (block_of tx) (2 ^ tx_width_log2 tx) (2 ^ tx_height_log2 tx) bc)) where
  abbrev half : TxSize
  half = halved 1 (max_tx_size size)

  abbrev IsHalf : ℕ × ℕ → Type 0
  IsHalf p = IsPart bo size (place_of bo half p) half

  one_keeps : (place : BlockOffset) (tx : TxSize) (bc : BlockContext) → IsPart bo size place tx → P bc → P (entered_tx place tx bc)
  one_keeps place tx bc is h =
      elim (is_within bc.blocks place) as (λ b. P (if b then with_tx_sides place (block_of tx) (2 ^ tx_width_log2 tx) (2 ^ tx_height_log2 tx) bc else bc)) [ true ↦ one place tx bc is h | false ↦ h ]

  parts_keep : (ps : List (ℕ × ℕ)) (bc : BlockContext) → AllParts IsHalf ps → P bc → P (entered_parts bo half ps bc)
  parts_keep [] bc all h = h
  parts_keep (p ∷ ps) bc all h = parts_keep ps (entered_tx (place_of bo half p) half bc) all.1 (one_keeps (place_of bo half p) half bc all.0 h)

  all_parts : AllParts IsHalf (parts_of size half)
  all_parts = all_made IsHalf _ (λ k. part_at bo size k) 0 _

  pub split_keeps : (split : Bool) (bc : BlockContext) → P bc → P (entered_split bo size (max_tx_size size) split bc)
  split_keeps true bc h = parts_keep (parts_of size half) bc all_parts h
  split_keeps false bc h = one_keeps bo (max_tx_size size) bc (whole_part bo size) h

  pub some_keep : (split : Bool) (n : ℕ) (bc : BlockContext) → P bc → P (entered_parts bo half (take n (if split then parts_of size half else [])) bc)
  some_keep true n bc h = parts_keep (take n (parts_of size half)) bc (some_taken IsHalf n (parts_of size half) all_parts) h
  some_keep false n bc h = parts_keep (take n []) bc (some_taken IsHalf n [] tt) h

-- the grid, and the lengths of the edges
pub split_blocks : (bo : BlockOffset) (size : BlockSize) (split : Bool) (bc : BlockContext) → (entered_split bo size (max_tx_size size) split bc).blocks ≡ bc.blocks
split_blocks bo size split bc = split_keeps bo size (λ x. x.blocks ≡ bc.blocks) (λ place tx x is h. h) split bc refl

pub sides_long : (bo : BlockOffset) (size : BlockSize) (width height : ℕ) (bc : BlockContext) → HasEdges bc → HasEdges (with_tx_sides bo size width height bc)
sides_long bo size width height bc h = record { above_partition = h.above_partition; above_tx = length-changed _ bc.above_tx_context ∙ h.above_tx; above_planes = h.above_planes; above_coeff = h.above_coeff }

pub split_long : (bo : BlockOffset) (size : BlockSize) (split : Bool) (bc : BlockContext) → HasEdges bc → HasEdges (entered_split bo size (max_tx_size size) split bc)
split_long bo size split bc h = split_keeps bo size (λ x. HasEdges x) (λ place tx x is long. sides_long place (block_of tx) (2 ^ tx_width_log2 tx) (2 ^ tx_height_log2 tx) x long) split bc h

-- a transform of a block in a superblock is in it
pub part_within : (sb : ℕ) (bo : BlockOffset) (size : BlockSize) (place : BlockOffset) (tx : TxSize) → IsWithin sb bo.x (width_mi size) → IsPart bo size place tx → IsWithin sb place.x (width_mi (block_of tx))
part_within sb bo size place tx w p = record { some = p.some; start = omega (arith, w.start, p.start); end = omega (arith, w.end, p.end) }

-- going back to a checkpoint of its superblock hides it
edges_hide : (c : BlockContextCheckpoint) (bo : BlockOffset) (size : BlockSize) (width height : ℕ) (bc : BlockContext) → IsWithin (sb_column c.x) bo.x (width_mi size) → with_edges c (with_tx_sides bo size width height bc) ≡ with_edges c bc
edges_hide c bo size width height bc w =
    ap (λ (above : List ℕ). record (with_edges c bc) { above_tx_context = above })
    (put-filled (sb_column c.x) 16 c.above_tx_context bo.x (bo.x + width_mi size) width bc.above_tx_context w.start w.end)

-- edges go back at once to what was taken
taken_back : (bo : BlockOffset) (cs : ChromaSampling) (bc : BlockContext) → HasEdges bc → with_edges (taken bo cs bc) bc ≡ bc
taken_back bo cs bc h = ap (λ (x : BlockContext). record x { blocks = bc.blocks }) (gives_back bo cs record { x = 0; y = 0 } bc h)

-- and after some of the transforms of a block
pub some_undone : (c : BlockContextCheckpoint) (bo : BlockOffset) (size : BlockSize) (largest : TxSize) (split : Bool) (cs : ChromaSampling) (old mid new : BlockContext) → HasEdges old → IsWithin (sb_column (sb_column bo.x)) bo.x (width_mi size) →
    c ≡ taken bo cs old → largest ≡ max_tx_size size → AreSome bo (halved 1 largest) (if split then parts_of size (halved 1 largest) else []) old mid → new ≡ with_edges c mid → new ≡ old
some_undone c bo size largest split cs old mid new h w is whole some back =
    let d = taken bo cs old in
    let parts : AreSome bo (halved 1 (max_tx_size size)) (if split then parts_of size (halved 1 (max_tx_size size)) else []) old mid =
    subst (λ (t : TxSize). AreSome bo (halved 1 t) (if split then parts_of size (halved 1 t) else []) old mid) whole some in
    back
    ∙ ap (λ (x : BlockContextCheckpoint). with_edges x mid) is
    ∙ ap (with_edges d) parts.2
    ∙ some_keep bo size (λ x. with_edges d x ≡ with_edges d old) (λ place tx x p e. edges_hide d place (block_of tx) (2 ^ tx_width_log2 tx) (2 ^ tx_height_log2 tx) x (part_within (sb_column (sb_column bo.x)) bo size place tx w p) ∙ e) split parts.0 old refl
    ∙ taken_back bo cs old h
