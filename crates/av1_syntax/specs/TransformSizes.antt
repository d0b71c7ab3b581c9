-- The sizes of the transforms of a block.
use Rattle.std.specs.Prelude.{◌≡◌, ℕ, zero, suc, ◌+◌, ◌-◌, ◌*◌, ◌/◌, ◌%◌, ◌^◌, ◌≤◌, List, [], ◌∷◌, Bool, true, false, not, ◌&&◌, ◌||◌, ◌==◌}
use Rattle.std.specs.Prelude.{if◌then◌else◌, min, max, nat_eq, nat_le, nat_lt, Option, Some, None, codes, length, map, take, slice_index_or, unwrap_or}
use Rattle.std.specs.List.{range_with_len}
use Rattle.av1_blocks.specs.Block.{is_inter}
use Rattle.av1_blocks.specs.Edges.{with_tx_sides}
use Rattle.av1_blocks.specs.Grid.{Grid, block_at}
use Rattle.av1_blocks.specs.declared.block_context.BlockContext.{BlockContext}
use Rattle.av1_cdf.specs.Distribution.{Distribution}
use Rattle.av1_cdf.specs.Distribution.Distribution.{Adaptive}
use Rattle.av1_cdf.specs.Layout.{Slot, slot}
use Rattle.av1_geometry.specs.BlockSize.{width_log2, height_log2, with_sides}
use Rattle.av1_geometry.specs.BlockTables.{max_tx_size}
use Rattle.av1_geometry.specs.TxSize.{tx_number, tx_width_log2, tx_height_log2}
use Rattle.av1_geometry.specs.TxTables.{half_size}
use Rattle.av1_geometry.specs.declared.block_offset.BlockOffset.{BlockOffset}
use Rattle.av1_geometry.specs.declared.block_size.BlockSize.{BlockSize}
use Rattle.av1_geometry.specs.declared.block_size.BlockSize.TheVariants.{BLOCK_4X4}
use Rattle.av1_geometry.specs.declared.tx_size.TxSize.{TxSize}
use Rattle.av1_model.specs.Element.{Element, known, symbol, choose, after}
use Rattle.av1_syntax.specs.Calls.{adaptive}
use Rattle.av1_syntax.specs.Flags.{flag}
use Rattle.av1_syntax.specs.Palette.{off_where}

-- the logarithm of the longer side
abbrev pub longer : TxSize → ℕ
longer tx = max (tx_width_log2 tx) (tx_height_log2 tx)

-- a size that is halved so often
abbrev pub halved : ℕ → TxSize → TxSize
halved zero tx = tx
halved (suc n) tx = half_size (halved n tx)

-- Intra blocks: all transforms have one size.

-- from the largest transform on there are so many sizes: the last is halved twice, or once where the first half is 4x4
abbrev pub depths : TxSize → ℕ
depths largest = min (longer largest - 2) 2 + 1

abbrev pub size_at : TxSize → ℕ → Option TxSize
size_at largest s = if nat_lt s (depths largest) then Some (halved s largest) else None

-- how often the largest is halved: tx_depth of the AV1 specification
abbrev pub depth_of : TxSize → TxSize → ℕ
depth_of largest tx = longer largest - longer tx

-- a size is one of those
abbrev pub same_size : TxSize → TxSize → Bool
same_size s t = nat_eq (tx_number s) (tx_number t)

abbrev pub is_offered : TxSize → TxSize → Bool
is_offered largest tx = same_size tx largest || same_size tx (halved 1 largest) || same_size tx (halved 2 largest)

-- what codes the depth, by the longer side of the largest transform: 8, or one of 16, 32 and 64
abbrev pub depth_slot : TxSize → ℕ → Slot
depth_slot largest context =
    if nat_eq (longer largest) 3 then slot (codes "tx_size_8x8_cdf") (context ∷ []) else slot (codes "tx_size_cdf") ((longer largest - 4) ∷ context ∷ [])

-- the width of the transform above, and the height of the one to the left; an inter block there counts as one transform
abbrev pub reach_above : BlockContext → BlockOffset → ℕ
reach_above bc bo = let b = block_at bc.blocks bo.x (bo.y - 1) in if is_inter b then 4 * b.n4_w else slice_index_or bc.above_tx_context bo.x 0

abbrev pub reach_left : BlockContext → BlockOffset → ℕ
reach_left bc bo = let b = block_at bc.blocks (bo.x - 1) bo.y in if is_inter b then 4 * b.n4_h else slice_index_or bc.left_tx_context (bo.y % 16) 0

-- whether there is one as wide, or as high, as the largest
abbrev pub is_wide_above : BlockContext → BlockOffset → TxSize → Bool
is_wide_above bc bo largest = not (bo.y == 0) && nat_le (2 ^ tx_width_log2 largest) (reach_above bc bo)

abbrev pub is_high_left : BlockContext → BlockOffset → TxSize → Bool
is_high_left bc bo largest = not (bo.x == 0) && nat_le (2 ^ tx_height_log2 largest) (reach_left bc bo)

-- how many of both are (AV1 specification, "CDF selection process": tx_depth)
abbrev pub tx_size_context : BlockContext → BlockOffset → TxSize → ℕ
tx_size_context bc bo largest = (if is_wide_above bc bo largest then 1 else 0) + (if is_high_left bc bo largest then 1 else 0)

-- the size of the transforms of an intra block
abbrev pub tx_size_element : BlockContext → BlockOffset → BlockSize → Element Distribution TxSize
tx_size_element bc bo size =
    let largest = max_tx_size size in
    symbol (Adaptive (depth_slot largest (tx_size_context bc bo largest))) (size_at largest) (depth_of largest)

-- Inter blocks: the largest transform may be split once.

-- the width above and the height to the left by which a transform is split or not; at the edge of its block a skipped inter block there counts as one transform
abbrev pub width_above : BlockContext → BlockOffset → Bool → ℕ
width_above bc bo topmost =
    let b = block_at bc.blocks bo.x (bo.y - 1) in
    let edge = slice_index_or bc.above_tx_context bo.x 0 in
    if topmost then (if bo.y == 0 then 64 else if b.skip && is_inter b then 2 ^ width_log2 b.bsize else edge) else edge

abbrev pub height_left : BlockContext → BlockOffset → Bool → ℕ
height_left bc bo leftmost =
    let b = block_at bc.blocks (bo.x - 1) bo.y in
    let edge = slice_index_or bc.left_tx_context (bo.y % 16) 0 in
    if leftmost then (if bo.x == 0 then 64 else if b.skip && is_inter b then 2 ^ height_log2 b.bsize else edge) else edge

-- by the longer side of the block, and whether the transform is a part of the largest
abbrev pub split_category : BlockSize → TxSize → ℕ
split_category size tx = let side = longer (max_tx_size size) in 6 * (6 - side) + (if nat_eq (longer tx) side then 0 else 3)

-- and by whether those above and to the left are smaller (the same section: txfm_split)
abbrev pub txfm_partition_context : BlockContext → BlockOffset → BlockSize → TxSize → ℕ → ℕ → ℕ
txfm_partition_context bc bo size tx tbx tby =
    split_category size tx
    + ((if nat_lt (width_above bc bo (nat_eq tby 0)) (2 ^ tx_width_log2 tx) then 1 else 0)
    + (if nat_lt (height_left bc bo (nat_eq tbx 0)) (2 ^ tx_height_log2 tx) then 1 else 0))

-- what codes whether a transform at a place is split, which is one of so many columns and rows of those of its block
abbrev pub split_slot : BlockContext → BlockOffset → BlockSize → TxSize → ℕ → ℕ → Distribution
split_slot bc bo size tx tbx tby = adaptive (codes "txfm_partition_cdf") (txfm_partition_context bc bo size tx tbx tby ∷ [])

abbrev pub is_within : Grid → BlockOffset → Bool
is_within g bo = nat_lt bo.x g.cols && nat_lt bo.y g.rows

-- that a part of a split transform is not split, unless it begins outside the tile or is 4x4
abbrev pub part_element : BlockContext → BlockOffset → BlockSize → TxSize → ℕ → ℕ → Element Distribution Bool
part_element bc bo size part tbx tby = off_where (is_within bc.blocks bo && nat_lt 2 (longer part)) (split_slot bc bo size part tbx tby)

-- the block of a transform
abbrev pub block_of : TxSize → BlockSize
block_of tx = unwrap_or (with_sides (tx_width_log2 tx) (tx_height_log2 tx)) BLOCK_4X4

-- after a transform, if it begins inside the tile
abbrev pub entered_tx : BlockOffset → TxSize → BlockContext → BlockContext
entered_tx bo tx bc = if is_within bc.blocks bo then with_tx_sides bo (block_of tx) (2 ^ tx_width_log2 tx) (2 ^ tx_height_log2 tx) bc else bc

-- the columns and rows of the parts of a block, row by row
abbrev pub parts_of : BlockSize → TxSize → List (ℕ × ℕ)
parts_of size part =
    let columns = 2 ^ (width_log2 size - tx_width_log2 part) in
    let rows = 2 ^ (height_log2 size - tx_height_log2 part) in
    map (λ k. (k % columns, k / columns)) (range_with_len 0 (columns * rows))

abbrev pub place_of : BlockOffset → TxSize → ℕ × ℕ → BlockOffset
place_of bo part p = record { x = bo.x + p.0 * 2 ^ (tx_width_log2 part - 2); y = bo.y + p.1 * 2 ^ (tx_height_log2 part - 2) }

-- after parts
abbrev pub entered_parts : BlockOffset → TxSize → List (ℕ × ℕ) → BlockContext → BlockContext
entered_parts bo part [] bc = bc
entered_parts bo part (p ∷ ps) bc = entered_parts bo part ps (entered_tx (place_of bo part p) part bc)

-- the parts of a split transform, of which each is coded by what those before it leave
abbrev pub parts_element : BlockOffset → BlockSize → TxSize → List (ℕ × ℕ) → BlockContext → Element Distribution Bool
parts_element bo size part [] bc = known true
parts_element bo size part (p ∷ ps) bc =
    let place = place_of bo part p in
    after (part_element bc place size part p.0 p.1) (λ _. parts_element bo size part ps (entered_tx place part bc)) (λ _. false)

-- whether the largest transform of a block is split
abbrev pub split_element : BlockContext → BlockOffset → BlockSize → ℕ → ℕ → Element Distribution Bool
split_element bc bo size tbx tby =
    let part = halved 1 (max_tx_size size) in
    after (flag (split_slot bc bo size (max_tx_size size) tbx tby))
    (λ split. choose split (parts_element bo size part (parts_of size part) bc) (known false)) (λ split. split)

-- that of the largest transform, at depth 0, or a part, at depth 1
abbrev pub tx_size_inter_element : BlockContext → BlockOffset → BlockSize → TxSize → ℕ → ℕ → ℕ → Element Distribution Bool
tx_size_inter_element bc bo size tx tbx tby depth = choose (nat_eq depth 0) (split_element bc bo size tbx tby) (part_element bc bo size tx tbx tby)

-- after it
abbrev pub entered_split : BlockOffset → BlockSize → TxSize → Bool → BlockContext → BlockContext
entered_split bo size tx split bc = if split then entered_parts bo (halved 1 tx) (parts_of size (halved 1 tx)) bc else entered_tx bo tx bc

-- after some of the first parts
abbrev pub AreSome : BlockOffset → TxSize → List (ℕ × ℕ) → BlockContext → BlockContext → Type 0
AreSome bo part ps old new = (n : ℕ) × (n ≤ length ps) × (new ≡ entered_parts bo part (take n ps) old)

-- the same of a block whose largest transform is split, or is not
abbrev pub AreSomeIf : Bool → BlockSize → BlockOffset → TxSize → BlockContext → BlockContext → Type 0
AreSomeIf split size bo tx old new = let part = halved 1 tx in AreSome bo part (if split then parts_of size part else []) old new

-- a transform is in one superblock
pub record IsPlaced (bo : BlockOffset) (tx : TxSize) : Type 0 where
  pub column : bo.x % 16 + 2 ^ (tx_width_log2 tx - 2) ≤ 16
  pub row : bo.y % 16 + 2 ^ (tx_height_log2 tx - 2) ≤ 16
