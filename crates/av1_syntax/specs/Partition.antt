-- How a block is parted.
use Rattle.std.specs.Prelude.{◌≡◌, ◌<◌, ◌≤◌, ◌%◌, ℕ, zero, suc, ◌+◌, ◌-◌, ◌/◌, List, [], ◌∷◌, Bool, true, false, ◌||◌}
use Rattle.std.specs.Prelude.{Option, Some, None, if◌then◌else◌, nat_lt, nat_eq, codes, slice_index, length, map, sum}
use Rattle.av1_geometry.specs.declared.block_offset.BlockOffset.{BlockOffset}
use Rattle.av1_geometry.specs.declared.block_size.BlockSize.{BlockSize}
use Rattle.av1_geometry.specs.declared.partition_type.PartitionType.{PartitionType}
use Rattle.av1_geometry.specs.declared.partition_type.PartitionType.TheVariants.{PARTITION_HORZ, PARTITION_VERT, PARTITION_SPLIT}
use Rattle.av1_geometry.specs.BlockSize.{width_mi, width_log2, height_log2}
use Rattle.av1_geometry.specs.PartitionType.{partition_of, partition_number}
use Rattle.av1_blocks.specs.declared.block_context.BlockContext.{BlockContext}
use Rattle.av1_blocks.specs.Grid.{Grid}
use Rattle.av1_blocks.specs.Edges.{partition_context}
use Rattle.av1_cdf.specs.Context.{contents}
use Rattle.av1_cdf.specs.Distribution.{Distribution}
use Rattle.av1_cdf.specs.Distribution.Distribution.{Adaptive, Fixed}
use Rattle.av1_cdf.specs.Layout.{Slot, slot}
use Rattle.av1_model.specs.Element.{Element, known, symbol}

-- the part of 32768 that a symbol has
abbrev pub probability : List ℕ → ℕ → ℕ
probability cdf s = (if nat_eq s 0 then 32768 else slice_index cdf (s - 1)) - (if nat_eq (s + 1) (length cdf) then 0 else slice_index cdf s)

-- the partitions that part a block into two columns, and those that part it into two rows
abbrev pub vert_alike : List ℕ
vert_alike = 2 ∷ 3 ∷ 4 ∷ 6 ∷ 7 ∷ 9 ∷ []

abbrev pub horz_alike : List ℕ
horz_alike = 1 ∷ 3 ∷ 4 ∷ 5 ∷ 6 ∷ 8 ∷ []

-- a distribution of two symbols: the second has what these symbols have together
abbrev pub gathered : List ℕ → List ℕ → List ℕ
gathered cdf symbols = sum (map (probability cdf) symbols) ∷ 0 ∷ []

-- how many ways there are to part a block: four at 8x8, else ten
abbrev pub partitions : BlockSize → ℕ
partitions size = if nat_eq (width_log2 size) 3 then 4 else 10

-- the distribution of partitions, by their context: 8x8 has four partitions, larger blocks have ten
abbrev pub partition_slot : ℕ → Slot
partition_slot context = if nat_lt context 4 then slot (codes "partition_w8_cdf") (context ∷ []) else slot (codes "partition_cdf") ((context - 4) ∷ [])

abbrev pub partition_below : ℕ → ℕ → Option PartitionType
partition_below n s = if nat_lt s n then partition_of s else None

-- a partition or the split of both sides
abbrev pub split_or : PartitionType → ℕ → Option PartitionType
split_or p zero = Some p
split_or p (suc zero) = Some PARTITION_SPLIT
split_or p (suc (suc s)) = None

abbrev pub split_number : PartitionType → ℕ
split_number p = if nat_eq (partition_number p) (partition_number PARTITION_SPLIT) then 1 else 0

-- a partition, by whether the second half of the block begins inside the tile, in columns and in rows
abbrev pub partition_among : Bool → Bool → Slot → List ℕ → Element Distribution PartitionType
partition_among true true s cdf = symbol (Adaptive s) (partition_below s.len) partition_number
partition_among true false s cdf = symbol (Fixed (gathered cdf vert_alike)) (split_or PARTITION_HORZ) split_number
partition_among false true s cdf = symbol (Fixed (gathered cdf horz_alike)) (split_or PARTITION_VERT) split_number
partition_among false false s cdf = known PARTITION_SPLIT

abbrev pub has_cols : Grid → BlockOffset → BlockSize → Bool
has_cols g bo size = nat_lt (bo.x + width_mi size / 2) g.cols

abbrev pub has_rows : Grid → BlockOffset → BlockSize → Bool
has_rows g bo size = nat_lt (bo.y + width_mi size / 2) g.rows

-- the partition of a block, in a context of these numbers
abbrev pub partition_element : List ℕ → BlockContext → BlockOffset → BlockSize → Element Distribution PartitionType
partition_element numbers bc bo size =
    let s = partition_slot (partition_context bc bo size) in
    partition_among (has_cols bc.blocks bo size) (has_rows bc.blocks bo size) s (contents numbers s)

-- a square from 8x8 to 64x64 that stands where its size may, in a tile of whole pairs of columns and rows
pub record IsParted (g : Grid) (bo : BlockOffset) (size : BlockSize) : Type 0 where
  pub column : bo.x < g.cols
  pub row : bo.y < g.rows
  pub few : g.cols ≤ 1024
  pub pairs : (g.cols % 2 ≡ 0) × (g.rows % 2 ≡ 0)
  pub square : width_log2 size ≡ height_log2 size
  pub least : 3 ≤ width_log2 size
  pub most : width_log2 size ≤ 6
  pub aligned : (bo.x % width_mi size ≡ 0) × (bo.y % width_mi size ≡ 0)

-- a partition that a block may have, by whether its second half begins inside the tile
abbrev pub is_allowed : Bool → Bool → BlockSize → PartitionType → Bool
is_allowed true true size p = if nat_eq (width_log2 size) 3 then nat_lt (partition_number p) 4 else true
is_allowed true false size p = nat_eq (partition_number p) 1 || nat_eq (partition_number p) 3
is_allowed false true size p = nat_eq (partition_number p) 2 || nat_eq (partition_number p) 3
is_allowed false false size p = nat_eq (partition_number p) 3
