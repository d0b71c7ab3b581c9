-- The rules of the tables that a block size is looked up in.
use Rattle.std.specs.Prelude.{◌≡◌, ℕ, ◌+◌, ◌-◌, [], ◌∷◌, min, max, Option, unwrap_or, map, IfSome}
use Rattle.av1_geometry.specs.declared.block_size.BlockSize.{BlockSize}
use Rattle.av1_geometry.specs.declared.block_size.TheConstants.{ALL_SIZES}
use Rattle.av1_geometry.specs.declared.partition_type.PartitionType.{PartitionType}
use Rattle.av1_geometry.specs.declared.tx_size.TxSize.{TxSize}
use Rattle.av1_geometry.specs.declared.tx_size.TxSize.TheVariants.{TX_64X64}
use Rattle.av1_geometry.specs.declared.block_tables.TheConstants.{partition_context_lookup, size_group_lookup, max_txsize_rect_lookup}
use Rattle.av1_geometry.specs.BlockSize.{width_log2, height_log2, width_mi, height_mi, with_sides}
use Rattle.av1_geometry.specs.PartitionType.{width_halvings, height_halvings}
use Rattle.av1_geometry.specs.TxSize.{tx_with_sides}

-- the largest transform of a block: that of its sides, or of 64 where a side is longer
abbrev pub max_tx_size : BlockSize → TxSize
max_tx_size size = unwrap_or (tx_with_sides (min (width_log2 size) 6) (min (height_log2 size) 6)) TX_64X64

-- the size of the first part of a block, where there is such a size
abbrev pub subsize_of : BlockSize → PartitionType → Option BlockSize
subsize_of size p = with_sides (width_log2 size - width_halvings p) (height_log2 size - height_halvings p)

-- the size in a plane whose sides are halved so often, but not below 4, where there is such a size
abbrev pub subsampled_size_of : BlockSize → ℕ → ℕ → Option BlockSize
subsampled_size_of size xdec ydec = with_sides (max (width_log2 size - xdec) 2) (max (height_log2 size - ydec) 2)

-- by the shorter side: 4, 8, 16, and 32 or more
abbrev pub size_group : BlockSize → ℕ
size_group size = min 3 (min (width_log2 size) (height_log2 size) - 2)

-- a bit for each size from 8 to 128 that the side does not reach
abbrev pub PartitionContextsAreByWidthAndHeight : Type 0
PartitionContextsAreByWidthAndHeight = partition_context_lookup ≡ map (λ size. (32 - width_mi size) ∷ (32 - height_mi size) ∷ []) ALL_SIZES

abbrev pub SizeGroupsAreByShorterSide : Type 0
SizeGroupsAreByShorterSide = size_group_lookup ≡ map size_group ALL_SIZES

abbrev pub LargestTransformsAreWithin64 : Type 0
LargestTransformsAreWithin64 = max_txsize_rect_lookup ≡ map max_tx_size ALL_SIZES

-- the parts of a block, of which there are so many of the first part's size, have the area of the block
abbrev pub PartsKeepTheBlock : Type 0
PartsKeepTheBlock =
    (size : BlockSize) (p : PartitionType) → IfSome (subsize_of size p)
    (λ part. width_log2 part + height_log2 part + (width_halvings p + height_halvings p) ≡ width_log2 size + height_log2 size)
