-- The partitions of a block: their numbers, and how often they halve its sides.
use Rattle.std.specs.Prelude.{ℕ, Option, slice_get}
use Rattle.av1_geometry.specs.declared.partition_type.PartitionType.{PartitionType}
use Rattle.av1_geometry.specs.declared.partition_type.PartitionType.TheVariants.{PARTITION_NONE, PARTITION_HORZ, PARTITION_VERT}
use Rattle.av1_geometry.specs.declared.partition_type.PartitionType.TheVariants.{PARTITION_SPLIT, PARTITION_HORZ_A, PARTITION_HORZ_B}
use Rattle.av1_geometry.specs.declared.partition_type.PartitionType.TheVariants.{PARTITION_VERT_A, PARTITION_VERT_B, PARTITION_HORZ_4, PARTITION_VERT_4}
use Rattle.av1_geometry.specs.declared.partition_type.TheConstants.{ALL_PARTITIONS}

-- the place of a partition in the order of the enum
abbrev pub partition_number : PartitionType → ℕ
partition_number PARTITION_NONE = 0
partition_number PARTITION_HORZ = 1
partition_number PARTITION_VERT = 2
partition_number PARTITION_SPLIT = 3
partition_number PARTITION_HORZ_A = 4
partition_number PARTITION_HORZ_B = 5
partition_number PARTITION_VERT_A = 6
partition_number PARTITION_VERT_B = 7
partition_number PARTITION_HORZ_4 = 8
partition_number PARTITION_VERT_4 = 9

-- the value with this number
abbrev pub partition_of : ℕ → Option PartitionType
partition_of number = slice_get ALL_PARTITIONS number

-- how often the width of the first part is halved
abbrev pub width_halvings : PartitionType → ℕ
width_halvings PARTITION_VERT = 1
width_halvings PARTITION_SPLIT = 1
width_halvings PARTITION_VERT_A = 1
width_halvings PARTITION_VERT_B = 1
width_halvings PARTITION_VERT_4 = 2
width_halvings _ = 0

-- how often the height of the first part is halved
abbrev pub height_halvings : PartitionType → ℕ
height_halvings PARTITION_HORZ = 1
height_halvings PARTITION_SPLIT = 1
height_halvings PARTITION_HORZ_A = 1
height_halvings PARTITION_HORZ_B = 1
height_halvings PARTITION_HORZ_4 = 2
height_halvings _ = 0
