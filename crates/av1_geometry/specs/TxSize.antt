-- The sizes of a transform: their numbers, and their sides as powers of two.
use Rattle.std.specs.Prelude.{ℕ, Option, slice_get, nat_eq, ◌&&◌, find, min, max, unwrap_or}
use Rattle.av1_geometry.specs.declared.tx_size.TxSize.{TxSize}
use Rattle.av1_geometry.specs.declared.tx_size.TxSize.TheVariants.{TX_4X4, TX_8X8, TX_16X16, TX_32X32, TX_64X64, TX_4X8}
use Rattle.av1_geometry.specs.declared.tx_size.TxSize.TheVariants.{TX_8X4, TX_8X16, TX_16X8, TX_16X32, TX_32X16, TX_32X64}
use Rattle.av1_geometry.specs.declared.tx_size.TxSize.TheVariants.{TX_64X32, TX_4X16, TX_16X4, TX_8X32, TX_32X8, TX_16X64, TX_64X16}
use Rattle.av1_geometry.specs.declared.tx_size.TheConstants.{ALL_TX_SIZES}

-- the size with this number
abbrev pub tx_size_of : ℕ → Option TxSize
tx_size_of number = slice_get ALL_TX_SIZES number

-- the place of a size in the order of the enum
abbrev pub tx_number : TxSize → ℕ
tx_number TX_4X4 = 0
tx_number TX_8X8 = 1
tx_number TX_16X16 = 2
tx_number TX_32X32 = 3
tx_number TX_64X64 = 4
tx_number TX_4X8 = 5
tx_number TX_8X4 = 6
tx_number TX_8X16 = 7
tx_number TX_16X8 = 8
tx_number TX_16X32 = 9
tx_number TX_32X16 = 10
tx_number TX_32X64 = 11
tx_number TX_64X32 = 12
tx_number TX_4X16 = 13
tx_number TX_16X4 = 14
tx_number TX_8X32 = 15
tx_number TX_32X8 = 16
tx_number TX_16X64 = 17
tx_number TX_64X16 = 18

-- the logarithm of the width in samples
abbrev pub tx_width_log2 : TxSize → ℕ
tx_width_log2 TX_4X4 = 2
tx_width_log2 TX_8X8 = 3
tx_width_log2 TX_16X16 = 4
tx_width_log2 TX_32X32 = 5
tx_width_log2 TX_64X64 = 6
tx_width_log2 TX_4X8 = 2
tx_width_log2 TX_8X4 = 3
tx_width_log2 TX_8X16 = 3
tx_width_log2 TX_16X8 = 4
tx_width_log2 TX_16X32 = 4
tx_width_log2 TX_32X16 = 5
tx_width_log2 TX_32X64 = 5
tx_width_log2 TX_64X32 = 6
tx_width_log2 TX_4X16 = 2
tx_width_log2 TX_16X4 = 4
tx_width_log2 TX_8X32 = 3
tx_width_log2 TX_32X8 = 5
tx_width_log2 TX_16X64 = 4
tx_width_log2 TX_64X16 = 6

-- the logarithm of the height in samples
abbrev pub tx_height_log2 : TxSize → ℕ
tx_height_log2 TX_4X4 = 2
tx_height_log2 TX_8X8 = 3
tx_height_log2 TX_16X16 = 4
tx_height_log2 TX_32X32 = 5
tx_height_log2 TX_64X64 = 6
tx_height_log2 TX_4X8 = 3
tx_height_log2 TX_8X4 = 2
tx_height_log2 TX_8X16 = 4
tx_height_log2 TX_16X8 = 3
tx_height_log2 TX_16X32 = 5
tx_height_log2 TX_32X16 = 4
tx_height_log2 TX_32X64 = 6
tx_height_log2 TX_64X32 = 5
tx_height_log2 TX_4X16 = 4
tx_height_log2 TX_16X4 = 2
tx_height_log2 TX_8X32 = 5
tx_height_log2 TX_32X8 = 3
tx_height_log2 TX_16X64 = 6
tx_height_log2 TX_64X16 = 4

-- the size with these sides, given by their logarithms
abbrev pub tx_with_sides : ℕ → ℕ → Option TxSize
tx_with_sides width height = find (λ size. nat_eq (tx_width_log2 size) width && nat_eq (tx_height_log2 size) height) ALL_TX_SIZES

-- the square of the shorter side
abbrev pub tx_sqr : TxSize → TxSize
tx_sqr size = let side = min (tx_width_log2 size) (tx_height_log2 size) in unwrap_or (tx_with_sides side side) size

-- the square of the longer side
abbrev pub tx_sqr_up : TxSize → TxSize
tx_sqr_up size = let side = max (tx_width_log2 size) (tx_height_log2 size) in unwrap_or (tx_with_sides side side) size
