-- The sizes of a block: their numbers, and their sides as powers of two.
use Rattle.std.specs.Prelude.{ℕ, ◌-◌, ◌^◌, Option, slice_get, nat_eq, ◌&&◌, find}
use Rattle.av1_geometry.specs.declared.block_size.BlockSize.{BlockSize}
use Rattle.av1_geometry.specs.declared.block_size.BlockSize.TheVariants.{BLOCK_4X4, BLOCK_4X8, BLOCK_8X4, BLOCK_8X8, BLOCK_8X16, BLOCK_16X8}
use Rattle.av1_geometry.specs.declared.block_size.BlockSize.TheVariants.{BLOCK_16X16, BLOCK_16X32, BLOCK_32X16, BLOCK_32X32, BLOCK_32X64}
use Rattle.av1_geometry.specs.declared.block_size.BlockSize.TheVariants.{BLOCK_64X32, BLOCK_64X64, BLOCK_64X128, BLOCK_128X64, BLOCK_128X128}
use Rattle.av1_geometry.specs.declared.block_size.BlockSize.TheVariants.{BLOCK_4X16, BLOCK_16X4, BLOCK_8X32, BLOCK_32X8, BLOCK_16X64, BLOCK_64X16}
use Rattle.av1_geometry.specs.declared.block_size.TheConstants.{ALL_SIZES}

-- the size with this number
abbrev pub size_of : ℕ → Option BlockSize
size_of number = slice_get ALL_SIZES number

-- the place of a size in the order of the enum
abbrev pub number_of : BlockSize → ℕ
number_of BLOCK_4X4 = 0
number_of BLOCK_4X8 = 1
number_of BLOCK_8X4 = 2
number_of BLOCK_8X8 = 3
number_of BLOCK_8X16 = 4
number_of BLOCK_16X8 = 5
number_of BLOCK_16X16 = 6
number_of BLOCK_16X32 = 7
number_of BLOCK_32X16 = 8
number_of BLOCK_32X32 = 9
number_of BLOCK_32X64 = 10
number_of BLOCK_64X32 = 11
number_of BLOCK_64X64 = 12
number_of BLOCK_64X128 = 13
number_of BLOCK_128X64 = 14
number_of BLOCK_128X128 = 15
number_of BLOCK_4X16 = 16
number_of BLOCK_16X4 = 17
number_of BLOCK_8X32 = 18
number_of BLOCK_32X8 = 19
number_of BLOCK_16X64 = 20
number_of BLOCK_64X16 = 21

-- the logarithm of the width in samples
abbrev pub width_log2 : BlockSize → ℕ
width_log2 BLOCK_4X4 = 2
width_log2 BLOCK_4X8 = 2
width_log2 BLOCK_8X4 = 3
width_log2 BLOCK_8X8 = 3
width_log2 BLOCK_8X16 = 3
width_log2 BLOCK_16X8 = 4
width_log2 BLOCK_16X16 = 4
width_log2 BLOCK_16X32 = 4
width_log2 BLOCK_32X16 = 5
width_log2 BLOCK_32X32 = 5
width_log2 BLOCK_32X64 = 5
width_log2 BLOCK_64X32 = 6
width_log2 BLOCK_64X64 = 6
width_log2 BLOCK_64X128 = 6
width_log2 BLOCK_128X64 = 7
width_log2 BLOCK_128X128 = 7
width_log2 BLOCK_4X16 = 2
width_log2 BLOCK_16X4 = 4
width_log2 BLOCK_8X32 = 3
width_log2 BLOCK_32X8 = 5
width_log2 BLOCK_16X64 = 4
width_log2 BLOCK_64X16 = 6

-- the logarithm of the height in samples
abbrev pub height_log2 : BlockSize → ℕ
height_log2 BLOCK_4X4 = 2
height_log2 BLOCK_4X8 = 3
height_log2 BLOCK_8X4 = 2
height_log2 BLOCK_8X8 = 3
height_log2 BLOCK_8X16 = 4
height_log2 BLOCK_16X8 = 3
height_log2 BLOCK_16X16 = 4
height_log2 BLOCK_16X32 = 5
height_log2 BLOCK_32X16 = 4
height_log2 BLOCK_32X32 = 5
height_log2 BLOCK_32X64 = 6
height_log2 BLOCK_64X32 = 5
height_log2 BLOCK_64X64 = 6
height_log2 BLOCK_64X128 = 7
height_log2 BLOCK_128X64 = 6
height_log2 BLOCK_128X128 = 7
height_log2 BLOCK_4X16 = 4
height_log2 BLOCK_16X4 = 2
height_log2 BLOCK_8X32 = 5
height_log2 BLOCK_32X8 = 3
height_log2 BLOCK_16X64 = 6
height_log2 BLOCK_64X16 = 4

-- the sides in blocks of 4x4 samples
abbrev pub width_mi : BlockSize → ℕ
width_mi size = 2 ^ (width_log2 size - 2)

abbrev pub height_mi : BlockSize → ℕ
height_mi size = 2 ^ (height_log2 size - 2)

-- the size with these sides, given by their logarithms
abbrev pub with_sides : ℕ → ℕ → Option BlockSize
with_sides width height = find (λ size. nat_eq (width_log2 size) width && nat_eq (height_log2 size) height) ALL_SIZES
