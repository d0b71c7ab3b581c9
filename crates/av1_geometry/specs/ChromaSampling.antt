-- The samplings of chroma: their numbers, planes and how often they halve the sides.
use Rattle.std.specs.Prelude.{ℕ, Option, slice_get}
use Rattle.av1_geometry.specs.declared.chroma_sampling.ChromaSampling.{ChromaSampling}
use Rattle.av1_geometry.specs.declared.chroma_sampling.ChromaSampling.TheVariants.{Cs420, Cs422, Cs444, Cs400}
use Rattle.av1_geometry.specs.declared.chroma_sampling.TheConstants.{ALL_SAMPLINGS}
use Rattle.av1_geometry.specs.declared.chroma_sampling.PixelRange.{PixelRange}
use Rattle.av1_geometry.specs.declared.chroma_sampling.PixelRange.TheVariants.{Limited, Full}
use Rattle.av1_geometry.specs.declared.chroma_sampling.TheConstants.{ALL_PIXEL_RANGES}

-- the place of a sampling in the order of the enum
abbrev pub chroma_sampling_number : ChromaSampling → ℕ
chroma_sampling_number Cs420 = 0
chroma_sampling_number Cs422 = 1
chroma_sampling_number Cs444 = 2
chroma_sampling_number Cs400 = 3

-- the value with this number
abbrev pub chroma_sampling_of : ℕ → Option ChromaSampling
chroma_sampling_of number = slice_get ALL_SAMPLINGS number

-- the place of a range in the order of the enum
abbrev pub pixel_range_number : PixelRange → ℕ
pixel_range_number Limited = 0
pixel_range_number Full = 1

-- the value with this number
abbrev pub pixel_range_of : ℕ → Option PixelRange
pixel_range_of number = slice_get ALL_PIXEL_RANGES number

-- the halvings of the width of chroma
abbrev pub xdec_of : ChromaSampling → ℕ
xdec_of Cs420 = 1
xdec_of Cs422 = 1
xdec_of _ = 0

-- the halvings of the height of chroma
abbrev pub ydec_of : ChromaSampling → ℕ
ydec_of Cs420 = 1
ydec_of _ = 0

-- the number of planes
abbrev pub planes_of : ChromaSampling → ℕ
planes_of Cs400 = 1
planes_of _ = 3
