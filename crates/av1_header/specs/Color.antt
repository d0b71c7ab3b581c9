-- The rows of color_config() of the AV1 specification (5.5.2).
use Rattle.std.specs.Prelude.{ℕ, Bool, true, false, ◌==◌, ◌&&◌, ◌||◌, not, nat_lt, is_some, unwrap_or, if◌then◌else◌, codes}
use Rattle.av1_geometry.specs.ChromaSampling.{planes_of, xdec_of, ydec_of, pixel_range_number}
use Rattle.av1_geometry.specs.declared.chroma_sampling.ChromaSampling.{ChromaSampling}
use Rattle.av1_frame.specs.declared.sequence.Sequence.{Sequence}
use Rattle.av1_frame.specs.declared.sequence.ColorDescription.{ColorDescription}
use Rattle.av1_header.specs.Rows.{Rows, f, flag, flag_if, flag_or, number_if, fixed, ◌>>=◌}
use Rattle.av1_header.specs.Rows.Rows.{Done}
use Rattle.av1_header.specs.declared.values.Color.{Color}

-- what is said of the colours where nothing is said
abbrev pub unspecified : ColorDescription
unspecified = record { color_primaries = 2; transfer_characteristics = 2; matrix_coefficients = 2 }

abbrev pub description_of : Sequence → ColorDescription
description_of seq = unwrap_or seq.color_description unspecified

-- the colours of sRGB
abbrev pub is_srgb : ℕ → ℕ → ℕ → Bool
is_srgb primaries transfer matrix = primaries == 1 && transfer == 13 && matrix == 0

-- whether samples have more than 8 bits, and 12 of them
unfoldable pub bit_depth : ℕ → Rows Sequence Bool
bit_depth profile = do
  high ← flag (codes "high_bitdepth") (λ seq. nat_lt 8 seq.bit_depth)
  flag_if (profile == 2 && high) (codes "twelve_bit") (λ seq. seq.bit_depth == 12)

-- whether the colours are those of sRGB
unfoldable pub description : Rows Sequence Bool
description = do
  described ← flag (codes "color_description_present_flag") (λ seq. is_some seq.color_description)
  primaries ← number_if described (codes "color_primaries") (f 8) (λ seq. (description_of seq).color_primaries)
  transfer ← number_if described (codes "transfer_characteristics") (f 8) (λ seq. (description_of seq).transfer_characteristics)
  matrix ← number_if described (codes "matrix_coefficients") (f 8) (λ seq. (description_of seq).matrix_coefficients)
  Done (described && is_srgb primaries transfer matrix)

-- how chroma is sampled, where there is chroma
unfoldable pub subsampling : ℕ → Bool → Bool → Rows Sequence Color
subsampling profile twelve srgb = do
  let free = (not srgb && profile == 2) && twelve
  xdec ← flag_or free (not srgb && not (profile == 1)) (codes "subsampling_x") (λ seq. xdec_of seq.chroma_sampling == 1)
  ydec ← flag_or (free && xdec) (not srgb && profile == 0) (codes "subsampling_y") (λ seq. ydec_of seq.chroma_sampling == 1)
  position ← number_if (xdec && ydec) (codes "chroma_sample_position") (f 2) (λ seq. seq.chroma_sample_position)
  separate ← fixed (codes "separate_uv_delta_q") 1 1
  Done (record { monochrome = false; xdec = xdec; ydec = ydec })

-- the whole, at a profile
unfoldable pub color_config : ℕ → Rows Sequence Color
color_config profile = do
  twelve ← bit_depth profile
  mono ← flag_if (not (profile == 1)) (codes "mono_chrome") (λ seq. planes_of seq.chroma_sampling == 1)
  srgb ← description
  full ← flag_if (mono || not srgb) (codes "color_range") (λ seq. pixel_range_number seq.pixel_range == 1)
  if mono then Done (record { monochrome = true; xdec = false; ydec = false }) else subsampling profile twelve srgb

-- whether there is luma alone
abbrev pub is_mono : Sequence → Bool
is_mono seq = planes_of seq.chroma_sampling == 1

-- what the rows tell of a sampling
abbrev pub color_of : ChromaSampling → Color
color_of c = record { monochrome = planes_of c == 1; xdec = xdec_of c == 1; ydec = ydec_of c == 1 }
