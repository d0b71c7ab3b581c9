-- The rule of film grain: film_grain_params() of the AV1 specification, 5.9.30.
use Rattle.std.specs.Prelude.{ℕ, ◌+◌, ◌*◌, ℤ, List, Bool, true, Option, Some, None, ◌==◌, ◌&&◌, ◌||◌, not, nat_lt, nat_le, if◌then◌else◌, length}
use Rattle.av1_frame.specs.Grain.{Grain}
use Rattle.av1_frame.specs.SequenceRules.{is_420, is_monochrome}
use Rattle.av1_frame.specs.Tests.{within}
use Rattle.av1_frame.specs.declared.sequence.Sequence.{Sequence}

abbrev pub has_points : List (List ℕ) → Bool
has_points points = not (length points == 0)

-- numbers have the bits that are coded of them
abbrev pub grain_numbers_fit : Grain → Bool
grain_numbers_fit g =
    within 8 11 g.scaling_shift
    && nat_le g.ar_coeff_lag 3
    && within 6 9 g.ar_coeff_shift
    && nat_le g.grain_scale_shift 3
    && nat_lt g.cb_offset 512
    && nat_lt g.cr_offset 512

-- whether a header says the points of chroma
abbrev pub codes_chroma_points : Sequence → Grain → Bool
codes_chroma_points seq g =
    seq.film_grain_params_present
    && not (is_monochrome seq.chroma_sampling || g.chroma_scaling_from_luma || (is_420 seq.chroma_sampling && not (has_points g.scaling_points_y)))

-- chroma has points only where they are coded
abbrev pub chroma_points_fit : Bool → List (List ℕ) → Bool
chroma_points_fit coded points = if coded then nat_le (length points) 10 else length points == 0

abbrev pub points_fit : Sequence → Grain → Bool
points_fit seq g =
    nat_le (length g.scaling_points_y) 14
    && chroma_points_fit (codes_chroma_points seq g) g.scaling_points_cb
    && chroma_points_fit (codes_chroma_points seq g) g.scaling_points_cr

-- numPosLuma, numPosChroma: how many earlier samples grain goes by, and in chroma the luma sample where luma has points
abbrev pub luma_positions : Grain → ℕ
luma_positions g = 2 * g.ar_coeff_lag * (g.ar_coeff_lag + 1)

abbrev pub chroma_positions : Grain → ℕ
chroma_positions g = if has_points g.scaling_points_y then luma_positions g + 1 else luma_positions g

-- whether a header says the coefficients of a chroma plane with these points
abbrev pub codes_chroma_coefficients : Sequence → Grain → List (List ℕ) → Bool
codes_chroma_coefficients seq g points =
    seq.film_grain_params_present && ((g.chroma_scaling_from_luma && not (is_monochrome seq.chroma_sampling)) || has_points points)

-- a list has a coefficient for each position; one that isn't coded may be empty instead
abbrev pub coefficients_fit : Bool → ℕ → List ℤ → Bool
coefficients_fit coded positions list = length list == positions || (not coded && length list == 0)

abbrev pub coefficient_lists_fit : Sequence → Grain → Bool
coefficient_lists_fit seq g =
    coefficients_fit (seq.film_grain_params_present && has_points g.scaling_points_y) (luma_positions g) g.ar_coeffs_y
    && coefficients_fit (codes_chroma_coefficients seq g g.scaling_points_cb) (chroma_positions g) g.ar_coeffs_cb
    && coefficients_fit (codes_chroma_coefficients seq g g.scaling_points_cr) (chroma_positions g) g.ar_coeffs_cr

-- the grain of a frame under its sequence, if the frame has grain
unfoldable pub grain_fits : Sequence → Option Grain → Bool
grain_fits seq None = true
grain_fits seq (Some g) = points_fit seq g && grain_numbers_fit g && coefficient_lists_fit seq g
