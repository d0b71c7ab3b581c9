-- The rows of film_grain_params() of the AV1 specification (5.9.30).
use Rattle.std.specs.Prelude.{ℕ, ◌+◌, ◌-◌, ◌*◌, ◌^◌, ◌<◌, ◌≤◌, List, [], Bool, true, false, Option, Some, None, ◌==◌, ◌&&◌, ◌||◌, not}
use Rattle.std.specs.Prelude.{nat_lt, is_some, unwrap_or, if◌then◌else◌, codes, length, slice_index_or, ℤ, pos, ◌+ℤ◌, unsigned_abs}
use Rattle.av1_geometry.specs.ChromaSampling.{pixel_range_number}
use Rattle.av1_frame.specs.Grain.{Grain}
use Rattle.av1_frame.specs.declared.frame.FrameInvariants.{FrameInvariants}
use Rattle.av1_header.specs.Rows.{Rows, told, f, flag, flag_if, number, number_if, fixed_if, on, each, ◌>>=◌}
use Rattle.av1_header.specs.Rows.Rows.{Done}
use Rattle.av1_header.specs.declared.film_grain.Multipliers.{Multipliers}
use Rattle.av1_header.specs.declared.values.Color.{Color}
use Rattle.av1_header.specs.declared.values.GrainPoints.{GrainPoints}

unfoldable pub point : ℕ → Rows (List (List ℕ)) (Unit {0})
point i = do
  value ← number (codes "point_value") (f 8) (λ points. slice_index_or (slice_index_or points i []) 0 0)
  scaling ← number (codes "point_scaling") (f 8) (λ points. slice_index_or (slice_index_or points i []) 1 0)
  Done tt

-- the points of a scaling, where they are there. What they tell is how many there are
unfoldable pub points : Bool → Rows (List (List ℕ)) ℕ
points there = do
  count ← number_if there (codes "num_points") (f 4) (λ points. length points)
  rest ← each count 0 point
  Done count

-- which points there are
unfoldable pub all_points : Color → Rows Grain GrainPoints
all_points color = do
  y ← on (λ g. g.scaling_points_y) (points true)
  from_luma ← flag_if (not color.monochrome) (codes "chroma_scaling_from_luma") (λ g. g.chroma_scaling_from_luma)
  let coded = (not color.monochrome && not from_luma) && not ((color.xdec && color.ydec) && y == 0)
  cb ← on (λ g. g.scaling_points_cb) (points coded)
  cr ← on (λ g. g.scaling_points_cr) (points coded)
  Done (record { y = y; cb = cb; cr = cr; from_luma = from_luma })

unfoldable pub coefficient : ℕ → Rows (List ℤ) (Unit {0})
coefficient i = do
  value ← number (codes "ar_coeff_plus_128") (f 8) (λ zs. unsigned_abs (slice_index_or zs i (pos 0) +ℤ pos 128))
  Done tt

-- how many coefficients luma has at a lag
abbrev pub luma_coefficients : ℕ → ℕ
luma_coefficients lag = 2 * lag * (lag + 1)

-- and chroma, which has one more where luma has points
abbrev pub chroma_coefficients : ℕ → ℕ → ℕ
chroma_coefficients lag y = luma_coefficients lag + (if nat_lt 0 y then 1 else 0)

abbrev pub count_if : Bool → ℕ → ℕ
count_if there n = if there then n else 0

-- the coefficients of the three planes
unfoldable pub coefficients : GrainPoints → Rows Grain (Unit {0})
coefficients p = do
  shift ← number (codes "grain_scaling_minus_8") (f 2) (λ g. g.scaling_shift - 8)
  lag ← number (codes "ar_coeff_lag") (f 2) (λ g. g.ar_coeff_lag)
  y ← on (λ g. g.ar_coeffs_y) (each (count_if (nat_lt 0 p.y) (luma_coefficients lag)) 0 coefficient)
  cb ← on (λ g. g.ar_coeffs_cb) (each (count_if (p.from_luma || nat_lt 0 p.cb) (chroma_coefficients lag p.y)) 0 coefficient)
  on (λ g. g.ar_coeffs_cr) (each (count_if (p.from_luma || nat_lt 0 p.cr) (chroma_coefficients lag p.y)) 0 coefficient)

-- how the noise of a chroma plane follows luma and the plane
abbrev pub multipliers_cb : Grain → Multipliers
multipliers_cb g = record { mult = g.cb_mult; luma_mult = g.cb_luma_mult; offset = g.cb_offset }

abbrev pub multipliers_cr : Grain → Multipliers
multipliers_cr g = record { mult = g.cr_mult; luma_mult = g.cr_luma_mult; offset = g.cr_offset }

unfoldable pub multipliers : Bool → Rows Multipliers (Unit {0})
multipliers there = do
  mult ← number_if there (codes "mult") (f 8) (λ m. m.mult)
  luma ← number_if there (codes "luma_mult") (f 8) (λ m. m.luma_mult)
  offset ← number_if there (codes "offset") (f 9) (λ m. m.offset)
  Done tt

-- the last rows of the grain
unfoldable pub grain_end : GrainPoints → Rows Grain (Unit {0})
grain_end p = do
  shift ← number (codes "ar_coeff_shift_minus_6") (f 2) (λ g. g.ar_coeff_shift - 6)
  scale ← number (codes "grain_scale_shift") (f 2) (λ g. g.grain_scale_shift)
  cb ← on multipliers_cb (multipliers (nat_lt 0 p.cb))
  cr ← on multipliers_cr (multipliers (nat_lt 0 p.cr))
  overlap ← flag (codes "overlap_flag") (λ g. g.overlap_flag)
  Done tt

-- the grain of a frame that is an inter frame or not
unfoldable pub grain_rows : Bool → Color → Rows Grain (Unit {0})
grain_rows inter color = do
  seed ← number (codes "grain_seed") (f 16) (λ g. g.random_seed)
  update ← fixed_if inter (codes "update_grain") 1 1
  p ← all_points color
  middle ← coefficients p
  grain_end p

abbrev pub no_grain : Grain
no_grain = record {
  scaling_points_y = [];
  scaling_points_cb = [];
  scaling_points_cr = [];
  scaling_shift = 8;
  ar_coeff_lag = 0;
  ar_coeffs_y = [];
  ar_coeffs_cb = [];
  ar_coeffs_cr = [];
  ar_coeff_shift = 6;
  cb_mult = 0;
  cb_luma_mult = 0;
  cb_offset = 0;
  cr_mult = 0;
  cr_luma_mult = 0;
  cr_offset = 0;
  overlap_flag = false;
  chroma_scaling_from_luma = false;
  grain_scale_shift = 0;
  random_seed = 0;
}

-- the grain that is applied, and the range of samples
unfoldable pub applied_grain : Bool → Color → Rows FrameInvariants (Unit {0})
applied_grain inter color = do
  rows ← on (λ fi. unwrap_or fi.film_grain no_grain) (grain_rows inter color)
  clip ← flag (codes "clip_to_restricted_range") (λ fi. pixel_range_number fi.sequence.pixel_range == 0)
  Done tt

-- the whole, where the sequence has film grain
unfoldable pub film_grain_params : Bool → Bool → Color → Rows FrameInvariants (Unit {0})
film_grain_params there inter color = do
  apply ← flag_if there (codes "apply_grain") (λ fi. is_some fi.film_grain)
  if apply then applied_grain inter color else Done tt

-- the numbers and lists of a grain are within their rows
pub record GrainFits (g : Grain) : Type 0 where
  pub y_points : length g.scaling_points_y < 2 ^ 4
  pub cb_points : length g.scaling_points_cb < 2 ^ 4
  pub cr_points : length g.scaling_points_cr < 2 ^ 4
  pub scaling : (8 ≤ g.scaling_shift) × (g.scaling_shift ≤ 11)
  pub lag : g.ar_coeff_lag ≤ 3
  pub shift : (6 ≤ g.ar_coeff_shift) × (g.ar_coeff_shift ≤ 9)
  pub scale : g.grain_scale_shift ≤ 3
  pub cb_offset : g.cb_offset < 2 ^ 9
  pub cr_offset : g.cr_offset < 2 ^ 9

-- the lists of coefficients are long enough where there are these points
abbrev pub HasCoefficients : GrainPoints → Grain → Type 0
HasCoefficients p g =
    (count_if (nat_lt 0 p.y) (luma_coefficients g.ar_coeff_lag) ≤ length g.ar_coeffs_y)
    × (count_if (p.from_luma || nat_lt 0 p.cb) (chroma_coefficients g.ar_coeff_lag p.y) ≤ length g.ar_coeffs_cb)
    × (count_if (p.from_luma || nat_lt 0 p.cr) (chroma_coefficients g.ar_coeff_lag p.y) ≤ length g.ar_coeffs_cr)

-- the grain of a frame can be said, where there is any
abbrev pub FilmGrainFits : Color → Option Grain → Type 0
FilmGrainFits color None = Unit {0}
FilmGrainFits color (Some g) = GrainFits g × HasCoefficients (told (all_points color) g) g
