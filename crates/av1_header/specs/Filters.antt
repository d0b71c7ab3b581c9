-- The rows of cdef_params(), lr_params() and of modes and motion in uncompressed_header() of the AV1 specification (5.9.19 to 5.9.24).
use Rattle.std.specs.Prelude.{ℕ, ◌-◌, ◌*◌, ◌^◌, ◌<◌, ◌≤◌, Bool, ◌==◌, ◌&&◌, ◌||◌, not, nat_lt, if◌then◌else◌, codes, slice_index_or}
use Rattle.av1_geometry.specs.FrameType.{reference_mode_number, global_mv_mode_number}
use Rattle.av1_geometry.specs.declared.frame_type.GlobalMVMode.{GlobalMVMode}
use Rattle.av1_geometry.specs.declared.frame_type.GlobalMVMode.TheVariants.{IDENTITY}
use Rattle.av1_frame.specs.declared.frame.FrameInvariants.{FrameInvariants}
use Rattle.av1_frame.specs.declared.state.RestorationState.{RestorationState}
use Rattle.av1_frame.specs.declared.state.RestorationPlaneConfig.{RestorationPlaneConfig}
use Rattle.av1_header.specs.Rows.{Rows, f, near, flag, flag_if, number, number_if, fixed_if, on, each, ◌>>=◌}
use Rattle.av1_header.specs.Color.{is_mono, color_of}
use Rattle.av1_header.specs.Rows.Rows.{Done}
use Rattle.av1_header.specs.declared.values.Color.{Color}
use Rattle.av1_header.specs.declared.values.FrameKind.{FrameKind}

unfoldable pub cdef_strengths : Bool → ℕ → Rows FrameInvariants (Unit {0})
cdef_strengths monochrome i = do
  y ← number (codes "cdef_y_strength") (f 6) (λ fi. slice_index_or fi.cdef_y_strengths i 0)
  uv ← number_if (not monochrome) (codes "cdef_uv_strength") (f 6) (λ fi. slice_index_or fi.cdef_uv_strengths i 0)
  Done tt

-- how many strengths there are, where there are any
abbrev pub strengths : Bool → ℕ → ℕ
strengths there bits = if there then 2 ^ bits else 0

-- cdef_params(), where the sequence has the filter
unfoldable pub cdef_params : Bool → Bool → Rows FrameInvariants (Unit {0})
cdef_params there monochrome = do
  damping ← number_if there (codes "cdef_damping_minus_3") (f 2) (λ fi. fi.cdef_damping - 3)
  bits ← number_if there (codes "cdef_bits") (f 2) (λ fi. fi.cdef_bits)
  each (strengths there bits) 0 (cdef_strengths monochrome)

abbrev pub no_filter : RestorationPlaneConfig
no_filter = record { lrf_type = 0; unit_size = 64 }

abbrev pub plane : RestorationState → ℕ → RestorationPlaneConfig
plane rs i = slice_index_or rs.planes i no_filter

-- lr_params(), where the sequence has the filters
unfoldable pub lr_params : Bool → Color → Rows RestorationState (Unit {0})
lr_params there color = do
  y ← number_if there (codes "lr_type") (f 2) (λ rs. (plane rs 0).lrf_type)
  u ← number_if (there && not color.monochrome) (codes "lr_type") (f 2) (λ rs. (plane rs 1).lrf_type)
  v ← number_if (there && not color.monochrome) (codes "lr_type") (f 2) (λ rs. (plane rs 2).lrf_type)
  let chroma = nat_lt 0 u || nat_lt 0 v
  shift ← flag_if (nat_lt 0 y || chroma) (codes "lr_unit_shift") (λ rs. nat_lt 64 (plane rs 0).unit_size)
  extra ← flag_if shift (codes "lr_unit_extra_shift") (λ rs. nat_lt 128 (plane rs 0).unit_size)
  uv ← flag_if ((color.xdec && color.ydec) && chroma) (codes "lr_uv_shift") (λ rs. nat_lt (plane rs 1).unit_size (plane rs 0).unit_size)
  Done tt

-- the modes of transforms, references and skipped blocks
unfoldable pub modes : FrameKind → Bool → Bool → Rows FrameInvariants (Unit {0})
modes kind skip_mode_allowed warped = do
  tx ← flag (codes "tx_mode_select") (λ fi. fi.tx_mode_select)
  select ← flag_if (not kind.intra) (codes "reference_select") (λ fi. not (reference_mode_number fi.reference_mode == 0))
  skip ← fixed_if skip_mode_allowed (codes "skip_mode_present") 1 0
  allow ← flag_if ((not kind.intra && not kind.error_resilient) && warped) (codes "allow_warped_motion") (λ fi. fi.allow_warped_motion)
  reduced ← flag (codes "reduced_tx_set") (λ fi. fi.use_reduced_tx_set)
  Done tt

-- how many sizes a part of a translation can have, with eighths of a sample or without
abbrev pub translations : Bool → ℕ
translations high_precision = if high_precision then 513 else 257

-- the motion of one reference, at rest or a translation by nothing
unfoldable pub global_param : Bool → Rows GlobalMVMode (Unit {0})
global_param high_precision = do
  moves ← flag (codes "is_global") (λ m. not (global_mv_mode_number m == 0))
  rot_zoom ← flag_if moves (codes "is_rot_zoom") (λ m. global_mv_mode_number m == 2)
  translation ← flag_if (moves && not rot_zoom) (codes "is_translation") (λ m. global_mv_mode_number m == 1)
  let n = translations high_precision
  row ← number_if translation (codes "gm_params") (near (2 * n - 1) 3 (n - 1)) (λ _. n - 1)
  column ← number_if translation (codes "gm_params") (near (2 * n - 1) 3 (n - 1)) (λ _. n - 1)
  Done tt

-- global_motion_params() of so many references
unfoldable pub global_motion_params : ℕ → Bool → Rows FrameInvariants (Unit {0})
global_motion_params n high_precision = each n 0 (λ i. on (λ fi. slice_index_or fi.globalmv_transformation_type i IDENTITY) (global_param high_precision))

-- both of a frame alone
abbrev pub cdef_of : FrameInvariants → Rows FrameInvariants (Unit {0})
cdef_of fi = cdef_params fi.sequence.enable_cdef (is_mono fi.sequence)

abbrev pub restoration_of : FrameInvariants → Rows RestorationState (Unit {0})
restoration_of fi = lr_params fi.sequence.enable_restoration (color_of fi.sequence.chroma_sampling)

-- the numbers of cdef are within their rows
pub record CdefFits (fi : FrameInvariants) : Type 0 where
  pub damping : (3 ≤ fi.cdef_damping) × (fi.cdef_damping ≤ 6)
  pub bits : fi.cdef_bits ≤ 3
  pub y : (i : ℕ) → i < 8 → slice_index_or fi.cdef_y_strengths i 0 < 2 ^ 6
  pub uv : (i : ℕ) → i < 8 → slice_index_or fi.cdef_uv_strengths i 0 < 2 ^ 6

-- the types of filters are within their rows
abbrev pub RestorationFits : RestorationState → Type 0
RestorationFits rs = (i : ℕ) → i < 3 → (plane rs i).lrf_type < 2 ^ 2
