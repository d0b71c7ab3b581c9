-- The rows of quantization_params(), delta_lf_params() and loop_filter_params() of the AV1 specification (5.9.11, 5.9.12, 5.9.18).
use Rattle.std.specs.Prelude.{ℕ, ◌^◌, ◌<◌, List, [], ◌∷◌, Bool, true, Option, Some, None, ◌==◌, ◌&&◌, ◌||◌, not}
use Rattle.std.specs.Prelude.{nat_lt, if◌then◌else◌, codes, slice_index_or, ℤ, pos, negsuc, ◌-ℤ◌, unsigned_abs}
use Rattle.av1_frame.specs.declared.frame.FrameInvariants.{FrameInvariants}
use Rattle.av1_frame.specs.declared.reference.RefState.{RefState}
use Rattle.av1_frame.specs.declared.state.DeblockState.{DeblockState}
use Rattle.av1_header.specs.Rows.{Rows, InBits, f, flag, flag_if, flag_or, number, number_if, fixed, signed_if, on, each, ◌>>=◌}
use Rattle.av1_header.specs.Color.{is_mono}
use Rattle.av1_header.specs.Rows.Rows.{Done}
use Rattle.av1_header.specs.declared.deltas.Deltas.{Deltas}

-- the entry i of a list of deltas
abbrev pub delta : List ℤ → ℕ → ℤ
delta zs i = slice_index_or zs i (pos 0)

abbrev pub same : ℤ → ℤ → Bool
same a b = unsigned_abs (a -ℤ b) == 0

-- read_delta_q(), where it is there
unfoldable pub read_delta_q : Bool → Rows ℤ (Unit {0})
read_delta_q there = do
  coded ← flag_if there (codes "delta_coded") (λ z. not (unsigned_abs z == 0))
  value ← signed_if coded (codes "delta_q") 7 (λ z. z)
  Done tt

-- whether the planes of chroma have different deltas
abbrev pub chroma_differs : FrameInvariants → Bool
chroma_differs fi = not (same (delta fi.dc_delta_q 1) (delta fi.dc_delta_q 2)) || not (same (delta fi.ac_delta_q 1) (delta fi.ac_delta_q 2))

unfoldable pub quantization_params : Bool → Rows FrameInvariants ℕ
quantization_params monochrome = do
  base ← number (codes "base_q_idx") (f 8) (λ fi. fi.base_q_idx)
  y_dc ← on (λ fi. delta fi.dc_delta_q 0) (read_delta_q true)
  differs ← flag_if (not monochrome) (codes "diff_uv_delta") chroma_differs
  u_dc ← on (λ fi. delta fi.dc_delta_q 1) (read_delta_q (not monochrome))
  u_ac ← on (λ fi. delta fi.ac_delta_q 1) (read_delta_q (not monochrome))
  v_dc ← on (λ fi. delta fi.dc_delta_q 2) (read_delta_q differs)
  v_ac ← on (λ fi. delta fi.ac_delta_q 2) (read_delta_q differs)
  fixed (codes "using_qmatrix") 1 0

-- delta_lf_params(), where there are quantizer deltas, intra block copy, and block deltas that have no bit
unfoldable pub delta_lf_params : Bool → Bool → Bool → Rows DeblockState (Unit {0})
delta_lf_params delta_q_present intrabc uncoded = do
  present ← flag_or (delta_q_present && not intrabc) (delta_q_present && uncoded) (codes "delta_lf_present") (λ d. d.block_deltas_enabled)
  shift ← number_if present (codes "delta_lf_res") (f 2) (λ d. d.block_delta_shift)
  multi ← flag_if present (codes "delta_lf_multi") (λ d. d.block_delta_multi)
  Done tt

-- a delta and what it was before
pub record Change : Type 0 where
  pub before : ℤ
  pub now : ℤ

-- a delta, where it is there and has changed
unfoldable pub changed_delta : Bool → Rows Change (Unit {0})
changed_delta there = do
  update ← flag_if there (codes "update_delta") (λ c. not (same c.now c.before))
  value ← signed_if update (codes "loop_filter_delta") 7 (λ c. c.now)
  Done tt

-- the deblocking filter of a frame, and the deltas that it goes on from
pub record Deblock : Type 0 where
  pub filter : DeblockState
  pub before : Deltas

abbrev pub change : List ℤ → List ℤ → ℕ → Change
change before now i = record { before = delta before i; now = delta now i }

-- the levels of the edges: those of luma, and of chroma where there are any
unfoldable pub levels : Bool → Rows DeblockState (Unit {0})
levels monochrome = do
  y_v ← number (codes "loop_filter_level_0") (f 6) (λ d. slice_index_or d.levels 0 0)
  y_h ← number (codes "loop_filter_level_1") (f 6) (λ d. slice_index_or d.levels 1 0)
  let chroma = not monochrome && (nat_lt 0 y_v || nat_lt 0 y_h)
  u ← number_if chroma (codes "loop_filter_level_2") (f 6) (λ d. slice_index_or d.levels 2 0)
  v ← number_if chroma (codes "loop_filter_level_3") (f 6) (λ d. slice_index_or d.levels 3 0)
  Done tt

unfoldable pub ref_deltas : Bool → Rows Deblock (Unit {0})
ref_deltas there = each 8 0 (λ i. on (λ d. change d.before.ref_deltas d.filter.ref_deltas i) (changed_delta there))

unfoldable pub mode_deltas : Bool → Rows Deblock (Unit {0})
mode_deltas there = each 2 0 (λ i. on (λ d. change d.before.mode_deltas d.filter.mode_deltas i) (changed_delta there))

unfoldable pub loop_filter_params : Bool → Rows Deblock (Unit {0})
loop_filter_params monochrome = do
  edges ← on (λ d. d.filter) (levels monochrome)
  sharpness ← number (codes "loop_filter_sharpness") (f 3) (λ d. d.filter.sharpness)
  enabled ← flag (codes "loop_filter_delta_enabled") (λ d. d.filter.deltas_enabled)
  update ← flag_if enabled (codes "loop_filter_delta_update") (λ d. d.filter.delta_updates_enabled)
  refs ← ref_deltas update
  mode_deltas update

-- the deltas of a frame without a primary reference: setup_past_independence()
abbrev pub default_deltas : Deltas
default_deltas = record {
  ref_deltas = pos 1 ∷ pos 0 ∷ pos 0 ∷ pos 0 ∷ pos 0 ∷ negsuc 0 ∷ negsuc 0 ∷ negsuc 0 ∷ [];
  mode_deltas = pos 0 ∷ pos 0 ∷ [];
}

abbrev pub deltas_of : Option RefState → Deltas
deltas_of None = default_deltas
deltas_of (Some r) = record { ref_deltas = r.ref_deltas; mode_deltas = r.mode_deltas }

-- the primary reference of a frame, where it has one
abbrev pub primary_reference : FrameInvariants → List (Option RefState) → Option RefState
primary_reference fi refs = if nat_lt fi.primary_ref_frame 7 then slice_index_or refs (slice_index_or fi.ref_frames fi.primary_ref_frame 0) None else None

-- the deltas that a frame goes on from
abbrev pub deltas_before : FrameInvariants → List (Option RefState) → Deltas
deltas_before fi refs = deltas_of (primary_reference fi refs)

-- the quantizer deltas are within their rows
abbrev pub QuantizerFits : FrameInvariants → Type 0
QuantizerFits fi = (i : ℕ) → i < 3 → InBits 7 (delta fi.dc_delta_q i) × InBits 7 (delta fi.ac_delta_q i)

-- the levels, the sharpness and the deltas of a deblocking filter are within their rows
pub record DeblockFits (d : DeblockState) : Type 0 where
  pub levels : (i : ℕ) → i < 4 → slice_index_or d.levels i 0 < 2 ^ 6
  pub sharpness : d.sharpness < 2 ^ 3
  pub refs : (i : ℕ) → i < 8 → InBits 7 (delta d.ref_deltas i)
  pub modes : (i : ℕ) → i < 2 → InBits 7 (delta d.mode_deltas i)

-- the place of the primary reference is one of eight
abbrev pub PrimaryFits : FrameInvariants → Type 0
PrimaryFits fi = fi.primary_ref_frame < 7 → slice_index_or fi.ref_frames fi.primary_ref_frame 0 < 2 ^ 3

abbrev pub has_primary : FrameInvariants → Bool
has_primary fi = not (fi.primary_ref_frame == 7)

abbrev pub going_on : DeblockState → Deltas → Deblock
going_on filter before = record { filter = filter; before = before }

-- the deblocking filter of a frame
abbrev pub loop_filter_of : FrameInvariants → Rows Deblock (Unit {0})
loop_filter_of fi = loop_filter_params (is_mono fi.sequence)

abbrev pub block_deltas_of : FrameInvariants → DeblockState → Rows DeblockState (Unit {0})
block_deltas_of fi d = delta_lf_params fi.delta_q_present fi.allow_intrabc d.block_deltas_enabled
