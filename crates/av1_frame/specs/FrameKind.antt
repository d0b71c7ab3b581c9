-- The kinds of frames, and the reference that a frame goes on from.
use Rattle.std.specs.Prelude.{ℕ, List, Bool, true, false, Option, None, nat_lt, if◌then◌else◌, slice_index, slice_index_or}
use Rattle.av1_geometry.specs.declared.frame_type.FrameType.{FrameType}
use Rattle.av1_geometry.specs.declared.frame_type.FrameType.TheVariants.{KEY, INTER, INTRA_ONLY, SWITCH}
use Rattle.av1_frame.specs.declared.frame.FrameInvariants.{FrameInvariants}
use Rattle.av1_frame.specs.declared.reference.RefState.{RefState}

abbrev pub is_key : FrameType → Bool
is_key KEY = true
is_key INTER = false
is_key INTRA_ONLY = false
is_key SWITCH = false

abbrev pub is_intra_only : FrameType → Bool
is_intra_only KEY = false
is_intra_only INTER = false
is_intra_only INTRA_ONLY = true
is_intra_only SWITCH = false

abbrev pub is_switch : FrameType → Bool
is_switch KEY = false
is_switch INTER = false
is_switch INTRA_ONLY = false
is_switch SWITCH = true

-- FrameIsIntra: all blocks of the frame are intra
abbrev pub is_intra : FrameType → Bool
is_intra KEY = true
is_intra INTER = false
is_intra INTRA_ONLY = true
is_intra SWITCH = false

-- the reference at a place, if it is there
abbrev pub reference_at : List (Option RefState) → ℕ → Option RefState
reference_at refs place = slice_index_or refs place None

-- the reference whose state a frame takes over, if it takes one over and it is there
unfoldable pub primary_reference : FrameInvariants → List (Option RefState) → Option RefState
primary_reference fi refs = if nat_lt fi.primary_ref_frame 7 then reference_at refs (slice_index fi.ref_frames fi.primary_ref_frame) else None
