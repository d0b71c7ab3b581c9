-- What a frame is by all its members.
use Rattle.serde_json.specs.Data.{Members as Left}
use Rattle.av1_frame.specs.Defaults.{key_frame, plain_state, still_sequence}
use Rattle.av1_frame.specs.declared.frame.FrameInvariants.{FrameInvariants}
use Rattle.av1_frame.specs.declared.state.FrameState.{FrameState}
use Rattle.av1_input.specs.declared.frame.Frame.{Frame}
use Rattle.av1_input.specs.Fitted.{Fitted}
use Rattle.av1_input.specs.Frame.{invariant_rows}
use Rattle.av1_input.specs.FrameState.{state_rows}
use Rattle.av1_input.specs.Kinds.{Kind}
use Rattle.av1_input.specs.Rows.{closed, fit_then, then_of}

-- whether there are segments is said once, by the segmentation
abbrev pub frame_of : FrameInvariants → FrameState → Frame
frame_of fi fs = record { fi = record fi { enable_segmentation = fs.segmentation.enabled }; fs = fs }

-- the members of the state follow the others
abbrev pub with_state : FrameInvariants → Left → Fitted Frame
with_state fi ms = then_of state_rows (closed (frame_of fi)) plain_state ms

abbrev pub nothing_of_frame : FrameInvariants
nothing_of_frame = key_frame still_sequence 0 0

abbrev pub frame : Kind Frame
frame = record { none = frame_of nothing_of_frame plain_state; fit = fit_then invariant_rows with_state nothing_of_frame }
