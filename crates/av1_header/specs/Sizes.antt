-- The rows of frame_size(), render_size() and frame_size_with_refs() of the AV1 specification (5.9.5 to 5.9.7).
use Rattle.std.specs.Prelude.{ℕ, zero, suc, ◌+◌, ◌-◌, ◌^◌, ◌<◌, ◌≤◌, List, Bool, true, false}
use Rattle.std.specs.Prelude.{Option, Some, None, ◌==◌, ◌&&◌, not, if◌then◌else◌, codes, slice_index_or}
use Rattle.av1_frame.specs.declared.frame.FrameInvariants.{FrameInvariants}
use Rattle.av1_frame.specs.declared.reference.RefState.{RefState}
use Rattle.av1_header.specs.Rows.{Rows, f, flag, flag_if, number_if, on, ◌>>=◌}
use Rattle.av1_header.specs.Rows.Rows.{Done}
use Rattle.av1_header.specs.SequenceHeader.{bit_length}
use Rattle.av1_header.specs.declared.values.MaxSize.{MaxSize}

-- a frame and the reference frames that are at hand
pub record FrameRefs : Type 0 where
  pub invariants : FrameInvariants
  pub refs : List (Option RefState)

-- the greatest sides of a sequence of frames of this frame's sides
abbrev pub max_size_of : FrameInvariants → MaxSize
max_size_of fi = record { width_bits = bit_length (fi.width - 1); height_bits = bit_length (fi.height - 1); width = fi.width; height = fi.height }

-- the sides of a frame that has sides of its own
unfoldable pub frame_size : Bool → MaxSize → Rows FrameInvariants ℕ
frame_size own size = do
  width ← number_if own (codes "frame_width_minus_1") (f size.width_bits) (λ fi. fi.width - 1)
  number_if own (codes "frame_height_minus_1") (f size.height_bits) (λ fi. fi.height - 1)

-- the sides at which a frame is shown, where they are there
unfoldable pub render_size : Bool → Rows FrameInvariants ℕ
render_size there = do
  differs ← flag_if there (codes "render_and_frame_size_different") (λ fi. fi.render_and_frame_size_different)
  width ← number_if differs (codes "render_width_minus_1") (f 16) (λ fi. fi.render_width - 1)
  number_if differs (codes "render_height_minus_1") (f 16) (λ fi. fi.render_height - 1)

-- whether a reference frame has the frame's sides
abbrev pub has_sides_of : FrameInvariants → Option RefState → Bool
has_sides_of fi None = false
has_sides_of fi (Some r) = ((r.width == fi.width && r.height == fi.height) && r.render_width == fi.render_width) && r.render_height == fi.render_height

-- whether the reference i of a frame has the frame's sides
abbrev pub reference_has_sides : ℕ → FrameRefs → Bool
reference_has_sides i fr = has_sides_of fr.invariants (slice_index_or fr.refs (slice_index_or fr.invariants.ref_frames i 0) None)

-- n references from i on, up to the first that has the frame's sides
unfoldable pub found_ref : ℕ → ℕ → Rows FrameRefs Bool
found_ref zero i = Done false
found_ref (suc n) i = do
  found ← flag (codes "found_ref") (reference_has_sides i)
  if found then Done true else found_ref n (i + 1)

-- the sides of one of so many references, or of the frame
unfoldable pub sizes : ℕ → Bool → MaxSize → Rows FrameRefs ℕ
sizes n own size = do
  found ← found_ref n 0
  height ← on (λ fr. fr.invariants) (frame_size (own && not found) size)
  on (λ fr. fr.invariants) (render_size (not found))

-- the sides at which a frame is shown are within their rows
abbrev pub RenderFits : FrameInvariants → Type 0
RenderFits fi = (1 ≤ fi.render_width) × (fi.render_width ≤ 65536) × (1 ≤ fi.render_height) × (fi.render_height ≤ 65536)

-- the sides of a frame have so many bits
abbrev pub BitsHold : MaxSize → FrameInvariants → Type 0
BitsHold size fi = (size.width_bits ≤ 16) × (fi.width - 1 < 2 ^ size.width_bits) × (size.height_bits ≤ 16) × (fi.height - 1 < 2 ^ size.height_bits)

-- how many references are looked at
abbrev pub searched : Bool → ℕ
searched there = if there then 7 else 0

abbrev pub with_refs : FrameInvariants → List (Option RefState) → FrameRefs
with_refs fi refs = record { invariants = fi; refs = refs }

-- the sides of a frame alone, in a sequence of its sides
abbrev pub frame_size_of : FrameInvariants → Rows FrameInvariants ℕ
frame_size_of fi = frame_size fi.frame_size_override_flag (max_size_of fi)

abbrev pub sizes_of : FrameInvariants → Rows FrameRefs ℕ
sizes_of fi = sizes 7 fi.frame_size_override_flag (max_size_of fi)
