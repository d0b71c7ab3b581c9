-- The rules of a frame's kind, sides and references, in the words of the AV1 specification, 5.9 and 6.8.
use Rattle.std.specs.Prelude.{ℕ, ◌+◌, ◌*◌, ◌^◌, List, [], ◌∷◌, Bool, true, Option, Some, None, ◌==◌, ◌&&◌, ◌||◌, not, nat_lt, nat_le, is_some, if◌then◌else◌}
use Rattle.std.specs.List.{list_all}
use Rattle.std.specs.Int.{div_ceil}
use Rattle.av1_geometry.specs.Rules.{Check, rule}
use Rattle.av1_frame.specs.FrameKind.{is_key, is_intra_only, is_switch, is_intra, primary_reference}
use Rattle.av1_frame.specs.Tests.{implies, same, within}
use Rattle.av1_frame.specs.declared.frame.FrameInvariants.{FrameInvariants}
use Rattle.av1_frame.specs.declared.reference.RefState.{RefState}

-- MiCols, MiRows: the 4x4 blocks of a side, in whole pairs
abbrev pub blocks : ℕ → ℕ
blocks side = 2 * div_ceil side 8

-- a side has 16 bits, coded as one less
abbrev pub side_fits : ℕ → Bool
side_fits side = within 1 65536 side

unfoldable pub sides_fit : FrameInvariants → Bool
sides_fit fi = side_fits fi.width && side_fits fi.height && nat_le (blocks fi.width * blocks fi.height) (2 ^ 22)

-- what isn't carried in a unit is off
unfoldable pub frame_is_carried : FrameInvariants → Bool
frame_is_carried fi = not fi.show_existing_frame && not fi.large_scale_tile && not fi.allow_intrabc && not fi.delta_q_present

-- a key frame is shown, and a reduced header is that of a key frame
unfoldable pub showing_fits : FrameInvariants → Bool
showing_fits fi =
    implies (is_key fi.frame_type) fi.show_frame
    && implies fi.sequence.reduced_still_picture_hdr (is_key fi.frame_type && not fi.showable_frame)

-- intra frames are those of two kinds, and their vectors are whole; those of others may be where screen content tools are on
unfoldable pub intra_fits : FrameInvariants → Bool
intra_fits fi =
    same fi.intra_only (is_intra fi.frame_type)
    && (
    if fi.intra_only then fi.force_integer_mv == 1
    else nat_le fi.force_integer_mv 1 && implies (fi.allow_screen_content_tools == 0) (fi.force_integer_mv == 0)
    )

-- the reference whose state is taken over is there; an intra frame or one that resists errors takes none over
unfoldable pub primary_fits : FrameInvariants → List (Option RefState) → Bool
primary_fits fi refs =
    nat_le fi.primary_ref_frame 7
    && implies (fi.error_resilient || fi.intra_only) (fi.primary_ref_frame == 7)
    && implies (is_switch fi.frame_type) fi.error_resilient
    && (fi.primary_ref_frame == 7 || is_some (primary_reference fi refs))

-- the sequence forces screen content tools, and where they are on whole vectors, or leaves them to the frame
unfoldable pub forces_are_kept : FrameInvariants → Bool
forces_are_kept fi =
    nat_le fi.allow_screen_content_tools 1
    && (fi.sequence.force_screen_content_tools == 2 || fi.allow_screen_content_tools == fi.sequence.force_screen_content_tools)
    && implies (fi.allow_screen_content_tools == 1) (fi.sequence.force_integer_mv == 2 || fi.force_integer_mv == fi.sequence.force_integer_mv)

-- the order hint of a reference that is there has so many bits
abbrev pub reference_hint_fits : ℕ → Option RefState → Bool
reference_hint_fits bits None = true
reference_hint_fits bits (Some r) = nat_lt r.order_hint (2 ^ bits)

-- OrderHintBits
abbrev pub hint_bits : FrameInvariants → ℕ
hint_bits fi = fi.sequence.order_hint_bits_minus_1 + 1

-- order hints have the bits that the sequence says
unfoldable pub hints_fit : FrameInvariants → List (Option RefState) → Bool
hints_fit fi refs = implies fi.sequence.enable_order_hint (nat_lt fi.order_hint (2 ^ hint_bits fi) && list_all (reference_hint_fits (hint_bits fi)) refs)

-- key frames and switch frames replace all references, intra-only frames don't
unfoldable pub refresh_fits : FrameInvariants → Bool
refresh_fits fi =
    nat_le fi.refresh_frame_flags 255
    && implies (is_key fi.frame_type || is_switch fi.frame_type) (fi.refresh_frame_flags == 255)
    && implies (is_intra_only fi.frame_type) (not (fi.refresh_frame_flags == 255))

-- a reduced header has no sides of its own, a switch frame has
unfoldable pub override_fits : FrameInvariants → Bool
override_fits fi =
    implies fi.sequence.reduced_still_picture_hdr (not fi.frame_size_override_flag)
    && implies (is_switch fi.frame_type) fi.frame_size_override_flag

-- the sides to render at are those of the frame, or are said to differ
unfoldable pub render_fits : FrameInvariants → Bool
render_fits fi =
    side_fits fi.render_width
    && side_fits fi.render_height
    && (fi.render_and_frame_size_different || (fi.render_width == fi.width && fi.render_height == fi.height))

-- there are eight places of references
abbrev pub place_fits : ℕ → Bool
place_fits place = nat_le place 7

-- references have a place, and the filter is one of four
unfoldable pub references_fit : FrameInvariants → Bool
references_fit fi = list_all place_fits fi.ref_frames && nat_le fi.default_filter 3

-- what a header doesn't say of the end of the frame has its default
unfoldable pub frame_end_fits : FrameInvariants → Bool
frame_end_fits fi = implies (fi.sequence.reduced_still_picture_hdr || fi.disable_cdf_update) fi.disable_frame_end_update_cdf

-- the rules of a frame's kind and references, by rising numbers
unfoldable pub header_rules : FrameInvariants → List (Option RefState) → List Check
header_rules fi refs =
    rule 21 (frame_is_carried fi)
    ∷ rule 23 (showing_fits fi)
    ∷ rule 24 (intra_fits fi)
    ∷ rule 25 (primary_fits fi refs)
    ∷ rule 26 (forces_are_kept fi)
    ∷ rule 27 (hints_fit fi refs)
    ∷ rule 28 (refresh_fits fi)
    ∷ rule 29 (override_fits fi)
    ∷ rule 30 (render_fits fi)
    ∷ rule 31 (references_fit fi)
    ∷ rule 33 (frame_end_fits fi)
    ∷ []
