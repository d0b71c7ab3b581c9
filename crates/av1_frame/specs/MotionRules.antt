-- The rules of reference modes and of global motion: 5.9.23 and 5.9.24 of the AV1 specification.
use Rattle.std.specs.Prelude.{Bool, true, false, not}
use Rattle.std.specs.List.{list_all}
use Rattle.av1_geometry.specs.declared.frame_type.GlobalMVMode.{GlobalMVMode}
use Rattle.av1_geometry.specs.declared.frame_type.GlobalMVMode.TheVariants.{IDENTITY, TRANSLATION}
use Rattle.av1_geometry.specs.declared.frame_type.ReferenceMode.{ReferenceMode}
use Rattle.av1_geometry.specs.declared.frame_type.ReferenceMode.TheVariants.{SINGLE, COMPOUND, SELECT}
use Rattle.av1_frame.specs.declared.frame.FrameInvariants.{FrameInvariants}

-- blocks have one reference, or choose where they have references
abbrev pub mode_fits : ReferenceMode → Bool → Bool
mode_fits SINGLE intra = true
mode_fits COMPOUND intra = false
mode_fits SELECT intra = not intra

unfoldable pub reference_mode_fits : FrameInvariants → Bool
reference_mode_fits fi = mode_fits fi.reference_mode fi.intra_only

-- a reference moves not at all or as a whole
abbrev pub is_plain : GlobalMVMode → Bool
is_plain IDENTITY = true
is_plain TRANSLATION = true
is_plain _ = false

unfoldable pub global_motion_fits : FrameInvariants → Bool
global_motion_fits fi = list_all is_plain fi.globalmv_transformation_type
