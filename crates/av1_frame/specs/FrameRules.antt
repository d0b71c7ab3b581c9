-- All rules of a frame.
use Rattle.std.specs.Prelude.{List, [], ◌∷◌, ◌++◌, Option}
use Rattle.av1_geometry.specs.Rules.{Check, rule}
use Rattle.av1_frame.specs.FilterRules.{deblock_fits, cdef_fits, restoration_fits}
use Rattle.av1_frame.specs.GrainRules.{grain_fits}
use Rattle.av1_frame.specs.HeaderRules.{sides_fit, header_rules}
use Rattle.av1_frame.specs.MotionRules.{reference_mode_fits, global_motion_fits}
use Rattle.av1_frame.specs.SegmentRules.{quantizer_fits, segmentation_fits}
use Rattle.av1_frame.specs.TileRules.{tile_rules}
use Rattle.av1_frame.specs.declared.frame.FrameInvariants.{FrameInvariants}
use Rattle.av1_frame.specs.declared.reference.RefState.{RefState}
use Rattle.av1_frame.specs.declared.state.FrameState.{FrameState}

-- the rules of what is coded behind the tiles, by rising numbers
unfoldable pub coding_rules : FrameInvariants → FrameState → List Check
coding_rules fi fs =
    rule 36 (quantizer_fits fi)
    ∷ rule 37 (segmentation_fits fi fs.segmentation)
    ∷ rule 38 (deblock_fits fs.deblock)
    ∷ rule 39 (cdef_fits fi)
    ∷ rule 40 (restoration_fits fi fs.restoration)
    ∷ rule 41 (reference_mode_fits fi)
    ∷ rule 42 (global_motion_fits fi)
    ∷ rule 43 (grain_fits fi.sequence fi.film_grain)
    ∷ []

-- the rules of a frame, by rising numbers
abbrev pub frame_rules : FrameInvariants → FrameState → List (Option RefState) → List Check
frame_rules fi fs refs = rule 20 (sides_fit fi) ∷ (header_rules fi refs ++ (tile_rules fi fs ++ coding_rules fi fs))
