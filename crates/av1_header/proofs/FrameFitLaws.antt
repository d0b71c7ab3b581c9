-- A frame that keeps its rules has a header that can be written.
use Rattle.std.proofs.Common.{◌≡◌, ◌≤◌, ◌++◌, List, Option, None}
use Rattle.av1_geometry.specs.Rules.{first_broken}
use Rattle.av1_frame.specs.FrameRules.{frame_rules, coding_rules}
use Rattle.av1_frame.specs.HeaderRules.{header_rules}
use Rattle.av1_frame.specs.SegmentRules.{segmentation_fits}
use Rattle.av1_frame.specs.SequenceRules.{sequence_rules}
use Rattle.av1_frame.specs.TileRules.{tile_rules}
use Rattle.av1_frame.specs.declared.frame.FrameInvariants.{FrameInvariants}
use Rattle.av1_frame.specs.declared.reference.RefState.{RefState}
use Rattle.av1_frame.specs.declared.state.FrameState.{FrameState}
use Rattle.av1_header.specs.FrameHeader.{FrameFits, frame_of}
use Rattle.av1_header.specs.SequenceHeader.{SequenceFits}
use Rattle.av1_header.proofs.GrainFitLaws.{grain_within}
use Rattle.av1_header.proofs.RulesFit.{all_hold, first_hold, later_hold, both, sequence_fits, sides_within, start_within, quantizer_within, segments_within, deblock_within, cdef_within, restoration_within}
use Rattle.av1_header.proofs.TilesFitLaws.{tiles_within}

pub sequence_within : (fi : FrameInvariants) (fs : FrameState) (refs : List (Option RefState)) → first_broken (sequence_rules fi.sequence) ≡ None → first_broken (frame_rules fi fs refs) ≡ None → SequenceFits fi
sequence_within fi fs refs e k = sequence_fits fi e (sides_within fi (all_hold (frame_rules fi fs refs) k).0)

pub frame_within : (fi : FrameInvariants) (fs : FrameState) (refs : List (Option RefState)) → first_broken (sequence_rules fi.sequence) ≡ None → first_broken (frame_rules fi fs refs) ≡ None →
    (1 ≤ fs.max_tile_size_bytes) × (fs.max_tile_size_bytes ≤ 4) → FrameFits (frame_of fi fs refs)
unfolding sequence_rules tile_rules coding_rules segmentation_fits
frame_within fi fs refs e k bytes =
    let tools = (all_hold (sequence_rules fi.sequence) e).1.1.1.1.1.0 in
    let h = all_hold (frame_rules fi fs refs) k in
    let others = tile_rules fi fs ++ coding_rules fi fs in
    let head = first_hold (header_rules fi refs) others h.1 in
    let later = later_hold (header_rules fi refs) others h.1 in
    let tile = first_hold (tile_rules fi fs) (coding_rules fi fs) later in
    let coding = later_hold (tile_rules fi fs) (coding_rules fi fs) later in
    record {
      start = start_within fi refs h.0 head tools;
      tiles = tiles_within fi fs (sides_within fi h.0) tile.0 tile.1.0 bytes;
      quantizer = quantizer_within fi coding.0;
      segments = segments_within fs.segmentation (both _ _ (both _ _ coding.1.0).0).1;
      deblock = deblock_within fs.deblock coding.1.1.0;
      cdef = cdef_within fi coding.1.1.1.0;
      restoration = λ on. restoration_within fi fs.restoration coding.1.1.1.1.0;
      grain = grain_within fi.sequence fi.film_grain coding.1.1.1.1.1.1.1.0;
    }
