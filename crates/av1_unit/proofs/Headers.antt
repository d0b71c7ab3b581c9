-- What the rules of a unit say of its headers and its metadata.
use Rattle.std.proofs.Common.{◌≡◌, ℕ, ◌≤◌, ◌++◌, List, Bool, true, false, not, Option, None, refl}
use Rattle.std.specs.Prelude.{◌&&◌}
use Rattle.av1_frame.specs.FrameRules.{coding_rules, frame_rules}
use Rattle.av1_frame.specs.HeaderRules.{frame_is_carried, header_rules}
use Rattle.av1_frame.specs.TileRules.{tile_rules}
use Rattle.av1_frame.specs.declared.frame.FrameInvariants.{FrameInvariants}
use Rattle.av1_frame.specs.declared.reference.RefState.{RefState}
use Rattle.av1_frame.specs.declared.state.FrameState.{FrameState}
use Rattle.av1_geometry.specs.Rules.{first_broken}
use Rattle.av1_header.specs.FrameHeader.{FrameFits, shows_existing}
use Rattle.av1_header.specs.SequenceHeader.{SequenceFits}
use Rattle.av1_header.proofs.FrameFitLaws.{frame_within, sequence_within}
use Rattle.av1_header.proofs.RulesFit.{all_hold, both, first_hold}
use Rattle.av1_step.specs.Given.{Given, IsGiven}
use Rattle.av1_unit.specs.Framing.{frame_with}

-- the rules don't see how many bytes the size of a tile has
same_rules : (fi : FrameInvariants) (fs : FrameState) (refs : List (Option RefState)) (width : ℕ) → first_broken (frame_rules fi fs refs) ≡ None → first_broken (frame_rules fi (record fs { max_tile_size_bytes = width }) refs) ≡ None
unfolding tile_rules coding_rules
same_rules fi fs refs width h = h

pub frame_fits : (g : Given) (width : ℕ) → IsGiven g → (1 ≤ width) × (width ≤ 4) → FrameFits (frame_with g width)
frame_fits g width given bytes = frame_within g.fi (record g.fs { max_tile_size_bytes = width }) g.refs given.sequence (same_rules g.fi g.fs g.refs width given.frame) bytes

pub sequence_fits : (g : Given) → IsGiven g → SequenceFits g.fi
sequence_fits g given = sequence_within g.fi g.fs g.refs given.sequence given.frame

hidden : (reduced existing : Bool) → not existing ≡ true → (not reduced && existing) ≡ false
hidden true existing h = refl
hidden false false h = refl
hidden false true h = absurd cc

-- the frame shows no other one
pub shows_itself : (g : Given) → IsGiven g → shows_existing g.fi ≡ false
unfolding header_rules frame_is_carried
shows_itself g given =
    let h = all_hold (frame_rules g.fi g.fs g.refs) given.frame in
    let head = first_hold (header_rules g.fi g.refs) (tile_rules g.fi g.fs ++ coding_rules g.fi g.fs) h.1 in
    hidden g.fi.sequence.reduced_still_picture_hdr g.fi.show_existing_frame (both _ _ (both _ _ (both _ _ head.0).0).0).0
