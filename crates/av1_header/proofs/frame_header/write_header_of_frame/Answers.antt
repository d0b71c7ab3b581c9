use Rattle.std.proofs.Common.{refl, subst}
use Rattle.av1_header.specs.FrameHeader.{frame_header, frame_rows, frame_of, side_information_of}
use Rattle.av1_header.specs.Rows.{Wrote}
use Rattle.av1_header.specs.declared.values.SequenceValues.{SequenceValues}
use Rattle.av1_header.proofs.RowLaws.{writing, on_then, wrote_else}
use Rattle.av1_header.proofs.frame_header.write_header_of_frame.Goals as goal

pub returns-then-existing : goal.returns-then-existing
unfolding frame_header
returns-then-existing c = search writing depth 8

pub returns-else-existing : goal.returns-else-existing
unfolding frame_header
returns-else-existing c =
    let fr = frame_of c.args.fi.now c.args.state.now c.args.refs.now in
    let rest = subst (λ (q : SequenceValues). Wrote (frame_rows q (side_information_of c.args.fi.now)) fr c.write_rows.result c.write_show_existing-existing.new.refused c.write_rows.new.refused c.write_show_existing-existing.new.bits c.write_rows.new.bits) c.sequence_values.ensures.value c.write_rows.ensures in
    on_then _ _ _ _ _ _ _ _ _ _ _ _ _ c.write_show_existing-existing.ensures.wrote refl (wrote_else _ _ _ _ _ _ _ _ _ c.if-existing.false rest)
