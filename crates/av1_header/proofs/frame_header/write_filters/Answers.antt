use Rattle.std.proofs.Common.{refl, ap, sym, subst}
use Rattle.av1_header.specs.Deltas.{going_on}
use Rattle.av1_header.specs.FrameHeader.{frame_filters, tiles_in, tiles_of, frame_of}
use Rattle.av1_header.specs.Rows.{Wrote}
use Rattle.av1_header.specs.declared.values.SequenceValues.{SequenceValues}
use Rattle.av1_header.proofs.RowLaws.{number_then, on_then, wrote_done}
use Rattle.av1_header.proofs.frame_header.write_filters.Goals as goal

pub returns : goal.returns
unfolding frame_filters
returns c =
    let fr = frame_of c.args.fi.now c.args.state.now c.args.refs.now in
    let sides = subst (λ (q : SequenceValues). Wrote (tiles_in q.tools.size.width q.tools.size.height) (tiles_of fr) c.write_frame_tiles-tiles.result c.args.refused.now c.write_frame_tiles-tiles.new.refused c.args.bits.now c.write_frame_tiles-tiles.new.bits) (sym c.requires.sequence) c.write_frame_tiles-tiles.ensures in
    on_then _ _ _ _ _ _ _ _ _ _ _ _ _ sides refl
    (on_then _ _ _ _ _ _ _ _ _ _ _ _ _ c.write_quantizer.ensures refl
    (on_then _ _ _ _ _ _ _ _ _ _ _ _ _ c.write_segmentation.ensures refl
    (number_then _ _ _ _ _ _ _ _ _ _ _ _ _ _ _ _ _ _ _ c.fixed.ensures refl refl refl refl
    (on_then _ _ _ _ _ _ _ _ _ _ _ _ _ c.write_loop_filter.ensures (ap (going_on c.args.state.now.deblock) c.deltas_before-before.ensures)
    (on_then _ _ _ _ _ _ _ _ _ _ _ _ _ c.write_cdef.ensures refl
    (on_then _ _ _ _ _ _ _ _ _ _ _ _ _ c.write_restoration.ensures refl
    (wrote_done _ _ _ _ _ refl)))))))
