use Rattle.std.proofs.Common.{◌∙◌, ap, arith}
use Rattle.av1_cdf.specs.Layout.{Slot}
use Rattle.av1_syntax.proofs.InterSlots.{classes_has}
use Rattle.av1_syntax.proofs.VectorWrites.{offset_below, size_refused, size_wrote}
use Rattle.av1_syntax.proofs.Moving.{moves_then}
use Rattle.av1_syntax.proofs.context_writer.ContextWriter.write_mv_size.Goals as goal

pub digit-requires-clause-s : goal.digit-requires-clause-s
digit-requires-clause-s g c =
    let long = ap (λ (s : Slot). s.len) c.classes_cdf.ensures ∙ (classes_has c.args.axis c.requires.axis).1 in
    omega (arith, long, c.get_mv_class-mv_class.ensures.bound)

pub write_mv_offset-requires-clause-offset : goal.write_mv_offset-requires-clause-offset
write_mv_offset-requires-clause-offset g c =
    let k = c.get_mv_class-mv_class.result in
    offset_below k.0 k.1 c.args.z c.get_mv_class-mv_class.ensures.bound c.get_mv_class-mv_class.ensures.rest c.requires.size c.get_mv_class-mv_class.ensures.greatest

pub returns-in_err-digit-clause-wrote : goal.returns-in_err-digit-clause-wrote
returns-in_err-digit-clause-wrote g c =
    let k = c.get_mv_class-mv_class.result in
    size_refused k.0 k.1 c.args.z c.get_mv_class-mv_class.ensures.bound c.get_mv_class-mv_class.ensures.rest c.requires.size c.get_mv_class-mv_class.ensures.greatest c.from_residual.result c.args.axis c.args.precision _ c.classes_cdf.ensures _ _
    c.requires.axis c.from_residual.ensures.0 c.in_err-digit.ensures.wrote

pub returns-clause-wrote : goal.returns-clause-wrote
returns-clause-wrote g c =
    let k = c.get_mv_class-mv_class.result in
    size_wrote k.0 k.1 c.args.z c.get_mv_class-mv_class.ensures.bound c.get_mv_class-mv_class.ensures.rest c.requires.size c.get_mv_class-mv_class.ensures.greatest c.write_mv_offset.result c.args.axis c.args.precision _ c.classes_cdf.ensures _ _ _
    c.in_ok-digit.ensures.wrote c.write_mv_offset.ensures.wrote

pub returns-clause-moves : goal.returns-clause-moves
returns-clause-moves g c = moves_then g.W.Known 13 156 169 _ _ _ _ _ _ _ _ _ (omega arith) c.in_ok-digit.ensures.moves c.write_mv_offset.ensures.moves
