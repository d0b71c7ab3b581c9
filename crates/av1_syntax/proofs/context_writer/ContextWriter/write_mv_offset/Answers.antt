use Rattle.std.proofs.Common.{arith}
use Rattle.av1_syntax.proofs.VectorWrites.{offset_refused, offset_wrote}
use Rattle.av1_syntax.proofs.Moving.{moves_then}
use Rattle.av1_syntax.proofs.context_writer.ContextWriter.write_mv_offset.Goals as goal

pub returns-in_err-write_mv_whole-clause-wrote : goal.returns-in_err-write_mv_whole-clause-wrote
returns-in_err-write_mv_whole-clause-wrote g c =
    offset_refused c.from_residual.result c.args.axis c.args.precision c.args.mv_class c.args.offset _ _ c.requires.axis c.requires.offset c.from_residual.ensures.0 c.in_err-write_mv_whole.ensures.wrote

pub returns-clause-wrote : goal.returns-clause-wrote
returns-clause-wrote g c =
    offset_wrote c.write_mv_fraction.result c.args.axis c.args.precision c.args.mv_class c.args.offset _ _ _ c.in_ok-write_mv_whole.ensures.wrote c.write_mv_fraction.ensures.wrote

pub returns-clause-moves : goal.returns-clause-moves
returns-clause-moves g c = moves_then g.W.Known 130 26 156 _ _ _ _ _ _ _ _ _ (omega arith) c.in_ok-write_mv_whole.ensures.moves c.write_mv_fraction.ensures.moves
