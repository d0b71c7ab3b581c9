use Rattle.std.proofs.Common.{arith}
use Rattle.av1_syntax.proofs.VectorWrites.{component_refused, component_wrote}
use Rattle.av1_syntax.proofs.Moving.{moves_then}
use Rattle.av1_syntax.proofs.context_writer.ContextWriter.code_component.Goals as goal

pub returns-in_err-flag-clause-wrote : goal.returns-in_err-flag-clause-wrote
returns-in_err-flag-clause-wrote g c =
    component_refused c.from_residual.result c.args.axis c.args.precision c.args.negative c.args.z _ c.sign_cdf.ensures _ _ c.requires.axis c.requires.size c.from_residual.ensures.0 c.in_err-flag.ensures.wrote

pub returns-clause-wrote : goal.returns-clause-wrote
returns-clause-wrote g c =
    component_wrote c.write_mv_size.result c.args.axis c.args.precision c.args.negative c.args.z _ c.sign_cdf.ensures _ _ _ c.in_ok-flag.ensures.wrote c.write_mv_size.ensures.wrote

pub returns-clause-moves : goal.returns-clause-moves
returns-clause-moves g c = moves_then g.W.Known 13 169 182 _ _ _ _ _ _ _ _ _ (omega arith) c.in_ok-flag.ensures.moves c.write_mv_size.ensures.moves
