use Rattle.std.proofs.Common.{sym, subst}
use Rattle.av1_syntax.specs.Vectors.{IsDifference}
use Rattle.av1_syntax.proofs.VectorWrites.{vector_wrote}
use Rattle.av1_syntax.proofs.context_writer.ContextWriter.write_mv.Goals as goal

pub write_difference-requires-clause-difference : goal.write_difference-requires-clause-difference
write_difference-requires-clause-difference g c = subst (IsDifference c.args.mv_precision) (sym c.difference.ensures) c.requires.difference

pub returns-clause-wrote : goal.returns-clause-wrote
returns-clause-wrote g c = vector_wrote c.write_difference.result c.args.mv_precision c.args.mv c.args.ref_mv c.difference.result _ _ c.difference.ensures c.write_difference.ensures.wrote
