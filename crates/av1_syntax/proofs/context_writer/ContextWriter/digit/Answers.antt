use Rattle.std.proofs.Common.{refl}
use Rattle.av1_syntax.specs.Vectors.{digit_of}
use Rattle.av1_syntax.proofs.VectorReads.{digit_told}
use Rattle.av1_syntax.proofs.Writing.{wrote_symbol}
use Rattle.av1_syntax.proofs.context_writer.ContextWriter.digit.Goals as goal

pub returns-clause-wrote : goal.returns-clause-wrote
returns-clause-wrote g c = wrote_symbol c.symbol.result _ _ (digit_of c.args.cdf.len) (λ k. k) c.args.s c.args.s _ _ refl refl (digit_told c.args.cdf.len c.args.s c.requires.s) c.symbol.ensures.ok c.symbol.ensures.err
