use Rattle.std.proofs.Common.{ap, arith}
use Rattle.av1_model.specs.Position.{Position}
use Rattle.av1_transform_tests.proofs.coefficients.answer.Goals as goal

pub code_both-requires-clause-early : goal.code_both-requires-clause-early
code_both-requires-clause-early c = let s = ap (λ (p : Position). p.shift) c.new-w.ensures in omega (arith, s)
