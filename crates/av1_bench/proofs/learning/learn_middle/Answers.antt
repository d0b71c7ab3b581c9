use Rattle.std.proofs.Common.{lit<, arith}
use Rattle.av1_bench.proofs.learning.learn_middle.Goals as goal

pub code-requires-5-clause-s : goal.code-requires-5-clause-s
code-requires-5-clause-s g c = omega (arith, c.requires.symbols 9 (lit< tt), c.slot-5.ensures)
