use Rattle.std.proofs.Common.{lit<, arith}
use Rattle.av1_bench.proofs.learning.learn_large.Goals as goal

pub code-requires-clause-s : goal.code-requires-clause-s
code-requires-clause-s g c = omega (arith, c.requires.symbols 10 (lit< tt), c.slot.ensures)

pub code-requires-2-clause-s : goal.code-requires-2-clause-s
code-requires-2-clause-s g c = omega (arith, c.requires.symbols 11 (lit< tt), c.slot-2.ensures)

pub code-requires-3-clause-s : goal.code-requires-3-clause-s
code-requires-3-clause-s g c = omega (arith, c.requires.symbols 12 (lit< tt), c.slot-3.ensures)

pub code-requires-4-clause-s : goal.code-requires-4-clause-s
code-requires-4-clause-s g c = omega (arith, c.requires.symbols 13 (lit< tt), c.slot-4.ensures)

pub code-requires-5-clause-s : goal.code-requires-5-clause-s
code-requires-5-clause-s g c = omega (arith, c.requires.symbols 14 (lit< tt), c.slot-5.ensures)
