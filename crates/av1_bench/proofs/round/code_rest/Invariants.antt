use Rattle.std.proofs.Common.{◌+◌, ◌*◌, ◌≤◌}
use Rattle.av1_bench.proofs.round.code_rest.Given as goal

abbrev pub invariant-loop-j : goal.invariant-loop-j
invariant-loop-j g l = (g.W.Known.position l.w).shift ≤ (g.W.Known.position l.fn.w).shift + 13 * l.j
