use Rattle.std.proofs.Common.{◌≡◌, ◌+◌, ◌*◌, ◌≤◌}
use Rattle.av1_bench.proofs.learning.learn_rest.Given as goal

abbrev pub invariant-loop-j : goal.invariant-loop-j
invariant-loop-j g l = record {
  shift : (g.W.Known.position l.w).shift ≤ (g.W.Known.position l.fn.w).shift + 13 * l.j;
  reached : g.W.Known.IsReached l.w l.learner.writer_mark;
  mark : g.W.Known.position_at l.w l.learner.writer_mark ≡ g.W.Known.position_at l.fn.w l.fn.learner.writer_mark;
}
