use Rattle.std.proofs.Common.{◌≡◌, ◌+◌, ◌-◌, ◌*◌, ◌%◌, ◌≤◌, length}
use Rattle.av1_bench.proofs.learning.learn.Given as goal

abbrev pub invariant-loop-at : goal.invariant-loop-at
invariant-loop-at g l = record {
  within : l.at ≤ length l.symbols;
  rounds : l.at % 15 ≡ 0;
  shift : (g.W.Known.position l.w).shift ≤ (g.W.Known.position l.fn.w).shift + 13 * l.at;
  reached : g.W.Known.IsReached l.w l.learner.writer_mark;
  mark : g.W.Known.position_at l.w l.learner.writer_mark ≡ g.W.Known.position_at l.fn.w l.fn.learner.writer_mark;
}

abbrev pub decreases-loop-at : goal.decreases-loop-at
decreases-loop-at g l = length l.symbols - l.at
