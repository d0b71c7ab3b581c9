use Rattle.std.proofs.Common.{◌≡◌, ◌+◌, ◌-◌, ◌*◌, ◌%◌, ◌≤◌, length}
use Rattle.av1_bench.proofs.learning.try_all.Given as goal

abbrev pub invariant-loop-at : goal.invariant-loop-at
invariant-loop-at g l = record {
  within : l.at ≤ length l.symbols;
  rounds : l.at % 15 ≡ 0;
  shift : (g.W.Known.position l.w).shift ≤ (g.W.Known.position l.fn.w).shift + 13 * l.at;
}

abbrev pub decreases-loop-at : goal.decreases-loop-at
decreases-loop-at g l = length l.symbols - l.at
