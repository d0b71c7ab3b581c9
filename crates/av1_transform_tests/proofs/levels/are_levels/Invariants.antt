use Rattle.std.proofs.Common.{ℕ, ◌^◌, ◌<◌, unsigned_abs}
use Rattle.av1_syntax.specs.Levels.{level_at}
use Rattle.av1_transform_tests.proofs.levels.are_levels.Given as goal

abbrev pub invariant-loop-i : goal.invariant-loop-i
invariant-loop-i l = (k : ℕ) → k < l.i → unsigned_abs (level_at l.levels k) < 2 ^ 20
