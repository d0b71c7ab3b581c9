use Rattle.std.proofs.Common.{ℕ, ◌<◌}
use Rattle.av1_blocks.specs.Grid.{block_at}
use Rattle.av1_blocks.specs.Sound.{IsSound}
use Rattle.av1_mvref_tests.proofs.ready.is_ready.Given as goal

abbrev pub invariant-loop-y : goal.invariant-loop-y
invariant-loop-y l = (j : ℕ) → j < l.y → (x : ℕ) → x < l.blocks.cols → IsSound (block_at l.blocks x j)
