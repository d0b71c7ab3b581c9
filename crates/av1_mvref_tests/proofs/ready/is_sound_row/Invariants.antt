use Rattle.std.proofs.Common.{ℕ, ◌<◌}
use Rattle.av1_blocks.specs.Grid.{block_at}
use Rattle.av1_blocks.specs.Sound.{IsSound}
use Rattle.av1_mvref_tests.proofs.ready.is_sound_row.Given as goal

abbrev pub invariant-loop-x : goal.invariant-loop-x
invariant-loop-x l = (j : ℕ) → j < l.x → IsSound (block_at l.blocks j l.y)
