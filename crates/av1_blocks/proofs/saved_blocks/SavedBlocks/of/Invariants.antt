use Rattle.std.proofs.Common.{◌≡◌, ◌+◌, ◌/◌, ◌%◌, map}
use Rattle.std.specs.List.{range_with_len}
use Rattle.av1_blocks.specs.Grid.{block_at}
use Rattle.av1_blocks.proofs.saved_blocks.SavedBlocks.of.Given as goal

abbrev pub invariant-loop-k : goal.invariant-loop-k
invariant-loop-k l = l.blocks.items ≡ map (λ k. block_at l.fn.tile (l.left + k % l.cols) (l.top + k / l.cols)) (range_with_len 0 l.k)
