use Rattle.std.proofs.Common.{◌≡◌, if◌then◌else◌}
use Rattle.av1_blocks.specs.Entry.{entered}
use Rattle.av1_blocks.specs.Places.{changed, within}
use Rattle.av1_blocks.proofs.area.enter_between.Given as goal

abbrev pub invariant-loop-k : goal.invariant-loop-k
invariant-loop-k l = l.blocks ≡ changed (λ k b. if within l.from l.k k then entered l.entry b else b) l.initial.blocks
