use Rattle.std.proofs.Common.{◌≡◌}
use Rattle.av1_blocks.specs.Places.{filled}
use Rattle.av1_blocks.proofs.edge.fill.Given as goal

abbrev pub invariant-loop-k : goal.invariant-loop-k
invariant-loop-k l = l.edge ≡ filled l.from l.k l.value l.initial.edge
