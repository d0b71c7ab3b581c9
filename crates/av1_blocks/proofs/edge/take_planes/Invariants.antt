use Rattle.std.proofs.Common.{◌≡◌}
use Rattle.av1_blocks.specs.Edges.{taken_planes}
use Rattle.av1_blocks.proofs.edge.take_planes.Given as goal

abbrev pub invariant-loop-plane : goal.invariant-loop-plane
invariant-loop-plane l = l.taken ≡ taken_planes l.plane l.dec l.x l.edges
