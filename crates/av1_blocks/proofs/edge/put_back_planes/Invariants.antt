use Rattle.std.proofs.Common.{◌≡◌}
use Rattle.av1_blocks.specs.Edges.{put_planes}
use Rattle.av1_blocks.proofs.edge.put_back_planes.Given as goal

abbrev pub invariant-loop-plane : goal.invariant-loop-plane
invariant-loop-plane l = l.edges ≡ put_planes l.plane l.dec l.x l.saved l.initial.edges
