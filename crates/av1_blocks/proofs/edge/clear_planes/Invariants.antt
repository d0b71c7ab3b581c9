use Rattle.std.proofs.Common.{◌≡◌, replicate}
use Rattle.av1_blocks.specs.Places.{first}
use Rattle.av1_blocks.proofs.edge.clear_planes.Given as goal

abbrev pub invariant-loop-plane : goal.invariant-loop-plane
invariant-loop-plane l = l.edges ≡ first l.plane (λ _ _. replicate 16 0) l.initial.edges
