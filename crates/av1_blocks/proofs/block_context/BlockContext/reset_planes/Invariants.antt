use Rattle.std.proofs.Common.{◌≡◌}
use Rattle.av1_blocks.specs.Edges.{with_reset}
use Rattle.av1_blocks.proofs.block_context.BlockContext.reset_planes.Given as goal

abbrev pub invariant-loop-plane : goal.invariant-loop-plane
invariant-loop-plane l = l.self ≡ with_reset l.plane l.xdec l.x l.width l.ydec l.y l.height l.initial.self
