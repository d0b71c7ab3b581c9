use Rattle.std.proofs.Common.{◌≡◌, if◌then◌else◌}
use Rattle.av1_blocks.specs.Entry.{entered}
use Rattle.av1_blocks.specs.Places.{changed, in_area}
use Rattle.av1_blocks.proofs.area.Area.enter.Given as goal

abbrev pub invariant-loop-y : goal.invariant-loop-y
invariant-loop-y l = l.blocks ≡ changed (λ k b. if in_area l.cols l.self.left l.self.right l.self.top l.y k then entered l.entry b else b) l.initial.blocks
