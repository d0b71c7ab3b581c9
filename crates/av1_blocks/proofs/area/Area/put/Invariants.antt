use Rattle.std.proofs.Common.{◌≡◌, ◌+◌, ◌-◌, ◌*◌, ◌/◌, ◌%◌, if◌then◌else◌, get_or}
use Rattle.av1_blocks.specs.declared.block.TheConstants.Block.{DEFAULT}
use Rattle.av1_blocks.specs.Places.{changed, in_area}
use Rattle.av1_blocks.proofs.area.Area.put.Given as goal

abbrev pub invariant-loop-y : goal.invariant-loop-y
invariant-loop-y l =
    l.blocks
    ≡ changed (λ k b. if in_area l.cols l.self.left l.self.right l.self.top l.y k then get_or l.items ((k / l.cols - l.self.top) * (l.self.right - l.self.left) + (k % l.cols - l.self.left)) DEFAULT else b) l.initial.blocks
