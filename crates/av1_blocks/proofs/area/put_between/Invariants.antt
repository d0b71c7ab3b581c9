use Rattle.std.proofs.Common.{◌≡◌, ◌+◌, ◌-◌, if◌then◌else◌, get_or}
use Rattle.av1_blocks.specs.declared.block.TheConstants.Block.{DEFAULT}
use Rattle.av1_blocks.specs.Places.{changed, within}
use Rattle.av1_blocks.proofs.area.put_between.Given as goal

abbrev pub invariant-loop-k : goal.invariant-loop-k
invariant-loop-k l = l.blocks ≡ changed (λ k b. if within l.from l.k k then get_or l.items (l.first + (k - l.from)) DEFAULT else b) l.initial.blocks
