use Rattle.std.proofs.Common.{◌≡◌, ◌+◌, ◌-◌, if◌then◌else◌, get_or}
use Rattle.av1_blocks.specs.Places.{changed, within}
use Rattle.av1_blocks.proofs.edge.put_back.Given as goal

abbrev pub invariant-loop-k : goal.invariant-loop-k
invariant-loop-k l = l.edge ≡ changed (λ j x. if within l.from (l.from + l.k) j then get_or l.saved (j - l.from) 0 else x) l.initial.edge
