use Rattle.std.proofs.Common.{◌≡◌, take}
use Rattle.av1_mvref.specs.Sorted.{ranks_from}
use Rattle.av1_mvref.proofs.sort.ranks.Given as goal

abbrev pub invariant-loop-k : goal.invariant-loop-k
invariant-loop-k l = l.ranks.items ≡ ranks_from 0 (take l.k l.stack)
