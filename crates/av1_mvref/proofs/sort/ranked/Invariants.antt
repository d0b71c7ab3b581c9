use Rattle.std.proofs.Common.{◌≡◌, take, map}
use Rattle.av1_mvref.specs.Sorted.{candidate_at}
use Rattle.av1_mvref.proofs.sort.ranked.Given as goal

abbrev pub invariant-loop-k : goal.invariant-loop-k
invariant-loop-k l = l.list.items ≡ map (candidate_at l.stack) (take l.k l.ranks)
