use Rattle.std.proofs.Common.{◌≡◌, ◌++◌, take}
use Rattle.av1_mvref.proofs.pairs.append.Given as goal

abbrev pub invariant-loop-k : goal.invariant-loop-k
invariant-loop-k l = l.list.items ≡ take 2 (l.initial.list.items ++ take l.k l.more)
