use Rattle.std.proofs.Common.{◌≡◌}
use Rattle.av1_mvref.specs.Noted.{nearer}
use Rattle.av1_mvref.proofs.Raised.{up_to}
use Rattle.av1_mvref.proofs.stack.raise_all.Given as goal

abbrev pub invariant-loop-k : goal.invariant-loop-k
invariant-loop-k l = l.stack ≡ up_to nearer l.k l.initial.stack
