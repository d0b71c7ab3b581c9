use Rattle.std.proofs.Common.{◌≡◌}
use Rattle.av1_mvref.specs.Candidates.{clamped}
use Rattle.av1_mvref.proofs.Raised.{up_to}
use Rattle.av1_mvref.proofs.clamp.clamp_all.Given as goal

abbrev pub invariant-loop-k : goal.invariant-loop-k
invariant-loop-k l = l.list ≡ up_to (clamped l.blocks l.bo.0 l.bsize) l.k l.initial.list
