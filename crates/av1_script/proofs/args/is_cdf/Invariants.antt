use Rattle.av1_script.proofs.Falling.{FallsTo}
use Rattle.av1_script.proofs.args.is_cdf.Given as goal

abbrev pub invariant-loop-i : goal.invariant-loop-i
invariant-loop-i l = FallsTo l.numbers l.i l.least
