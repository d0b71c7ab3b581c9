use Rattle.std.proofs.Common.{length}
use Rattle.av1_step.proofs.CoeffPlaces.{ArePlaced}
use Rattle.av1_step.proofs.coeff_steps.lay_out.Given as goal

abbrev pub invariant-loop-i : goal.invariant-loop-i
invariant-loop-i l = ArePlaced (length l.fn.coeffs) l.levels l.scan l.i l.coeffs
