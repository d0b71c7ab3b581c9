use Rattle.std.proofs.Common.{◌≡◌, ◌-◌, ◌++◌, map, take, drop}
use Rattle.av1_geometry.proofs.cdf_util.cdf.Given as goal

abbrev pub invariant-loop-i : goal.invariant-loop-i
invariant-loop-i g l = l.out ≡ map (λ v. 32768 - v) (take l.i l.fn.vars) ++ drop l.i l.initial.out
