use Rattle.std.proofs.Common.{◌≡◌, ◌++◌, map, take, drop}
use Rattle.av1_geometry.specs.Tables.{complemented}
use Rattle.av1_geometry.proofs.cdf_util.cdf_4d.Given as goal

abbrev pub invariant-loop-i : goal.invariant-loop-i
invariant-loop-i g l = l.out ≡ map (map (map (complemented g.row.CDF_LEN))) (take l.i l.fn.vars) ++ drop l.i l.initial.out
