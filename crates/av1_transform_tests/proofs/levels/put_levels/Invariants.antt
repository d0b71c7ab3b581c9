use Rattle.std.proofs.Common.{◌≡◌, length}
use Rattle.av1_transform_tests.proofs.Putting.{ArePut}
use Rattle.av1_transform_tests.proofs.levels.put_levels.Given as goal

abbrev pub invariant-loop-i : goal.invariant-loop-i
invariant-loop-i l = record {
  long : length l.coeffs ≡ length l.fn.coeffs;
  put : ArePut l.scan l.levels l.i l.coeffs;
}
