use Rattle.std.proofs.Common.{◌≡◌, ◌-◌, ◌/◌, ◌^◌, ◌≤◌, length, drop}
use Rattle.std.specs.Int.{bytes_high_first}
use Rattle.std.specs.Int.Digits.{number_from_digits}
use Rattle.av1_ec.proofs.precarry.sum_carries.Given as goal

abbrev pub invariant-loop-offs : goal.invariant-loop-offs
invariant-loop-offs l = record {
  at : l.offs ≤ length l.precarry;
  len : length l.out.items ≡ length l.precarry;
  small : l.c ≤ 2;
  bytes : drop l.offs l.out.items ≡ bytes_high_first (length l.precarry - l.offs) (number_from_digits 256 (drop l.offs l.precarry));
  carry : l.c ≡ number_from_digits 256 (drop l.offs l.precarry) / 256 ^ (length l.precarry - l.offs);
}

abbrev pub decreases-loop-offs : goal.decreases-loop-offs
decreases-loop-offs l = l.offs
