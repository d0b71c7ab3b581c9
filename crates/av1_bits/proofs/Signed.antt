-- Sums of signed numbers that fit.
use Rattle.std.proofs.Common.{◌≡◌, ℕ, ◌-◌, ◌≤◌, arith, ℤ, pos, ◌+ℤ◌, ◌≤ℤ◌}
use Rattle.std.proofs.lemmas.Int.{ints}
use Rattle.std.specs.Int.{cast_signed, cast_unsigned, w16}
use Rattle.std.specs.Int.RustNames.{FitsSigned}
use Rattle.std.proofs.Math.IntN.{neg_ℤ}

-- a number from -(n - 1) to n - 1, counted from there, as the code does it
pub counted_up : (z : ℤ) (n : ℕ) → FitsSigned w16 z → 1 ≤ n → n ≤ 4096 → neg_ℤ (pos (n - 1)) ≤ℤ z → z ≤ℤ pos (n - 1)
    → cast_signed w16 (cast_unsigned w16 (cast_signed w16 (cast_unsigned w16 z) +ℤ cast_signed w16 (n - 1))) ≡ z +ℤ pos (n - 1)
counted_up z n fits some few from to = omega (arith, ints)
