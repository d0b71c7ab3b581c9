-- Differences of signed numbers that fit.
use Rattle.std.proofs.Common.{◌≡◌, ◌^◌, arith, ℤ, pos, ◌-ℤ◌, ◌≤ℤ◌}
use Rattle.std.proofs.lemmas.Int.{ints}
use Rattle.std.specs.Int.{cast_signed, cast_unsigned, w32}
use Rattle.std.specs.Int.RustNames.{FitsSigned}

-- how far a number lies above the least, as the code counts it
pub counted : (low high z : ℤ) → FitsSigned w32 low → FitsSigned w32 z → (high -ℤ low) ≤ℤ pos (2 ^ 24) → low ≤ℤ z → z ≤ℤ high
    → cast_signed w32 (cast_unsigned w32 (cast_signed w32 (cast_unsigned w32 z) -ℤ cast_signed w32 (cast_unsigned w32 low))) ≡ z -ℤ low
counted low high z fits also few from to = omega (arith, ints)
