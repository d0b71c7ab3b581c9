-- The codes of tiles that av1_model does not have.
use Rattle.std.specs.Prelude.{ℕ, ◌+◌, ◌-◌, List, ◌++◌, Bool, false, replicate, ℤ, ◌-ℤ◌, unsigned_abs}
use Rattle.av1_model.specs.Bits.{bits_of}
use Rattle.av1_model.specs.Codes.{binary_digits, refsubexp}

-- Exp-Golomb: the digits of the number above it, after one zero fewer than they are: golomb_length_bit and so on of the AV1 specification
abbrev pub golomb : ℕ → List Bool
golomb level = let l = binary_digits (level + 1) in replicate (l - 1) false ++ bits_of l (level + 1)

-- one of the numbers from low on and below high, by its distance from r, as of numbers from 0 on
abbrev pub refsubexp_between : ℤ → ℤ → ℕ → ℤ → ℤ → List Bool
refsubexp_between low high k r v = refsubexp (unsigned_abs (high -ℤ low)) k (unsigned_abs (r -ℤ low)) (unsigned_abs (v -ℤ low))
