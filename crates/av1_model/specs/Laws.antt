-- Words of the laws over the range coder.
use Rattle.std.specs.Prelude.{◌≡◌, ℕ, ◌*◌, ◌^◌, ◌<◌, ◌≤◌, ◌%◌}

-- d is the least number of doublings that bring a width to 16 bits
pub record IsLeastDoublings (width d : ℕ) : Type 0 where
  pub enough : 32768 ≤ width * 2 ^ d
  pub least : (k : ℕ) → k < d → width * 2 ^ k < 32768

-- p * 2^14 is the least odd multiple of 2^14 from low on
pub record IsLeastOdd (low p : ℕ) : Type 0 where
  pub odd : p % 2 ≡ 1
  pub from : low ≤ p * 16384
  pub least : (q : ℕ) → q % 2 ≡ 1 → low ≤ q * 16384 → p ≤ q
