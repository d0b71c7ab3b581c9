-- A test of all numbers below a number, one after another.
use Rattle.std.proofs.Common.{arith, ◌≡◌, ◌+◌, ◌-◌, ◌<◌, ◌≤◌, ℕ, suc, Bool, true, false, ◌&&◌, refl}
use Rattle.std.specs.List.{list_all, range_with_len}

-- the numbers from one on begin with it
range_from : (p : ℕ → Bool) (j n : ℕ) → j < n → list_all p (range_with_len j (n - j)) ≡ (p j && list_all p (range_with_len (j + 1) (n - (j + 1))))
range_from p j n less = let e : n - j ≡ suc (n - (j + 1)) = omega arith in rw e refl

-- one that passes leaves the rest
pub range_on : (p : ℕ → Bool) (j n : ℕ) → j < n → p j ≡ true → list_all p (range_with_len j (n - j)) ≡ list_all p (range_with_len (j + 1) (n - (j + 1)))
range_on p j n less holds = rw (range_from p j n less) (rw holds refl)

-- one that fails decides
pub range_stops : (p : ℕ → Bool) (j n : ℕ) → j < n → p j ≡ false → list_all p (range_with_len j (n - j)) ≡ false
range_stops p j n less fails = rw (range_from p j n less) (rw fails refl)

pub range_ends : (p : ℕ → Bool) (j n : ℕ) → n ≤ j → list_all p (range_with_len j (n - j)) ≡ true
range_ends p j n over = let e : n - j ≡ 0 = omega arith in rw e refl

pub ruleset ranges = (range_on, range_stops, range_ends)
