-- The bits of order hints.
use Rattle.std.proofs.Common.{arith, ◌≡◌, ◌+◌, ◌^◌, ◌<◌, ◌≤◌, ℕ, nat_lt, true}
use Rattle.std.proofs.lemmas.Bool.Decides.{nat_tests}
use Rattle.std.proofs.Math.Nat.{pow-le-pow_right}

-- a number of 32 bits has 32 bits and more
pub any_number_has : (n b : ℕ) → n < 2 ^ 32 → 31 ≤ b → nat_lt n (2 ^ (b + 1)) ≡ true
any_number_has n b some most =
    let power : 2 ^ 32 ≤ 2 ^ (b + 1) = pow-le-pow_right {n = 2} (omega arith) {i = 32} {j = b + 1} (omega arith) in
    let less : n < 2 ^ (b + 1) = omega arith in
    grind (arith, nat_tests)
