-- How often a number is doubled until it is at least another.
use Rattle.std.proofs.Common.{arith, ◌≡◌, ◌-◌, ◌*◌, ◌^◌, ◌<◌, ◌≤◌, ℕ, zero, suc, ◌+◌, inl, inr, subst}
use Rattle.std.proofs.lemmas.Bool.{cases_lt}
use Rattle.std.proofs.lemmas.Bool.Decides.{nat_tests}
use Rattle.std.proofs.lemmas.Nat.{pow-add, mul-le}
use Rattle.std.proofs.Math.Nat.{pow-le-pow_right}
use Rattle.av1_frame.specs.Tiling.{doublings}

-- one doubling, where there is need of it
pub doublings_on : (n m size target : ℕ) → size < target → n ≡ m + 1 → doublings n size target ≡ 1 + doublings m (size * 2) target
doublings_on zero m size target more left = absurd (omega arith)
doublings_on (suc n) m size target more left =
    let e : n ≡ m = omega arith in
    subst (λ k. doublings (suc n) size target ≡ 1 + doublings k (size * 2) target) e (grind (arith, nat_tests))

pub power_on : (d s k : ℕ) → d ≡ s * 2 ^ k → d * 2 ≡ s * 2 ^ (k + 1)
power_on d s k is =
    let e : 2 ^ (k + 1) ≡ 2 ^ k * 2 = pow-add 2 k 1 in
    rw e (rw is (grind arith))

pub least_on : (d s k t : ℕ) → d ≡ s * 2 ^ k → d < t → s * 2 ^ (k + 1 - 1) < t
least_on d s k t is less =
    let e : k + 1 - 1 ≡ k = omega arith in
    rw e (omega (arith, is))

-- a power of two below another has the lower exponent
lower : (i j : ℕ) → 2 ^ i < 2 ^ j → i < j
lower i j less = elim (cases_lt i j) [ inl l ↦ l | inr g ↦ absurd (omega (arith, pow-le-pow_right {n = 2} (omega arith) {i = j} {j = i} g)) ]

pub few_doublings : (s k t : ℕ) → 1 ≤ s → t ≤ 2 ^ 20 → s * 2 ^ (k - 1) < t → k ≤ 20
few_doublings s k t some few less =
    let p = 2 ^ (k - 1) in
    let least : 1 * p ≤ s * p = mul-le 1 p s p some (omega arith) in
    let below : 2 ^ (k - 1) < 2 ^ 20 = omega arith in
    omega (arith, lower (k - 1) 20 below)
