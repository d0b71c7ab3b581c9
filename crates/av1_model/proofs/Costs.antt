-- A symbol never costs less than nothing.
use Rattle.std.proofs.Common.{◌≡◌, ℕ, zero, suc, ◌+◌, ◌*◌, ◌/◌, ◌^◌, ◌<◌, ◌≤◌, ap, refl, ◌∙◌, arith, inl, inr}
use Rattle.std.proofs.lemmas.Bool.{cases_lt, lt-ltb, le-ltb}
use Rattle.std.proofs.Math.Nat.{mul-le-mul, pow-suc}
use Rattle.std.specs.Int.{leading_zeros, w16}
use Rattle.av1_model.specs.Interval.{Interval, IsInterval, Token, IsToken, part, narrow}
use Rattle.av1_model.specs.Eighths.{log_digits, eighths}
use Rattle.av1_model.proofs.Tokens.{edges_within, narrow_valid}

-- the square of a range of 16 bits
pub square_wide : (r : ℕ) → 32768 ≤ r → 32768 ≤ r * r / 32768
square_wide r a = omega (arith, mul-le-mul {n₁ = 32768} {m₁ = 32768} {n₂ = r} {m₂ = r} a a)

pub square_few : (r : ℕ) → r < 65536 → r * r / 32768 < 131072
square_few r a = let b : r ≤ 65535 = omega arith in omega (arith, mul-le-mul {n₁ = r} {m₁ = r} {n₂ = 65535} {m₂ = 65535} b b)

pub squares : (r s : ℕ) → r ≤ s → r * r / 32768 ≤ s * s / 32768
squares r s h = omega (arith, mul-le-mul {n₁ = r} {m₁ = r} {n₂ = s} {m₂ = s} h h)

-- a digit of the logarithm
pub digits_low : (n r : ℕ) → r * r / 32768 < 65536 → log_digits (suc n) r ≡ log_digits n (r * r / 32768)
unfolding log_digits
digits_low n r h = simp (lt-ltb (r * r / 32768) 65536 h) refl

pub digits_high : (n r : ℕ) → 65536 ≤ r * r / 32768 → log_digits (suc n) r ≡ 2 ^ n + log_digits n (r * r / 32768 / 2)
unfolding log_digits
digits_high n r h = simp (le-ltb (r * r / 32768) 65536 h) refl

digits_none : (r : ℕ) → log_digits 0 r ≡ 0
unfolding log_digits
digits_none r = refl

pub log_below : (n r : ℕ) → log_digits n r < 2 ^ n
log_below zero r = omega (arith, digits_none r)
log_below (suc n) r =
    elim (cases_lt (r * r / 32768) 65536) [
      | inl l ↦ omega (arith, digits_low n r l, log_below n (r * r / 32768), pow-suc 2 n)
      | inr l ↦ omega (arith, digits_high n r l, log_below n (r * r / 32768 / 2), pow-suc 2 n)
    ]

-- a wider range has no smaller logarithm
pub log_rises : (n r s : ℕ) → 32768 ≤ r → r ≤ s → s < 65536 → log_digits n r ≤ log_digits n s
log_rises zero r s a h b = omega (arith, digits_none r)
log_rises (suc n) r s a h b =
    elim (cases_lt (r * r / 32768) 65536) [
      | inl l ↦ elim (cases_lt (s * s / 32768) 65536) [
        | inl m ↦ omega (arith, digits_low n r l, digits_low n s m, log_rises n (r * r / 32768) (s * s / 32768) (square_wide r a) (squares r s h) m)
        | inr m ↦ omega (arith, digits_low n r l, digits_high n s m, log_below n (r * r / 32768))
      ]
      | inr l ↦
          let m : 65536 ≤ s * s / 32768 = omega (arith, l, squares r s h) in
          omega (arith, digits_high n r l, digits_high n s m, log_rises n (r * r / 32768 / 2) (s * s / 32768 / 2) (omega (arith, l)) (omega (arith, squares r s h)) (omega (arith, square_few s b)))
    ]

-- a symbol's part costs no less than the interval
pub eighths_rise : (i : Interval) (t : Token) → IsInterval i → IsToken t → eighths i ≤ eighths (narrow i t)
eighths_rise i t v w =
    let p = part i t in
    let d = leading_zeros w16 p.range in
    elim (cases_lt 0 d) [
      | inl l ↦ omega (arith, log_below 3 (narrow i t).range, l)
      | inr l ↦
          let z : d ≡ 0 = omega (arith, l) in
          let same : (narrow i t).range ≡ p.range = ap (λ k. p.range * 2 ^ k) z ∙ omega arith in
          let n = narrow_valid i t v w in
          omega (arith, log_rises 3 (narrow i t).range i.range n.wide (omega (arith, same, edges_within i.range t v.wide v.below w)) v.below)
    ]

-- a digit as shifts find it: the square's top bit, by which the square is shifted
pub log_step : (n r : ℕ) → r < 65536 → let q = r * r / 32768 in log_digits (suc n) r ≡ q / 65536 * 2 ^ n + log_digits n (q / 2 ^ (q / 65536))
log_step n r b =
    let q = r * r / 32768 in
    elim (cases_lt q 65536) [
      | inl l ↦
          let z : q / 65536 ≡ 0 = omega (arith, l) in
          let e : q / 2 ^ 0 ≡ q = omega arith in
          digits_low n r l ∙ rw (z, e) (omega arith)
      | inr l ↦
          let z : q / 65536 ≡ 1 = omega (arith, l, square_few r b) in
          digits_high n r l ∙ rw z (omega arith)
    ]
