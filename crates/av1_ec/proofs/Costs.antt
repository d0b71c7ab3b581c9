-- What a symbol costs, in eighths of a bit.
use Rattle.std.proofs.Common.{◌≡◌, ℕ, ◌+◌, ◌-◌, ◌*◌, ◌/◌, ◌%◌, ◌^◌, ◌<◌, ◌≤◌, ap, subst, sym, ◌∙◌, arith, inl, inr}
use Rattle.std.proofs.Math.Nat.{mod-eq_of_lt}
use Rattle.std.proofs.lemmas.Bool.{cases_lt}
use Rattle.std.specs.Int.{leading_zeros, w16}
use Rattle.av1_model.specs.Interval.{Interval, IsInterval, Token, IsToken, top, bottom, narrow}
use Rattle.av1_model.specs.Eighths.{log_digits, eighths}
use Rattle.av1_model.proofs.Costs.{eighths_rise, log_below, log_step, square_wide, square_few}
use Rattle.av1_model.proofs.Tokens.{narrow_valid}
use Rattle.av1_ec.proofs.Encoding.{doublings_fit}

-- the range that has the digits after the first
pub digit_least : (r : ℕ) → 32768 ≤ r → r < 65536 → let q = r * r / 32768 in 32768 ≤ q / 2 ^ (q / 65536)
digit_least r a b =
    let q = r * r / 32768 in
    elim (cases_lt q 65536) [
      | inl l ↦
          let z : q / 65536 ≡ 0 = omega (arith, l) in
          rw z (omega (arith, square_wide r a))
      | inr l ↦
          let z : q / 65536 ≡ 1 = omega (arith, l, square_few r b) in
          rw z (omega (arith, l))
    ]

pub digits_after : (n r : ℕ) → r < 65536 → let q = r * r / 32768 in log_digits (n + 1) r ≡ q / 65536 * 2 ^ n + log_digits n (q / 2 ^ (q / 65536))
digits_after n r b = ap (λ k. log_digits k r) {x = n + 1} (omega arith) ∙ log_step n r b

-- a symbol's width, the doublings that bring it to 16 bits, and its cost
pub record Cost (t : Token) (rng width d : ℕ) : Type 0 where
  pub few : d ≤ 13
  pub wide : 32768 ≤ width * 2 ^ d % 65536
  pub rises : log_digits 3 (width * 2 ^ d % 65536) ≤ 8 * d + log_digits 3 rng
  pub cost : (i : Interval) → i.range ≡ rng → eighths i + (8 * d + log_digits 3 rng - log_digits 3 (width * 2 ^ d % 65536)) ≡ eighths (narrow i t)

-- what a range of 16 bits becomes by a token
narrowed : Token → ℕ → ℕ
narrowed t r = let w = top r t - bottom r t in w * 2 ^ leading_zeros w16 w

rise : (d from log log' : ℕ) → log' ≡ log → from < 8 → log < 8 → 8 * (1 + 1) - from ≤ 8 * ((1 + d) + 1) - log → log' ≤ 8 * d + from
rise d from log log' l a b h = omega (arith, l, a, b, h)

growth : (shift to d from log log' : ℕ) → to ≡ shift + d → log' ≡ log → from < 8 → log' ≤ 8 * d + from → (8 * (shift + 1) - from) + (8 * d + from - log') ≡ 8 * (to + 1) - log
growth shift to d from log log' s l a h = omega (arith, s, l, a, h)

pub cost_of : (t : Token) (rng width : ℕ) → 32768 ≤ rng → rng < 65536 → IsToken t → width ≡ top rng t - bottom rng t → Cost t rng width (leading_zeros w16 width)
unfolding narrowed
cost_of t rng width a b v w =
    let first : Interval = record { low = 0; range = rng; shift = 1 } in
    let h : IsInterval first = record { wide = a; below = b; inside = omega (arith, b) } in
    let d = leading_zeros w16 width in
    let q = narrow_valid first t h v in
    let e : d ≡ leading_zeros w16 (top rng t - bottom rng t) = ap (leading_zeros w16) w in
    let m : width * 2 ^ d % 65536 ≡ narrowed t rng = (λ k. w k * 2 ^ e k % 65536) ∙ mod-eq_of_lt q.below in
    let l : log_digits 3 (width * 2 ^ d % 65536) ≡ log_digits 3 (narrowed t rng) = ap (log_digits 3) m in
    let g = eighths_rise first t h v in
    let r = rise d (log_digits 3 rng) (log_digits 3 (narrowed t rng)) _ l (log_below 3 rng) (log_below 3 (narrowed t rng)) (rw e g) in
    record {
      few = doublings_fit rng width t a b v w;
      wide = subst (λ x. 32768 ≤ x) (sym m) q.wide;
      rises = r;
      cost = λ i f. let s : (narrow i t).shift ≡ i.shift + d = (λ k. i.shift + leading_zeros w16 (top (f k) t - bottom (f k) t)) ∙ ap (λ k. i.shift + k) (sym e) in
          subst (λ x. (8 * (i.shift + 1) - log_digits 3 x) + (8 * d + log_digits 3 rng - log_digits 3 (width * 2 ^ d % 65536)) ≡ 8 * ((narrow i t).shift + 1) - log_digits 3 (narrowed t x)) (sym f)
          (growth i.shift (narrow i t).shift d (log_digits 3 rng) (log_digits 3 (narrowed t rng)) _ s l (log_below 3 rng) r);
    }
