-- An adapted distribution is valid, and is what code writes entry by entry.
use Rattle.std.proofs.Common.{◌≡◌, ℕ, ◌+◌, ◌-◌, ◌/◌, ◌^◌, ◌<◌, ◌≤◌, ap, sym, subst, ◌∙◌, arith, inl, inr, List, length, length-set, get_or}
use Rattle.std.proofs.lemmas.Nat.{div_below}
use Rattle.std.proofs.lemmas.Bool.{cases_lt}
use Rattle.std.proofs.lemmas.Bool.Decides.{nat_tests}
use Rattle.std.proofs.lemmas.List.{get_or-set_same, get_or-set_other}
use Rattle.std.proofs.lemmas.List.FromFn.{length-map-range_with_len, get_or-map-range_with_len, fill_by_all}
use Rattle.std.proofs.Math.Nat.{lt-div-mul-add, le-mul_of_pos_right, div-lt_self, pow-le-pow_right}
use Rattle.std.specs.Prelude.{slice_index, set, min}
use Rattle.av1_model.specs.Cdf.{IsCdf, rate, adapted, adapt}

-- a larger number loses no less
loses_less : (d a b : ℕ) → 0 < d → a ≤ b → a - a / d ≤ b - b / d
loses_less d a b p h =
    let c : b / d < a / d + (b - a) + 1 = div_below b d (a / d + (b - a) + 1) p (omega (arith, lt-div-mul-add {a = a} {b = d} p, le-mul_of_pos_right (b - a) p)) in
    omega arith

gains_below : (d v : ℕ) → 2 ≤ d → v < 32768 → v + (32768 - v) / d < 32768
gains_below d v p h = omega (arith, div-lt_self {n = 32768 - v} {k = d} (omega arith) p)

gains_less : (d a b : ℕ) → 0 < d → a ≤ b → b < 32768 → a + (32768 - a) / d ≤ b + (32768 - b) / d
gains_less d a b p h l = omega (arith, loses_less d (32768 - b) (32768 - a) p (omega arith))

rate_two : (cdf : List ℕ) → 2 ≤ 2 ^ rate cdf
rate_two cdf = pow-le-pow_right {n = 2} (omega arith) {i = 1} {j = rate cdf} (omega arith)

adapted_below : (cdf : List ℕ) (s k : ℕ) → IsCdf cdf → k + 1 < length cdf → adapted cdf s k < 32768
adapted_below cdf s k v h = let r : 2 ≤ 2 ^ rate cdf = rate_two cdf in grind (arith, nat_tests, gains_below)

adapted_falls : (cdf : List ℕ) (s j k : ℕ) → IsCdf cdf → j ≤ k → k + 1 < length cdf → adapted cdf s k ≤ adapted cdf s j
adapted_falls cdf s j k v a h = let r : 2 ≤ 2 ^ rate cdf = rate_two cdf in grind (arith, nat_tests, gains_less, loses_less)

adapted_count : (cdf : List ℕ) (s k : ℕ) → k + 1 ≡ length cdf → adapted cdf s k ≤ 32
adapted_count cdf s k h = grind (arith, nat_tests)

pub length-adapt : (cdf : List ℕ) (s : ℕ) → length (adapt cdf s) ≡ length cdf
length-adapt cdf s = length-map-range_with_len (adapted cdf s) 0 (length cdf)

pub adapt_at : (cdf : List ℕ) (s k : ℕ) → k < length cdf → slice_index (adapt cdf s) k ≡ adapted cdf s k
adapt_at cdf s k h = get_or-map-range_with_len (adapted cdf s) 0 (length cdf) k k 0 h (omega arith)

-- a valid distribution stays valid
pub adapt_valid : (cdf : List ℕ) (s : ℕ) → IsCdf cdf → IsCdf (adapt cdf s)
adapt_valid cdf s v =
    let n : length (adapt cdf s) ≡ length cdf = length-adapt cdf s in
    record {
      two = omega (arith, v.two);
      few = omega (arith, v.few);
      below = λ k h. omega (arith, adapt_at cdf s k (omega arith), adapted_below cdf s k v (omega arith));
      falls = λ j k a h. omega (arith, adapt_at cdf s k (omega arith), adapt_at cdf s j (omega arith), adapted_falls cdf s j k v a (omega arith));
      count = subst (λ m. slice_index (adapt cdf s) (m - 1) ≤ 32) (sym n) (omega (arith, v.two, adapt_at cdf s (length cdf - 1) (omega (arith, v.two)), adapted_count cdf s (length cdf - 1) (omega (arith, v.two))));
    }

count_written : (cdf : List ℕ) (s : ℕ) → IsCdf cdf → let c = slice_index cdf (length cdf - 1) in adapted cdf s (length cdf - 1) ≡ c + 1 - c / 32
count_written cdf s v = let t = v.two in let l = v.count in grind (arith, nat_tests)

-- entries that are written one by one, and then the count
pub adapt_written : (cdf xs : List ℕ) (s : ℕ) → IsCdf cdf → length xs ≡ length cdf → ((k : ℕ) → k + 1 < length cdf → slice_index xs k ≡ adapted cdf s k) →
    let c = slice_index cdf (length cdf - 1) in set xs (length cdf - 1) (c + 1 - c / 32) ≡ adapt cdf s
adapt_written cdf xs s v n h =
    let c = slice_index cdf (length cdf - 1) in
    fill_by_all (adapted cdf s) (set xs (length cdf - 1) (c + 1 - c / 32)) (length cdf) 0 (length-set xs (length cdf - 1) (c + 1 - c / 32) ∙ n)
    (λ k l. elim (cases_lt (k + 1) (length cdf)) [
      | inl a ↦ get_or-set_other xs (length cdf - 1) k (c + 1 - c / 32) 0 (λ e. omega arith) ∙ h k a
      | inr a ↦
          let e : length cdf - 1 ≡ k = omega arith in
          ap (λ j. get_or (set xs (length cdf - 1) (c + 1 - c / 32)) j 0) (sym e) ∙ get_or-set_same xs (length cdf - 1) (c + 1 - c / 32) 0 (omega arith)
          ∙ sym (ap (adapted cdf s) (sym e) ∙ count_written cdf s v)
    ])

-- numbers before the symbol don't fall
pub adapt_before : (cdf : List ℕ) (s k : ℕ) → k + 1 < length cdf → k < s → slice_index cdf k ≤ slice_index (adapt cdf s) k
adapt_before cdf s k h a = let e : slice_index (adapt cdf s) k ≡ adapted cdf s k = adapt_at cdf s k (omega arith) in grind (arith, nat_tests)

-- and the others don't rise
pub adapt_after : (cdf : List ℕ) (s k : ℕ) → k + 1 < length cdf → s ≤ k → slice_index (adapt cdf s) k ≤ slice_index cdf k
adapt_after cdf s k h a = let e : slice_index (adapt cdf s) k ≡ adapted cdf s k = adapt_at cdf s k (omega arith) in grind (arith, nat_tests)

pub adapt_count : (cdf : List ℕ) (s : ℕ) → IsCdf cdf → slice_index (adapt cdf s) (length cdf - 1) ≡ min (slice_index cdf (length cdf - 1) + 1) 32
adapt_count cdf s v = let t = v.two in let e : slice_index (adapt cdf s) (length cdf - 1) ≡ adapted cdf s (length cdf - 1) = adapt_at cdf s (length cdf - 1) (omega arith) in grind (arith, nat_tests)
