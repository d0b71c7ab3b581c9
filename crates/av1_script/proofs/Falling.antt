-- Numbers that fall.
use Rattle.std.proofs.Common.{ℕ, ◌+◌, ◌<◌, ◌≤◌, List, slice_index, arith, inl, inr, subst, sym, ◌≡◌, refl}
use Rattle.std.proofs.lemmas.Bool.{cases_lt}

-- the least of the first n numbers, or 32767 where n is 0
pub record FallsTo (cdf : List ℕ) (n least : ℕ) : Type 0 where
  pub small : least < 32768
  pub below : (k : ℕ) → k < n → slice_index cdf k < 32768
  pub above : (k : ℕ) → k < n → least ≤ slice_index cdf k
  pub falls : (j k : ℕ) → j ≤ k → k < n → slice_index cdf k ≤ slice_index cdf j
  pub none : n ≡ 0 → least ≡ 32767
  pub last : (j : ℕ) → j + 1 ≡ n → least ≡ slice_index cdf j

pub falls_none : (cdf : List ℕ) → FallsTo cdf 0 32767
falls_none cdf = record {
  small = omega arith;
  below = λ k h. absurd (omega (arith, h));
  above = λ k h. absurd (omega (arith, h));
  falls = λ j k h l. absurd (omega (arith, l));
  none = λ _. refl;
  last = λ j h. absurd (omega (arith, h));
}

pub falls_more : (cdf : List ℕ) (n least : ℕ) → FallsTo cdf n least → slice_index cdf n ≤ least → FallsTo cdf (n + 1) (slice_index cdf n)
falls_more cdf n least f h =
    let last : (k : ℕ) → n ≤ k → k < n + 1 → k ≡ n = λ k a b. omega (arith, a, b) in
    record {
      small = omega (arith, h, f.small);
      below = λ k l. elim (cases_lt k n) [
        | inl m ↦ f.below k m
        | inr m ↦ subst (λ x. slice_index cdf x < 32768) (sym (last k m l)) (omega (arith, h, f.small))
      ];
      above = λ k l. elim (cases_lt k n) [
        | inl m ↦ omega (arith, h, f.above k m)
        | inr m ↦ subst (λ x. slice_index cdf n ≤ slice_index cdf x) (sym (last k m l)) (omega arith)
      ];
      falls = λ j k o l. elim (cases_lt k n) [
        | inl m ↦ f.falls j k o m
        | inr m ↦ subst (λ x. slice_index cdf x ≤ slice_index cdf j) (sym (last k m l)) (elim (cases_lt j n) [
          | inl i ↦ omega (arith, h, f.above j i)
          | inr i ↦ subst (λ x. slice_index cdf n ≤ slice_index cdf x) (sym (last j i (omega (arith, o, l)))) (omega arith)
        ])
      ];
      none = λ e. absurd (omega (arith, e));
      last = λ j e. let same : j ≡ n = omega (arith, e) in subst (λ x. slice_index cdf n ≡ slice_index cdf x) (sym same) refl;
    }
