-- A test of every place of a context.
use Rattle.std.proofs.Common.{◌≡◌, ℕ, zero, suc, ◌+◌, ◌<◌, ◌≤◌, ◌⊎◌, inl, inr, Bool, true, false, ◌&&◌, refl, sym, subst, arith}
use Rattle.std.specs.List.{list_all, range_with_len}
use Rattle.std.proofs.lemmas.Bool.Decides.{nat_tests, leb_tells, eqb_tells}
use Rattle.av1_cdf.proofs.Cells.{both_true}

all_from : (p : ℕ → Bool) (a n : ℕ) → ((k : ℕ) → a ≤ k → k < a + n → p k ≡ true) → list_all p (range_with_len a n) ≡ true
all_from p a zero h = refl
all_from p a (suc n) h =
    let e : p a ≡ true = h a (omega arith) (omega arith) in
    let r = all_from p (a + 1) n (λ k u v. h k (omega arith) (omega arith)) in
    λ i. e i && r i

same_or_above : (a k : ℕ) → a ≤ k → (a ≡ k) ⊎ (a + 1 ≤ k)
same_or_above a k u = grind (arith, nat_tests, leb_tells, eqb_tells a k)

at_from : (p : ℕ → Bool) (a n : ℕ) → list_all p (range_with_len a n) ≡ true → (k : ℕ) → a ≤ k → k < a + n → p k ≡ true
at_from p a zero h k u v = absurd (omega arith)
at_from p a (suc n) h k u v =
    let b = both_true (p a) (list_all p (range_with_len (a + 1) n)) h in
    elim (same_or_above a k u) [
      | inl e ↦ subst (λ j. p j ≡ true) e b.0
      | inr w ↦ at_from p (a + 1) n b.1 k w (omega arith)
    ]

-- where it holds everywhere
pub all_hold : (p : ℕ → Bool) (n : ℕ) → ((k : ℕ) → k < n → p k ≡ true) → true ≡ list_all p (range_with_len 0 n)
all_hold p n h = sym (all_from p 0 n (λ k u v. h k (omega arith)))

-- what it says of each place
pub holds_at : (p : ℕ → Bool) (n : ℕ) → list_all p (range_with_len 0 n) ≡ true → (k : ℕ) → k < n → p k ≡ true
holds_at p n h k l = at_from p 0 n h k (omega arith) (omega arith)

by_value : (b : Bool) → (b ≡ true → ⊥) → false ≡ b
by_value true h = absurd (h refl)
by_value false h = refl

-- where it fails at one place
pub one_fails : (p : ℕ → Bool) (n k : ℕ) → k < n → p k ≡ false → false ≡ list_all p (range_with_len 0 n)
one_fails p n k l e = by_value (list_all p (range_with_len 0 n)) (λ h. let t = holds_at p n h k l in cc)
