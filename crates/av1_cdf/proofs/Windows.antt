-- The window of a CDF lies in a region of the layout with CDFs of its kind alone.
use Rattle.std.proofs.Common.{◌≡◌, ℕ, ◌+◌, ◌-◌, ◌*◌, ◌/◌, ◌<◌, ◌≤◌, List, [], ◌∷◌, true, false, ◌&&◌, ◌⊎◌, inl, inr, nat_eq, nat_lt, nat_le, cond, IsTrue, eqb-true, refl, sym, ap, ◌∙◌, arith}
use Rattle.std.proofs.lemmas.Bool.Decides.{nat_tests}
use Rattle.std.proofs.Math.Nat.{div-lt_iff_lt-mul}
use Rattle.std.specs.List.{list_all}
use Rattle.av1_cdf.specs.Layout.{Field, Slot, layout, count_in, length_in, cell_among, cell, is_slot}
use Rattle.av1_cdf.specs.Windows.{is_short, short_windows, long_windows, windows_fit}
use Rattle.av1_cdf.proofs.Cells.{both_true, either_true, is_le, is_lt, lt_is, lt_not, lt_or_not, le_is, within}

-- what lies between two windows of a region lies in it
short_between : (a b p : ℕ) → a ≤ p → p ≤ b → IsTrue (short_windows a b) → IsTrue (short_windows p p)
short_between a b p u v h = grind (arith, nat_tests)

long_between : (a b p : ℕ) → a ≤ p → p ≤ b → IsTrue (long_windows a b) → IsTrue (long_windows p p)
long_between a b p u v h = grind (arith, nat_tests)

le_not : (a b : ℕ) → b < a → nat_le a b ≡ false
le_not a b h = grind (arith, nat_tests)

-- the CDF number q of c that have n numbers each, and begin at a
last_one : (a c n q p : ℕ) → q < c → 0 < n → a + q * n ≡ p → (a ≤ p) × (p ≤ a + c * n - n)
last_one a c n q p h s e =
    let w = within q c n (n - 1) h (omega arith) in
    (omega (arith, e), omega (arith, e, w))

windows_among : (fs : List Field) (p l : ℕ) → IsTrue (list_all windows_fit fs) → (cell_among fs p).place ≡ p → (cell_among fs p).len ≡ l → 2 ≤ l →
    (l ≤ 4 → IsTrue (short_windows p p)) × (4 < l → IsTrue (long_windows p p))
windows_among [] p l h a b t = absurd (omega (arith, b))
windows_among (f ∷ fs) p l h a b t =
    let n = length_in f.dimensions in
    let c = count_in f.dimensions in
    let z = f.place + c * n in
    let first = f.place in
    let last = f.place + c * n - n in
    let all = both_true (windows_fit f) (list_all windows_fit fs) h in
    elim (lt_or_not p z) [
      | inl w ↦
          let y : nat_lt p z ≡ true = lt_is p z w in
          let q = (p - f.place) / n in
          let here : cell_among (f ∷ fs) p ≡ record { place = f.place + q * n; len = n } = ap (λ b. cond b (record { place = f.place + q * n; len = n }) (cell_among fs p)) y in
          let e : f.place + q * n ≡ p = sym (ap (λ (s : Slot). s.place) here) ∙ a in
          let g : n ≡ l = sym (ap (λ (s : Slot). s.len) here) ∙ b in
          let some : 0 < n = omega (arith, g, t) in
          let o : q < c = (div-lt_iff_lt-mul some).1 (omega (arith, w, e)) in
          let at = last_one f.place c n q p o some e in
          elim (either_true (nat_lt n 2) _ all.0) [
            | inl u ↦ absurd (omega (arith, is_lt n 2 u, g, t))
            | inr u ↦ (
              λ k. short_between first last p at.0 at.1 (ap (λ b. cond b (short_windows first last) (long_windows first last)) (sym (le_is n 4 (omega (arith, g, k)))) ∙ u),
              λ k. long_between first last p at.0 at.1 (ap (λ b. cond b (short_windows first last) (long_windows first last)) (sym (le_not n 4 (omega (arith, g, k)))) ∙ u),
            )
          ]
      | inr w ↦
          let y : nat_lt p z ≡ false = lt_not p z w in
          let there : cell_among (f ∷ fs) p ≡ cell_among fs p = ap (λ b. cond b (record { place = f.place + (p - f.place) / n * n; len = n }) (cell_among fs p)) y in
          windows_among fs p l all.1 (sym (ap (λ (s : Slot). s.place) there) ∙ a) (sym (ap (λ (s : Slot). s.len) there) ∙ b) t
    ]

all_windows_fit : IsTrue (list_all windows_fit layout)
unfolding layout
all_windows_fit = refl

-- one check for each field: the window of a CDF lies in a region of its kind
pub slot_windows : (p l : ℕ) → IsTrue (is_slot p l) → (l ≤ 4 → IsTrue (short_windows p p)) × (4 < l → IsTrue (long_windows p p))
unfolding is_slot cell
slot_windows p l h =
    let a = both_true (nat_le 2 l && nat_eq (cell p).place p) _ h in
    let b = both_true (nat_le 2 l) (nat_eq (cell p).place p) a.0 in
    windows_among layout p l all_windows_fit (eqb-true _ p b.1) (eqb-true _ l a.1) (is_le 2 l b.0)

pub short_fits : (p : ℕ) → IsTrue (short_windows p p) → p + 4 ≤ 5528
short_fits p h = grind (arith, nat_tests)

pub long_fits : (p : ℕ) → IsTrue (long_windows p p) → p + 16 ≤ 5528
long_fits p h = grind (arith, nat_tests)

pub slot_keeps : (p l : ℕ) → IsTrue (is_slot p l) → (l ≤ 4 → p + 4 ≤ 5528) × (4 < l → p + 16 ≤ 5528)
slot_keeps p l h = let w = slot_windows p l h in (λ k. short_fits p (w.0 k), λ k. long_fits p (w.1 k))

-- each number of a window is of its kind
pub short_place : (p k : ℕ) → IsTrue (short_windows p p) → p ≤ k → k < p + 4 → is_short k ≡ true
short_place p k h u v = grind (arith, nat_tests)

pub long_place : (p k : ℕ) → IsTrue (long_windows p p) → p ≤ k → k < p + 16 → is_short k ≡ false
long_place p k h u v = grind (arith, nat_tests)

-- a window of one kind has no number of one of the other
pub windows_apart : (p q : ℕ) → IsTrue (short_windows p p) → IsTrue (long_windows q q) → (p + 4 ≤ q) ⊎ (q + 16 ≤ p)
windows_apart p q h k = grind (arith, nat_tests)
