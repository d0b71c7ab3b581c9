-- Levels that are put into coefficients one by one, in the order of a scan.
use Rattle.std.proofs.Common.{◌≡◌, ℕ, zero, suc, ◌+◌, ◌<◌, ◌≤◌, List, [], ◌∷◌, Bool, true, false, ◌||◌, nat_eq, length, replicate, take, drop, set, slice_index, refl, sym, ap, subst, ◌∙◌, arith, inl, inr, ℤ, pos, negsuc, unsigned_abs, ◌^◌, w32, to_z, of_z}
use mir.Val.{SFits}
use Rattle.std.proofs.lemmas.Int.{to_z-of_z}
use Rattle.std.proofs.lemmas.Bool.{cases_lt}
use Rattle.std.proofs.lemmas.Bool.Decides.{nat_tests}
use Rattle.std.proofs.lemmas.List.{drop_more, length-map, length-take-le, get_or-map, get_or-take, get_or-set_same, get_or-set_other, ext_get_or}
use Rattle.av1_coef.specs.Contexts.{coded_area}
use Rattle.av1_coef.specs.Scans.{is_in, each_once, all_there, IsScan}
use Rattle.av1_coef.proofs.Causal.{scan_keeps, scan_inside}
use Rattle.av1_coef.proofs.Tests.{both, either, false_true}
use Rattle.av1_geometry.specs.declared.tx_size.TxSize.{TxSize}
use Rattle.av1_geometry.specs.declared.tx_type.TxClass.{TxClass}
use Rattle.av1_syntax.specs.Coefficients.{value_at, levels_at, AreCoded, AreLevels}
use Rattle.av1_syntax.specs.Levels.{level_at}
use Rattle.av1_syntax.proofs.CoeffKnown.{in_take, not_before, scan_long}

member : (xs : List ℕ) (k i : ℕ) → k < i → k < length xs → is_in (take i xs) (slice_index xs k) ≡ true
member xs k zero l m = absurd (omega (arith, l))
member [] k (suc i) l m = absurd (omega (arith, m))
member (x ∷ xs) zero (suc i) l m = let e : nat_eq x x ≡ true = grind (arith, nat_tests) in ap (λ b. b || is_in (take i xs) x) e
member (x ∷ xs) (suc k) (suc i) l m =
    let r = member xs k i (omega (arith, l)) (omega (arith, m)) in
    elim (either (nat_eq x (slice_index xs k))) [ inl e ↦ ap (λ b. b || is_in (take i xs) (slice_index xs k)) e | inr e ↦ ap (λ b. b || is_in (take i xs) (slice_index xs k)) e ∙ r ]

last_false : (a b : Bool) → (a || (b || false)) ≡ false → (a ≡ false) × (b ≡ false)
last_false true b h = absurd cc
last_false false true h = absurd cc
last_false false false h = (refl, refl)

-- the first so many levels are put
pub record ArePut (scan : List ℕ) (levels : List ℤ) (i : ℕ) (values : List ℤ) : Type 0 where
  pub put : (k : ℕ) → k < i → value_at values (slice_index scan k) ≡ level_at levels k
  pub none : (q : ℕ) → is_in (take i scan) q ≡ false → value_at values q ≡ pos 0

module _ (size : TxSize) (class : TxClass) (scan : List ℕ) (order : IsScan size class scan) (levels values : List ℤ) where
  pub put_none : ((q : ℕ) → value_at values q ≡ pos 0) → ArePut scan levels 0 values
  put_none z = record { put = λ k l. absurd (omega (arith, l)); none = λ q h. z q }

  module _ (i : ℕ) (within : i < length scan) (room : coded_area size ≤ length values) (are : ArePut scan levels i values) (v : ℤ) (is : v ≡ level_at levels i) where
    abbrev p : ℕ
    p = slice_index scan i

    in_area : p < coded_area size
    in_area = scan_inside size class scan i order within

    here : is_in (take i scan) p ≡ false
    here =
        let more = drop_more scan i 0 within in
        let first : is_in (p ∷ drop (i + 1) scan) p ≡ true = let e : nat_eq p p ≡ true = grind (arith, nat_tests) in ap (λ b. b || is_in (drop (i + 1) scan) p) e in
        not_before (coded_area size) scan i p (both (each_once (coded_area size) scan) (all_there (coded_area size) scan) (scan_keeps size class scan order).0).0 (ap (λ (l : List ℕ). is_in l p) more ∙ first)

    put_other : (q : ℕ) → (q ≡ p → ⊥) → value_at (set values p v) q ≡ value_at values q
    put_other q n = get_or-set_other values p q v (pos 0) n

    put_same : value_at (set values p v) p ≡ level_at levels i
    put_same = get_or-set_same values p v (pos 0) (omega (arith, in_area, room)) ∙ is

    none_next : (q : ℕ) → is_in (take (i + 1) scan) q ≡ false → (is_in (take i scan) q ≡ false) × (nat_eq p q ≡ false)
    none_next q h =
        let more : take 1 (drop i scan) ≡ p ∷ [] = ap (take 1) (drop_more scan i 0 within) in
        last_false (is_in (take i scan) q) (nat_eq p q) (ap (λ (l : List ℕ). is_in (take i scan) q || is_in l q) (sym more) ∙ sym (in_take scan i 1 q) ∙ h)

    pub put_more : ArePut scan levels (i + 1) (set values p v)
    put_more = record {
      put = λ k l. elim (cases_lt k i) [
        | inl m ↦
            put_other (slice_index scan k) (λ e. false_true (ap (is_in (take i scan)) e ∙ here) (member scan k i m (omega (arith, m, within)))) ∙ are.put k m
        | inr m ↦
            let e : i ≡ k = omega (arith, l, m) in
            subst (λ (k : ℕ). value_at (set values p v) (slice_index scan k) ≡ level_at levels k) e put_same
      ];
      none = λ q h.
          let n = none_next q h in
          put_other q (λ e. false_true n.1 (let s : nat_eq p q ≡ true = grind (arith, nat_tests, e) in s)) ∙ are.none q n.0;
    }

  -- the levels at the first positions of the scan are those that are put
  pub levels_put : AreLevels (coded_area size) levels → ArePut scan levels (length levels) values → levels_at values scan (length levels) ≡ levels
  levels_put are put =
      let n = length levels in
      let long : n ≤ length scan = (let s = scan_long size class scan order in let f = are.few in omega (arith, s, f)) in
      let taken = length-take-le n scan long in
      let all = length-map (take n scan) (value_at values) in
      ext_get_or (pos 0) (levels_at values scan n) levels (omega (arith, all, taken))
      (λ k l. let m : k < n = omega (arith, l, all, taken) in get_or-map (value_at values) (take n scan) k 0 (pos 0) (omega (arith, m, taken)) ∙ ap (value_at values) (get_or-take n scan k 0 m) ∙ put.put k m)

  -- all levels are put
  pub put_all : coded_area size ≤ length values → AreLevels (coded_area size) levels → ArePut scan levels (length levels) values → AreCoded size class scan (length levels) values
  put_all room are put =
      record { order = order; area = room; few = are.few; levels = subst (AreLevels (coded_area size)) (sym (levels_put are put)) are; none = put.none }

-- a level as the code passes it on
pub level_back : (levels : List ℤ) (i : ℕ) → unsigned_abs (level_at levels i) < 2 ^ 20 → to_z w32 (of_z w32 (level_at levels i)) ≡ level_at levels i
level_back levels i h = to_z-of_z w32 (level_at levels i) (fits (level_at levels i) h)
  where
    fits : (v : ℤ) → unsigned_abs v < 2 ^ 20 → SFits w32 v
    fits (pos n) h = record { sfits = omega (arith, h) }
    fits (negsuc n) h = record { sfits = omega (arith, h) }

-- one more level is small
pub small_more : (levels : List ℤ) (i : ℕ) → ((k : ℕ) → k < i → unsigned_abs (level_at levels k) < 2 ^ 20) → unsigned_abs (level_at levels i) < 2 ^ 20 → (k : ℕ) → k < i + 1 → unsigned_abs (level_at levels k) < 2 ^ 20
small_more levels i few h k l = elim (cases_lt k i) [
  | inl m ↦ few k m
  | inr m ↦ let e : i ≡ k = omega (arith, l, m) in subst (λ (k : ℕ). unsigned_abs (level_at levels k) < 2 ^ 20) e h
]

pub some_level : (v : ℤ) → (v ≡ pos 0 → ⊥) → 1 ≤ unsigned_abs v
some_level (pos zero) n = absurd (n refl)
some_level (pos (suc k)) n = omega arith
some_level (negsuc k) n = omega arith

-- new coefficients
pub zero_at : (n p : ℕ) → value_at (replicate n (pos 0)) p ≡ pos 0
zero_at zero p = refl
zero_at (suc n) zero = refl
zero_at (suc n) (suc p) = zero_at n p
