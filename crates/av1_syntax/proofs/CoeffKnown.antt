-- What a writer has in its levels is what a reader knows of the places that come later.
use Rattle.std.proofs.Common.{◌≡◌, ℕ, zero, suc, ◌+◌, ◌-◌, ◌<◌, ◌≤◌, List, [], ◌∷◌, true, false, ◌&&◌, ◌||◌, not, nat_eq, nat_lt, if◌then◌else◌, min, map, take, drop, length, slice_index, refl, sym, ◌∙◌, ap, subst, arith, inl, inr, ℤ, pos, unsigned_abs}
use Rattle.std.proofs.lemmas.List.{drop-map, drop-take, length-map, length-take-le, get_or-map, get_or-take}
use Rattle.av1_coef.specs.Causal.{AlikeAfter}
use Rattle.av1_coef.specs.Contexts.{coded_area}
use Rattle.av1_coef.specs.Padded.{sizes_of}
use Rattle.av1_coef.specs.Scans.{is_in, each_once, all_there, IsScan}
use Rattle.av1_coef.proofs.Causal.{scan_keeps}
use Rattle.av1_coef.proofs.Tests.{both, either, same, not_true, or_assoc, false_true, eq_not}
use Rattle.av1_geometry.specs.declared.tx_size.TxSize.{TxSize}
use Rattle.av1_geometry.specs.declared.tx_type.TxClass.{TxClass}
use Rattle.av1_syntax.specs.Coefficients.{value_at, levels_at, placed, AreCoded}
use Rattle.av1_syntax.specs.Levels.{cut_level, level_at}
use Rattle.av1_syntax.proofs.LevelReads.{AreCounted}

-- a position that is among those whose sizes are known has its size
placed_in : (g : ℕ → ℕ) (m : ℕ) (ps : List ℕ) (q : ℕ) → is_in (take m ps) q ≡ true → placed ps (map g (take m ps)) q ≡ g q
placed_in g zero ps q h = absurd cc
placed_in g (suc m) [] q h = absurd cc
placed_in g (suc m) (p ∷ ps) q h = elim (either (nat_eq p q)) [
  | inl e ↦ rw e (ap g (same p q e))
  | inr e ↦ rw e (placed_in g m ps q (sym (ap (λ b. b || is_in (take m ps) q) e) ∙ h))
]

placed_out : (g : ℕ → ℕ) (m : ℕ) (ps : List ℕ) (q : ℕ) → is_in (take m ps) q ≡ false → placed ps (map g (take m ps)) q ≡ 0
placed_out g zero [] q h = refl
placed_out g zero (p ∷ ps) q h = refl
placed_out g (suc m) [] q h = refl
placed_out g (suc m) (p ∷ ps) q h = elim (either (nat_eq p q)) [
  | inl e ↦ absurd (false_true h (ap (λ b. b || is_in (take m ps) q) e))
  | inr e ↦ rw e (placed_out g m ps q (sym (ap (λ b. b || is_in (take m ps) q) e) ∙ h))
]

in_drop : (ps : List ℕ) (k q : ℕ) → is_in (drop k ps) q ≡ true → is_in ps q ≡ true
in_drop ps zero q h = h
in_drop [] (suc k) q h = h
in_drop (p ∷ ps) (suc k) q h = elim (either (nat_eq p q)) [ inl e ↦ ap (λ b. b || is_in ps q) e | inr e ↦ ap (λ b. b || is_in ps q) e ∙ in_drop ps k q h ]

-- a position that comes later does not come before
pub not_before : (area : ℕ) (scan : List ℕ) (k q : ℕ) → each_once area scan ≡ true → is_in (drop k scan) q ≡ true → is_in (take k scan) q ≡ false
not_before area scan zero q o h = refl
not_before area [] (suc k) q o h = refl
not_before area (p ∷ ps) (suc k) q o h =
    let b = both (nat_lt p area && not (is_in ps p)) (each_once area ps) o in
    elim (either (nat_eq p q)) [
      | inl e ↦ absurd (false_true (sym (ap (is_in ps) (same p q e)) ∙ not_true (is_in ps p) (both (nat_lt p area) (not (is_in ps p)) b.0).1) (in_drop ps k q h))
      | inr e ↦ rw e (not_before area ps k q b.1 h)
    ]

none_in : (m q : ℕ) → false ≡ is_in (take m []) q
none_in zero q = refl
none_in (suc m) q = refl

-- among the first positions: among the first k, or among those after them
pub in_take : (scan : List ℕ) (k m q : ℕ) → is_in (take (k + m) scan) q ≡ (is_in (take k scan) q || is_in (take m (drop k scan)) q)
in_take scan zero m q = ap (λ n. is_in (take n scan) q) (let e : 0 + m ≡ m = omega arith in e)
in_take [] (suc k) m q =
    let e : suc k + m ≡ suc (k + m) = omega arith in
    ap (λ n. is_in (take n []) q) e ∙ none_in m q
in_take (p ∷ ps) (suc k) m q =
    let e : suc k + m ≡ suc (k + m) = omega arith in
    ap (λ n. is_in (take n (p ∷ ps)) q) e ∙ ap (λ b. nat_eq p q || b) (in_take ps k m q) ∙ or_assoc (nat_eq p q) (is_in (take k ps) q) (is_in (take m (drop k ps)) q)

-- sizes by position, none past the first k + m positions: with those after the first k they are known at all later positions
known_later : (area : ℕ) (scan : List ℕ) (at : ℕ → ℕ) (k m : ℕ) → each_once area scan ≡ true → ((q : ℕ) → is_in (take (k + m) scan) q ≡ false → at q ≡ 0) →
    (q : ℕ) → is_in (drop k scan) q ≡ true → at q ≡ placed (drop k scan) (map at (take m (drop k scan))) q
known_later area scan at k m o none q later = elim (either (is_in (take m (drop k scan)) q)) [
  | inl e ↦ sym (placed_in at m (drop k scan) q e)
  | inr e ↦ none q (in_take scan k m q ∙ ap (λ b. b || is_in (take m (drop k scan)) q) (not_before area scan k q o later) ∙ e) ∙ sym (placed_out at m (drop k scan) q e)
]

map_both : (f : ℤ → ℕ) (g : ℕ → ℤ) (xs : List ℕ) → map f (map g xs) ≡ map (λ x. f (g x)) xs
map_both f g [] = refl
map_both f g (x ∷ xs) = ap (λ l. f (g x) ∷ l) (map_both f g xs)

-- the sizes at the places from c + 1 on
cuts_later : (values : List ℤ) (scan : List ℕ) (k m : ℕ) → drop k (map cut_level (levels_at values scan (k + m))) ≡ map (λ p. cut_level (value_at values p)) (take m (drop k scan))
cuts_later values scan k m =
    ap (drop k) (map_both cut_level (value_at values) (take (k + m) scan)) ∙ drop-map (λ p. cut_level (value_at values p)) k (take (k + m) scan) ∙ ap (map (λ p. cut_level (value_at values p))) (drop-take k m scan)

-- the size of a coefficient
sizes_at : {T : Type 0} (value : T → ℤ) (coeffs : List T) (p : ℕ) → slice_index (sizes_of value coeffs) p ≡ unsigned_abs (value_at (map value coeffs) p)
sizes_at value [] p = refl
sizes_at value (x ∷ xs) zero = refl
sizes_at value (x ∷ xs) (suc p) = sizes_at value xs p

zero_cut : (v : ℤ) → v ≡ pos 0 → cut_level v ≡ 0
zero_cut v e = ap cut_level e

-- the first occurrence of a position taken out
without : ℕ → List ℕ → List ℕ
without p [] = []
without p (q ∷ qs) = if nat_eq q p then qs else q ∷ without p qs

length-without : (p : ℕ) (qs : List ℕ) → is_in qs p ≡ true → suc (length (without p qs)) ≡ length qs
unfolding without
length-without p [] h = absurd cc
length-without p (q ∷ qs) h = elim (either (nat_eq q p)) [
  | inl e ↦ rw e refl
  | inr e ↦ rw e (ap suc (length-without p qs (sym (ap (λ b. b || is_in qs p) e) ∙ h)))
]

still_in : (p r : ℕ) (qs : List ℕ) → (p ≡ r → ⊥) → is_in qs r ≡ true → is_in (without p qs) r ≡ true
unfolding without
still_in p r [] n h = absurd cc
still_in p r (q ∷ qs) n h = elim (either (nat_eq q p)) [
  | inl e ↦ rw e (sym (ap (λ b. b || is_in qs r) (eq_not q r (λ f. n (sym (same q p e) ∙ f)))) ∙ h)
  | inr e ↦ rw e (elim (either (nat_eq q r)) [
    | inl f ↦ rw f refl
    | inr f ↦ rw f (still_in p r qs n (sym (ap (λ b. b || is_in qs r) f) ∙ h))
  ])
]

all_without : (n m : ℕ) (qs : List ℕ) → m ≤ n → all_there m qs ≡ true → all_there m (without n qs) ≡ true
all_without n zero qs l h = refl
all_without n (suc m) qs l h =
    let b = both (is_in qs m) (all_there m qs) h in
    let i = still_in n m qs (λ e. omega (arith, e, l)) b.0 in
    let r = all_without n m qs (omega (arith, l)) b.1 in
    rw (i, r) refl

-- a list that has all positions below n has at least n
pub long_all : (n : ℕ) (qs : List ℕ) → all_there n qs ≡ true → n ≤ length qs
long_all zero qs h = omega arith
long_all (suc n) qs h =
    let b = both (is_in qs n) (all_there n qs) h in
    let r = long_all n (without n qs) (all_without n n qs (omega arith) b.1) in
    let e = length-without n qs b.0 in
    omega (arith, r, e)

pub scan_long : (size : TxSize) (class : TxClass) (scan : List ℕ) → IsScan size class scan → coded_area size ≤ length scan
scan_long size class scan h =
    long_all (coded_area size) scan (both (each_once (coded_area size) scan) (all_there (coded_area size) scan) (scan_keeps size class scan h).0).1

module _ (size : TxSize) (class : TxClass) (scan : List ℕ) (n : ℕ) (values : List ℤ) (are : AreCoded size class scan n values) where
  once : each_once (coded_area size) scan ≡ true
  once = (both (each_once (coded_area size) scan) (all_there (coded_area size) scan) (scan_keeps size class scan are.order).0).0

  pub long : n ≤ length scan
  long = let l = scan_long size class scan are.order in let f = are.few in omega (arith, l, f)

  pub length_levels : length (levels_at values scan n) ≡ n
  length_levels = length-map (take n scan) (value_at values) ∙ length-take-le n scan long

  pub counted : AreCounted n (levels_at values scan n)
  counted =
      let e = length_levels in
      record {
        long = e;
        small = λ k l. are.levels.small k (omega (arith, l, e));
        last = λ l. subst (λ (m : ℕ). 0 < m → 1 ≤ unsigned_abs (level_at (levels_at values scan n) (m - 1))) e are.levels.last l;
      }

  -- a writer that has all coefficients and a reader that knows later ones have the same sizes at later positions
  pub alike : (c : ℕ) → c < n → AlikeAfter scan c (λ p. unsigned_abs (value_at values p)) (placed (drop (c + 1) scan) (drop (c + 1) (map cut_level (levels_at values scan n))))
  alike c l p later =
      let at = λ (q : ℕ). cut_level (value_at values q) in
      let m = n - (c + 1) in
      let sum : c + 1 + m ≡ n = omega (arith, l) in
      let known = known_later (coded_area size) scan at (c + 1) m once (λ q h. zero_cut (value_at values q) (are.none q (subst (λ (k : ℕ). is_in (take k scan) q ≡ false) sum h))) p later in
      let list : drop (c + 1) (map cut_level (levels_at values scan n)) ≡ map at (take m (drop (c + 1) scan)) =
      ap (λ k. drop (c + 1) (map cut_level (levels_at values scan k))) (sym sum) ∙ cuts_later values scan (c + 1) m in
      let there = ap (λ (s : List ℕ). placed (drop (c + 1) scan) s p) list in
      let twice : min (cut_level (value_at values p)) 15 ≡ cut_level (value_at values p) = omega arith in
      sym twice ∙ ap (λ a. min a 15) (known ∙ sym there)

  -- a level of the scan
  pub level_here : (c : ℕ) → c < n → level_at (levels_at values scan n) c ≡ value_at values (slice_index scan c)
  level_here c l =
      let e = length-take-le n scan long in
      get_or-map (value_at values) (take n scan) c 0 (pos 0) (omega (arith, e, l)) ∙ ap (value_at values) (get_or-take n scan c 0 l)
