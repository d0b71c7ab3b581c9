-- Levels are laid out by position.
use Rattle.std.proofs.Common.{◌≡◌, ℕ, suc, zero, ◌+◌, ◌-◌, ◌<◌, ◌≤◌, ◌||◌, ◌&&◌, not, List, [], ◌∷◌, ◌++◌, Bool, true, false, length, map, take, drop, set, get_or, nat_eq, nat_lt, slice_index, slice_index_or, replicate, ℤ, pos, negsuc, unsigned_abs, ◌^◌, to_z, of_z, w32, refl, sym, ap, subst, ◌∙◌, arith}
use Rattle.std.proofs.lemmas.Bool.Decides.{nat_tests}
use Rattle.std.proofs.lemmas.Int.{to_z-of_z}
use mir.Val.{SFits}
use Rattle.std.proofs.lemmas.List.{get_or-set_other, get_or-set_same, length-set, map_more, take_more}
use Rattle.av1_coef.proofs.ScanSteps.{once_below}
use Rattle.av1_coef.proofs.Tests.{both, false_true}
use Rattle.av1_coef.specs.Scans.{each_once, is_in}
use Rattle.av1_syntax.proofs.CoeffKnown.{in_take, not_before}
use Rattle.av1_syntax.specs.Coefficients.{levels_at, value_at}

-- n coefficients, of which those at the first positions of a scan are so many first levels, and all others are 0
pub record ArePlaced (n : ℕ) (levels : List ℤ) (scan : List ℕ) (i : ℕ) (values : List ℤ) : Type 0 where
  pub long : length values ≡ n
  pub levels_are : levels_at values scan i ≡ take i levels
  pub none : (p : ℕ) → is_in (take i scan) p ≡ false → value_at values p ≡ pos 0

-- an array of zeros
pub zero_at : (n p : ℕ) → value_at (replicate n (pos 0)) p ≡ pos 0
zero_at zero p = refl
zero_at (suc n) zero = refl
zero_at (suc n) (suc p) = zero_at n p

pub placed_none : (values levels : List ℤ) (scan : List ℕ) → ((p : ℕ) → value_at values p ≡ pos 0) → ArePlaced (length values) levels scan 0 values
placed_none values levels scan zeros = record { long = refl; levels_are = refl; none = λ p h. zeros p }

-- two functions that agree on the positions of a list
map_alike : (f g : ℕ → ℤ) (ps : List ℕ) → ((p : ℕ) → is_in ps p ≡ true → f p ≡ g p) → map f ps ≡ map g ps
map_alike f g [] h = refl
map_alike f g (p ∷ ps) h =
    let here : nat_eq p p ≡ true = grind (arith, nat_tests) in
    ap (λ (x : ℤ). x ∷ map f ps) (h p (ap (λ b. b || is_in ps p) here)) ∙ ap (λ (l : List ℤ). g p ∷ l) (map_alike f g ps (λ q e. h q (in_rest (nat_eq p q) (is_in ps q) e)))
  where
    in_rest : (a b : Bool) → b ≡ true → (a || b) ≡ true
    in_rest true b e = refl
    in_rest false b e = e

-- the next position is among those that are left
next_in : (scan : List ℕ) (i : ℕ) → i < length scan → is_in (drop i scan) (slice_index scan i) ≡ true
next_in [] i h = absurd (omega arith)
next_in (p ∷ ps) zero h = let here : nat_eq p p ≡ true = grind (arith, nat_tests) in ap (λ b. b || is_in ps p) here
next_in (p ∷ ps) (suc i) h = next_in ps i (omega arith)

not_same : (p q : ℕ) (ps : List ℕ) → is_in ps p ≡ true → is_in ps q ≡ false → p ≡ q → ⊥
not_same p q ps h g e = false_true g (subst (λ n. is_in ps n ≡ true) e h)

-- one level more is placed
pub placed_more : (n : ℕ) (levels : List ℤ) (scan : List ℕ) (i p : ℕ) (level : ℤ) (values : List ℤ) → each_once n scan ≡ true → i < length levels → i < length scan → p ≡ slice_index scan i → level ≡ slice_index_or levels i (pos 0) →
    ArePlaced n levels scan i values → ArePlaced n levels scan (i + 1) (set values p level)
placed_more n levels scan i p level values once some within at is were =
    let new = set values p level in
    let q = slice_index scan i in
    let below : p < length values = omega (arith, at, were.long, once_below n scan i once within) in
    let first : is_in (take i scan) q ≡ false = not_before n scan i q once (next_in scan i within) in
    let other : (r : ℕ) → (r ≡ q → ⊥) → value_at new r ≡ value_at values r = λ r n. get_or-set_other values p r level (pos 0) (λ e. n (e ∙ at)) in
    let before : levels_at new scan i ≡ levels_at values scan i = map_alike (value_at new) (value_at values) (take i scan) (λ r h. other r (not_same r q (take i scan) h first)) in
    let here : value_at new q ≡ slice_index_or levels i (pos 0) = ap (λ n. value_at new n) (sym at) ∙ get_or-set_same values p level (pos 0) below ∙ is in
    record {
      long = length-set values p level ∙ were.long;
      levels_are = map_more (value_at new) scan i 0 within
          ∙ ap (λ (l : List ℤ). l ++ value_at new q ∷ []) (before ∙ were.levels_are)
          ∙ ap (λ (x : ℤ). take i levels ++ x ∷ []) here
          ∙ sym (take_more levels i (pos 0) some);
      none = λ r h.
          let parts = neither (is_in (take i scan) r) (is_in (take 1 (drop i scan)) r) (sym (in_take scan i 1 r) ∙ h) in
          other r (λ e. false_true parts.1 (subst (λ n. is_in (take 1 (drop i scan)) n ≡ true) (sym e) (one_in scan i within))) ∙ were.none r parts.0;
    }
  where
    neither : (a b : Bool) → (a || b) ≡ false → (a ≡ false) × (b ≡ false)
    neither true b h = cc
    neither false b h = (refl, h)

    one_in : (scan : List ℕ) (i : ℕ) → i < length scan → is_in (take 1 (drop i scan)) (slice_index scan i) ≡ true
    one_in [] i h = absurd (omega arith)
    one_in (p ∷ ps) zero h = let here : nat_eq p p ≡ true = grind (arith, nat_tests) in ap (λ b. b || false) here
    one_in (p ∷ ps) (suc i) h = one_in ps i (omega arith)

-- positions below a number are below a greater one
pub once_within : (area most : ℕ) (scan : List ℕ) → area ≤ most → each_once area scan ≡ true → each_once most scan ≡ true
once_within area most [] few h = refl
once_within area most (p ∷ ps) few h =
    let two = both (nat_lt p area && not (is_in ps p)) (each_once area ps) h in
    let one = both (nat_lt p area) (not (is_in ps p)) two.0 in
    let below : nat_lt p most ≡ true = grind (arith, nat_tests, one.0, few) in
    all_three (nat_lt p most) (not (is_in ps p)) (each_once most ps) below one.1 (once_within area most ps few two.1)
  where
    all_three : (a b c : Bool) → a ≡ true → b ≡ true → c ≡ true → (a && b && c) ≡ true
    all_three a b c f g h = cc (f, g, h)

-- a level as the code passes it on
pub level_back : (v : ℤ) → unsigned_abs v < 2 ^ 20 → to_z w32 (of_z w32 v) ≡ v
level_back v h = to_z-of_z w32 v (small_fits v h)
  where
    small_fits : (v : ℤ) → unsigned_abs v < 2 ^ 20 → SFits w32 v
    small_fits (pos n) h = record { sfits = omega (arith, h) }
    small_fits (negsuc n) h = record { sfits = omega (arith, h) }
