-- Scans of every size and class.
use Rattle.std.proofs.Common.{◌≡◌, ℕ, suc, zero, ◌+◌, ◌<◌, List, [], ◌∷◌, ◌++◌, ◌≤◌, inl, inr, Bool, true, false, ◌&&◌, nat_eq, get_or, map, length, None, refl, sym, ◌∙◌, ap, subst, arith, take}
use Rattle.std.specs.List.{list_all}
use Rattle.std.proofs.lemmas.List.{ext_get_or, get_or-map, length-map, get_or_append_left, get_or_at, length-append, map-append}
use Rattle.std.proofs.lemmas.Bool.{cases_lt}
use Rattle.std.proofs.lemmas.List.Folds.{list_all-map, list_all_more, list_all_at}
use Rattle.av1_geometry.specs.declared.tx_size.TxSize.{TxSize}
use Rattle.av1_geometry.specs.declared.tx_size.TxSize.TheVariants.{TX_4X4, TX_8X8, TX_16X16, TX_32X32, TX_64X64, TX_4X8, TX_8X4, TX_8X16, TX_16X8, TX_16X32, TX_32X16, TX_32X64, TX_64X32, TX_4X16, TX_16X4, TX_8X32, TX_32X8, TX_16X64, TX_64X16}
use Rattle.av1_geometry.specs.declared.tx_type.TxClass.{TxClass}
use Rattle.av1_geometry.specs.declared.tx_type.TxClass.TheVariants.{TX_CLASS_2D, TX_CLASS_HORIZ, TX_CLASS_VERT}
use Rattle.av1_geometry.specs.TxSize.{tx_number}
use Rattle.av1_geometry.specs.Rules.{first_broken}
use Rattle.av1_coef.specs.declared.scans.TheConstants.{TX_SIZES}
use Rattle.av1_coef.specs.Contexts.{coded_width, coded_height}
use Rattle.av1_coef.specs.Diagonal.{IsDiagonal, AreDiagonal, diagonal_scan, diagonal_of, diagonal_scans}
use Rattle.av1_coef.specs.Scans.{class_number, classes, scan_of, all_scans, of_each, is_whole, is_ordered, scans_rules, IsScan}
use Rattle.av1_coef.proofs.DiagonalSteps.{diagonal_ordered}
use Rattle.av1_coef.proofs.ScanRules.{both_hold, none_broken}
use Rattle.av1_coef.proofs.Tests.{eq_is, both, same}

abbrev AtItsNumber : TxSize → Type 0
AtItsNumber size = (tx_number size < 19) × (get_or TX_SIZES (tx_number size) TX_4X4 ≡ size)

pub numbered : (size : TxSize) → AtItsNumber size
numbered TX_4X4 = (omega arith, refl)
numbered TX_8X8 = (omega arith, refl)
numbered TX_16X16 = (omega arith, refl)
numbered TX_32X32 = (omega arith, refl)
numbered TX_64X64 = (omega arith, refl)
numbered TX_4X8 = (omega arith, refl)
numbered TX_8X4 = (omega arith, refl)
numbered TX_8X16 = (omega arith, refl)
numbered TX_16X8 = (omega arith, refl)
numbered TX_16X32 = (omega arith, refl)
numbered TX_32X16 = (omega arith, refl)
numbered TX_32X64 = (omega arith, refl)
numbered TX_64X32 = (omega arith, refl)
numbered TX_4X16 = (omega arith, refl)
numbered TX_16X4 = (omega arith, refl)
numbered TX_8X32 = (omega arith, refl)
numbered TX_32X8 = (omega arith, refl)
numbered TX_16X64 = (omega arith, refl)
numbered TX_64X16 = (omega arith, refl)

pub class_few : (class : TxClass) → class_number class < 3
class_few TX_CLASS_2D = omega arith
class_few TX_CLASS_HORIZ = omega arith
class_few TX_CLASS_VERT = omega arith

all_of : {X : Type 0} (p : X → Bool) (xs : List X) → ((x : X) → p x ≡ true) → list_all p xs ≡ true
all_of p [] h = refl
all_of p (x ∷ xs) h = rw (h x) (all_of p xs h)

all_from : {X : Type 0} (p : X → Bool) (xs : List X) (d : X) → ((k : ℕ) → k < length xs → p (get_or xs k d) ≡ true) → list_all p xs ≡ true
all_from p [] d h = refl
all_from p (x ∷ xs) d h = rw (h 0 (omega arith)) (all_from p xs d (λ k l. h (suc k) (omega (arith, l))))

-- what holds of the scan of each size and class holds of all
pub all_hold : (holds : TxSize → TxClass → List ℕ → Bool) (scans : List (List (List ℕ))) → ((size : TxSize) (class : TxClass) → holds size class (scan_of scans size class) ≡ true) → all_scans holds scans ≡ true
all_hold holds scans h = all_of (λ size. list_all (λ class. holds size class (scan_of scans size class)) classes) TX_SIZES (λ size. all_of (λ class. holds size class (scan_of scans size class)) classes (h size))

all_in : {X : Type 0} (p : X → Bool) (xs : List X) (i : ℕ) (d : X) → list_all p xs ≡ true → i < length xs → p (get_or xs i d) ≡ true
all_in p [] i d h l = absurd (omega (arith, l))
all_in p (x ∷ xs) zero d h l = (both (p x) (list_all p xs) h).0
all_in p (x ∷ xs) (suc i) d h l = all_in p xs i d (both (p x) (list_all p xs) h).1 (omega (arith, l))

class_at : (class : TxClass) → get_or classes (class_number class) TX_CLASS_2D ≡ class
class_at TX_CLASS_2D = refl
class_at TX_CLASS_HORIZ = refl
class_at TX_CLASS_VERT = refl

-- and the other way round
holds_at : (holds : TxSize → TxClass → List ℕ → Bool) (scans : List (List (List ℕ))) (size : TxSize) (class : TxClass) → all_scans holds scans ≡ true → holds size class (scan_of scans size class) ≡ true
holds_at holds scans size class h =
    let n = numbered size in
    let P : TxSize → Bool = λ size. list_all (λ class. holds size class (scan_of scans size class)) classes in
    let of_size : P size ≡ true = sym (ap P n.1) ∙ all_in P TX_SIZES (tx_number size) TX_4X4 h n.0 in
    let Q : TxClass → Bool = λ class. holds size class (scan_of scans size class) in
    sym (ap Q (class_at class)) ∙ all_in Q classes (class_number class) TX_CLASS_2D of_size (class_few class)

-- scans that break no rule
pub passing_each : (scans : List (List (List ℕ))) → first_broken (scans_rules scans) ≡ None → of_each scans ≡ true
passing_each scans h = (both (of_each scans) (all_scans is_whole scans) (both_hold (of_each scans && all_scans is_whole scans) (all_scans is_ordered scans) h).0).0

pub passing_scan : (scans : List (List (List ℕ))) (size : TxSize) (class : TxClass) → first_broken (scans_rules scans) ≡ None → IsScan size class (scan_of scans size class)
passing_scan scans size class h =
    let b = both_hold (of_each scans && all_scans is_whole scans) (all_scans is_ordered scans) h in
    none_broken (is_whole size class (scan_of scans size class)) (is_ordered size class (scan_of scans size class))
    (holds_at is_whole scans size class (both (of_each scans) (all_scans is_whole scans) b.0).1) (holds_at is_ordered scans size class b.1)

-- a loop over all sizes
module _ (holds : TxSize → Bool) where
  pub sizes_more : (i : ℕ) (d : TxSize) → i < 19 → list_all holds (take i TX_SIZES) ≡ true → holds (get_or TX_SIZES i d) ≡ true → list_all holds (take (i + 1) TX_SIZES) ≡ true
  sizes_more i d l h k = list_all_more holds TX_SIZES i d l ∙ rw (h, k) refl

  pub sizes_refused : (i : ℕ) (d : TxSize) → i < 19 → holds (get_or TX_SIZES i d) ≡ false → list_all holds TX_SIZES ≡ false
  sizes_refused i d l k = list_all_at holds TX_SIZES i d l k

-- the diagonal scans of the first sizes
pub record SizesBegun (scans : List (List (List ℕ))) (i : ℕ) : Type 0 where
  pub long : length scans ≡ i
  pub each : (k : ℕ) → k < i → AreDiagonal (get_or TX_SIZES k TX_4X4) (get_or scans k [])

-- the diagonal scans of the first classes of a size
pub record ClassesBegun (size : TxSize) (scans : List (List ℕ)) : Type 0 where
  pub few : length scans ≤ 3
  pub each : (k : ℕ) → k < length scans → IsDiagonal (coded_width size) (coded_height size) (get_or scans k [])

same_there : {X : Type 0} (xs : List X) (i : ℕ) (d e : X) → i < length xs → get_or xs i d ≡ get_or xs i e
same_there [] i d e l = absurd (omega (arith, l))
same_there (x ∷ xs) zero d e l = refl
same_there (x ∷ xs) (suc i) d e l = same_there xs i d e (omega (arith, l))

-- what holds of each of a list and of one more
pushed : {X : Type 0} (P : ℕ → X → Type 0) (xs : List X) (y d : X) → ((k : ℕ) → k < length xs → P k (get_or xs k d)) → P (length xs) y →
    (k : ℕ) → k < length xs + 1 → P k (get_or (xs ++ y ∷ []) k d)
pushed P xs y d h p k l = elim (cases_lt k (length xs)) [
  | inl m ↦ subst (P k) (sym (get_or_append_left xs (y ∷ []) d k m)) (h k m)
  | inr m ↦
      let e : length xs ≡ k = omega (arith, l, m) in
      subst (λ k. P k (get_or (xs ++ y ∷ []) k d)) e (subst (P (length xs)) (sym (get_or_at xs y [] d (length xs) refl)) p)
]

longer : {X : Type 0} (xs : List X) (y : X) → length (xs ++ y ∷ []) ≡ length xs + 1
longer xs y = length-append xs (y ∷ [])

pub classes_none : (size : TxSize) → ClassesBegun size []
classes_none size = record { few = omega arith; each = λ k l. absurd (omega (arith, l)) }

pub classes_push : (size : TxSize) (scans new : List (List ℕ)) (scan : List ℕ) → length scans < 3 → ClassesBegun size scans → IsDiagonal (coded_width size) (coded_height size) scan →
    new ≡ scans ++ scan ∷ [] → ClassesBegun size new
classes_push size scans new scan l b d e = subst (ClassesBegun size) (sym e) (record {
  few = omega (arith, l, longer scans scan);
  each = λ k m. pushed (λ k s. IsDiagonal (coded_width size) (coded_height size) s) scans scan [] b.each d k (omega (arith, m, longer scans scan));
})

pub classes_done : (size : TxSize) (scans : List (List ℕ)) → ClassesBegun size scans → 3 ≤ length scans → AreDiagonal size scans
classes_done size scans b l = record { three = omega (arith, b.few, l); each = λ k m. b.each k (omega (arith, l, m)) }

pub sizes_none : (V : Type 0) (list_of : V → List (List ℕ)) (xs : List V) → xs ≡ [] → SizesBegun (map list_of xs) 0
sizes_none V list_of xs e = subst (λ xs. SizesBegun (map list_of xs) 0) (sym e) (record { long = refl; each = λ k l. absurd (omega (arith, l)) })

pub sizes_push : (V : Type 0) (list_of : V → List (List ℕ)) (xs new : List V) (y : V) (i : ℕ) (d : TxSize) → new ≡ xs ++ y ∷ [] → i < 19 → SizesBegun (map list_of xs) i →
    AreDiagonal (get_or TX_SIZES i d) (list_of y) → SizesBegun (map list_of new) (i + 1)
sizes_push V list_of xs new y i d e l b a =
    let P : ℕ → List (List ℕ) → Type 0 = λ k s. AreDiagonal (get_or TX_SIZES k TX_4X4) s in
    let here : P (length (map list_of xs)) (list_of y) =
    subst (λ k. P k (list_of y)) (sym b.long) (subst (λ size. AreDiagonal size (list_of y)) (same_there TX_SIZES i d TX_4X4 l) a) in
    subst (λ s. SizesBegun s (i + 1)) (sym (ap (map list_of) e ∙ map-append list_of xs (y ∷ [])))
    (record {
      long = longer (map list_of xs) (list_of y) ∙ ap (λ n. n + 1) b.long;
      each = λ k m. pushed P (map list_of xs) (list_of y) [] (λ k m. b.each k (omega (arith, m, b.long))) here k (omega (arith, m, b.long));
    })

-- lists that are the diagonal scans of each size, by number
module _ (scans : List (List (List ℕ))) (long : length scans ≡ 19) (each : (k : ℕ) → k < 19 → AreDiagonal (get_or TX_SIZES k TX_4X4) (get_or scans k [])) where
  pub are_of_each : of_each scans ≡ true
  are_of_each =
      rw (eq_is (length scans) 19 long)
      (all_from (λ (s : List (List ℕ)). nat_eq (length s) 3) scans [] (λ k l. eq_is (length (get_or scans k [])) 3 (each k (omega (arith, l, long))).three))

  pub are_diagonal : (size : TxSize) (class : TxClass) → IsDiagonal (coded_width size) (coded_height size) (scan_of scans size class)
  are_diagonal size class =
      let n = numbered size in
      (subst (λ s. AreDiagonal s (get_or scans (tx_number size) [])) n.1 (each (tx_number size) n.0)).each (class_number class) (class_few class)

  pub are_scans : scans ≡ diagonal_scans
  are_scans =
      ext_get_or [] scans diagonal_scans (long ∙ sym (length-map TX_SIZES diagonal_of)) (λ k l. let m : k < 19 = omega (arith, l, long) in of_size k m (each k m))
    where
      three_same : (s : List ℕ) (k : ℕ) → k < 3 → get_or (s ∷ s ∷ s ∷ []) k [] ≡ s
      three_same s zero l = refl
      three_same s (suc zero) l = refl
      three_same s (suc (suc zero)) l = refl
      three_same s (suc (suc (suc k))) l = absurd (omega (arith, l))

      of_size : (k : ℕ) → k < 19 → AreDiagonal (get_or TX_SIZES k TX_4X4) (get_or scans k []) → get_or scans k [] ≡ get_or diagonal_scans k []
      of_size k m d =
          let size = get_or TX_SIZES k TX_4X4 in
          let scan = diagonal_scan (coded_width size) (coded_height size) in
          ext_get_or [] (get_or scans k []) (diagonal_of size) d.three (λ i l. let few : i < 3 = omega (arith, l, d.three) in (d.each i few).is ∙ sym (three_same scan i few))
          ∙ sym (get_or-map diagonal_of TX_SIZES k TX_4X4 [] m)

  pub are_passing : first_broken (scans_rules scans) ≡ None
  are_passing =
      rw (
        are_of_each,
        all_hold is_whole scans (λ size class. (are_diagonal size class).whole),
        all_hold is_ordered scans (λ size class. diagonal_ordered (coded_width size) (coded_height size) class (scan_of scans size class) (are_diagonal size class)),
      )
      refl

-- a list of three for each size
pub three_of : (scans : List (List (List ℕ))) (n : ℕ) → of_each scans ≡ true → n < 19 → length (get_or scans n []) ≡ 3
three_of scans n h l =
    let b = both (nat_eq (length scans) 19) (list_all (λ (s : List (List ℕ)). nat_eq (length s) 3) scans) h in
    same (length (get_or scans n [])) 3 (all_at scans n b.1 (omega (arith, l, same (length scans) 19 b.0)))
  where
    all_at : (scans : List (List (List ℕ))) (n : ℕ) → list_all (λ (s : List (List ℕ)). nat_eq (length s) 3) scans ≡ true → n < length scans → nat_eq (length (get_or scans n [])) 3 ≡ true
    all_at [] n h l = absurd (omega (arith, l))
    all_at (s ∷ scans) zero h l = (both (nat_eq (length s) 3) (list_all (λ (s : List (List ℕ)). nat_eq (length s) 3) scans) h).0
    all_at (s ∷ scans) (suc n) h l = all_at scans n (both (nat_eq (length s) 3) (list_all (λ (s : List (List ℕ)). nat_eq (length s) 3) scans) h).1 (omega (arith, l))

-- the same of the lists that the code holds
module _ (V : Type 0) (list_of : V → List (List ℕ)) (xs : List V) where
  pub of_each_is : length xs ≡ 19 → list_all (λ v. nat_eq (length (list_of v)) 3) xs ≡ of_each (map list_of xs)
  of_each_is e =
      sym (ap (λ b. b && list_all (λ (s : List (List ℕ)). nat_eq (length s) 3) (map list_of xs)) (eq_is (length (map list_of xs)) 19 (length-map xs list_of ∙ e))
      ∙ list_all-map (λ (s : List (List ℕ)). nat_eq (length s) 3) list_of xs)

  pub three_at : (n k : ℕ) (v : V) → of_each (map list_of xs) ≡ true → n < 19 → v ≡ get_or xs n v → k < 3 → k < length (list_of v)
  three_at n k v h l e m =
      let b = both (nat_eq (length (map list_of xs)) 19) (list_all (λ (s : List (List ℕ)). nat_eq (length s) 3) (map list_of xs)) h in
      let long : n < length xs = omega (arith, l, same (length (map list_of xs)) 19 b.0, length-map xs list_of) in
      let three : length (list_of v) ≡ 3 = ap (λ u. length (list_of u)) e ∙ sym (ap length (get_or-map list_of xs n v [] long)) ∙ three_of (map list_of xs) n h l in
      omega (arith, m, three)
