-- The filters of loop restoration have one path to each.
use Rattle.std.proofs.Common.{◌≡◌, ℕ, zero, suc, ◌+◌, ◌*◌, ◌<◌, ◌≤◌, List, [], ◌∷◌, Bool, true, false, Some, min, length, drop, get_or, codes, refl, sym, ap, subst, ◌∙◌, arith, inl, inr, ◌⊎◌, ℤ, pos, ◌+ℤ◌, ◌-ℤ◌, ◌≤ℤ◌, ◌<ℤ◌}
use Rattle.std.specs.Prelude.{slice_get}
use Rattle.std.proofs.lemmas.Int.{ints}
use Rattle.std.proofs.lemmas.Option.{slice_get_past}
use Rattle.av1_cdf.specs.Distribution.{Distribution, Even, HasSymbols}
use Rattle.av1_cdf.specs.Distribution.Distribution.{Adaptive}
use Rattle.av1_cdf.specs.Layout.{Slot, slot, layout, fields, vector_fields, component_fields}
use Rattle.av1_cdf.specs.Runs.{has_run}
use Rattle.av1_cdf.proofs.Cells.{slot_of_run}
use Rattle.av1_ec.specs.CodeTrees.{between_tree}
use Rattle.av1_ec.proofs.CodeTrees.{between_reads, code_reads}
use Rattle.av1_ec.proofs.Lengths.{between_length}
use Rattle.av1_geometry.specs.declared.constants.TheConstants.{SGRPROJ_XQD_MIN, SGRPROJ_XQD_MAX, SGRPROJ_XQD_MID, WIENER_TAPS_MIN, WIENER_TAPS_MAX, WIENER_TAPS_MID}
use Rattle.av1_model.specs.Element.{Element, known, symbol, renamed, Reads}
use Rattle.av1_model.proofs.ElementLaws.{known_reads, reads_as, symbol_reads, choose_reads, after_reads, renamed_reads}
use Rattle.av1_syntax.specs.Literals.{literal}
use Rattle.av1_syntax.specs.Restoration.{starting, number_at, row_at, each, kind_of, kind_element, near_word, near_element, has_radius, unused_weight, weight_by, weight_element, set_of, weights_of, sgrproj_element, has_tap, tap_by, tap_element, taps_of, wiener_element, filter_element, lrf_element, renewed_taps, renewed, IsBetween, AreWithin, AreReferences, HasReferences, AreWeights, ArePassTaps, AreTaps, IsKindOf, IsFilterOf}
use Rattle.av1_syntax.specs.declared.restoration.RestorationFilter.{RestorationFilter}
use Rattle.av1_syntax.specs.declared.restoration.RestorationFilter.TheVariants.{None as Unfiltered, Wiener, Sgrproj}
use Rattle.av1_syntax.specs.declared.restoration.RestorationPlane.{RestorationPlane}
use Rattle.av1_syntax.proofs.Readings.{literals_read, even_has}

-- the slots
pub switchable_has : HasSymbols (Adaptive (slot (codes "lrf_switchable_cdf") [])) 3
unfolding slot layout fields vector_fields component_fields has_run
switchable_has = (slot_of_run (record { place = 726; count = 1; len = 3 }) 0 refl (omega arith), refl)

pub wiener_has : HasSymbols (Adaptive (slot (codes "lrf_wiener_cdf") [])) 2
unfolding slot layout fields vector_fields component_fields has_run
wiener_has = (slot_of_run (record { place = 302; count = 1; len = 2 }) 0 refl (omega arith), refl)

pub sgrproj_has : HasSymbols (Adaptive (slot (codes "lrf_sgrproj_cdf") [])) 2
unfolding slot layout fields vector_fields component_fields has_run
sgrproj_has = (slot_of_run (record { place = 300; count = 1; len = 2 }) 0 refl (omega arith), refl)

-- the kinds of a type by their symbols
two_at : (v s k : ℕ) → slice_get (0 ∷ v ∷ []) s ≡ Some k → ((s ≡ 0) × (k ≡ 0)) ⊎ ((s ≡ 1) × (k ≡ v))
two_at v zero k h = let e : 0 ≡ k = cc in inl (refl, sym e)
two_at v (suc zero) k h = let e : v ≡ k = cc in inr (refl, sym e)
two_at v (suc (suc s)) k h = absurd cc

three_at : (s k : ℕ) → slice_get (0 ∷ 1 ∷ 2 ∷ []) s ≡ Some k → (k ≡ s) × (k < 3)
three_at zero k h = let e : 0 ≡ k = cc in (sym e, omega (arith, e))
three_at (suc zero) k h = let e : 1 ≡ k = cc in (sym e, omega (arith, e))
three_at (suc (suc zero)) k h = let e : 2 ≡ k = cc in (sym e, omega (arith, e))
three_at (suc (suc (suc s))) k h = absurd cc

all_kinds : (k : ℕ) → IsKindOf 1 k → slice_get (0 ∷ 1 ∷ 2 ∷ []) k ≡ Some k
all_kinds zero h = refl
all_kinds (suc zero) h = refl
all_kinds (suc (suc zero)) h = refl
all_kinds (suc (suc (suc k))) h = absurd h

few_kinds : (k : ℕ) → k < 3 → IsKindOf 1 k
few_kinds zero h = tt
few_kinds (suc zero) h = inl refl
few_kinds (suc (suc zero)) h = inl refl
few_kinds (suc (suc (suc k))) h = absurd (omega (arith, h))

wiener_kinds : (k : ℕ) → IsKindOf 2 k → (k ≡ 0) ⊎ (k ≡ 1)
wiener_kinds zero h = inl refl
wiener_kinds (suc zero) h = inr refl
wiener_kinds (suc (suc zero)) h = elim h [ inl e ↦ absurd (omega (arith, e)) | inr e ↦ absurd (omega (arith, e)) ]
wiener_kinds (suc (suc (suc k))) h = absurd h

sgrproj_kinds : (k : ℕ) → IsKindOf 3 k → (k ≡ 0) ⊎ (k ≡ 2)
sgrproj_kinds zero h = inl refl
sgrproj_kinds (suc zero) h = elim h [ inl e ↦ absurd (omega (arith, e)) | inr e ↦ absurd (omega (arith, e)) ]
sgrproj_kinds (suc (suc zero)) h = inr refl
sgrproj_kinds (suc (suc (suc k))) h = absurd h

no_kinds : (k : ℕ) → IsKindOf 0 k → k ≡ 0
no_kinds zero h = refl
no_kinds (suc zero) h = elim h [ inl e ↦ absurd (omega (arith, e)) | inr e ↦ absurd (omega (arith, e)) ]
no_kinds (suc (suc zero)) h = elim h [ inl e ↦ absurd (omega (arith, e)) | inr e ↦ absurd (omega (arith, e)) ]
no_kinds (suc (suc (suc k))) h = absurd h

-- one of two kinds, of which one is none
either_reads : (v : ℕ) (q : Slot) (IsV : ℕ → Type 0) → 1 ≤ v → HasSymbols (Adaptive q) 2 → IsV 0 → IsV v → ((k : ℕ) → IsV k → (k ≡ 0) ⊎ (k ≡ v)) →
    Reads HasSymbols (symbol (Adaptive q) (slice_get (0 ∷ v ∷ [])) (λ k. min k 1)) IsV 1
either_reads v q IsV some h none one two =
    let first : min 0 1 ≡ 0 = omega arith in
    let last : min v 1 ≡ 1 = omega (arith, some) in
    reads_as HasSymbols (symbol (Adaptive q) (slice_get (0 ∷ v ∷ [])) (λ k. min k 1)) (λ k. slice_get (0 ∷ v ∷ []) (min k 1) ≡ Some k) IsV 1 1
    (λ k e. elim (two_at v (min k 1) k e) [ inl z ↦ subst IsV (sym z.1) none | inr z ↦ subst IsV (sym z.1) one ])
    (λ k i. elim (two k i) [ inl z ↦ subst (λ k. slice_get (0 ∷ v ∷ []) (min k 1) ≡ Some k) (sym z) (ap (slice_get (0 ∷ v ∷ [])) first) | inr z ↦ subst (λ k. slice_get (0 ∷ v ∷ []) (min k 1) ≡ Some k) (sym z) (ap (slice_get (0 ∷ v ∷ [])) last) ])
    (omega arith)
    (symbol_reads HasSymbols (Adaptive q) 2 (slice_get (0 ∷ v ∷ [])) (λ k. min k 1) h (λ s l. slice_get_past (0 ∷ v ∷ []) s l)
    (λ s k e. elim (two_at v s k e) [ inl z ↦ ap (λ k. min k 1) z.1 ∙ first ∙ sym z.0 | inr z ↦ ap (λ k. min k 1) z.1 ∙ last ∙ sym z.0 ]))

pub kind_reads : (t : ℕ) → t ≤ 3 → Reads HasSymbols (kind_element t) (IsKindOf t) 1
kind_reads zero h = reads_as HasSymbols (known 0) (λ k. k ≡ 0) (IsKindOf 0) 0 1 (λ k e. subst (IsKindOf 0) (sym e) tt) no_kinds (omega arith) (known_reads HasSymbols 0)
kind_reads (suc zero) h =
    reads_as HasSymbols (kind_element 1) (λ k. slice_get (0 ∷ 1 ∷ 2 ∷ []) k ≡ Some k) (IsKindOf 1) 1 1 (λ k e. few_kinds k (three_at k k e).1) all_kinds (omega arith)
    (symbol_reads HasSymbols (Adaptive (slot (codes "lrf_switchable_cdf") [])) 3 (slice_get (0 ∷ 1 ∷ 2 ∷ [])) (λ k. k) switchable_has (λ s l. slice_get_past (0 ∷ 1 ∷ 2 ∷ []) s l) (λ s k e. (three_at s k e).0))
kind_reads (suc (suc zero)) h = either_reads 1 (slot (codes "lrf_wiener_cdf") []) (IsKindOf 2) (omega arith) wiener_has tt (inr refl) wiener_kinds
kind_reads (suc (suc (suc zero))) h = either_reads 2 (slot (codes "lrf_sgrproj_cdf") []) (IsKindOf 3) (omega arith) sgrproj_has tt (inr refl) sgrproj_kinds
kind_reads (suc (suc (suc (suc t)))) h = absurd (omega (arith, h))

-- a number by its distance from a reference
pub near_reads : (least greatest ref : ℤ) (k : ℕ) → IsBetween least greatest ref → (greatest -ℤ least) ≤ℤ pos 1000 → k ≤ 16 → Reads HasSymbols (near_element least greatest k ref) (IsBetween least greatest) 49
near_reads least greatest ref k h few w =
    let a = h.from in
    let b = h.to in
    let high = greatest +ℤ pos 1 in
    reads_as HasSymbols (near_element least greatest k ref) (λ v. (least ≤ℤ v) × (v <ℤ high)) (IsBetween least greatest) 49 49 (λ v p. let l = p.1 in record { from = p.0; to = omega (arith, ints, l) }) (λ v p. let l = p.to in (p.from, omega (arith, ints, l))) (omega arith)
    (code_reads HasSymbols Even (between_tree Even least high k ref) (λ v. (least ≤ℤ v) × (v <ℤ high)) (near_word least greatest k ref) 49 even_has (between_reads Even least high ref k a (omega (arith, ints, b)))
    (λ v p. between_length least high ref v k (omega (arith, ints, a, b)) (omega (arith, ints, few)) w))

-- one element after another
module _ {A : Type 0} (e : ℕ → Element Distribution A) (d : A) (P : ℕ → A → Type 0) (most : ℕ) where
  abbrev pub AreEach : ℕ → ℕ → List A → Type 0
  AreEach k zero xs = xs ≡ []
  AreEach k (suc n) xs = P k (get_or xs 0 d) × ((xs ≡ get_or xs 0 d ∷ drop 1 xs) × AreEach (suc k) n (drop 1 xs))

  pub each_reads : (k n : ℕ) → ((j : ℕ) → k ≤ j → j < k + n → Reads HasSymbols (e j) (P j) most) → Reads HasSymbols (each e d k n) (AreEach k n) (n * most)
  each_reads k zero h = reads_as HasSymbols (known []) (λ xs. xs ≡ []) (AreEach k zero) 0 (0 * most) (λ xs p. p) (λ xs p. p) (omega arith) (known_reads HasSymbols [])
  each_reads k (suc n) h =
      let rest = each_reads (suc k) n (λ j a b. h j (omega (arith, a)) (omega (arith, b))) in
      let After = λ (a : A) (xs : List A). (xs ≡ a ∷ drop 1 xs) × AreEach (suc k) n (drop 1 xs) in
      reads_as HasSymbols (each e d k (suc n)) (λ xs. P k (get_or xs 0 d) × After (get_or xs 0 d) xs) (AreEach k (suc n)) (most + n * most) (suc n * most) (λ xs p. p) (λ xs p. p) (omega arith)
      (after_reads HasSymbols (e k) (λ a. renamed (each e d (suc k) n) (λ more. a ∷ more) (λ all. drop 1 all)) (λ all. get_or all 0 d) (P k) After most (n * most) (λ a xs p q. ap (λ (ys : List A). get_or ys 0 d) q.0) (h k (omega arith) (omega arith))
      (λ a p. renamed_reads HasSymbols (each e d (suc k) n) (λ more. a ∷ more) (λ all. drop 1 all) (AreEach (suc k) n) (After a) (n * most) (λ xs q. (q.1, sym q.0)) (λ xs q. ((refl, q), refl)) rest))

  one_more : (k n : ℕ) (x : A) (xs : List A) → P k x → ((j : ℕ) → j < n → P (suc k + j) (get_or xs j d)) → (j : ℕ) → j < suc n → P (k + j) (get_or (x ∷ xs) j d)
  one_more k n x xs p h zero l = subst (λ i. P i x) (let f : k ≡ k + 0 = omega arith in f) p
  one_more k n x xs p h (suc j) l = subst (λ i. P i (get_or xs j d)) (let f : suc k + j ≡ k + suc j = omega arith in f) (h j (omega (arith, l)))

  each_to : (k n : ℕ) (xs : List A) → AreEach k n xs → (length xs ≡ n) × ((j : ℕ) → j < n → P (k + j) (get_or xs j d))
  each_to k zero xs p = (ap length p, λ j l. absurd (omega (arith, l)))
  each_to k (suc n) [] p = absurd (let h = p.1.0 in let z : ⊥ = cc in z)
  each_to k (suc n) (x ∷ xs) p =
      let r = each_to (suc k) n xs p.1.1 in
      let long = r.0 in
      (omega (arith, long), one_more k n x xs p.0 r.1)

  each_from : (k n : ℕ) (xs : List A) → length xs ≡ n → ((j : ℕ) → j < n → P (k + j) (get_or xs j d)) → AreEach k n xs
  each_from k zero [] e h = refl
  each_from k zero (x ∷ xs) e h = absurd (omega (arith, e))
  each_from k (suc n) [] e h = absurd (omega (arith, e))
  each_from k (suc n) (x ∷ xs) e h = (
    subst (λ i. P i x) (let f : k + 0 ≡ k = omega arith in f) (h 0 (omega arith)),
    (refl, each_from (suc k) n xs (omega (arith, e)) (λ j l. subst (λ i. P i (get_or xs j d)) (let f : k + suc j ≡ suc k + j = omega arith in f) (h (suc j) (omega (arith, l))))),
  )

  -- so many from 0 on
  pub list_reads : (n : ℕ) → ((j : ℕ) → j < n → Reads HasSymbols (e j) (P j) most) → Reads HasSymbols (each e d 0 n) (λ xs. (length xs ≡ n) × ((j : ℕ) → j < n → P j (get_or xs j d))) (n * most)
  list_reads n h =
      let same = λ (j : ℕ). (let f : 0 + j ≡ j = omega arith in f) in
      reads_as HasSymbols (each e d 0 n) (AreEach 0 n) (λ xs. (length xs ≡ n) × ((j : ℕ) → j < n → P j (get_or xs j d))) (n * most) (n * most)
      (λ xs p. let r = each_to 0 n xs p in (r.0, λ j l. subst (λ i. P i (get_or xs j d)) (same j) (r.1 j l)))
      (λ xs p. each_from 0 n xs p.0 (λ j l. subst (λ i. P i (get_or xs j d)) (sym (same j)) (p.1 j l))) (omega arith)
      (each_reads 0 n (λ j a b. h j (omega (arith, b))))

-- the weights of a self-guided filter
abbrev pub IsWeight : ℕ → ℕ → ℤ → Type 0
IsWeight set pass v = IsBetween (number_at SGRPROJ_XQD_MIN pass) (number_at SGRPROJ_XQD_MAX pass) v × (has_radius set pass ≡ false → v ≡ unused_weight pass)

unused_between : (pass : ℕ) → pass < 2 → IsBetween (number_at SGRPROJ_XQD_MIN pass) (number_at SGRPROJ_XQD_MAX pass) (unused_weight pass)
unused_between zero h = record { from = omega (arith, ints); to = omega (arith, ints) }
unused_between (suc zero) h = record { from = omega (arith, ints); to = omega (arith, ints) }
unused_between (suc (suc pass)) h = absurd (omega (arith, h))

pub weights_few : (pass : ℕ) → pass < 2 → (number_at SGRPROJ_XQD_MAX pass -ℤ number_at SGRPROJ_XQD_MIN pass) ≤ℤ pos 1000
weights_few zero h = omega (arith, ints)
weights_few (suc zero) h = omega (arith, ints)
weights_few (suc (suc pass)) h = absurd (omega (arith, h))

pub weight_reads : (set pass : ℕ) (ref : ℤ) → pass < 2 → IsBetween (number_at SGRPROJ_XQD_MIN pass) (number_at SGRPROJ_XQD_MAX pass) ref → Reads HasSymbols (weight_by set pass ref) (IsWeight set pass) 49
weight_reads set pass ref l h =
    let least = number_at SGRPROJ_XQD_MIN pass in
    let greatest = number_at SGRPROJ_XQD_MAX pass in
    choose_reads HasSymbols (has_radius set pass) (near_element least greatest 4 ref) (known (unused_weight pass)) (IsWeight set pass) 49
    (λ e. reads_as HasSymbols (near_element least greatest 4 ref) (IsBetween least greatest) (IsWeight set pass) 49 49 (λ v p. (p, λ f. let z : ⊥ = cc in absurd z)) (λ v p. p.0) (omega arith) (near_reads least greatest ref 4 h (weights_few pass l) (omega arith)))
    (λ e. reads_as HasSymbols (known (unused_weight pass)) (λ v. v ≡ unused_weight pass) (IsWeight set pass) 0 49 (λ v p. (subst (IsBetween least greatest) (sym p) (unused_between pass l), λ f. p)) (λ v p. p.1 e) (omega arith) (known_reads HasSymbols (unused_weight pass)))

pub weights_read : (set : ℕ) (refs : List ℤ) → AreWithin 2 SGRPROJ_XQD_MIN SGRPROJ_XQD_MAX refs → Reads HasSymbols (each (weight_element set refs) (pos 0) 0 2) (AreWeights set) 98
weights_read set refs h =
    reads_as HasSymbols (each (weight_element set refs) (pos 0) 0 2) (λ xs. (length xs ≡ 2) × ((j : ℕ) → j < 2 → IsWeight set j (get_or xs j (pos 0)))) (AreWeights set) (2 * 49) 98
    (λ xs p. record { two = p.0; within = λ j l. (p.1 j l).0; unused = λ j l f. (p.1 j l).1 f }) (λ xs p. (p.two, λ j l. (p.within j l, p.unused j l))) (omega arith)
    (list_reads (weight_element set refs) (pos 0) (IsWeight set) 49 2 (λ j l. weight_reads set j (number_at refs j) l (h j l)))

-- the taps of a Wiener filter
abbrev pub IsTap : Bool → ℕ → ℤ → Type 0
IsTap luma k v = IsBetween (number_at WIENER_TAPS_MIN k) (number_at WIENER_TAPS_MAX k) v × (has_tap luma k ≡ false → v ≡ pos 0)

zero_between : (k : ℕ) → k < 3 → IsBetween (number_at WIENER_TAPS_MIN k) (number_at WIENER_TAPS_MAX k) (pos 0)
zero_between zero h = record { from = omega (arith, ints); to = omega (arith, ints) }
zero_between (suc zero) h = record { from = omega (arith, ints); to = omega (arith, ints) }
zero_between (suc (suc zero)) h = record { from = omega (arith, ints); to = omega (arith, ints) }
zero_between (suc (suc (suc k))) h = absurd (omega (arith, h))

pub taps_few : (k : ℕ) → k < 3 → (number_at WIENER_TAPS_MAX k -ℤ number_at WIENER_TAPS_MIN k) ≤ℤ pos 1000
taps_few zero h = omega (arith, ints)
taps_few (suc zero) h = omega (arith, ints)
taps_few (suc (suc zero)) h = omega (arith, ints)
taps_few (suc (suc (suc k))) h = absurd (omega (arith, h))

pub tap_reads : (luma : Bool) (k : ℕ) (ref : ℤ) → k < 3 → IsBetween (number_at WIENER_TAPS_MIN k) (number_at WIENER_TAPS_MAX k) ref → Reads HasSymbols (tap_by luma k ref) (IsTap luma k) 49
tap_reads luma k ref l h =
    let least = number_at WIENER_TAPS_MIN k in
    let greatest = number_at WIENER_TAPS_MAX k in
    choose_reads HasSymbols (has_tap luma k) (near_element least greatest (k + 1) ref) (known (pos 0)) (IsTap luma k) 49
    (λ e. reads_as HasSymbols (near_element least greatest (k + 1) ref) (IsBetween least greatest) (IsTap luma k) 49 49 (λ v p. (p, λ f. let z : ⊥ = cc in absurd z)) (λ v p. p.0) (omega arith) (near_reads least greatest ref (k + 1) h (taps_few k l) (omega (arith, l))))
    (λ e. reads_as HasSymbols (known (pos 0)) (λ v. v ≡ pos 0) (IsTap luma k) 0 49 (λ v p. (subst (IsBetween least greatest) (sym p) (zero_between k l), λ f. p)) (λ v p. p.1 e) (omega arith) (known_reads HasSymbols (pos 0)))

pub pass_reads : (luma : Bool) (refs : List ℤ) → AreWithin 3 WIENER_TAPS_MIN WIENER_TAPS_MAX refs → Reads HasSymbols (each (tap_element luma refs) (pos 0) 0 3) (ArePassTaps luma) 147
pass_reads luma refs h =
    reads_as HasSymbols (each (tap_element luma refs) (pos 0) 0 3) (λ xs. (length xs ≡ 3) × ((j : ℕ) → j < 3 → IsTap luma j (get_or xs j (pos 0)))) (ArePassTaps luma) (3 * 49) 147
    (λ xs p. record { three = p.0; within = λ j l. (p.1 j l).0; first = λ j l f. (p.1 j l).1 f }) (λ xs p. (p.three, λ j l. (p.within j l, p.first j l))) (omega arith)
    (list_reads (tap_element luma refs) (pos 0) (IsTap luma) 49 3 (λ j l. tap_reads luma j (number_at refs j) l (h j l)))

pub passes_read : (luma : Bool) (refs : List (List ℤ)) → AreReferences refs → Reads HasSymbols (each (λ pass. each (tap_element luma (row_at refs pass)) (pos 0) 0 3) [] 0 2) (AreTaps luma) 294
passes_read luma refs h =
    reads_as HasSymbols (each (λ pass. each (tap_element luma (row_at refs pass)) (pos 0) 0 3) [] 0 2) (λ xs. (length xs ≡ 2) × ((j : ℕ) → j < 2 → ArePassTaps luma (get_or xs j []))) (AreTaps luma) (2 * 147) 294
    (λ xs p. record { two = p.0; each_pass = p.1 }) (λ xs p. (p.two, p.each_pass)) (omega arith)
    (list_reads (λ pass. each (tap_element luma (row_at refs pass)) (pos 0) 0 3) [] (λ pass. ArePassTaps luma) 147 2 (λ j l. pass_reads luma (row_at refs j) (h j l)))

-- a filter of a kind
abbrev pub IsOfKind : Bool → ℕ → RestorationFilter → Type 0
IsOfKind luma kind Unfiltered = kind ≡ 0
IsOfKind luma kind (Wiener taps) = (kind ≡ 1) × AreTaps luma taps
IsOfKind luma kind (Sgrproj set weights) = (kind ≡ 2) × (set < 16) × AreWeights set weights

no_filter : (luma : Bool) (f : RestorationFilter) → IsOfKind luma 0 f → f ≡ Unfiltered
no_filter luma Unfiltered h = refl
no_filter luma (Wiener taps) h = absurd (let e = h.0 in omega (arith, e))
no_filter luma (Sgrproj set weights) h = absurd (let e = h.0 in omega (arith, e))

wiener_filter : (luma : Bool) (f : RestorationFilter) → IsOfKind luma 1 f → AreTaps luma (taps_of f) × (Wiener (taps_of f) ≡ f)
wiener_filter luma Unfiltered h = absurd (omega (arith, h))
wiener_filter luma (Wiener taps) h = (h.1, refl)
wiener_filter luma (Sgrproj set weights) h = absurd (let e = h.0 in omega (arith, e))

sgrproj_filter : (luma : Bool) (f : RestorationFilter) → IsOfKind luma 2 f → (set_of f < 16) × AreWeights (set_of f) (weights_of f) × (Sgrproj (set_of f) (weights_of f) ≡ f)
sgrproj_filter luma Unfiltered h = absurd (omega (arith, h))
sgrproj_filter luma (Wiener taps) h = absurd (let e = h.0 in omega (arith, e))
sgrproj_filter luma (Sgrproj set weights) h = (h.1, h.2, refl)

pub wiener_reads : (luma : Bool) (refs : List (List ℤ)) → AreReferences refs → Reads HasSymbols (wiener_element luma refs) (IsOfKind luma 1) 294
wiener_reads luma refs h =
    renamed_reads HasSymbols (each (λ pass. each (tap_element luma (row_at refs pass)) (pos 0) 0 3) [] 0 2) Wiener taps_of (AreTaps luma) (IsOfKind luma 1) 294 (wiener_filter luma) (λ taps p. ((refl, p), refl)) (passes_read luma refs h)

pub sgrproj_reads : (luma : Bool) (refs : List ℤ) → AreWithin 2 SGRPROJ_XQD_MIN SGRPROJ_XQD_MAX refs → Reads HasSymbols (sgrproj_element refs) (IsOfKind luma 2) 102
sgrproj_reads luma refs h =
    let After = λ (set : ℕ) (f : RestorationFilter). AreWeights set (weights_of f) × (Sgrproj set (weights_of f) ≡ f) in
    reads_as HasSymbols (sgrproj_element refs) (λ f. (set_of f < 16) × After (set_of f) f) (IsOfKind luma 2) (4 + 98) 102
    (λ f p. subst (IsOfKind luma 2) p.1.1 (refl, p.0, p.1.0)) (λ f p. let r = sgrproj_filter luma f p in (r.0, (r.1, r.2))) (omega arith)
    (after_reads HasSymbols (literal 4) (λ set. renamed (each (weight_element set refs) (pos 0) 0 2) (Sgrproj set) weights_of) set_of (λ set. set < 16) After 4 98 (λ set f p q. ap set_of (sym q.1)) (literals_read 4)
    (λ set p. renamed_reads HasSymbols (each (weight_element set refs) (pos 0) 0 2) (Sgrproj set) weights_of (AreWeights set) (After set) 98 (λ f q. q) (λ ws q. ((q, refl), refl)) (weights_read set refs h)))

pub filter_reads : (plane : RestorationPlane) (luma : Bool) (t kind : ℕ) → HasReferences plane → IsKindOf t kind → Reads HasSymbols (filter_element plane luma kind) (IsOfKind luma kind) 294
filter_reads plane luma t zero h k = reads_as HasSymbols (known Unfiltered) (λ f. f ≡ Unfiltered) (IsOfKind luma 0) 0 294 (λ f e. subst (IsOfKind luma 0) (sym e) refl) (no_filter luma) (omega arith) (known_reads HasSymbols Unfiltered)
filter_reads plane luma t (suc zero) h k = wiener_reads luma plane.wiener_ref h.taps
filter_reads plane luma t (suc (suc zero)) h k = reads_as HasSymbols (sgrproj_element plane.sgrproj_ref) (IsOfKind luma 2) (IsOfKind luma 2) 102 294 (λ f p. p) (λ f p. p) (omega arith) (sgrproj_reads luma plane.sgrproj_ref h.weights)
filter_reads plane luma t (suc (suc (suc kind))) h k = absurd k

kind_told : (luma : Bool) (kind : ℕ) (f : RestorationFilter) → IsOfKind luma kind f → kind_of f ≡ kind
kind_told luma kind Unfiltered h = sym h
kind_told luma kind (Wiener taps) h = sym h.0
kind_told luma kind (Sgrproj set weights) h = sym h.0

to_filter : (t : ℕ) (luma : Bool) (f : RestorationFilter) → IsKindOf t (kind_of f) × IsOfKind luma (kind_of f) f → IsFilterOf t luma f
to_filter t luma Unfiltered p = tt
to_filter t luma (Wiener taps) p = (p.0, p.1.1)
to_filter t luma (Sgrproj set weights) p = (p.0, p.1.1, p.1.2)

pub from_filter : (t : ℕ) (luma : Bool) (f : RestorationFilter) → IsFilterOf t luma f → IsKindOf t (kind_of f) × IsOfKind luma (kind_of f) f
from_filter t luma Unfiltered p = (tt, refl)
from_filter t luma (Wiener taps) p = (p.0, (refl, p.1))
from_filter t luma (Sgrproj set weights) p = (p.0, (refl, p.1, p.2))

pub lrf_reads : (plane : RestorationPlane) (luma : Bool) → plane.lrf_type ≤ 3 → HasReferences plane → Reads HasSymbols (lrf_element plane luma) (IsFilterOf plane.lrf_type luma) 295
lrf_reads plane luma l h =
    let t = plane.lrf_type in
    reads_as HasSymbols (lrf_element plane luma) (λ f. IsKindOf t (kind_of f) × IsOfKind luma (kind_of f) f) (IsFilterOf t luma) (1 + 294) 295 (to_filter t luma) (from_filter t luma) (omega arith)
    (after_reads HasSymbols (kind_element t) (filter_element plane luma) kind_of (IsKindOf t) (IsOfKind luma) 1 294 (λ kind f p q. kind_told luma kind f q) (kind_reads t l) (λ kind k. filter_reads plane luma t kind h k))

-- the references stay in their ranges
starting_weights : AreWithin 2 SGRPROJ_XQD_MIN SGRPROJ_XQD_MAX SGRPROJ_XQD_MID
starting_weights zero h = record { from = omega (arith, ints); to = omega (arith, ints) }
starting_weights (suc zero) h = record { from = omega (arith, ints); to = omega (arith, ints) }
starting_weights (suc (suc k)) h = absurd (omega (arith, h))

starting_taps : AreWithin 3 WIENER_TAPS_MIN WIENER_TAPS_MAX WIENER_TAPS_MID
starting_taps zero h = record { from = omega (arith, ints); to = omega (arith, ints) }
starting_taps (suc zero) h = record { from = omega (arith, ints); to = omega (arith, ints) }
starting_taps (suc (suc zero)) h = record { from = omega (arith, ints); to = omega (arith, ints) }
starting_taps (suc (suc (suc k))) h = absurd (omega (arith, h))

both_passes : (a b : List ℤ) → AreWithin 3 WIENER_TAPS_MIN WIENER_TAPS_MAX a → AreWithin 3 WIENER_TAPS_MIN WIENER_TAPS_MAX b → AreReferences (a ∷ b ∷ [])
both_passes a b f g zero h = f
both_passes a b f g (suc zero) h = g
both_passes a b f g (suc (suc pass)) h = absurd (omega (arith, h))

pub starting_references : (t : ℕ) → HasReferences (starting t)
starting_references t = record { weights = starting_weights; taps = both_passes WIENER_TAPS_MID WIENER_TAPS_MID starting_taps starting_taps }

first_kept : (refs taps : List ℤ) → AreWithin 3 WIENER_TAPS_MIN WIENER_TAPS_MAX refs → AreWithin 3 WIENER_TAPS_MIN WIENER_TAPS_MAX taps → AreWithin 3 WIENER_TAPS_MIN WIENER_TAPS_MAX (number_at refs 0 ∷ drop 1 taps)
first_kept refs taps f g zero h = f 0 h
first_kept refs [] f g (suc k) h = g (suc k) h
first_kept refs (t ∷ taps) f g (suc k) h = g (suc k) h

renewed_within : (luma : Bool) (taps refs : List ℤ) → AreWithin 3 WIENER_TAPS_MIN WIENER_TAPS_MAX refs → ArePassTaps luma taps → AreWithin 3 WIENER_TAPS_MIN WIENER_TAPS_MAX (renewed_taps luma taps refs)
renewed_within true taps refs f g = g.within
renewed_within false taps refs f g = first_kept refs taps f g.within

pub renewed_references : (plane : RestorationPlane) (luma : Bool) (filter : RestorationFilter) → HasReferences plane → IsFilterOf plane.lrf_type luma filter → HasReferences (renewed luma filter plane)
renewed_references plane luma Unfiltered h f = h
renewed_references plane luma (Wiener taps) h f =
    record { weights = h.weights; taps = both_passes _ _ (renewed_within luma (row_at taps 0) (row_at plane.wiener_ref 0) (h.taps 0 (omega arith)) (f.1.each_pass 0 (omega arith))) (renewed_within luma (row_at taps 1) (row_at plane.wiener_ref 1) (h.taps 1 (omega arith)) (f.1.each_pass 1 (omega arith))) }
renewed_references plane luma (Sgrproj set weights) h f = record { weights = f.2.within; taps = h.taps }
