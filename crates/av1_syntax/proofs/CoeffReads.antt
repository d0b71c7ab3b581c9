-- The coefficients of a transform block have one path to each type and list of levels.
use Rattle.std.proofs.Common.{◌≡◌, ℕ, ◌+◌, ◌-◌, ◌*◌, ◌/◌, ◌%◌, ◌^◌, ◌<◌, ◌≤◌, List, [], ◌∷◌, Bool, true, false, if◌then◌else◌, min, nat_eq, length, slice_index, codes, refl, sym, ap, subst, arith, ℤ}
use Rattle.av1_blocks.specs.declared.coefficients.TXB_CTX.{TXB_CTX}
use Rattle.av1_cdf.specs.Distribution.{Distribution, HasSymbols}
use Rattle.av1_cdf.specs.Layout.{slot}
use Rattle.av1_coef.specs.Contexts.{base_context, range_context, place_offset, is_corner, range_offset, is_low, last_context, size_context, coded_area, coded_height}
use Rattle.av1_coef.proofs.CodedSizes.{area_few}
use Rattle.av1_coef.proofs.Offsets.{nz_offset_few, nz_offset_1d_few}
use Rattle.av1_geometry.specs.CoefficientTables.{eob_class}
use Rattle.av1_geometry.specs.TxTables.{class_of}
use Rattle.av1_geometry.specs.declared.tx_size.TxSize.{TxSize}
use Rattle.av1_geometry.specs.declared.tx_size.TxSize.TheVariants.{TX_4X4}
use Rattle.av1_geometry.specs.declared.tx_type.TxClass.{TxClass}
use Rattle.av1_geometry.specs.declared.tx_type.TxClass.TheVariants.{TX_CLASS_2D, TX_CLASS_HORIZ, TX_CLASS_VERT}
use Rattle.av1_geometry.specs.declared.tx_type.TxType.{TxType}
use Rattle.av1_model.specs.Element.{Element, known, choose, after, renamed, Reads}
use Rattle.av1_model.proofs.ElementLaws.{known_reads, reads_as, choose_reads, after_reads, renamed_reads}
use Rattle.av1_syntax.specs.Calls.{adaptive}
use Rattle.av1_syntax.specs.Coefficients.{known_after, base_distribution, range_distribution, sign_distribution, one_dimensional, block_element, are_none, coeffs_among, AreLevels, AreCoeffs}
use Rattle.av1_syntax.specs.EndOfBlock.{area_number, end_element}
use Rattle.av1_syntax.specs.Flags.{flag}
use Rattle.av1_syntax.specs.Levels.{least, levels_element, sign_by}
use Rattle.av1_syntax.proofs.CoeffSlots.{txb_skip_has, dc_sign_has, eob_extra_has, base_eob_has, base_has, br_has, eob_flag_has}
use Rattle.av1_syntax.proofs.Elements.{flag_reads}
use Rattle.av1_syntax.proofs.EndReads.{class_few, among_reads}
use Rattle.av1_syntax.proofs.LevelReads.{AreCoders, AreCounted, counted_read}
use Rattle.av1_syntax.proofs.Readings.{even_has}

pub size_few : (size : TxSize) → size_context size < 5
size_few TX_4X4 = omega arith
size_few _ = omega arith

either_few : (b : Bool) (x y n : ℕ) → x ≤ n → y ≤ n → (if b then x else y) ≤ n
either_few true x y n h k = h
either_few false x y n h k = k

place_few : (class : TxClass) (size : TxSize) (c r : ℕ) → place_offset class size c r ≤ 36
place_few TX_CLASS_2D size c r = let n = nz_offset_few size (min r 4) (min c 4) in omega (arith, n)
place_few TX_CLASS_HORIZ size c r = nz_offset_1d_few c
place_few TX_CLASS_VERT size c r = nz_offset_1d_few r

pub base_few : (class : TxClass) (size : TxSize) (level : ℕ → ℕ → ℕ) (c r : ℕ) → base_context class size level c r ≤ 40
base_few class size level c r = either_few (is_corner class c r) 0 _ 40 (omega arith) (let p = place_few class size c r in omega (arith, p))

pub range_few : (class : TxClass) (level : ℕ → ℕ → ℕ) (c r : ℕ) → range_context class level c r ≤ 20
range_few class level c r =
    let o : range_offset class c r ≤ 14 = either_few (nat_eq (c + r) 0) 0 _ 14 (omega arith) (either_few (is_low class c r) 7 14 14 (omega arith) (omega arith)) in
    omega (arith, o)

pub last_few : (area i : ℕ) → last_context area i ≤ 3
last_few area i = either_few _ 0 _ 3 (omega arith) (either_few _ 1 _ 3 (omega arith) (either_few _ 2 3 3 (omega arith) (omega arith)))

pub one_few : (class : TxClass) → one_dimensional class < 2
one_few TX_CLASS_2D = omega arith
one_few TX_CLASS_HORIZ = omega arith
one_few TX_CLASS_VERT = omega arith

-- what codes sizes
coders_base : (size : TxSize) (p : ℕ) (class : TxClass) (scan : List ℕ) → p < 2 → (c : ℕ) (later : List ℕ) → HasSymbols (base_distribution size p class scan c later) (4 - least later)
coders_base size p class scan l c [] = base_eob_has (size_context size) p (last_context (coded_area size) c) (size_few size) l (let f = last_few (coded_area size) c in omega (arith, f))
coders_base size p class scan l c (a ∷ later) =
    let h = coded_height size in
    let at = slice_index scan c in
    let level = known_after size scan c (a ∷ later) in
    base_has (size_context size) p (base_context class size level (at / h) (at % h)) (size_few size) l (let f = base_few class size level (at / h) (at % h) in omega (arith, f))

pub coders : (size : TxSize) (p : ℕ) (class : TxClass) (scan : List ℕ) → p < 2 → AreCoders (base_distribution size p class scan) (range_distribution size p class scan)
coders size p class scan l = record {
  base = coders_base size p class scan l;
  range = λ c later.
      let h = coded_height size in
      let at = slice_index scan c in
      let level = known_after size scan c later in
      br_has (min (size_context size) 3) p (range_context class level (at / h) (at % h)) (omega arith) l (let f = range_few class level (at / h) (at % h) in omega (arith, f));
}

pub signs_have : (p context : ℕ) → p < 2 → context < 3 → (k : ℕ) → HasSymbols (sign_distribution p context k) 2
signs_have p context l m k =
    (elim (nat_eq k 0) as (λ b. HasSymbols (sign_by b (slot (codes "dc_sign_cdf") (p ∷ context ∷ []))) 2) [
      | true ↦ dc_sign_has p context l m
      | false ↦ even_has
    ])

area_within : (by_coded : Bool) (size : TxSize) → coded_area size ≤ 2 ^ (area_number by_coded size + 4)
area_within false TX_4X4 = omega arith
area_within false _ = omega arith
area_within true TX_4X4 = omega arith
area_within true _ = omega arith

pub class_within : (by_coded : Bool) (size : TxSize) (end : ℕ) → 1 ≤ end → end ≤ coded_area size → eob_class end ≤ 5 + area_number by_coded size
class_within by_coded size end some few =
    let c = class_few end (area_number by_coded size + 4) some (omega (arith, few, area_few size)) (omega (arith, few, area_within by_coded size)) in
    omega (arith, c)

pub end_reads : (by_coded : Bool) (size : TxSize) (p o : ℕ) → p < 2 → o < 2 → Reads HasSymbols (end_element by_coded size p o) (λ end. (1 ≤ end) × (end ≤ coded_area size)) 10
end_reads by_coded size p o l m =
    let k = area_number by_coded size in
    let few = area_few size in
    among_reads _ (5 + k) _ (coded_area size) (omega arith) (eob_flag_has k p o (omega arith) l m) (λ t a b. eob_extra_has (size_context size) p (t - 3) (size_few size) l (omega (arith, a, b))) few
    (class_within by_coded size)

-- one or more levels
pub AreSome : ℕ → List ℤ → Type 0
AreSome most levels = (1 ≤ length levels) × AreLevels most levels

some_counted : (most : ℕ) (levels : List ℤ) → AreSome most levels → ((1 ≤ length levels) × (length levels ≤ most)) × AreCounted (length levels) levels
unfolding AreSome
some_counted most levels h = ((h.0, h.1.few), record { long = refl; small = h.1.small; last = h.1.last })

counted_some : (most : ℕ) (levels : List ℤ) → ((1 ≤ length levels) × (length levels ≤ most)) × AreCounted (length levels) levels → AreSome most levels
unfolding AreSome
counted_some most levels h = (h.0.0, record { few = h.0.1; small = h.1.small; last = h.1.last })

pub block_reads : (by_coded : Bool) (size : TxSize) (p context : ℕ) (class : TxClass) (scan : List ℕ) → p < 2 → context < 3 → Reads HasSymbols (block_element by_coded size p context class scan) (AreSome (coded_area size)) 70666
block_reads by_coded size p context class scan l m =
    let levels = levels_element (base_distribution size p class scan) (range_distribution size p class scan) (sign_distribution p context) in
    let few = area_few size in
    reads_as HasSymbols (block_element by_coded size p context class scan) (λ ls. ((1 ≤ length ls) × (length ls ≤ coded_area size)) × AreCounted (length ls) ls) (AreSome (coded_area size)) 70666 70666 (counted_some (coded_area size)) (some_counted (coded_area size)) (omega arith)
    (after_reads HasSymbols (end_element by_coded size p (one_dimensional class)) levels length (λ n. (1 ≤ n) × (n ≤ coded_area size)) AreCounted 10 70656 (λ n ls q h. h.long) (end_reads by_coded size p (one_dimensional class) l (one_few class))
    (λ n q. reads_as HasSymbols (levels n) (AreCounted n) (AreCounted n) (69 * n) 70656 (λ ls h. h) (λ ls h. h) (omega (arith, q.1, few)) (counted_read _ _ _ (coders size p class scan l) (signs_have p context l m) n)))

none_is : (levels : List ℤ) → are_none levels ≡ true → levels ≡ []
none_is [] h = refl
none_is (v ∷ vs) h = absurd cc

some_is : (levels : List ℤ) → are_none levels ≡ false → 1 ≤ length levels
some_is [] h = absurd cc
some_is (v ∷ vs) h = omega arith

is_some : (levels : List ℤ) → 1 ≤ length levels → are_none levels ≡ false
is_some [] h = absurd (omega (arith, h))
is_some (v ∷ vs) h = refl

no_levels : (most : ℕ) → AreLevels most []
no_levels most = record { few = omega arith; small = λ k l. absurd (omega (arith, l)); last = λ l. absurd (omega (arith, l)) }

module _ (by_coded : Bool) (types : Element Distribution TxType) (IsType : TxType → Type 0) (without : TxType) (size : TxSize) (p : ℕ) (contexts : TXB_CTX) (scans : TxClass → List ℕ)
    (told : Reads HasSymbols types IsType 1) (plane : p < 2) (skip : contexts.txb_skip_ctx < 13) (sign : contexts.dc_sign_ctx < 3) where
  abbrev block : TxType → Element Distribution (List ℤ)
  block t = block_element by_coded size p contexts.dc_sign_ctx (class_of t) (scans (class_of t))

  abbrev typed : TxType → Element Distribution (TxType × List ℤ)
  typed t = renamed (block t) (λ levels. (t, levels)) (λ a. a.1)

  abbrev with_levels : Element Distribution (TxType × List ℤ)
  with_levels = after types typed (λ a. a.0)

  abbrev IsTyped : TxType → TxType × List ℤ → Type 0
  IsTyped t a = (a.0 ≡ t) × AreSome (coded_area size) a.1

  pub typed_read : (t : TxType) → Reads HasSymbols (typed t) (IsTyped t) 70666
  typed_read t =
      renamed_reads HasSymbols (block t) (λ levels. (t, levels)) (λ a. a.1) (AreSome (coded_area size)) (IsTyped t) 70666 (λ a h. (h.1, λ i. (sym h.0 i, a.1))) (λ levels h. ((refl, h), refl))
      (block_reads by_coded size p contexts.dc_sign_ctx (class_of t) (scans (class_of t)) plane sign)

  with_levels_read : Reads HasSymbols with_levels (λ a. IsType a.0 × IsTyped a.0 a) 70667
  with_levels_read = after_reads HasSymbols types typed (λ a. a.0) IsType IsTyped 1 70666 (λ t a q h. h.0) told (λ t q. typed_read t)

  abbrev Told : Bool → TxType × List ℤ → Type 0
  Told none a = (are_none a.1 ≡ none) × AreCoeffs IsType without (coded_area size) a

  none_told : (a : TxType × List ℤ) → a ≡ (without, []) → Told true a
  none_told a e = subst (Told true) (sym e) (refl, record { levels = no_levels (coded_area size); none = λ z. refl; some = λ l. absurd (omega (arith, l)) })

  told_none : (a : TxType × List ℤ) → Told true a → a ≡ (without, [])
  told_none a h = let e = none_is a.1 h.0 in let t = h.1.none (ap (λ (l : List ℤ). length l) e) in λ i. (t i, e i)

  some_told : (a : TxType × List ℤ) → IsType a.0 × IsTyped a.0 a → Told false a
  unfolding AreSome
  some_told a h = let l = h.1.1.0 in (is_some a.1 l, record { levels = h.1.1.1; none = λ z. absurd (omega (arith, l, z)); some = λ m. h.0 })

  pub told_some : (a : TxType × List ℤ) → Told false a → IsType a.0 × IsTyped a.0 a
  unfolding AreSome
  told_some a h = let l = some_is a.1 h.0 in (h.1.some l, (refl, (l, h.1.levels)))

  pub told_reads : (none : Bool) → Reads HasSymbols (choose none (known (without, [])) with_levels) (Told none) 70667
  told_reads none =
      choose_reads HasSymbols none (known (without, [])) with_levels (Told none) 70667
      (λ t. reads_as HasSymbols (known (without, [])) (λ a. a ≡ (without, [])) (Told none) 0 70667 (λ a h. subst (λ b. Told b a) (sym t) (none_told a h)) (λ a h. told_none a (subst (λ b. Told b a) t h)) (omega arith) (known_reads HasSymbols (without, [])))
      (λ f. reads_as HasSymbols with_levels (λ a. IsType a.0 × IsTyped a.0 a) (Told none) 70667 70667 (λ a h. subst (λ b. Told b a) (sym f) (some_told a h)) (λ a h. told_some a (subst (λ b. Told b a) f h)) (omega arith) with_levels_read)

  pub coeffs_reads : Reads HasSymbols (coeffs_among by_coded types without size p contexts scans) (AreCoeffs IsType without (coded_area size)) 70668
  coeffs_reads =
      let q = adaptive (codes "txb_skip_cdf") (size_context size ∷ contexts.txb_skip_ctx ∷ []) in
      reads_as HasSymbols (coeffs_among by_coded types without size p contexts scans) (λ a. Unit {0} × Told (are_none a.1) a) (AreCoeffs IsType without (coded_area size)) 70668 70668 (λ a h. h.1.1) (λ a h. (tt, (refl, h))) (omega arith)
      (after_reads HasSymbols (flag q) (λ none. choose none (known (without, [])) with_levels) (λ a. are_none a.1) (λ none. Unit {0}) Told 1 70667 (λ none a u h. h.0) (flag_reads q (txb_skip_has (size_context size) contexts.txb_skip_ctx (size_few size) skip))
      (λ none u. told_reads none))
