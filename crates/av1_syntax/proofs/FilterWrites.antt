-- What calls that code the filters of loop restoration write.
use Rattle.std.proofs.Common.{◌≡◌, ℕ, zero, suc, ◌+◌, ◌-◌, ◌<◌, ◌≤◌, List, [], ◌∷◌, ◌++◌, Bool, true, false, if◌then◌else◌, Result, Err, Some, nat_eq, length, get_or, refl, sym, ap, subst, ◌∙◌, arith, inl, inr, ℤ, pos, negsuc, ◌+ℤ◌, ◌-ℤ◌, ◌≤ℤ◌, w8, w32}
use mir.Val.{SFits, to_z, of_z}
use Rattle.std.specs.Prelude.{OnOk, OnErr, slice_get}
use Rattle.std.proofs.lemmas.Bool.Decides.{nat_tests}
use Rattle.std.proofs.lemmas.Int.{ints, to_z-of_z}
use Rattle.std.proofs.lemmas.List.{length-map}
use Rattle.av1_cdf.specs.Distribution.{Distribution, Even, HasSymbols}
use Rattle.av1_cdf.specs.Distribution.Distribution.{Adaptive}
use Rattle.av1_cdf.specs.Layout.{Slot}
use Rattle.av1_codes.specs.Codes.{refsubexp_between}
use Rattle.av1_ec.specs.CodeTrees.{IsFlat, between_tree, bit_symbols}
use Rattle.av1_ec.specs.Flat.{bool_token, flat_tokens}
use Rattle.av1_ec.proofs.CodeTrees.{between_reads, flat_writes}
use Rattle.av1_ec.proofs.Lengths.{between_length, flat_valid}
use Rattle.av1_model.specs.Comes.{Standing, standing, Stores, Comes, Writes, Begins, Wrote}
use Rattle.av1_model.specs.Element.{Element, known, symbol, Reads}
use Rattle.av1_model.specs.Interval.{IsInterval}
use Rattle.av1_model.specs.Position.{Position, advance_all, interval_of}
use Rattle.av1_model.specs.Syntax.{Syntax, Leads, bind}
use Rattle.av1_model.specs.Syntax.Syntax.{Done}
use Rattle.av1_model.proofs.ComesLaws.{stays, writes_first, begins_first, begins_then, begins_none, wrote_then, wrote_as}
use Rattle.av1_model.proofs.Positions.{advance_all_shift}
use Rattle.av1_model.proofs.TreeLaws.{leads_then}
use Rattle.av1_geometry.specs.declared.constants.TheConstants.{SGRPROJ_XQD_MIN, SGRPROJ_XQD_MAX, WIENER_TAPS_MIN, WIENER_TAPS_MAX}
use Rattle.av1_syntax.specs.Calls.{Context, coded_in, learnt_in}
use Rattle.av1_syntax.specs.Literals.{literal}
use Rattle.av1_syntax.specs.Restoration.{number_at, row_at, each, kind_of, kinds, kind_symbol, kind_slot, kind_element, near_word, near_element, has_radius, unused_weight, weight_by, weight_element, sgrproj_element, tap_element, wiener_element, filter_element, lrf_element, IsBetween, AreWithin, AreReferences, HasReferences, AreWeights, ArePassTaps, AreTaps, IsKindOf, IsFilterOf}
use Rattle.av1_syntax.specs.declared.restoration.RestorationFilter.{RestorationFilter}
use Rattle.av1_syntax.specs.declared.restoration.RestorationFilter.TheVariants.{Wiener, Sgrproj}
use Rattle.av1_syntax.specs.declared.restoration.RestorationPlane.{RestorationPlane}
use Rattle.av1_syntax.proofs.Restoring.{each_reads, pass_reads, weights_read, filter_reads, from_filter}
use Rattle.av1_syntax.proofs.Writing.{wrote_symbol, chosen, chosen_last}

abbrev Numbers : Type 0
Numbers = Standing Context

-- a number by its distance from a reference
even_flat : IsFlat coded_in learnt_in Even
even_flat = record { even = λ c. refl; same = λ c s. refl }

pub near_few : (least greatest ref v : ℤ) (k : ℕ) → IsBetween least greatest ref → (greatest -ℤ least) ≤ℤ pos 1000 → k ≤ 16 → length (near_word least greatest k ref v) ≤ 49
near_few least greatest ref v k h few w = let a = h.from in let b = h.to in between_length least (greatest +ℤ pos 1) ref v k (omega (arith, ints, a, b)) (omega (arith, ints, few)) w

pub word_near : (p : Position) (bits : List Bool) → IsInterval (interval_of p) → length bits ≤ 49 → (advance_all p (flat_tokens bits)).shift ≤ p.shift + 637
word_near p bits h few = omega (arith, advance_all_shift p (flat_tokens bits) h (flat_valid bits), length-map bits (bool_token 16384), few)

pub near_written : (least greatest ref v : ℤ) (k : ℕ) (p q : Position) (at : Context) → IsBetween least greatest ref → IsBetween least greatest v → q ≡ advance_all p (flat_tokens (near_word least greatest k ref v)) →
    Writes coded_in learnt_in (near_element least greatest k ref).tree v (standing p at) (standing q at)
near_written least greatest ref v k p q at h l e =
    let b = h.to in
    let c = l.to in
    let r = between_reads Even least (greatest +ℤ pos 1) ref k h.from (omega (arith, ints, b)) in
    flat_writes coded_in learnt_in Even even_flat (between_tree Even least (greatest +ℤ pos 1) k ref) (near_word least greatest k ref v) v (standing p at) (standing q at) r.asks (r.leads v (l.from, omega (arith, ints, c))) e refl

pub near_begun : (least greatest ref v : ℤ) (k : ℕ) (p q : Position) (at : Context) → IsBetween least greatest ref → IsBetween least greatest v → q ≡ p → Begins coded_in learnt_in (near_element least greatest k ref).tree v (standing p at) (standing q at)
near_begun least greatest ref v k p q at h l e =
    let b = h.to in
    let c = l.to in
    let r = between_reads Even least (greatest +ℤ pos 1) ref k h.from (omega (arith, ints, b)) in
    begins_none coded_in learnt_in (between_tree Even least (greatest +ℤ pos 1) k ref) (bit_symbols (near_word least greatest k ref v)) v (standing p at) (standing q at) (r.leads v (l.from, omega (arith, ints, c))) (ap (λ p. standing p at) e)

-- one element after another
module _ {A : Type 0} (e : ℕ → Element Distribution A) (d : A) (k n : ℕ) (a : A) (more : List A) where
  first_done : (old mid : Numbers) → Writes coded_in learnt_in (e k).tree a old mid → Comes coded_in learnt_in (each e d k (suc n)).tree (bind (each e d (suc k) n).tree (λ more. Done (a ∷ more))) old mid
  first_done old mid w = writes_first coded_in learnt_in (e k).tree (λ a. bind (each e d (suc k) n).tree (λ more. Done (a ∷ more))) a old mid w

  pub each_wrote : {U E : Type 0} (r : Result U E) (old mid new : Numbers) → Writes coded_in learnt_in (e k).tree a old mid → Wrote coded_in learnt_in r (each e d (suc k) n).tree more mid new → Wrote coded_in learnt_in r (each e d k (suc n)).tree (a ∷ more) old new
  each_wrote r old mid new w v =
      wrote_then coded_in learnt_in r (each e d k (suc n)).tree (bind (each e d (suc k) n).tree (λ more. Done (a ∷ more))) (a ∷ more) old mid new (first_done old mid w)
      (wrote_as coded_in learnt_in r (each e d (suc k) n).tree (λ more. Done (a ∷ more)) more (a ∷ more) mid new refl v)

  pub each_begun : (ss : List ℕ) (old new : Numbers) → Leads (each e d (suc k) n).tree ss more → Begins coded_in learnt_in (e k).tree a old new → Begins coded_in learnt_in (each e d k (suc n)).tree (a ∷ more) old new
  each_begun ss old new h b =
      begins_first coded_in learnt_in (e k).tree (λ a. bind (each e d (suc k) n).tree (λ more. Done (a ∷ more))) a (a ∷ more) (ss ++ []) old new (leads_then (each e d (suc k) n).tree (λ more. Done (a ∷ more)) ss [] more (a ∷ more) h refl) b

  pub each_begun_later : (old mid new : Numbers) → Writes coded_in learnt_in (e k).tree a old mid → Begins coded_in learnt_in (each e d (suc k) n).tree more mid new → Begins coded_in learnt_in (each e d k (suc n)).tree (a ∷ more) old new
  each_begun_later old mid new w b =
      begins_then coded_in learnt_in (each e d k (suc n)).tree (bind (each e d (suc k) n).tree (λ more. Done (a ∷ more))) (a ∷ more) old mid new (first_done old mid w)
      (begins_first coded_in learnt_in (each e d (suc k) n).tree (λ more. Done (a ∷ more)) more (a ∷ more) [] mid new refl b)

pub each_last : {A U E : Type 0} (r : Result U E) (e : ℕ → Element Distribution A) (d : A) (k : ℕ) (a : A) (old new : Numbers) → Wrote coded_in learnt_in r (e k).tree a old new → Wrote coded_in learnt_in r (each e d k 1).tree (a ∷ []) old new
each_last r e d k a old new w = wrote_as coded_in learnt_in r (e k).tree (λ a. Done (a ∷ [])) a (a ∷ []) old new refl w

-- the kind of a filter
pub kind_told : (t kind : ℕ) → 1 ≤ t → t ≤ 3 → IsKindOf t kind → slice_get (kinds t) (kind_symbol t kind) ≡ Some kind
kind_told zero kind h l k = absurd (omega (arith, h))
kind_told (suc zero) zero h l k = refl
kind_told (suc zero) (suc zero) h l k = refl
kind_told (suc zero) (suc (suc zero)) h l k = refl
kind_told (suc (suc zero)) zero h l k = refl
kind_told (suc (suc zero)) (suc zero) h l k = refl
kind_told (suc (suc zero)) (suc (suc zero)) h l k = elim k [ inl e ↦ absurd (omega (arith, e)) | inr e ↦ absurd (omega (arith, e)) ]
kind_told (suc (suc (suc zero))) zero h l k = refl
kind_told (suc (suc (suc zero))) (suc zero) h l k = elim k [ inl e ↦ absurd (omega (arith, e)) | inr e ↦ absurd (omega (arith, e)) ]
kind_told (suc (suc (suc zero))) (suc (suc zero)) h l k = refl
kind_told (suc (suc (suc (suc t)))) kind h l k = absurd (omega (arith, l))
kind_told t (suc (suc (suc kind))) h l k = absurd k

not_zero : (t : ℕ) → 1 ≤ t → nat_eq t 0 ≡ false
not_zero t h = grind (arith, nat_tests)

pub kind_wrote : {U E : Type 0} (r : Result U E) (t kind s : ℕ) (p : Slot) (old new : Numbers) → 1 ≤ t → t ≤ 3 → IsKindOf t kind → p ≡ kind_slot t → s ≡ kind_symbol t kind → OnOk r (Stores coded_in learnt_in (Adaptive p) s old new) → OnErr r (new ≡ old) →
    Wrote coded_in learnt_in r (kind_element t).tree kind old new
kind_wrote r t kind s p old new h l k e f ok err =
    chosen_last r (nat_eq t 0) (known 0) (symbol (Adaptive (kind_slot t)) (slice_get (kinds t)) (kind_symbol t)) kind old new (not_zero t h) (wrote_symbol r p (kind_slot t) (slice_get (kinds t)) (kind_symbol t) s kind old new e f (kind_told t kind h l k) ok err)

pub kind_none : (t kind : ℕ) (at : Numbers) → t ≡ 0 → IsKindOf t kind → Writes coded_in learnt_in (kind_element t).tree kind at at
kind_none zero zero at e k = stays coded_in learnt_in (Done 0) at
kind_none zero (suc zero) at e k = elim k [ inl e ↦ absurd (omega (arith, e)) | inr e ↦ absurd (omega (arith, e)) ]
kind_none zero (suc (suc zero)) at e k = elim k [ inl e ↦ absurd (omega (arith, e)) | inr e ↦ absurd (omega (arith, e)) ]
kind_none zero (suc (suc (suc kind))) at e k = absurd k
kind_none (suc t) kind at e k = absurd (omega (arith, e))

-- lists of two and of three
pub list2 : {A : Type 0} (xs : List A) (d : A) → length xs ≡ 2 → xs ≡ get_or xs 0 d ∷ get_or xs 1 d ∷ []
list2 [] d h = absurd (omega (arith, h))
list2 (x ∷ []) d h = absurd (omega (arith, h))
list2 (x ∷ y ∷ []) d h = refl
list2 (x ∷ y ∷ z ∷ xs) d h = absurd (omega (arith, h))

pub list3 : {A : Type 0} (xs : List A) (d : A) → length xs ≡ 3 → xs ≡ get_or xs 0 d ∷ get_or xs 1 d ∷ get_or xs 2 d ∷ []
list3 [] d h = absurd (omega (arith, h))
list3 (x ∷ []) d h = absurd (omega (arith, h))
list3 (x ∷ y ∷ []) d h = absurd (omega (arith, h))
list3 (x ∷ y ∷ z ∷ []) d h = refl
list3 (x ∷ y ∷ z ∷ w ∷ xs) d h = absurd (omega (arith, h))

-- a small number is one of the code's numbers
small_bounds : (x : ℤ) → SFits w8 x → (negsuc 127 ≤ℤ x) × (x ≤ℤ pos 127)
small_bounds (pos n) h = let l = h.sfits in (omega (arith, ints, l), omega (arith, ints, l))
small_bounds (negsuc n) h = let l = h.sfits in (omega (arith, ints, l), omega (arith, ints, l))

wide_fits : (x : ℤ) → negsuc 127 ≤ℤ x → x ≤ℤ pos 128 → SFits w32 x
wide_fits (pos n) l h = record { sfits = omega (arith, ints, l, h) }
wide_fits (negsuc n) l h = record { sfits = omega (arith, ints, l, h) }

as_wide : (n x : ℤ) → SFits w8 x → n ≡ to_z w8 (of_z w8 x) → to_z w32 (of_z w32 n) ≡ x
as_wide n x h e =
    let same = e ∙ to_z-of_z w8 x h in
    let b = small_bounds x h in
    let l = b.0 in
    let u = b.1 in
    ap (λ z. to_z w32 (of_z w32 z)) same ∙ to_z-of_z w32 x (wide_fits x l (omega (arith, ints, u)))

module _ (least greatest ref v : ℤ) (k : ℕ) (fl : SFits w8 least) (fg : SFits w8 greatest) (fr : SFits w8 ref) (fv : SFits w8 v) (nv nl ng nr : ℤ) (ev : nv ≡ to_z w8 (of_z w8 v)) (el : nl ≡ to_z w8 (of_z w8 least)) (eg : ng ≡ to_z w8 (of_z w8 greatest)) (er : nr ≡ to_z w8 (of_z w8 ref)) where
  end_is : to_z w32 (of_z w32 (to_z w32 (of_z w32 ng) +ℤ pos 1)) ≡ greatest +ℤ pos 1
  end_is =
      let b = small_bounds greatest fg in
      let l = b.0 in
      let u = b.1 in
      ap (λ z. to_z w32 (of_z w32 (z +ℤ pos 1))) (as_wide ng greatest fg eg) ∙ to_z-of_z w32 (greatest +ℤ pos 1) (wide_fits (greatest +ℤ pos 1) (omega (arith, ints, l)) (omega (arith, ints, u)))

  pub near_word_is : refsubexp_between (to_z w32 (of_z w32 nl)) (to_z w32 (of_z w32 (to_z w32 (of_z w32 ng) +ℤ pos 1))) k (to_z w32 (of_z w32 nr)) (to_z w32 (of_z w32 nv)) ≡ near_word least greatest k ref v
  near_word_is = λ i. refsubexp_between (as_wide nl least fl el i) (end_is i) k (as_wide nr ref fr er i) (as_wide nv v fv ev i)

  pub near_short : IsBetween least greatest ref → k ≤ 16 → length (near_word least greatest k ref v) ≤ 49
  near_short h w =
      let a = (small_bounds least fl).0 in
      let b = (small_bounds greatest fg).1 in
      near_few least greatest ref v k h (omega (arith, ints, a, b)) w

-- how many kinds a type has
pub all_long : (t : ℕ) → t ≡ 1 → length (kinds t) ≡ 3
all_long t e = ap (λ t. length (kinds t)) e

pub two_long : (t : ℕ) → (t ≡ 1 → ⊥) → length (kinds t) ≡ 2
two_long t h = let e : nat_eq t 1 ≡ false = grind (arith, nat_tests) in ap (λ (b : Bool). length (if b then 0 ∷ 1 ∷ 2 ∷ [] else 0 ∷ (t - 1) ∷ [])) e

-- three elements, and two
module _ {A : Type 0} (e : ℕ → Element Distribution A) (d : A) (P : ℕ → A → Type 0) (most : ℕ) (xs : List A) where
  module _ (reads : (j : ℕ) → j < 3 → Reads HasSymbols (e j) (P j) most) (long : length xs ≡ 3) (are : (j : ℕ) → j < 3 → P j (get_or xs j d)) where
    as_three : {U E : Type 0} (r : Result U E) (old new : Numbers) → Wrote coded_in learnt_in r (each e d 0 3).tree (get_or xs 0 d ∷ get_or xs 1 d ∷ get_or xs 2 d ∷ []) old new → Wrote coded_in learnt_in r (each e d 0 3).tree xs old new
    as_three r old new h = subst (λ (ys : List A). Wrote coded_in learnt_in r (each e d 0 3).tree ys old new) (sym (list3 xs d long)) h

    pub three_first : (old new : Numbers) → Begins coded_in learnt_in (e 0).tree (get_or xs 0 d) old new → Begins coded_in learnt_in (each e d 0 3).tree xs old new
    three_first old new b =
        let rest = (each_reads e d P most 1 2 (λ j l m. reads j (omega (arith, m)))).leads (get_or xs 1 d ∷ get_or xs 2 d ∷ []) (are 1 (omega arith), (refl, (are 2 (omega arith), (refl, refl)))) in
        as_three {U = Unit {0}} {E = Unit {0}} (Err tt) old new (each_begun e d 0 2 (get_or xs 0 d) (get_or xs 1 d ∷ get_or xs 2 d ∷ []) _ old new rest b)

    pub three_second : (old mid new : Numbers) → Writes coded_in learnt_in (e 0).tree (get_or xs 0 d) old mid → Begins coded_in learnt_in (e 1).tree (get_or xs 1 d) mid new → Begins coded_in learnt_in (each e d 0 3).tree xs old new
    three_second old mid new w b =
        let rest = (each_reads e d P most 2 1 (λ j l m. reads j (omega (arith, m)))).leads (get_or xs 2 d ∷ []) (are 2 (omega arith), (refl, refl)) in
        as_three {U = Unit {0}} {E = Unit {0}} (Err tt) old new (each_begun_later e d 0 2 (get_or xs 0 d) (get_or xs 1 d ∷ get_or xs 2 d ∷ []) old mid new w (each_begun e d 1 1 (get_or xs 1 d) (get_or xs 2 d ∷ []) _ mid new rest b))

    pub three_wrote : {U E : Type 0} (r : Result U E) (old mid late new : Numbers) → Writes coded_in learnt_in (e 0).tree (get_or xs 0 d) old mid → Writes coded_in learnt_in (e 1).tree (get_or xs 1 d) mid late →
        Wrote coded_in learnt_in r (e 2).tree (get_or xs 2 d) late new → Wrote coded_in learnt_in r (each e d 0 3).tree xs old new
    three_wrote r old mid late new w v u =
        as_three r old new (each_wrote e d 0 2 (get_or xs 0 d) (get_or xs 1 d ∷ get_or xs 2 d ∷ []) r old mid new w (each_wrote e d 1 1 (get_or xs 1 d) (get_or xs 2 d ∷ []) r mid late new v (each_last r e d 2 (get_or xs 2 d) late new u)))

  module _ (reads : (j : ℕ) → j < 2 → Reads HasSymbols (e j) (P j) most) (long : length xs ≡ 2) (are : (j : ℕ) → j < 2 → P j (get_or xs j d)) where
    as_two : {U E : Type 0} (r : Result U E) (old new : Numbers) → Wrote coded_in learnt_in r (each e d 0 2).tree (get_or xs 0 d ∷ get_or xs 1 d ∷ []) old new → Wrote coded_in learnt_in r (each e d 0 2).tree xs old new
    as_two r old new h = subst (λ (ys : List A). Wrote coded_in learnt_in r (each e d 0 2).tree ys old new) (sym (list2 xs d long)) h

    pub two_first : (old new : Numbers) → Begins coded_in learnt_in (e 0).tree (get_or xs 0 d) old new → Begins coded_in learnt_in (each e d 0 2).tree xs old new
    two_first old new b =
        let rest = (each_reads e d P most 1 1 (λ j l m. reads j (omega (arith, m)))).leads (get_or xs 1 d ∷ []) (are 1 (omega arith), (refl, refl)) in
        as_two {U = Unit {0}} {E = Unit {0}} (Err tt) old new (each_begun e d 0 1 (get_or xs 0 d) (get_or xs 1 d ∷ []) _ old new rest b)

    pub two_wrote : {U E : Type 0} (r : Result U E) (old mid new : Numbers) → Writes coded_in learnt_in (e 0).tree (get_or xs 0 d) old mid → Wrote coded_in learnt_in r (e 1).tree (get_or xs 1 d) mid new → Wrote coded_in learnt_in r (each e d 0 2).tree xs old new
    two_wrote r old mid new w v = as_two r old new (each_wrote e d 0 1 (get_or xs 0 d) (get_or xs 1 d ∷ []) r old mid new w (each_last r e d 1 (get_or xs 1 d) mid new v))

-- a Wiener filter by its taps
pub wiener_wrote : {U E : Type 0} (r : Result U E) (luma : Bool) (refs taps : List (List ℤ)) (old new : Numbers) → Wrote coded_in learnt_in r (each (λ pass. each (tap_element luma (row_at refs pass)) (pos 0) 0 3) [] 0 2).tree taps old new →
    Wrote coded_in learnt_in r (wiener_element luma refs).tree (Wiener taps) old new
wiener_wrote r luma refs taps old new h = wrote_as coded_in learnt_in r (each (λ pass. each (tap_element luma (row_at refs pass)) (pos 0) 0 3) [] 0 2).tree (λ taps. Done (Wiener taps)) taps (Wiener taps) old new refl h

-- a self-guided filter by its set and weights
module _ (refs : List ℤ) (set : ℕ) (weights : List ℤ) where
  abbrev weights_tree : ℕ → Syntax Distribution RestorationFilter
  weights_tree set = bind (each (weight_element set refs) (pos 0) 0 2).tree (λ ws. Done (Sgrproj set ws))

  pub sgrproj_begun : (old new : Numbers) → AreWithin 2 SGRPROJ_XQD_MIN SGRPROJ_XQD_MAX refs → AreWeights set weights → Begins coded_in learnt_in (literal 4).tree set old new → Begins coded_in learnt_in (sgrproj_element refs).tree (Sgrproj set weights) old new
  sgrproj_begun old new h are b =
      let e = each (weight_element set refs) (pos 0) 0 2 in
      let leads = leads_then e.tree (λ ws. Done (Sgrproj set ws)) (e.symbols weights) [] weights (Sgrproj set weights) ((weights_read set refs h).leads weights are) refl in
      begins_first coded_in learnt_in (literal 4).tree weights_tree set (Sgrproj set weights) (e.symbols weights ++ []) old new leads b

  pub sgrproj_wrote : {U E : Type 0} (r : Result U E) (old mid new : Numbers) → Writes coded_in learnt_in (literal 4).tree set old mid → Wrote coded_in learnt_in r (each (weight_element set refs) (pos 0) 0 2).tree weights mid new →
      Wrote coded_in learnt_in r (sgrproj_element refs).tree (Sgrproj set weights) old new
  sgrproj_wrote r old mid new w v =
      wrote_then coded_in learnt_in r (sgrproj_element refs).tree (weights_tree set) (Sgrproj set weights) old mid new (writes_first coded_in learnt_in (literal 4).tree weights_tree set old mid w)
      (wrote_as coded_in learnt_in r (each (weight_element set refs) (pos 0) 0 2).tree (λ ws. Done (Sgrproj set ws)) weights (Sgrproj set weights) mid new refl v)

-- a filter by its kind
module _ (plane : RestorationPlane) (luma : Bool) (filter : RestorationFilter) (h : HasReferences plane) (is : IsFilterOf plane.lrf_type luma filter) where
  abbrev filter_tree : ℕ → Syntax Distribution RestorationFilter
  filter_tree kind = (filter_element plane luma kind).tree

  pub lrf_begun : (old new : Numbers) → Begins coded_in learnt_in (kind_element plane.lrf_type).tree (kind_of filter) old new → Begins coded_in learnt_in (lrf_element plane luma).tree filter old new
  lrf_begun old new b =
      let p = from_filter plane.lrf_type luma filter is in
      begins_first coded_in learnt_in (kind_element plane.lrf_type).tree filter_tree (kind_of filter) filter ((filter_element plane luma (kind_of filter)).symbols filter) old new ((filter_reads plane luma plane.lrf_type (kind_of filter) h p.0).leads filter p.1) b

  kind_first : (old mid : Numbers) → Writes coded_in learnt_in (kind_element plane.lrf_type).tree (kind_of filter) old mid → Comes coded_in learnt_in (lrf_element plane luma).tree (filter_tree (kind_of filter)) old mid
  kind_first old mid w = writes_first coded_in learnt_in (kind_element plane.lrf_type).tree filter_tree (kind_of filter) old mid w

  pub lrf_begun_later : (old mid new : Numbers) → Writes coded_in learnt_in (kind_element plane.lrf_type).tree (kind_of filter) old mid → Begins coded_in learnt_in (filter_element plane luma (kind_of filter)).tree filter mid new →
      Begins coded_in learnt_in (lrf_element plane luma).tree filter old new
  lrf_begun_later old mid new w b = begins_then coded_in learnt_in (lrf_element plane luma).tree (filter_tree (kind_of filter)) filter old mid new (kind_first old mid w) b

  pub lrf_wrote : {U E : Type 0} (r : Result U E) (old mid new : Numbers) → Writes coded_in learnt_in (kind_element plane.lrf_type).tree (kind_of filter) old mid → Wrote coded_in learnt_in r (filter_element plane luma (kind_of filter)).tree filter mid new →
      Wrote coded_in learnt_in r (lrf_element plane luma).tree filter old new
  lrf_wrote r old mid new w v = wrote_then coded_in learnt_in r (lrf_element plane luma).tree (filter_tree (kind_of filter)) filter old mid new (kind_first old mid w) v

near_fits : (v : ℤ) → negsuc 127 ≤ℤ v → v ≤ℤ pos 127 → SFits w8 v
near_fits (pos n) l h = record { sfits = omega (arith, ints, l, h) }
near_fits (negsuc n) l h = record { sfits = omega (arith, ints, l, h) }

-- the numbers that the code reads are those of the lists
pub tap_fits : (k : ℕ) (v : ℤ) → k < 3 → IsBetween (number_at WIENER_TAPS_MIN k) (number_at WIENER_TAPS_MAX k) v → SFits w8 v
tap_fits zero v l h = let a = h.from in let b = h.to in near_fits v (omega (arith, ints, a)) (omega (arith, ints, b))
tap_fits (suc zero) v l h = let a = h.from in let b = h.to in near_fits v (omega (arith, ints, a)) (omega (arith, ints, b))
tap_fits (suc (suc zero)) v l h = let a = h.from in let b = h.to in near_fits v (omega (arith, ints, a)) (omega (arith, ints, b))
tap_fits (suc (suc (suc k))) v l h = absurd (omega (arith, l))

pub weight_fits : (k : ℕ) (v : ℤ) → k < 2 → IsBetween (number_at SGRPROJ_XQD_MIN k) (number_at SGRPROJ_XQD_MAX k) v → SFits w8 v
weight_fits zero v l h = let a = h.from in let b = h.to in near_fits v (omega (arith, ints, a)) (omega (arith, ints, b))
weight_fits (suc zero) v l h = let a = h.from in let b = h.to in near_fits v (omega (arith, ints, a)) (omega (arith, ints, b))
weight_fits (suc (suc k)) v l h = absurd (omega (arith, l))

-- an element by another name of its reference and its value
pub by_reference : {U E : Type 0} (r : Result U E) (e : ℤ → Element Distribution ℤ) (ref v : ℤ) (old new : Numbers) → SFits w8 ref → SFits w8 v → Wrote coded_in learnt_in r (e (to_z w8 (of_z w8 ref))).tree (to_z w8 (of_z w8 v)) old new →
    Wrote coded_in learnt_in r (e ref).tree v old new
by_reference r e ref v old new f g h =
    subst (λ (x : ℤ). Wrote coded_in learnt_in r (e x).tree v old new) (to_z-of_z w8 ref f) (subst (λ (x : ℤ). Wrote coded_in learnt_in r (e (to_z w8 (of_z w8 ref))).tree x old new) (to_z-of_z w8 v g) h)

-- a weight that has a pass
pub weight_wrote : {U E : Type 0} (r : Result U E) (set pass : ℕ) (ref v : ℤ) (old new : Numbers) → pass < 2 → has_radius set pass ≡ true →
    Wrote coded_in learnt_in r (near_element (to_z w8 (of_z w8 (number_at SGRPROJ_XQD_MIN pass))) (to_z w8 (of_z w8 (number_at SGRPROJ_XQD_MAX pass))) 4 ref).tree v old new → Wrote coded_in learnt_in r (weight_by set pass ref).tree v old new
weight_wrote r set zero ref v old new l e h = chosen r (has_radius set 0) (near_element (number_at SGRPROJ_XQD_MIN 0) (number_at SGRPROJ_XQD_MAX 0) 4 ref) (known (unused_weight 0)) v old new e h
weight_wrote r set (suc zero) ref v old new l e h = chosen r (has_radius set 1) (near_element (number_at SGRPROJ_XQD_MIN 1) (number_at SGRPROJ_XQD_MAX 1) 4 ref) (known (unused_weight 1)) v old new e h
weight_wrote r set (suc (suc pass)) ref v old new l e h = absurd (omega (arith, l))

-- the taps of both passes
module _ (luma : Bool) (refs taps : List (List ℤ)) (h : AreReferences refs) (are : AreTaps luma taps) where
  abbrev pass_element : ℕ → Element Distribution (List ℤ)
  pass_element pass = each (tap_element luma (row_at refs pass)) (pos 0) 0 3

  pub wiener_begun : (old new : Numbers) → Begins coded_in learnt_in (pass_element 0).tree (row_at taps 0) old new → Begins coded_in learnt_in (wiener_element luma refs).tree (Wiener taps) old new
  wiener_begun old new b =
      wiener_wrote {U = Unit {0}} {E = Unit {0}} (Err tt) luma refs taps old new (two_first pass_element [] (λ pass. ArePassTaps luma) 147 taps (λ j l. pass_reads luma (row_at refs j) (h j l)) are.two are.each_pass old new b)

  pub wiener_both : {U E : Type 0} (r : Result U E) (old mid new : Numbers) → Writes coded_in learnt_in (pass_element 0).tree (row_at taps 0) old mid → Wrote coded_in learnt_in r (pass_element 1).tree (row_at taps 1) mid new →
      Wrote coded_in learnt_in r (wiener_element luma refs).tree (Wiener taps) old new
  wiener_both r old mid new w v =
      wiener_wrote r luma refs taps old new (two_wrote pass_element [] (λ pass. ArePassTaps luma) 147 taps (λ j l. pass_reads luma (row_at refs j) (h j l)) are.two are.each_pass r old mid new w v)
