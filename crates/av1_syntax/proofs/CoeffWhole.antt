-- The whole of a transform block: whether it has levels, its type, and its levels.
use Rattle.std.proofs.Common.{◌≡◌, ℕ, zero, suc, ◌<◌, ◌≤◌, List, [], ◌∷◌, Bool, true, false, Result, nat_eq, min, length, slice_index, codes, refl, sym, ap, subst, ◌∙◌, arith, ℤ, unsigned_abs, IsTrue}
use Rattle.std.specs.List.{sum_by}
use Rattle.std.proofs.lemmas.List.{nil_from_length}
use Rattle.av1_blocks.specs.Coefficients.{with_dc_sign}
use Rattle.std.proofs.lemmas.Bool.Decides.{nat_tests}
use Rattle.av1_blocks.specs.declared.coefficients.TXB_CTX.{TXB_CTX}
use Rattle.av1_cdf.specs.Distribution.{Distribution, HasSymbols}
use Rattle.av1_cdf.specs.Distribution.Distribution.{Adaptive}
use Rattle.av1_cdf.specs.Layout.{Slot, slot}
use Rattle.av1_coef.specs.Contexts.{coded_area, size_context}
use Rattle.av1_geometry.specs.PredictionMode.{prediction_mode_number}
use Rattle.av1_geometry.specs.TxTables.{class_of, tx_set, uses}
use Rattle.av1_geometry.specs.declared.prediction_mode.PredictionMode.{PredictionMode}
use Rattle.av1_geometry.specs.declared.tx_size.TxSize.{TxSize}
use Rattle.av1_geometry.specs.declared.tx_type.TxClass.{TxClass}
use Rattle.av1_geometry.specs.declared.tx_type.TxType.{TxType}
use Rattle.av1_geometry.specs.declared.tx_type.TxType.TheVariants.{DCT_DCT}
use Rattle.av1_model.specs.Comes.{Standing, Comes, Writes, Begins, Wrote}
use Rattle.av1_model.specs.Element.{Element, known, choose, after, renamed, Reads}
use Rattle.av1_model.specs.Syntax.{Syntax}
use Rattle.av1_model.specs.Syntax.Syntax.{Done}
use Rattle.av1_model.proofs.ComesLaws.{comes_then, comes_as, writes_first, begins_first, begins_then, wrote_then, wrote_as}
use Rattle.av1_model.proofs.ElementLaws.{known_reads, reads_as}
use Rattle.av1_syntax.specs.Calls.{adaptive, Context, coded_in, learnt_in}
use Rattle.av1_syntax.specs.Coefficients.{block_element, are_none, plane_type, coeffs_among, types_element, type_without, IsTyped, coeffs_element, AreCoded, AreCoeffs, HasType, is_inter, value_at, levels_at, entry_of}
use Rattle.av1_syntax.specs.Flags.{flag}
use Rattle.av1_syntax.proofs.CoeffReads.{coeffs_reads, typed_read, told_reads, told_some}
use Rattle.av1_syntax.proofs.CoeffKnown.{length_levels, level_here}
use Rattle.av1_syntax.proofs.TransformTypes.{tx_type_reads}

abbrev Numbers : Type 0
Numbers = Standing Context

pub plane_few : (plane : ℕ) → plane_type plane < 2
plane_few zero = omega arith
plane_few (suc plane) = omega arith

pub below_13 : (mode : PredictionMode) → (prediction_mode_number mode ≡ 13 → ⊥) → is_inter mode ≡ false → prediction_mode_number mode < 13
below_13 mode n f =
    let m = prediction_mode_number mode in
    let l : m < 14 = grind (arith, nat_tests, f) in
    grind (arith, nat_tests, n, l)

-- the types of a plane
pub types_read : (plane : ℕ) (size : TxSize) (mode : PredictionMode) (reduced : Bool) (given : TxType) → (plane ≡ 0 → prediction_mode_number mode ≡ 13 → ⊥) →
    Reads HasSymbols (types_element plane size mode reduced given) (IsTyped plane size mode reduced given) 1
types_read zero size mode reduced given n = tx_type_reads size mode (is_inter mode) reduced (below_13 mode (n refl))
types_read (suc plane) size mode reduced given n = reads_as HasSymbols (known given) (λ t. t ≡ given) (λ t. t ≡ given) 0 1 (λ t h. h) (λ t h. h) (omega arith) (known_reads HasSymbols given)

pub element_reads : (by_coded : Bool) (plane : ℕ) (size : TxSize) (mode : PredictionMode) (reduced : Bool) (given : TxType) (contexts : TXB_CTX) (scans : TxClass → List ℕ) → (plane ≡ 0 → prediction_mode_number mode ≡ 13 → ⊥) → contexts.txb_skip_ctx < 13 → contexts.dc_sign_ctx < 3 →
    Reads HasSymbols (coeffs_element by_coded plane size mode reduced given contexts scans) (AreCoeffs (IsTyped plane size mode reduced given) (type_without plane given) (coded_area size)) 70668
element_reads by_coded plane size mode reduced given contexts scans n skip sign =
    coeffs_reads by_coded (types_element plane size mode reduced given) (IsTyped plane size mode reduced given) (type_without plane given) size (plane_type plane) contexts scans (types_read plane size mode reduced given n) (plane_few plane) skip sign

-- what a call writes of a transform block
module _ (by_coded : Bool) (types : Element Distribution TxType) (IsType : TxType → Type 0) (without : TxType) (size : TxSize) (p : ℕ) (contexts : TXB_CTX) (scans : TxClass → List ℕ)
    (told : Reads HasSymbols types IsType 1) (plane : p < 2) (skip : contexts.txb_skip_ctx < 13) (sign : contexts.dc_sign_ctx < 3)
    (t : TxType) (levels : List ℤ) (are : AreCoeffs IsType without (coded_area size) (t, levels)) where
  abbrev value : TxType × List ℤ
  value = (t, levels)

  abbrev all_zero : Syntax Distribution Bool
  all_zero = (flag (adaptive (codes "txb_skip_cdf") (size_context size ∷ contexts.txb_skip_ctx ∷ []))).tree

  abbrev block : TxType → Element Distribution (List ℤ)
  block t = block_element by_coded size p contexts.dc_sign_ctx (class_of t) (scans (class_of t))

  abbrev typed : TxType → Element Distribution (TxType × List ℤ)
  typed t = renamed (block t) (λ levels. (t, levels)) (λ a. a.1)

  abbrev with_levels : Element Distribution (TxType × List ℤ)
  with_levels = after types typed (λ a. a.0)

  abbrev rest : Bool → Element Distribution (TxType × List ℤ)
  rest none = choose none (known (without, [])) with_levels

  abbrev whole : Syntax Distribution (TxType × List ℤ)
  whole = (coeffs_among by_coded types without size p contexts scans).tree

  pub all_zero_refused : (old new : Numbers) → Begins coded_in learnt_in all_zero (are_none levels) old new → Begins coded_in learnt_in whole value old new
  all_zero_refused old new b =
      begins_first coded_in learnt_in all_zero (λ none. (rest none).tree) (are_none levels) value ((rest (are_none levels)).symbols value) old new
      ((told_reads by_coded types IsType without size p contexts scans told plane skip sign (are_none levels)).leads value (refl, are)) b

  pub none_written : (old new : Numbers) → levels ≡ [] → Writes coded_in learnt_in all_zero true old new → Writes coded_in learnt_in whole value old new
  none_written old new e w =
      let type : t ≡ without = are.none (ap (λ (l : List ℤ). length l) e) in
      let same : (without, []) ≡ value = λ i. (sym type i, sym e i) in
      comes_as coded_in learnt_in whole (rest true).tree (Done value) old new new (writes_first coded_in learnt_in all_zero (λ none. (rest none).tree) true old new w) (ap Done same) refl

  some_came : (old mid : Numbers) → Writes coded_in learnt_in all_zero false old mid → Comes coded_in learnt_in whole with_levels.tree old mid
  some_came old mid w = writes_first coded_in learnt_in all_zero (λ none. (rest none).tree) false old mid w

  pub type_refused : (old mid new : Numbers) → are_none levels ≡ false → Writes coded_in learnt_in all_zero false old mid → Begins coded_in learnt_in types.tree t mid new → Begins coded_in learnt_in whole value old new
  type_refused old mid new f w b =
      let some = told_some by_coded types IsType without size p contexts scans told plane skip sign value (f, are) in
      begins_then coded_in learnt_in whole with_levels.tree value old mid new (some_came old mid w)
      (begins_first coded_in learnt_in types.tree (λ t. (typed t).tree) t value ((typed t).symbols value) mid new ((typed_read by_coded types IsType without size p contexts scans told plane skip sign t).leads value some.1) b)

  pub levels_wrote : {U E : Type 0} (r : Result U E) (old mid late new : Numbers) → Writes coded_in learnt_in all_zero false old mid → Writes coded_in learnt_in types.tree t mid late → Wrote coded_in learnt_in r (block t).tree levels late new →
      Wrote coded_in learnt_in r whole value old new
  levels_wrote r old mid late new w h k =
      wrote_then coded_in learnt_in r whole (typed t).tree value old late new
      (comes_then coded_in learnt_in whole with_levels.tree (typed t).tree old mid late (some_came old mid w) (writes_first coded_in learnt_in types.tree (λ t. (typed t).tree) t mid late h))
      (wrote_as coded_in learnt_in r (block t).tree (λ levels. Done (t, levels)) levels value late new refl k)

no_length : (levels : List ℤ) (n : ℕ) → length levels ≡ n → are_none levels ≡ nat_eq n 0
no_length [] n e = ap (λ k. nat_eq k 0) e
no_length (v ∷ vs) n e = let l : 0 < n = omega (arith, e) in sym (grind (arith, nat_tests, l))

-- what a call writes, in its own words
module _ (by_coded : Bool) (plane : ℕ) (size : TxSize) (mode : PredictionMode) (reduced : Bool) (t : TxType) (contexts : TXB_CTX) (scan : List ℕ) (n : ℕ) (values : List ℤ) (coded : AreCoded size (class_of t) scan n values) (typed : HasType plane size mode reduced n t)
    (not_13 : plane ≡ 0 → prediction_mode_number mode ≡ 13 → ⊥) (skip : contexts.txb_skip_ctx < 13) (sign : contexts.dc_sign_ctx < 3) (scans : TxClass → List ℕ) (is : scans (class_of t) ≡ scan)
    (q : Distribution) (flag_is : q ≡ adaptive (codes "txb_skip_cdf") (size_context size ∷ contexts.txb_skip_ctx ∷ [])) where
  abbrev levels_of : List ℤ
  levels_of = levels_at values scan n

  abbrev types_of : Element Distribution TxType
  types_of = types_element plane size mode reduced t

  abbrev element_of : Syntax Distribution (TxType × List ℤ)
  element_of = (coeffs_element by_coded plane size mode reduced t contexts scans).tree

  long_of : length levels_of ≡ n
  long_of = length_levels size (class_of t) scan n values coded

  zero_is : are_none levels_of ≡ nat_eq n 0
  zero_is = no_length levels_of n long_of

  without_is : length levels_of ≡ 0 → t ≡ type_without plane t
  without_is z = without plane (typed.none) (sym long_of ∙ z)
    where
      without : (plane : ℕ) → (plane ≡ 0 → n ≡ 0 → t ≡ DCT_DCT) → n ≡ 0 → t ≡ type_without plane t
      without zero h z = h refl z
      without (suc plane) h z = refl

  type_is : 1 ≤ n → IsTyped plane size mode reduced t t
  type_is l = of plane typed.some
    where
      of : (plane : ℕ) → (plane ≡ 0 → 1 ≤ n → IsTrue (uses (tx_set size (is_inter mode) reduced) t)) → IsTyped plane size mode reduced t t
      of zero h = h refl l
      of (suc plane) h = refl

  are_coeffs : AreCoeffs (IsTyped plane size mode reduced t) (type_without plane t) (coded_area size) (t, levels_of)
  are_coeffs = record { levels = coded.levels; none = without_is; some = λ l. type_is (let e = long_of in omega (arith, e, l)) }

  abbrev flag_of_call : Syntax Distribution Bool
  flag_of_call = (flag q).tree

  flag_as : (z : Bool) (old new : Numbers) → Writes coded_in learnt_in flag_of_call z old new → Writes coded_in learnt_in (flag (adaptive (codes "txb_skip_cdf") (size_context size ∷ contexts.txb_skip_ctx ∷ []))).tree z old new
  flag_as z old new w = subst (λ (q : Distribution). Writes coded_in learnt_in (flag q).tree z old new) flag_is w

  pub flag_refused : (old new : Numbers) → Begins coded_in learnt_in flag_of_call (nat_eq n 0) old new → Begins coded_in learnt_in element_of (t, levels_of) old new
  flag_refused old new b =
      all_zero_refused by_coded types_of (IsTyped plane size mode reduced t) (type_without plane t) size (plane_type plane) contexts scans (types_read plane size mode reduced t not_13) (plane_few plane) skip sign t levels_of are_coeffs old new
      (subst (λ (q : Distribution). Begins coded_in learnt_in (flag q).tree (are_none levels_of) old new) flag_is (subst (λ z. Begins coded_in learnt_in flag_of_call z old new) (sym zero_is) b))

  pub call_none : (old new : Numbers) → n ≡ 0 → Writes coded_in learnt_in flag_of_call (nat_eq n 0) old new → Writes coded_in learnt_in element_of (t, levels_of) old new
  call_none old new z w =
      none_written by_coded types_of (IsTyped plane size mode reduced t) (type_without plane t) size (plane_type plane) contexts scans (types_read plane size mode reduced t not_13) (plane_few plane) skip sign t levels_of are_coeffs old new
      (nil_from_length levels_of (long_of ∙ z)) (flag_as true old new (subst (λ b. Writes coded_in learnt_in flag_of_call b old new) (ap (λ k. nat_eq k 0) z) w))

  not_none : 1 ≤ n → nat_eq n 0 ≡ false
  not_none l = grind (arith, nat_tests, l)

  some_flag : (old mid : Numbers) → 1 ≤ n → Writes coded_in learnt_in flag_of_call (nat_eq n 0) old mid → Writes coded_in learnt_in (flag (adaptive (codes "txb_skip_cdf") (size_context size ∷ contexts.txb_skip_ctx ∷ []))).tree false old mid
  some_flag old mid l w = flag_as false old mid (subst (λ b. Writes coded_in learnt_in flag_of_call b old mid) (not_none l) w)

  pub call_type_refused : (old mid new : Numbers) → 1 ≤ n → Writes coded_in learnt_in flag_of_call (nat_eq n 0) old mid → Begins coded_in learnt_in types_of.tree t mid new → Begins coded_in learnt_in element_of (t, levels_of) old new
  call_type_refused old mid new l w b =
      type_refused by_coded types_of (IsTyped plane size mode reduced t) (type_without plane t) size (plane_type plane) contexts scans (types_read plane size mode reduced t not_13) (plane_few plane) skip sign t levels_of are_coeffs old mid new (zero_is ∙ not_none l)
      (some_flag old mid l w) b

  pub call_wrote : {U E : Type 0} (r : Result U E) (p : ℕ) (class : TxClass) (old mid late new : Numbers) → late.context.eob_by_coded ≡ by_coded → 1 ≤ n → p ≡ plane_type plane → class ≡ class_of t → Writes coded_in learnt_in flag_of_call (nat_eq n 0) old mid → Writes coded_in learnt_in types_of.tree t mid late →
      Wrote coded_in learnt_in r (block_element late.context.eob_by_coded size p contexts.dc_sign_ctx class scan).tree levels_of late new → Wrote coded_in learnt_in r element_of (t, levels_of) old new
  call_wrote r p class old mid late new b l e f w h k =
      levels_wrote by_coded types_of (IsTyped plane size mode reduced t) (type_without plane t) size (plane_type plane) contexts scans (types_read plane size mode reduced t not_13) (plane_few plane) skip sign t levels_of are_coeffs r old mid late new (some_flag old mid l w) h
      (subst (λ (s : List ℕ). Wrote coded_in learnt_in r (block_element by_coded size (plane_type plane) contexts.dc_sign_ctx (class_of t) s).tree levels_of late new) (sym is)
      (subst (λ (c : TxClass). Wrote coded_in learnt_in r (block_element by_coded size (plane_type plane) contexts.dc_sign_ctx c scan).tree levels_of late new) f
      (subst (λ p. Wrote coded_in learnt_in r (block_element by_coded size p contexts.dc_sign_ctx class scan).tree levels_of late new) e
      (subst (λ c. Wrote coded_in learnt_in r (block_element c size p contexts.dc_sign_ctx class scan).tree levels_of late new) b k))))

-- the flag's distribution
pub all_zero_is : (size : TxSize) (t k : ℕ) (s : Slot) → s ≡ slot (codes "txb_skip_cdf") (t ∷ k ∷ []) → t ≡ size_context size → Adaptive s ≡ adaptive (codes "txb_skip_cdf") (size_context size ∷ k ∷ [])
all_zero_is size t k s e f = ap Adaptive (e ∙ ap (λ t. slot (codes "txb_skip_cdf") (t ∷ k ∷ [])) f)

-- the entry of the levels
pub entry_is : (size : TxSize) (class : TxClass) (scan : List ℕ) (n : ℕ) (values : List ℤ) → AreCoded size class scan n values → 1 ≤ n → (total : ℕ) (x : ℤ) → total ≡ sum_by unsigned_abs (levels_at values scan n) → x ≡ value_at values (slice_index scan 0) →
    with_dc_sign (min 63 total) x ≡ entry_of (levels_at values scan n)
entry_is size class scan n values are l total x e f =
    ap (λ a. with_dc_sign (min 63 a) x) e ∙ ap (with_dc_sign (min 63 (sum_by unsigned_abs (levels_at values scan n)))) (f ∙ sym (level_here size class scan n values are 0 l))
