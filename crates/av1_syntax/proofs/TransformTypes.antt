-- The types of transforms: each set has its types by their symbols, and one path to each.
use Rattle.std.proofs.Common.{◌≡◌, ℕ, zero, suc, ◌+◌, ◌*◌, ◌<◌, List, [], ◌∷◌, Bool, true, false, ◌||◌, IsTrue, if◌then◌else◌, cond, Option, Some, None, Result, get_or, length, map, nat_eq, codes, refl, sym, ap, subst, ◌∙◌, arith, inl, inr}
use Rattle.std.specs.Prelude.{slice_get, position, unwrap_or, OnOk, OnErr, IfSome}
use Rattle.std.specs.List.{list_any, range_with_len, position_or_len}
use Rattle.std.proofs.lemmas.Bool.{cases_lt}
use Rattle.std.proofs.lemmas.Bool.Decides.{nat_tests}
use Rattle.std.proofs.lemmas.List.Folds.{Any-from_list_any}
use Rattle.std.proofs.lemmas.List.FromFn.{get_or-map-range_with_len, get_or-range_with_len}
use Rattle.std.proofs.lemmas.List.Sums.{passes_at_first, fails_before_first}
use Rattle.std.proofs.lemmas.Option.{slice_get-get_or, slice_get_past, slice_get_within}
use Rattle.av1_cdf.specs.Distribution.{HasSymbols}
use Rattle.av1_cdf.specs.Distribution.Distribution.{Adaptive}
use Rattle.av1_cdf.specs.Layout.{Slot, slot, layout, fields, vector_fields, component_fields}
use Rattle.av1_cdf.specs.Runs.{has_run}
use Rattle.av1_cdf.proofs.Cells.{slot_of_run, lt_is}
use Rattle.av1_geometry.specs.PredictionMode.{prediction_mode_number}
use Rattle.av1_geometry.specs.TxSize.{tx_number, tx_sqr}
use Rattle.av1_geometry.specs.TxTables.{coded_types, is_type, uses, index_in, tx_set}
use Rattle.av1_geometry.specs.TxType.{tx_type_number, tx_type_of}
use Rattle.av1_geometry.specs.declared.prediction_mode.PredictionMode.{PredictionMode}
use Rattle.av1_geometry.specs.declared.tx_size.TxSize.{TxSize}
use Rattle.av1_geometry.specs.declared.tx_size.TxSize.TheVariants.{TX_64X64}
use Rattle.av1_geometry.specs.declared.tx_type.TxSet.{TxSet}
use Rattle.av1_geometry.specs.declared.tx_type.TxSet.TheVariants.{TX_SET_DCTONLY, TX_SET_INTER_3, TX_SET_INTRA_2, TX_SET_INTRA_1, TX_SET_INTER_2, TX_SET_INTER_1}
use Rattle.av1_geometry.specs.declared.tx_type.TxType.{TxType}
use Rattle.av1_geometry.specs.declared.tx_type.TxType.TheVariants.{DCT_DCT}
use Rattle.av1_model.specs.Comes.{Standing, Stores, Wrote, Writes}
use Rattle.av1_model.specs.Element.{known, Reads}
use Rattle.av1_model.specs.Syntax.Syntax.{Done}
use Rattle.av1_model.proofs.ComesLaws.{stays}
use Rattle.av1_model.proofs.ElementLaws.{known_reads, reads_as, symbol_reads}
use Rattle.av1_syntax.specs.Calls.{Context, coded_in, learnt_in}
use Rattle.av1_syntax.specs.TransformTypes.{type_slot, type_in, type_of_set, tx_type_slot, tx_type_element}
use Rattle.av1_syntax.proofs.Writing.{wrote_symbol}

-- the slots
intra_1_has : (sqr mode : ℕ) → sqr < 4 → mode < 13 → HasSymbols (Adaptive (slot (codes "intra_tx_1_cdf") (sqr ∷ mode ∷ []))) 7
unfolding slot layout fields vector_fields component_fields has_run
intra_1_has sqr mode a b = (slot_of_run (record { place = 3700; count = 52; len = 7 }) (sqr * 13 + mode) refl (omega arith), refl)

intra_2_has : (sqr mode : ℕ) → sqr < 4 → mode < 13 → HasSymbols (Adaptive (slot (codes "intra_tx_2_cdf") (sqr ∷ mode ∷ []))) 5
unfolding slot layout fields vector_fields component_fields has_run
intra_2_has sqr mode a b = (slot_of_run (record { place = 3332; count = 52; len = 5 }) (sqr * 13 + mode) refl (omega arith), refl)

inter_1_has : (sqr : ℕ) → sqr < 4 → HasSymbols (Adaptive (slot (codes "inter_tx_1_cdf") (sqr ∷ []))) 16
unfolding slot layout fields vector_fields component_fields has_run
inter_1_has sqr a = (slot_of_run (record { place = 5336; count = 4; len = 16 }) sqr refl a, refl)

inter_2_has : (sqr : ℕ) → sqr < 4 → HasSymbols (Adaptive (slot (codes "inter_tx_2_cdf") (sqr ∷ []))) 12
unfolding slot layout fields vector_fields component_fields has_run
inter_2_has sqr a = (slot_of_run (record { place = 4464; count = 4; len = 12 }) sqr refl a, refl)

inter_3_has : (sqr : ℕ) → sqr < 4 → HasSymbols (Adaptive (slot (codes "inter_tx_3_cdf") (sqr ∷ []))) 2
unfolding slot layout fields vector_fields component_fields has_run
inter_3_has sqr a = (slot_of_run (record { place = 598; count = 4; len = 2 }) sqr refl a, refl)

-- a type is told by its number
type_told : (t : TxType) → tx_type_of (tx_type_number t) ≡ Some t
type_told DCT_DCT = refl
type_told _ = refl

same_number : (m n : ℕ) → nat_eq m n ≡ true → m ≡ n
same_number m n e = grind (arith, nat_tests)

same_type : (t u : TxType) → is_type t u ≡ true → u ≡ t
same_type t u e = ap (λ (o : Option TxType). unwrap_or o t) (sym (type_told u) ∙ ap tx_type_of (sym (same_number _ _ e)) ∙ type_told t)

own_type : (t : TxType) → is_type t t ≡ true
own_type DCT_DCT = refl
own_type _ = refl

-- in a list of types a type that is there has the symbol of its place
module _ (t : TxType) (types : List TxType) (there : list_any (is_type t) types ≡ true) where
  abbrev i : ℕ
  i = position_or_len (is_type t) types

  before : i < length types
  before =
      let any = Any-from_list_any (is_type t) types there in
      elim (cases_lt any.0 i) [
        | inl l ↦ absurd (let f = fails_before_first (is_type t) types any.0 any.1 l in let g = ap (is_type t) any.3 in let e = any.4 in cc)
        | inr m ↦ let l = any.2 in omega (arith, l, m)
      ]

  placed : unwrap_or (position (is_type t) types) 0 ≡ i
  placed = ap (λ (b : Bool). unwrap_or (cond b (Some i) None) 0) (lt_is i (length types) before)

  found : slice_get types (unwrap_or (position (is_type t) types) 0) ≡ Some t
  found = ap (slice_get types) placed ∙ slice_get-get_or types i t before ∙ ap Some (same_type t (get_or types i t) (passes_at_first (is_type t) types t before))

pub told : (set : TxSet) (t : TxType) → IsTrue (uses set t) → slice_get (coded_types set) (index_in set t) ≡ Some t
told set t h = found t (coded_types set) h

pub below : (set : TxSet) (t : TxType) → IsTrue (uses set t) → index_in set t < length (coded_types set)
below set t h = slice_get_within (coded_types set) (index_in set t) t (told set t h)

or_true : (b c : Bool) → c ≡ true → (b || c) ≡ true
or_true true c e = refl
or_true false c e = e

any_at : (types : List TxType) (k : ℕ) (t : TxType) → slice_get types k ≡ Some t → list_any (is_type t) types ≡ true
any_at [] k t h = absurd cc
any_at (u ∷ types) zero t h =
    let e : u ≡ t = cc in
    ap (λ (b : Bool). b || list_any (is_type t) types) (ap (is_type t) e ∙ own_type t)
any_at (u ∷ types) (suc k) t h = or_true (is_type t u) _ (any_at types k t h)

-- and each place is the symbol of its type
in_order : (set : TxSet) → map (λ k. index_in set (get_or (coded_types set) k DCT_DCT)) (range_with_len 0 (length (coded_types set))) ≡ range_with_len 0 (length (coded_types set))
in_order TX_SET_DCTONLY = refl
in_order TX_SET_INTER_3 = refl
in_order TX_SET_INTRA_2 = refl
in_order TX_SET_INTRA_1 = refl
in_order TX_SET_INTER_2 = refl
in_order TX_SET_INTER_1 = refl

named : (set : TxSet) (s : ℕ) (t : TxType) → slice_get (coded_types set) s ≡ Some t → index_in set t ≡ s
named set s t h =
    let n = length (coded_types set) in
    let l = slice_get_within (coded_types set) s t h in
    let is : get_or (coded_types set) s DCT_DCT ≡ t = ap (λ (o : Option TxType). unwrap_or o t) (sym (slice_get-get_or (coded_types set) s DCT_DCT l) ∙ h) in
    ap (index_in set) (sym is) ∙ sym (get_or-map-range_with_len (λ k. index_in set (get_or (coded_types set) k DCT_DCT)) 0 n s s 0 l (omega arith)) ∙ ap (λ (ns : List ℕ). get_or ns s 0) (in_order set) ∙ get_or-range_with_len 0 n s 0 l ∙ (let e : 0 + s ≡ s = omega arith in e)

in_reads : (set : TxSet) (s : Slot) → HasSymbols (Adaptive s) (length (coded_types set)) → Reads HasSymbols (type_in set s) (λ t. IsTrue (uses set t)) 1
in_reads set s h =
    reads_as HasSymbols (type_in set s) (λ t. slice_get (coded_types set) (index_in set t) ≡ Some t) (λ t. IsTrue (uses set t)) 1 1 (λ t e. any_at (coded_types set) (index_in set t) t e) (told set) (omega arith)
    (symbol_reads HasSymbols (Adaptive s) (length (coded_types set)) (slice_get (coded_types set)) (index_in set) h (λ s l. slice_get_past (coded_types set) s l) (named set))

dct_only : (t : TxType) → IsTrue (uses TX_SET_DCTONLY t) → t ≡ DCT_DCT
dct_only t h =
    let l = below TX_SET_DCTONLY t h in
    let z : index_in TX_SET_DCTONLY t ≡ 0 = omega (arith, l) in
    let e : Some DCT_DCT ≡ Some t = subst (λ k. slice_get (coded_types TX_SET_DCTONLY) k ≡ Some t) z (told TX_SET_DCTONLY t h) in
    let f : DCT_DCT ≡ t = cc in
    sym f

-- the sets of intra blocks that have several types
abbrev is_intra : TxSet → Bool
is_intra TX_SET_INTRA_1 = true
is_intra TX_SET_INTRA_2 = true
is_intra set = false

abbrev is_several : TxSet → Bool
is_several TX_SET_DCTONLY = false
is_several set = true

set_reads : (set : TxSet) (sqr mode : ℕ) → (is_several set ≡ true → sqr < 4) → (is_intra set ≡ true → mode < 13) → Reads HasSymbols (type_of_set set (type_slot set sqr mode)) (λ t. IsTrue (uses set t)) 1
set_reads TX_SET_DCTONLY sqr mode h m = reads_as HasSymbols (known DCT_DCT) (λ t. t ≡ DCT_DCT) (λ t. IsTrue (uses TX_SET_DCTONLY t)) 0 1 (λ t e. subst (λ t. IsTrue (uses TX_SET_DCTONLY t)) (sym e) refl) dct_only (omega arith) (known_reads HasSymbols DCT_DCT)
set_reads TX_SET_INTRA_1 sqr mode h m = in_reads TX_SET_INTRA_1 _ (intra_1_has sqr mode (h refl) (m refl))
set_reads TX_SET_INTRA_2 sqr mode h m = in_reads TX_SET_INTRA_2 _ (intra_2_has sqr mode (h refl) (m refl))
set_reads TX_SET_INTER_1 sqr mode h m = in_reads TX_SET_INTER_1 _ (inter_1_has sqr (h refl))
set_reads TX_SET_INTER_2 sqr mode h m = in_reads TX_SET_INTER_2 _ (inter_2_has sqr (h refl))
set_reads TX_SET_INTER_3 sqr mode h m = in_reads TX_SET_INTER_3 _ (inter_3_has sqr (h refl))

-- a transform with several types has no side of 64
pub small : (tx : TxSize) (inter reduced : Bool) → is_several (tx_set tx inter reduced) ≡ true → tx_number (tx_sqr tx) < 4
small TX_64X64 inter reduced h = absurd (let e : false ≡ true = h in cc)
small _ inter reduced h = omega arith

inter_sets : (a b c : Bool) → is_intra (if a then TX_SET_DCTONLY else if b then TX_SET_INTER_3 else if c then TX_SET_INTER_2 else TX_SET_INTER_1) ≡ false
inter_sets true b c = refl
inter_sets false true c = refl
inter_sets false false true = refl
inter_sets false false false = refl

pub in_intra : (tx : TxSize) (inter reduced : Bool) → is_intra (tx_set tx inter reduced) ≡ true → inter ≡ false
in_intra tx true reduced h =
    let e : is_intra (tx_set tx true reduced) ≡ false = inter_sets _ _ _ in
    let f : true ≡ false = sym h ∙ e in
    let z : ⊥ = cc in
    absurd z
in_intra tx false reduced h = refl

pub tx_type_reads : (tx : TxSize) (mode : PredictionMode) (inter reduced : Bool) → (inter ≡ false → prediction_mode_number mode < 13) → Reads HasSymbols (tx_type_element tx mode inter reduced) (λ t. IsTrue (uses (tx_set tx inter reduced) t)) 1
tx_type_reads tx mode inter reduced h = set_reads (tx_set tx inter reduced) _ _ (small tx inter reduced) (λ e. h (in_intra tx inter reduced e))

pub slot_long : (set : TxSet) (sqr mode : ℕ) → IfSome (type_slot set sqr mode) (λ s. s.len ≡ length (coded_types set))
unfolding slot layout fields vector_fields component_fields has_run
slot_long TX_SET_DCTONLY sqr mode = tt
slot_long TX_SET_INTRA_1 sqr mode = refl
slot_long TX_SET_INTRA_2 sqr mode = refl
slot_long TX_SET_INTER_1 sqr mode = refl
slot_long TX_SET_INTER_2 sqr mode = refl
slot_long TX_SET_INTER_3 sqr mode = refl

-- the slot of a set that is named
pub named_slot : (tx : TxSize) (mode : PredictionMode) (inter reduced : Bool) (set : TxSet) → set ≡ tx_set tx inter reduced → type_slot set (tx_number (tx_sqr tx)) (prediction_mode_number mode) ≡ tx_type_slot tx mode inter reduced
named_slot tx mode inter reduced set e = ap (λ (s : TxSet). type_slot s (tx_number (tx_sqr tx)) (prediction_mode_number mode)) e

-- nothing is coded of a set of one type
only : (set : TxSet) (sqr mode : ℕ) (t : TxType) → IsTrue (uses set t) → type_slot set sqr mode ≡ None → t ≡ DCT_DCT
only TX_SET_DCTONLY sqr mode t h e = dct_only t h
only TX_SET_INTER_3 sqr mode t h e = absurd cc
only TX_SET_INTRA_2 sqr mode t h e = absurd cc
only TX_SET_INTRA_1 sqr mode t h e = absurd cc
only TX_SET_INTER_2 sqr mode t h e = absurd cc
only TX_SET_INTER_1 sqr mode t h e = absurd cc

pub type_none : (tx : TxSize) (mode : PredictionMode) (inter reduced : Bool) (t : TxType) (at : Standing Context) → IsTrue (uses (tx_set tx inter reduced) t) → None ≡ tx_type_slot tx mode inter reduced →
    Writes coded_in learnt_in (tx_type_element tx mode inter reduced).tree t at at
type_none tx mode inter reduced t at h e =
    subst (λ (o : Option Slot). Writes coded_in learnt_in (type_of_set (tx_set tx inter reduced) o).tree t at at) e
    (subst (λ t. Writes coded_in learnt_in (Done DCT_DCT) t at at) (sym (only (tx_set tx inter reduced) _ _ t h (sym e))) (stays coded_in learnt_in (Done DCT_DCT) at))

pub type_wrote : {U E : Type 0} (r : Result U E) (tx : TxSize) (mode : PredictionMode) (inter reduced : Bool) (t : TxType) (s : ℕ) (p : Slot) (old new : Standing Context) → IsTrue (uses (tx_set tx inter reduced) t) → Some p ≡ tx_type_slot tx mode inter reduced →
    s ≡ index_in (tx_set tx inter reduced) t → OnOk r (Stores coded_in learnt_in (Adaptive p) s old new) → OnErr r (new ≡ old) → Wrote coded_in learnt_in r (tx_type_element tx mode inter reduced).tree t old new
type_wrote r tx mode inter reduced t s p old new h is e ok err =
    let set = tx_set tx inter reduced in
    subst (λ (o : Option Slot). Wrote coded_in learnt_in r (type_of_set set o).tree t old new) is (wrote_symbol r p p (slice_get (coded_types set)) (index_in set) s t old new refl e (told set t h) ok err)
