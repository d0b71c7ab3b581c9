-- A value's items beside the data that they stand for.
use Rattle.std.proofs.Common.{string_bytes, set, length-set, Vec, Global, map, Ok, Err, IfOk, IfErr, nat_le, subst, ◌≡◌, ℕ, ◌+◌, ◌<◌, ◌≤◌, List, [], ◌∷◌, ◌++◌, length, drop, get_or, Bool, true, false, Result, refl, sym, ap, ◌∙◌, append_assoc, arith, drop-cons, add-one}
use Rattle.std.proofs.Math.ListN.{drop_of_length-le}
use Rattle.std.proofs.lemmas.Bool.Decides.{nat_tests}
use Rattle.std.proofs.lemmas.List.{append-nil, drop-set-lt, map-append}
use Rattle.arrayvec.specs.ArrayVec.{ArrayVec}
use Rattle.serde_json.proofs.Views.{items_len-items_view}
use Rattle.serde_json.specs.Data.{Data}
use Rattle.serde_json.specs.Events.{items_len}
use Rattle.serde_json.specs.View.{view, items_view}
use Rattle.serde_json.specs.declared.value.Value.{Value}
use Rattle.av1_input.specs.Fitted.{Fitted, Fits, Unfit, ◌>>=◌, fitting, index_step}
use Rattle.av1_input.specs.Kinds.{each, fit_any, fit_list, fit_up_to, items_of}
use Rattle.av1_input.specs.Why.{Answers, IsUnder, IsWhy}
use Rattle.av1_input.specs.declared.error.ShapeError.{ShapeError}
use Rattle.av1_input.specs.declared.error.ShapeError.TheVariants.{BadText, BadShape, OutOfMemory}
use Rattle.av1_input.proofs.Rows.{why_first}

pub items_len_is : (vs : List Value) → items_len (items_view vs) ≡ length vs
items_len_is vs = items_len-items_view vs

-- those that were read before, and those that are still read
abbrev pub with_front : {A : Type 0} → List A → Fitted (List A) → Fitted (List A)
with_front front (Fits rest) = Fits (front ++ rest)
with_front front (Unfit path) = Unfit path

regroup : {A : Type 0} (front : List A) (first : A) (rest : Fitted (List A)) → with_front front (rest >>= λ others. Fits (first ∷ others)) ≡ with_front (front ++ first ∷ []) rest
regroup front first (Fits rest) = ap Fits (simp append_assoc)
regroup front first (Unfit path) = refl

-- one more is read
pub one_more : {A : Type 0} (fit : Data → Fitted A) (front : List A) (vs : List Value) (i : ℕ) (v : Value) (x : A) → i < length vs → get_or vs i v ≡ v → fit (view v) ≡ Fits x
    → with_front front (each i fit (items_view (drop i vs))) ≡ with_front (front ++ x ∷ []) (each (i + 1) fit (items_view (drop (i + 1) vs)))
one_more fit front vs i v x lt at is =
    let first : drop i vs ≡ v ∷ drop (i + 1) vs = drop-cons vs i v lt ∙ rw (at, add-one) refl in
    rw (first, is) (regroup front x (each (i + 1) fit (items_view (drop (i + 1) vs))))

-- one that is none ends it
pub none_more : {A : Type 0} (fit : Data → Fitted A) (front : List A) (vs : List Value) (i : ℕ) (v : Value) (path : List ℕ) → i < length vs → get_or vs i v ≡ v → fit (view v) ≡ Unfit path
    → with_front front (each i fit (items_view (drop i vs))) ≡ Unfit (index_step i ++ path)
none_more fit front vs i v path lt at is =
    let first : drop i vs ≡ v ∷ drop (i + 1) vs = drop-cons vs i v lt ∙ rw (at, add-one) refl in
    rw (first, is) refl

-- all are read
pub all_read : {A : Type 0} (fit : Data → Fitted A) (front : List A) (vs : List Value) (i : ℕ) → length vs ≤ i → with_front front (each i fit (items_view (drop i vs))) ≡ Fits front
all_read fit front vs i le =
    let none : drop i vs ≡ [] = drop_of_length-le vs le in
    rw none (ap Fits (append-nil front))

-- ---- a loop over items

-- the items before i are read, and were put before those that are still to be read
pub record Reading {A : Type 0} (fit : Data → Fitted A) (all vs : List Value) (front : List A) (i : ℕ) : Type 0 where
  pub len : length vs ≡ length all
  pub left : drop i vs ≡ drop i all
  pub is : with_front front (each i fit (items_view (drop i vs))) ≡ each 0 fit (items_view all)

no_front : {A : Type 0} (m : Fitted (List A)) → with_front [] m ≡ m
no_front (Fits xs) = refl
no_front (Unfit path) = refl

pub first_item : {A : Type 0} (fit : Data → Fitted A) (all : List Value) (front : List A) → front ≡ [] → Reading fit all all front 0
first_item fit all front e = record { len = refl; left = refl; is = rw e (no_front (each 0 fit (items_view all))) }

pub next_item : {A : Type 0} (fit : Data → Fitted A) (all vs : List Value) (front more : List A) (i : ℕ) (v s : Value) (x : A) → Reading fit all vs front i → i < length all → v ≡ get_or vs i v → fit (view v) ≡ Fits x
    → more ≡ front ++ x ∷ [] → Reading fit all (set vs i s) more (i + 1)
next_item fit all vs front more i v s x at lt is fits e =
    let here : i < length vs = omega (arith, at.len) in
    let after : drop (i + 1) (set vs i s) ≡ drop (i + 1) vs = drop-set-lt (i + 1) vs i s (omega arith) in
    let step : drop i vs ≡ v ∷ drop (i + 1) vs = drop-cons vs i v here ∙ rw (sym is, add-one) refl in
    let step_all : drop i all ≡ get_or all i v ∷ drop (i + 1) all = drop-cons all i v lt ∙ rw add-one refl in
    let same : v ∷ drop (i + 1) vs ≡ get_or all i v ∷ drop (i + 1) all = sym step ∙ at.left ∙ step_all in
    record {
      len = length-set vs i s ∙ at.len;
      left = after ∙ ap (drop 1) same;
      is = rw (after, e) (sym (one_more fit front vs i v x here (sym is) fits) ∙ at.is);
    }

pub last_item : {A : Type 0} (fit : Data → Fitted A) (all vs : List Value) (front : List A) (i : ℕ) → Reading fit all vs front i → length all ≤ i → each 0 fit (items_view all) ≡ Fits front
last_item fit all vs front i at le = sym at.is ∙ all_read fit front vs i (omega (arith, at.len))

-- what is taken of an item is the item
pub at_place : (vs : List Value) (i : ℕ) (v w : Value) → w ≡ v → v ≡ get_or vs i v → w ≡ get_or vs i w
at_place vs i v w e at = let P : Value → Type 0 = λ u. u ≡ get_or vs i u in subst P (sym e) at

-- the error of an item is that of the list
why_item : (step : List ℕ) (e above : ShapeError) {A B : Type 0} (found : Fitted A) (whole : Fitted B) → ((path : List ℕ) → found ≡ Unfit path → whole ≡ Unfit (step ++ path)) → IsWhy e found → IsUnder step e above → IsWhy above whole
why_item step BadText above found whole below why under = absurd why
why_item step (BadShape path) BadText found whole below why under = absurd under
why_item step (BadShape path) OutOfMemory found whole below why under = tt
why_item step (BadShape path) (BadShape longer) found whole below why under = below (string_bytes path) why ∙ ap Unfit (sym under)
why_item step OutOfMemory above found whole below why under = rw under tt

pub unfit_item : {A : Type 0} (fit : Data → Fitted A) (all vs : List Value) (front : List A) (i : ℕ) (v : Value) (e above : ShapeError) → Reading fit all vs front i → i < length all → v ≡ get_or vs i v → IsWhy e (fit (view v))
    → IsUnder (index_step i) e above → IsWhy above (each 0 fit (items_view all))
unfit_item fit all vs front i v e above at lt is why under =
    let here : i < length vs = omega (arith, at.len) in
    why_item (index_step i) e above (fit (view v)) (each 0 fit (items_view all)) (λ path h. sym at.is ∙ none_more fit front vs i v path here (sym is) h) why under

-- ---- the length of a list

pub right_len : {A : Type 0} (len_fits : ℕ → Bool) (fit : Data → Fitted A) (d : Data) (vs : List Value) → items_of d ≡ Fits (items_view vs) → len_fits (length vs) ≡ true → fit_list len_fits fit d ≡ each 0 fit (items_view vs)
unfolding fit_list
right_len len_fits fit d vs is len = rw (is, items_len_is vs, len) refl

pub wrong_len : {A : Type 0} (len_fits : ℕ → Bool) (fit : Data → Fitted A) (d : Data) (vs : List Value) → items_of d ≡ Fits (items_view vs) → len_fits (length vs) ≡ false → fit_list len_fits fit d ≡ Unfit []
unfolding fit_list
wrong_len len_fits fit d vs is len = rw (is, items_len_is vs, len) refl

pub no_list : {A : Type 0} (len_fits : ℕ → Bool) (fit : Data → Fitted A) (d : Data) (e : ShapeError) → IsWhy e (items_of d) → IsWhy e (fit_list len_fits fit d)
unfolding fit_list
no_list len_fits fit d e h = why_first e (items_of d) (λ ds. fitting (len_fits (items_len ds)) >>= λ _. each 0 fit ds) h

pub any_items : {A : Type 0} (fit : Data → Fitted A) (d : Data) (vs : List Value) → items_of d ≡ Fits (items_view vs) → fit_any fit d ≡ each 0 fit (items_view vs)
unfolding fit_any
any_items fit d vs is = rw is refl

pub any_none : {A : Type 0} (fit : Data → Fitted A) (d : Data) (e : ShapeError) → IsWhy e (items_of d) → IsWhy e (fit_any fit d)
unfolding fit_any
any_none fit d e h = why_first e (items_of d) (λ ds. each 0 fit ds) h

few : (n len : ℕ) → len ≤ n → nat_le len n ≡ true
few n len h = grind (arith, nat_tests)

many : (n len : ℕ) → (len ≤ n → ⊥) → nat_le len n ≡ false
many n len h = grind (arith, nat_tests)

bounded : {A : Type 0} (outcome : Fitted (List A)) (answer : Result (ArrayVec A) ShapeError) → IfOk answer (λ v. outcome ≡ Fits v.items) → IfErr answer (λ e. IsWhy e outcome)
    → Answers answer (outcome >>= λ xs. Fits record { items = xs })
bounded outcome (Ok v) ok err = ap (λ m. m >>= λ xs. Fits record { items = xs }) ok
bounded outcome (Err e) ok err = why_first e outcome (λ xs. Fits record { items = xs }) err

pub few_items : {A : Type 0} (n : ℕ) (fit : Data → Fitted A) (d : Data) (vs : List Value) (answer : Result (ArrayVec A) ShapeError) → items_of d ≡ Fits (items_view vs) → length vs ≤ n
    → IfOk answer (λ v. each 0 fit (items_view vs) ≡ Fits v.items) → IfErr answer (λ e. IsWhy e (each 0 fit (items_view vs))) → Answers answer (fit_up_to n fit d)
unfolding fit_up_to
few_items n fit d vs answer is len ok err =
    let right = right_len (λ len. nat_le len n) fit d vs is (few n (length vs) len) in
    let P : Fitted _ → Type 0 = λ m. Answers answer (m >>= λ xs. Fits record { items = xs }) in
    subst P (sym right) (bounded (each 0 fit (items_view vs)) answer ok err)

pub many_items : {A : Type 0} (n : ℕ) (fit : Data → Fitted A) (d : Data) (vs : List Value) → items_of d ≡ Fits (items_view vs) → (length vs ≤ n → ⊥) → fit_up_to n fit d ≡ Unfit []
unfolding fit_up_to
many_items n fit d vs is len = ap (λ m. m >>= λ xs. Fits record { items = xs }) (wrong_len (λ len. nat_le len n) fit d vs is (many n (length vs) len))

pub no_items : {A : Type 0} (n : ℕ) (fit : Data → Fitted A) (d : Data) (e : ShapeError) → IsWhy e (items_of d) → IsWhy e (fit_up_to n fit d)
unfolding fit_up_to
no_items n fit d e h = why_first e (fit_list (λ len. nat_le len n) fit d) (λ xs. Fits record { items = xs }) (no_list (λ len. nat_le len n) fit d e h)

-- ---- lists of lists

abbrev pub lists_of : {A : Type 0} → List (Vec A Global) → List (List A)
lists_of vs = map (λ v. v.items) vs

pub lists_more : {A : Type 0} (front more : List (Vec A Global)) (x : Vec A Global) → more ≡ front ++ x ∷ [] → lists_of more ≡ lists_of front ++ x.items ∷ []
lists_more {A = A} front more x e = ap lists_of e ∙ map-append (λ (v : Vec A Global). v.items) front (x ∷ [])
