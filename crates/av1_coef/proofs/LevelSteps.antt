-- Levels that are written column by column.
use Rattle.std.proofs.Common.{◌≡◌, ℕ, ◌+◌, ◌-◌, ◌*◌, ◌/◌, ◌%◌, ◌<◌, ◌≤◌, List, Bool, true, false, ◌&&◌, nat_le, nat_lt, min, if◌then◌else◌, get_or, slice_index, set, length, refl, sym, ◌∙◌, ap, arith, inl, inr, mul_comm, ℤ}
use Rattle.std.specs.Prelude.{unsigned_abs}
use Rattle.std.proofs.lemmas.Bool.{cases_lt, cases_eq}
use Rattle.std.proofs.lemmas.Bool.Decides.{nat_tests}
use Rattle.std.proofs.lemmas.List.{get_or-set_same, get_or-set_other, get_or-map}
use Rattle.std.proofs.lemmas.Nat.{div-add-mod', mod_below, row_fits, mul-add-lt, div-mul-add, mod-mul-add, le-div}
use Rattle.av1_coef.specs.Padded.{IsPadded, sizes_of, column_after, level_after}
use Rattle.av1_coef.proofs.Tests.{lt_is, lt_not}

le_is : (a b : ℕ) → a ≤ b → nat_le a b ≡ true
le_is a b h = grind (arith, nat_tests)

le_not : (a b : ℕ) → b < a → nat_le a b ≡ false
le_not a b h = grind (arith, nat_tests)

and_false : (b : Bool) → (b && false) ≡ false
and_false true = refl
and_false false = refl

-- the size of a coefficient
pub size_at : {T : Type 0} (value : T → ℤ) (xs : List T) (k : ℕ) (x : T) → k < length xs → x ≡ get_or xs k x → unsigned_abs (value x) ≡ slice_index (sizes_of value xs) k
size_at value xs k x l e = ap (λ y. unsigned_abs (value y)) e ∙ sym (get_or-map (λ y. unsigned_abs (value y)) xs k x 0 l)

-- r levels of a column are written
pub column_none : (sizes old : List ℕ) (from at p : ℕ) → slice_index old p ≡ column_after sizes old from at 0 p
column_none sizes old from at p = elim (cases_lt p at) [
  | inl l ↦ rw (le_not at p l) refl
  | inr l ↦ rw (lt_not p (at + 0) (omega (arith, l)), and_false (nat_le at p)) refl
]

pub column_more : (sizes old levels : List ℕ) (from at r v : ℕ) → at + r < length levels → v ≡ min (slice_index sizes (from + r)) 127 →
    ((p : ℕ) → slice_index levels p ≡ column_after sizes old from at r p) → (p : ℕ) → slice_index (set levels (at + r) v) p ≡ column_after sizes old from at (r + 1) p
column_more sizes old levels from at r v l e h p = elim (cases_eq p (at + r)) [
  | inl is ↦
      rw (le_is at p (omega (arith, is)), lt_is p (at + (r + 1)) (omega (arith, is)))
      (ap (λ q. get_or (set levels (at + r) v) q 0) is ∙ get_or-set_same levels (at + r) v 0 l ∙ e ∙ ap (λ q. min (slice_index sizes q) 127) (place from at r p is))
  | inr ne ↦ get_or-set_other levels (at + r) p v 0 ne ∙ h p ∙ ap (λ b. if nat_le at p && b then min (slice_index sizes (from + (p - at))) 127 else slice_index old p) (tests p at r ne)
]
  where
    place : (from at r p : ℕ) → p ≡ at + r → from + r ≡ from + (p - at)
    place from at r p e = omega (arith, e)

    tests : (p at r : ℕ) → (p ≡ at + r → ⊥) → nat_lt p (at + r) ≡ nat_lt p (at + (r + 1))
    tests p at r ne = elim (cases_lt p (at + r)) [
      | inl l ↦ rw (lt_is p (at + r) l, lt_is p (at + (r + 1)) (omega (arith, l))) refl
      | inr l ↦ rw (lt_not p (at + r) l, lt_not p (at + (r + 1)) (omega (arith, l, ne))) refl
    ]

-- c columns are written
abbrev pub columns : ℕ → ℕ → List ℕ → List ℕ → ℕ → ℕ → ℕ
columns height stride sizes old c p =
    if nat_lt (p / stride) c && nat_lt (p % stride) height then min (slice_index sizes (p / stride * height + p % stride)) 127 else slice_index old p

pub columns_none : (height stride : ℕ) (sizes old : List ℕ) (p : ℕ) → slice_index old p ≡ columns height stride sizes old 0 p
columns_none height stride sizes old p = rw (lt_not (p / stride) 0 (omega arith)) refl

module _ (height stride : ℕ) (some : 0 < stride) (sizes old levels new : List ℕ) (c : ℕ)
    (h : (p : ℕ) → slice_index levels p ≡ columns height stride sizes old c p)
    (k : (p : ℕ) → slice_index new p ≡ column_after sizes levels (c * height) (c * stride) (min height stride) p) where
  module _ (p : ℕ) where
    within : p ≡ p / stride * stride + p % stride
    within = sym (div-add-mod' p stride)

    low : p % stride < stride
    low = mod_below p stride some

    before : p / stride < c → slice_index new p ≡ columns height stride sizes old (c + 1) p
    before l =
        let f : p / stride * stride + stride ≤ c * stride = row_fits (p / stride) stride c stride l (omega arith) in
        let out : p < c * stride = omega (arith, within, low, f) in
        k p ∙ rw (le_not (c * stride) p out) (h p ∙ rw (lt_is (p / stride) c l, lt_is (p / stride) (c + 1) (omega (arith, l))) refl)

    beyond : c < p / stride → slice_index new p ≡ columns height stride sizes old (c + 1) p
    beyond l =
        let f : c * stride + stride ≤ p / stride * stride = row_fits c stride (p / stride) stride l (omega arith) in
        let out : c * stride + min height stride ≤ p = omega (arith, within, f) in
        k p ∙ rw (lt_not p (c * stride + min height stride) out, and_false (nat_le (c * stride) p))
        (h p ∙ rw (lt_not (p / stride) c (omega (arith, l)), lt_not (p / stride) (c + 1) (omega (arith, l))) refl)

    here : p / stride ≡ c → slice_index new p ≡ columns height stride sizes old (c + 1) p
    here e =
        let at : p ≡ c * stride + p % stride = within ∙ ap (λ q. q * stride + p % stride) e in
        let from : nat_le (c * stride) p ≡ true = le_is (c * stride) p (omega (arith, at)) in
        k p ∙ rw (from, lt_is (p / stride) (c + 1) (omega (arith, e)))
        (elim (cases_lt (p % stride) height) [
          | inl l ↦
              rw (lt_is p (c * stride + min height stride) (omega (arith, at, l, low)), lt_is (p % stride) height l)
              (ap (λ q. min (slice_index sizes q) 127) (same_place (c * height) (c * stride) (p % stride) p at ∙ ap (λ q. q * height + p % stride) (sym e)))
          | inr l ↦
              rw (lt_not p (c * stride + min height stride) (omega (arith, at, l)), lt_not (p % stride) height l)
              (h p ∙ rw (lt_not (p / stride) c (omega (arith, e))) refl)
        ])
      where
        same_place : (from at r p : ℕ) → p ≡ at + r → from + (p - at) ≡ from + r
        same_place from at r p e = omega (arith, e)

  pub columns_more : (p : ℕ) → slice_index new p ≡ columns height stride sizes old (c + 1) p
  columns_more p = elim (cases_lt (p / stride) c) [
    | inl l ↦ before p l
    | inr l ↦ elim (cases_lt c (p / stride)) [ inl m ↦ beyond p m | inr m ↦ here p (omega (arith, l, m)) ]
  ]

lt_min : (q a b : ℕ) → nat_lt q (min a b) ≡ (nat_lt q a && nat_lt q b)
lt_min q a b = elim (cases_lt q a) [
  | inl l ↦ elim (cases_lt q b) [
    | inl m ↦ rw (lt_is q a l, lt_is q b m, lt_is q (min a b) (omega (arith, l, m))) refl
    | inr m ↦ rw (lt_is q a l, lt_not q b m, lt_not q (min a b) (omega (arith, m))) refl
  ]
  | inr l ↦ rw (lt_not q a l, lt_not q (min a b) (omega (arith, l))) refl
]

-- all whole columns of both
pub columns_all : (height stride : ℕ) (sizes old : List ℕ) (c p : ℕ) → c ≡ min (length sizes / height) (length old / stride) → columns height stride sizes old c p ≡ level_after height sizes stride old p
columns_all height stride sizes old c p e =
    ap (λ b. if b && nat_lt (p % stride) height then min (slice_index sizes (p / stride * height + p % stride)) 127 else slice_index old p)
    (ap (nat_lt (p / stride)) e ∙ lt_min (p / stride) (length sizes / height) (length old / stride))

-- over zeros, the padded levels of a block
pub padded_levels : (w height : ℕ) (sizes old new : List ℕ) → 0 < height → w * height ≡ length sizes → (w + 4) * (height + 4) ≤ length old → ((p : ℕ) → slice_index old p ≡ 0) →
    ((p : ℕ) → p < length old → slice_index new p ≡ level_after height sizes (height + 4) old p) → IsPadded w height (slice_index sizes) new
padded_levels w height sizes old new some whole room zeros is c r l m =
    let stride = height + 4 in
    let p = c * stride + r in
    let column : p / stride ≡ c = div-mul-add c stride r m in
    let row : p % stride ≡ r = mod-mul-add c stride r m in
    let inside : p < length old = omega (arith, mul-add-lt c stride r (w + 4) l m, mul_comm (w + 4) stride, room) in
    let width : length sizes / height ≡ w = ap (λ n. n / height) (sym whole) ∙ whole_columns w height some in
    let long : w + 4 ≤ length old / stride = le-div (w + 4) (length old) stride (omega arith) room in
    is p inside
    ∙ ap (λ q. if nat_lt q (length sizes / height) && nat_lt q (length old / stride) && nat_lt (p % stride) height then min (slice_index sizes (q * height + p % stride)) 127 else slice_index old p) column
    ∙ ap (λ q. if nat_lt c (length sizes / height) && nat_lt c (length old / stride) && nat_lt q height then min (slice_index sizes (c * height + q)) 127 else slice_index old p) row
    ∙ ap (λ q. if nat_lt c q && nat_lt c (length old / stride) && nat_lt r height then min (slice_index sizes (c * height + r)) 127 else slice_index old p) width
    ∙ ap (λ b. if nat_lt c w && b && nat_lt r height then min (slice_index sizes (c * height + r)) 127 else slice_index old p) (lt_is c (length old / stride) (omega (arith, l, long)))
    ∙ ap (λ b. if b && nat_lt r height then min (slice_index sizes (c * height + r)) 127 else slice_index old p) (and_true (nat_lt c w))
    ∙ ap (λ z. if nat_lt c w && nat_lt r height then min (slice_index sizes (c * height + r)) 127 else z) (zeros p)
  where
    whole_columns : (w h : ℕ) → 0 < h → w * h / h ≡ w
    whole_columns w h s = ap (λ n. n / h) (let e : w * h ≡ w * h + 0 = omega arith in e) ∙ div-mul-add w h 0 s

    and_true : (b : Bool) → (b && true) ≡ b
    and_true true = refl
    and_true false = refl
