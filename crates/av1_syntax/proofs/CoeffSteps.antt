-- The distributions of a size in the code's levels are those that a reader knows.
use Rattle.std.proofs.Common.{◌≡◌, ℕ, ◌+◌, ◌-◌, ◌*◌, ◌/◌, ◌%◌, ◌^◌, ◌<◌, ◌≤◌, List, [], ◌∷◌, Bool, true, false, Result, if◌then◌else◌, min, nat_eq, length, map, drop, slice_index, codes, refl, sym, ap, subst, ◌∙◌, arith, inl, inr, ℤ, pos, negsuc, ◌≤ℤ◌, unsigned_abs, w8, w32, w64, Fits, to_z, of_z}
use lib.Dec.{T}
use lib.Signed.{non_neg}
use mir.Val.{SFits}
use Rattle.std.proofs.lemmas.Int.{to_z-of_z, ints}
use Rattle.std.specs.Prelude.{slice_index_or}
use Rattle.std.proofs.lemmas.Bool.{cases_lt}
use Rattle.std.proofs.lemmas.Bool.Decides.{nat_tests}
use Rattle.std.proofs.lemmas.List.{drop_more, drop_all, length-map}
use Rattle.std.proofs.lemmas.Nat.{pow_pos, mul-le}
use Rattle.std.proofs.Math.Nat.{div-lt_iff_lt-mul, mul-le-mul_right}
use Rattle.av1_cdf.specs.Distribution.{Distribution, HasSymbols}
use Rattle.av1_coef.specs.Contexts.{base_context, range_context, scan_context, last_context, size_context, coded_width, coded_height, coded_height_log2, coded_area}
use Rattle.av1_coef.specs.Padded.{level_in, in_block}
use Rattle.av1_coef.proofs.Causal.{padded_range, scan_inside}
use Rattle.av1_coef.proofs.CodedSizes.{width_few}
use Rattle.av1_geometry.specs.declared.tx_size.TxSize.{TxSize}
use Rattle.av1_geometry.specs.declared.tx_type.TxClass.{TxClass}
use Rattle.av1_model.specs.Comes.{Standing, Wrote}
use Rattle.av1_syntax.specs.Calls.{adaptive, Context, coded_in, learnt_in}
use Rattle.av1_syntax.specs.Coefficients.{value_at, levels_at, size_at, sizes_from, size_after, placed, known_after, base_distribution, range_distribution, base_by, range_by, AreCoded, ArePadded, AreContexts}
use Rattle.av1_syntax.specs.Levels.{coeff_size_element, least, cut_level, level_at}
use Rattle.av1_syntax.proofs.CoeffKnown.{long, length_levels, counted, alike, level_here}
use Rattle.av1_syntax.proofs.CoeffReads.{base_few, range_few, last_few}
use Rattle.av1_syntax.proofs.CoeffSlots.{br_has}

eq_is : (a b : ℕ) → a ≡ b → nat_eq a b ≡ true
eq_is a b h = grind (arith, nat_tests)

eq_not : (a b : ℕ) → a < b → nat_eq a b ≡ false
eq_not a b h = grind (arith, nat_tests)

pub range_is : (size : TxSize) (p : ℕ) (class : TxClass) (levels : List ℕ) (at m t context bhl : ℕ) → m ≡ min t 3 → t ≡ size_context size → bhl ≡ coded_height_log2 size →
    context ≡ range_context class (level_in (2 ^ bhl) levels) (at / 2 ^ bhl) (at % 2 ^ bhl) → adaptive (codes "coeff_br_cdf") (m ∷ p ∷ context ∷ []) ≡ range_by size p class levels at
range_is size p class levels at m t context bhl e f g h =
    ap (λ m. adaptive (codes "coeff_br_cdf") (m ∷ p ∷ context ∷ [])) (e ∙ ap (λ t. min t 3) f)
    ∙ ap (λ k. adaptive (codes "coeff_br_cdf") (min (size_context size) 3 ∷ p ∷ k ∷ [])) (h ∙ ap (λ b. range_context class (level_in (2 ^ b) levels) (at / 2 ^ b) (at % 2 ^ b)) g)

-- a place and its levels have room
module _ (size : TxSize) (bhl at room : ℕ) (is : bhl ≡ coded_height_log2 size) (inside : at < coded_area size) (all : (coded_width size + 4) * (coded_height size + 4) ≤ room) where
  rows : 2 ^ bhl ≡ coded_height size
  rows = ap (λ b. 2 ^ b) is

  column : at / 2 ^ bhl < coded_width size
  column = subst (λ h. at / h < coded_width size) (sym rows) ((div-lt_iff_lt-mul {k = coded_height size} {x = at} {y = coded_width size} (pow_pos (coded_height_log2 size))).1 inside)

  pub place_within : at < 32 * 2 ^ bhl
  place_within =
      let most = mul-le-mul_right (coded_height size) (width_few size) in
      subst (λ h. at < 32 * h) (sym rows) (omega (arith, inside, most))

  pub room_within : (at / 2 ^ bhl + 5) * (2 ^ bhl + 4) ≤ room
  room_within =
      let most = mul-le (at / 2 ^ bhl + 5) (2 ^ bhl + 4) (coded_width size + 4) (coded_height size + 4) (omega (arith, column)) (omega (arith, rows)) in
      omega (arith, most, all)

-- a size at place c of a scan of which n are coded
module _ (size : TxSize) (class : TxClass) (scan : List ℕ) (n : ℕ) (values : List ℤ) (are : AreCoded size class scan n values) (p c : ℕ) (before : c < n) where
  abbrev cuts : List ℕ
  cuts = map cut_level (levels_at values scan n)

  abbrev later : List ℕ
  later = drop (c + 1) cuts

  abbrev known : ℕ → ℕ
  known = placed (drop (c + 1) scan) later

  abbrev context : ℕ
  context = scan_context class size (in_block (coded_width size) (coded_height size) known) scan n c

  long_cuts : length cuts ≡ n
  long_cuts = length-map (levels_at values scan n) cut_level ∙ length_levels size class scan n values are

  pub inside : slice_index scan c < coded_area size
  inside = scan_inside size class scan c are.order (let l = long size class scan n values are in omega (arith, l, before))

  pub base_here : base_by size p (nat_eq (c + 1) n) context ≡ base_distribution size p class scan c later
  base_here = elim (cases_lt (c + 1) n) [
    | inl l ↦
        let h = coded_height size in
        let at = slice_index scan c in
        let e = eq_not (c + 1) n l in
        let more = drop_more cuts (c + 1) 0 (omega (arith, long_cuts, l)) in
        let some : List ℕ → Distribution = λ xs. adaptive (codes "coeff_base_cdf") (size_context size ∷ p ∷ base_context class size (known_after size scan c xs) (at / h) (at % h) ∷ []) in
        rw e refl ∙ ap some more ∙ ap (base_distribution size p class scan c) (sym more)
    | inr l ↦
        let e = eq_is (c + 1) n (omega (arith, l, before)) in
        let none = drop_all (c + 1) cuts (omega (arith, long_cuts, l)) in
        rw e refl ∙ ap (base_distribution size p class scan c) (sym none)
  ]

  pub context_few : context < (if nat_eq (c + 1) n then 4 else 42)
  context_few =
      let h = coded_height size in
      let at = slice_index scan c in
      let base = base_context class size (in_block (coded_width size) (coded_height size) known) (at / h) (at % h) in
      let b = base_few class size (in_block (coded_width size) (coded_height size) known) (at / h) (at % h) in
      let f = last_few (coded_area size) c in
      (elim (nat_eq (c + 1) n) as (λ z. (if z then last_context (coded_area size) c else base) < (if z then 4 else 42)) [
        | true ↦ omega (arith, f)
        | false ↦ omega (arith, b)
      ])

  context_most : context ≤ 40
  context_most =
      let h = coded_height size in
      let at = slice_index scan c in
      let level = in_block (coded_width size) (coded_height size) known in
      let b = base_few class size level (at / h) (at % h) in
      let f = last_few (coded_area size) c in
      (elim (nat_eq (c + 1) n) as (λ z. (if z then last_context (coded_area size) c else base_context class size level (at / h) (at % h)) ≤ 40) [
        | true ↦ omega (arith, f)
        | false ↦ b
      ])

  pub least_here : (if nat_eq (c + 1) n then 1 else 0) ≡ least later
  least_here = elim (cases_lt (c + 1) n) [
    | inl l ↦ rw (eq_not (c + 1) n l) refl ∙ ap least (sym (drop_more cuts (c + 1) 0 (omega (arith, long_cuts, l))))
    | inr l ↦ rw (eq_is (c + 1) n (omega (arith, l, before))) refl ∙ ap least (sym (drop_all (c + 1) cuts (omega (arith, long_cuts, l))))
  ]

  pub range_here : (levels : List ℕ) → ArePadded size values levels → range_by size p class levels (slice_index scan c) ≡ range_distribution size p class scan c later
  range_here levels padded =
      ap (λ k. adaptive (codes "coeff_br_cdf") (min (size_context size) 3 ∷ p ∷ k ∷ []))
      (padded_range size class levels (λ q. unsigned_abs (value_at values q)) known scan c padded.padded are.order (let l = long size class scan n values are in omega (arith, l, before)) (alike size class scan n values are c before) inside)

  -- what the code's contexts have at the place
  pub context_here : (levels : List ℕ) (contexts : List ℤ) → ArePadded size values levels → AreContexts size class levels scan n contexts → slice_index_or contexts c (pos 0) ≡ pos context
  context_here levels contexts padded con = con.causal (λ q. unsigned_abs (value_at values q)) known c padded.padded are.order before (alike size class scan n values are c before)

  module _ (levels : List ℕ) (contexts : List ℤ) (padded : ArePadded size values levels) (con : AreContexts size class levels scan n contexts) where
    pub context_from : pos 0 ≤ℤ slice_index_or contexts c (pos 0)
    context_from = subst (λ v. pos 0 ≤ℤ v) (sym (context_here levels contexts padded con)) (omega (arith, ints))

    pub context_to : slice_index_or contexts c (pos 0) ≤ℤ pos 40
    context_to = subst (λ v. v ≤ℤ pos 40) (sym (context_here levels contexts padded con)) (let m = context_most in omega (arith, ints, m))

    pub context_is : (k : ℕ) → pos k ≡ slice_index_or contexts c (pos 0) → k ≡ context
    context_is k e = ap unsigned_abs (e ∙ context_here levels contexts padded con)

  -- the size there is no less than the least one
  pub least_size : (if nat_eq (c + 1) n then 1 else 0) ≤ unsigned_abs (value_at values (slice_index scan c))
  least_size = elim (cases_lt (c + 1) n) [
    | inl l ↦ rw (eq_not (c + 1) n l) (omega arith)
    | inr l ↦
        let k : n - 1 ≡ c = omega (arith, l, before) in
        let some = subst (λ (k : ℕ). 1 ≤ unsigned_abs (level_at (levels_at values scan n) k)) k ((counted size class scan n values are).last (omega (arith, before))) in
        rw (eq_is (c + 1) n (omega (arith, l, before))) (subst (λ (v : ℤ). 1 ≤ unsigned_abs v) (level_here size class scan n values are c before) some)
  ]

-- the first symbol of a size, and what it is one of
abbrev pub lowest : Bool → ℕ
lowest is_last = if is_last then 1 else 0

pub symbol_few : (is_last : Bool) (size s len : ℕ) → lowest is_last ≤ size → s + lowest is_last ≡ min size 3 → len ≡ (if is_last then 3 else 4) → s < len
symbol_few true size s len l e f = omega (arith, l, e, f)
symbol_few false size s len l e f = omega (arith, l, e, f)

pub lowest_one : (is_last : Bool) → lowest is_last ≤ 1
lowest_one true = omega arith
lowest_one false = omega arith

pub symbols_left : (is_last : Bool) (len : ℕ) → len ≡ (if is_last then 3 else 4) → len ≡ 4 - lowest is_last
symbols_left true len e = omega (arith, e)
symbols_left false len e = omega (arith, e)

pub range_has : (size : TxSize) (p : ℕ) (class : TxClass) (levels : List ℕ) (at : ℕ) → p < 2 → HasSymbols (range_by size p class levels at) 4
range_has size p class levels at l =
    let h = coded_height size in
    let context = range_context class (level_in h levels) (at / h) (at % h) in
    br_has (min (size_context size) 3) p context (omega arith) l (let f = range_few class (level_in h levels) (at / h) (at % h) in omega (arith, f))

-- a context as a byte with a sign
byte_fits : (v : ℤ) → pos 0 ≤ℤ v → v ≤ℤ pos 40 → SFits w8 v
byte_fits (pos n) l h = record { sfits = omega (arith, ints, h) }
byte_fits (negsuc n) l h = absurd (omega (arith, ints, l))

pub byte_back : (v : ℤ) → pos 0 ≤ℤ v → v ≤ℤ pos 40 → to_z w8 (of_z w8 v) ≡ v
byte_back v l h = to_z-of_z w8 v (byte_fits v l h)

pub size_of_pos : (v : ℤ) → pos 0 ≤ℤ v → pos (unsigned_abs v) ≡ v
size_of_pos (pos n) l = refl
size_of_pos (negsuc n) l = absurd (omega (arith, ints, l))

pub cast_fits : (v : ℤ) → pos 0 ≤ℤ v → v ≤ℤ pos 40 → T (non_neg v) × Fits w64 (unsigned_abs v)
cast_fits (pos n) l h = (tt, record { fits = omega (arith, ints, h) })
cast_fits (negsuc n) l h = absurd (omega (arith, ints, l))

small_fits : (v : ℤ) → unsigned_abs v < 2 ^ 20 → SFits w32 v
small_fits (pos n) h = record { sfits = omega (arith, h) }
small_fits (negsuc n) h = record { sfits = omega (arith, h) }

-- a level of a scan as the code passes it on
pub level_back : (size : TxSize) (class : TxClass) (scan : List ℕ) (n : ℕ) (values : List ℤ) → AreCoded size class scan n values → (c : ℕ) → c < n → (x : ℤ) (at : ℕ) → x ≡ value_at values at → at ≡ slice_index scan c →
    (to_z w32 (of_z w32 x) ≡ x) × (unsigned_abs x < 2 ^ 20)
level_back size class scan n values are c l x at e f =
    let here : value_at values at ≡ level_at (levels_at values scan n) c = ap (value_at values) f ∙ sym (level_here size class scan n values are c l) in
    let small = subst (λ (v : ℤ). unsigned_abs v < 2 ^ 20) (sym (e ∙ here)) ((counted size class scan n values are).small c l) in
    (to_z-of_z w32 x (small_fits x small), small)

-- the code's own distributions of a size are those of the place, and so are its size and the least one
pub size_coded : {U E : Type 0} (r : Result U E) (size : TxSize) (class : TxClass) (scan : List ℕ) (n : ℕ) (values : List ℤ) (are : AreCoded size class scan n values) (p c : ℕ) → c < n → (levels : List ℕ) → ArePadded size values levels →
    (base : Distribution) (k at level : ℕ) (old new : Standing Context) → base ≡ base_by size p (nat_eq (c + 1) n) k → k ≡ scan_context class size (in_block (coded_width size) (coded_height size) (placed (drop (c + 1) scan) (sizes_from values scan n (c + 1)))) scan n c →
    at ≡ slice_index scan c → level ≡ unsigned_abs (value_at values at) →
    Wrote coded_in learnt_in r (coeff_size_element base (range_by size p class levels at) (lowest (nat_eq (c + 1) n))).tree (min level 15) old new →
    Wrote coded_in learnt_in r (size_after size p class scan c (sizes_from values scan n (c + 1))).tree (size_at values scan c) old new
size_coded r size class scan n values are p c l levels padded base k at level old new e f g h w =
    let later = sizes_from values scan n (c + 1) in
    let b : base ≡ base_distribution size p class scan c later = e ∙ ap (base_by size p (nat_eq (c + 1) n)) f ∙ base_here size class scan n values are p c l in
    let q : range_by size p class levels at ≡ range_distribution size p class scan c later = ap (range_by size p class levels) g ∙ range_here size class scan n values are p c l levels padded in
    let low : lowest (nat_eq (c + 1) n) ≡ least later = least_here size class scan n values are p c l in
    let v : min level 15 ≡ size_at values scan c = ap (λ a. min a 15) (h ∙ ap (λ a. unsigned_abs (value_at values a)) g) in
    let one = subst (λ a. Wrote coded_in learnt_in r (coeff_size_element base (range_by size p class levels at) (lowest (nat_eq (c + 1) n))).tree a old new) v w in
    let two = subst (λ (x : Distribution). Wrote coded_in learnt_in r (coeff_size_element x (range_by size p class levels at) (lowest (nat_eq (c + 1) n))).tree (size_at values scan c) old new) b one in
    let three = subst (λ (x : Distribution). Wrote coded_in learnt_in r (coeff_size_element (base_distribution size p class scan c later) x (lowest (nat_eq (c + 1) n))).tree (size_at values scan c) old new) q two in
    subst (λ m. Wrote coded_in learnt_in r (coeff_size_element (base_distribution size p class scan c later) (range_distribution size p class scan c later) m).tree (size_at values scan c) old new) low three
