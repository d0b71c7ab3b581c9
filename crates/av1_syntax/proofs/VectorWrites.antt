-- What calls that code vectors write.
use Rattle.std.proofs.Common.{◌≡◌, ℕ, zero, suc, ◌+◌, ◌-◌, ◌*◌, ◌/◌, ◌%◌, ◌^◌, ◌<◌, ◌≤◌, [], ◌∷◌, Bool, true, false, not, if◌then◌else◌, codes, Result, Ok, Err, inl, inr, refl, sym, ap, subst, ◌∙◌, arith, ℤ, pos, negsuc, ◌-ℤ◌, w16}
use mir.Val.{SFits, of_z, to_z}
use Rattle.std.specs.Ordering.{int_eq}
use Rattle.std.proofs.lemmas.Int.{to_z-of_z}
use Rattle.std.specs.Prelude.{IsErr, slice_get}
use Rattle.std.proofs.Math.Nat.{mod-lt, mod-eq_of_lt, div-lt_iff_lt-mul}
use Rattle.std.proofs.lemmas.Bool.{cases_lt}
use Rattle.std.proofs.lemmas.Nat.{pow_pos, pow-add}
use Rattle.av1_cdf.specs.Distribution.{Distribution}
use Rattle.av1_cdf.specs.Distribution.Distribution.{Adaptive}
use Rattle.av1_cdf.specs.Layout.{Slot, slot, component_slot}
use Rattle.av1_geometry.specs.Cfl.{magnitude}
use Rattle.av1_geometry.specs.MotionVector.{joint_of, is_vertical, is_horizontal, class_base}
use Rattle.av1_geometry.specs.declared.motion_vector.MotionVector.{MotionVector}
use Rattle.av1_geometry.specs.declared.motion_vector.MvJointType.{MvJointType}
use Rattle.av1_geometry.specs.declared.motion_vector.MvSubpelPrecision.{MvSubpelPrecision}
use Rattle.av1_geometry.specs.declared.motion_vector.MvSubpelPrecision.TheVariants.{MV_SUBPEL_NONE, MV_SUBPEL_LOW_PRECISION, MV_SUBPEL_HIGH_PRECISION}
use Rattle.av1_model.specs.Comes.{Stores, Comes, Wrote, Writes, Begins}
use Rattle.av1_model.specs.Element.{Element, known, renamed}
use Rattle.av1_model.specs.Syntax.{Syntax}
use Rattle.av1_model.proofs.ComesLaws.{stays, comes_then, writes_first, begins_first, begins_then, writes_symbol, begins_symbol}
use Rattle.av1_syntax.specs.Calls.{coded_in, learnt_in}
use Rattle.av1_syntax.specs.Flags.{flag}
use Rattle.av1_syntax.specs.Vectors.{unit_of, has_quarters, has_eighths, digit, digit_where, bits_from, span, whole_element, quarters_slot, eighth_slot, fraction_element, offset_element, size_element, class_of, with_ones, is_negative, directed, component_element, coded_component, IsComponent, component_where, joints, joint_number, joint_element, vector, components_element, difference_element, difference, shifted, vector_element}
use Rattle.av1_syntax.proofs.Following.{Numbers, first_refused, second_wrote, renamed_wrote}
use Rattle.av1_syntax.proofs.InterWrites.{known_written}
use Rattle.av1_syntax.proofs.VectorReads.{bits_read, lowest, low_below, Quarters, HasOnes, eighth_reads, fraction_reads, first_span, class_ends, base_whole, in_class_reads, signed_reads, size_of_directed, sign_of_directed, joint_told, after_row_reads, components_reads, Joined, shifted_back, zero_told, not_zero, coded_is}
use Rattle.av1_syntax.proofs.Writing.{chosen, chosen_last, stores_as}

-- a bit more
module _ (axis bits d : ℕ) (a : axis < 2) (ten : bits ≤ 10) (l : d < 2 ^ bits) (i : ℕ) (before : i < bits) (t : Syntax Distribution ℕ) (old mid new : Numbers)
    (came : Comes coded_in learnt_in t (bits_from axis (bits - i) i (d % 2 ^ i)).tree old mid) where
  abbrev m : ℕ
  m = bits - (i + 1)

  abbrev b : ℕ
  b = d / 2 ^ i % 2

  abbrev bit : Element Distribution ℕ
  bit = digit (component_slot axis (codes "bits_cdf") (i ∷ []))

  left : bits - i ≡ suc m
  left = omega (arith, before)

  came_here : Comes coded_in learnt_in t (bits_from axis (suc m) i (d % 2 ^ i)).tree old mid
  came_here = subst (λ n. Comes coded_in learnt_in t (bits_from axis n i (d % 2 ^ i)).tree old mid) left came

  pub bits_step : Writes coded_in learnt_in bit.tree b mid new → Comes coded_in learnt_in t (bits_from axis (bits - (i + 1)) (i + 1) (d % 2 ^ (i + 1))).tree old new
  bits_step w =
      subst (λ low. Comes coded_in learnt_in t (bits_from axis m (i + 1) low).tree old new) (sym (lowest d i))
      (comes_then coded_in learnt_in t (bits_from axis (suc m) i (d % 2 ^ i)).tree (bits_from axis m (i + 1) (b * 2 ^ i + d % 2 ^ i)).tree old mid new came_here
      (writes_first coded_in learnt_in bit.tree (λ b. (bits_from axis m (i + 1) (b * 2 ^ i + d % 2 ^ i)).tree) b mid new w))

  within : d / 2 ^ (i + 1) < 2 ^ m
  within = (div-lt_iff_lt-mul (pow_pos (i + 1))).1 (let e = pow-add 2 m (i + 1) in let f : bits ≡ m + (i + 1) = omega (arith, before) in subst (λ k. d < k) (ap (λ k. 2 ^ k) f ∙ e) l)

  pub bits_begun : Begins coded_in learnt_in bit.tree b mid new → Begins coded_in learnt_in t d old new
  bits_begun w =
      let rest = bits_from axis m (i + 1) (b * 2 ^ i + d % 2 ^ i) in
      let leads = (bits_read axis m (i + 1) (b * 2 ^ i + d % 2 ^ i) a (omega (arith, before, ten)) (low_below i (d % 2 ^ i) b (mod-lt d (pow_pos i)) (omega arith))).leads d (lowest d i, within) in
      begins_then coded_in learnt_in t (bits_from axis (suc m) i (d % 2 ^ i)).tree d old mid new came_here
      (begins_first coded_in learnt_in bit.tree (λ b. (bits_from axis m (i + 1) (b * 2 ^ i + d % 2 ^ i)).tree) b d (rest.symbols d) mid new leads w)

-- all bits
pub bits_end : (axis bits d : ℕ) → d < 2 ^ bits → (t : Syntax Distribution ℕ) (old new : Numbers) → Comes coded_in learnt_in t (bits_from axis (bits - bits) bits (d % 2 ^ bits)).tree old new → Writes coded_in learnt_in t d old new
bits_end axis bits d l t old new h =
    let z : bits - bits ≡ 0 = omega arith in
    subst (λ k. Writes coded_in learnt_in t k old new) (mod-eq_of_lt l) (subst (λ n. Comes coded_in learnt_in t (bits_from axis n bits (d % 2 ^ bits)).tree old new) z h)

pub bits_start : (axis bits d : ℕ) (at : Numbers) → Comes coded_in learnt_in (bits_from axis bits 0 0).tree (bits_from axis (bits - 0) 0 (d % 2 ^ 0)).tree at at
bits_start axis bits d at =
    let e : bits - 0 ≡ bits = omega arith in
    let f : d % 2 ^ 0 ≡ 0 = omega arith in
    subst (λ low. Comes coded_in learnt_in (bits_from axis bits 0 0).tree (bits_from axis (bits - 0) 0 low).tree at at) (sym f)
    (subst (λ n. Comes coded_in learnt_in (bits_from axis bits 0 0).tree (bits_from axis n 0 0).tree at at) (sym e) (stays coded_in learnt_in (bits_from axis bits 0 0).tree at))

-- whole samples
as_digit : {U E : Type 0} (res : Result U E) (p q : Slot) (k : ℕ) (old new : Numbers) → p ≡ q → Wrote coded_in learnt_in res (digit p).tree k old new → Wrote coded_in learnt_in res (digit q).tree k old new
as_digit res p q k old new e w = subst (λ s. Wrote coded_in learnt_in res (digit s).tree k old new) e w

pub digit_as : {U E : Type 0} (res : Result U E) (p q : Slot) (k : ℕ) (old new : Numbers) → p ≡ q → Wrote coded_in learnt_in res (digit p).tree k old new → Wrote coded_in learnt_in res (digit q).tree k old new
digit_as res p q k old new e w = as_digit res p q k old new e w

pub whole_first : {U E : Type 0} (res : Result U E) (axis c d : ℕ) (p : Slot) (old new : Numbers) → c ≡ 0 → p ≡ component_slot axis (codes "class0_cdf") [] → Wrote coded_in learnt_in res (digit p).tree d old new → Wrote coded_in learnt_in res (whole_element axis c).tree d old new
whole_first res axis zero d p old new z e w = as_digit res p (component_slot axis (codes "class0_cdf") []) d old new e w
whole_first res axis (suc c) d p old new z e w = absurd (omega (arith, z))

pub whole_later : {U E : Type 0} (res : Result U E) (axis c d : ℕ) (old new : Numbers) → 1 ≤ c → Wrote coded_in learnt_in res (bits_from axis c 0 0).tree d old new → Wrote coded_in learnt_in res (whole_element axis c).tree d old new
whole_later res axis zero d old new l w = absurd (omega (arith, l))
whole_later res axis (suc c) d old new l w = w

pub later_span : (c : ℕ) → 1 ≤ c → span c ≡ 2 ^ c
later_span zero l = absurd (omega (arith, l))
later_span (suc c) l = refl

-- the parts of a size with ones for what is not coded
abbrev pub quarters_of : MvSubpelPrecision → ℕ → ℕ
quarters_of p o = if has_quarters p then o / 2 % 4 else 3

abbrev pub eighth_of : MvSubpelPrecision → ℕ → ℕ
eighth_of p o = if has_eighths p then o % 2 else 1

pub ones_parts : (p : MvSubpelPrecision) (o : ℕ) → let x = with_ones p o in (x / 8 ≡ o / 8) × (x / 2 % 4 ≡ quarters_of p o) × HasOnes p x × (8 * (o / 8) + 2 * quarters_of p o + eighth_of p o ≡ x) × Quarters p (quarters_of p o)
ones_parts MV_SUBPEL_NONE o = (omega arith, omega arith, omega arith, omega arith, refl)
ones_parts MV_SUBPEL_LOW_PRECISION o = (omega arith, omega arith, omega arith, omega arith, omega arith)
ones_parts MV_SUBPEL_HIGH_PRECISION o = (omega arith, omega arith, omega arith, omega arith, omega arith)

pub ones_above : (p : MvSubpelPrecision) (b o : ℕ) → b % 8 ≡ 0 → b + with_ones p o ≡ with_ones p (b + o)
ones_above MV_SUBPEL_NONE b o h = omega (arith, h)
ones_above MV_SUBPEL_LOW_PRECISION b o h = omega (arith, h)
ones_above MV_SUBPEL_HIGH_PRECISION b o h = omega arith

ones_within : (p : MvSubpelPrecision) (end z : ℕ) → end % 8 ≡ 0 → z < end → (z ≤ with_ones p z) × (with_ones p z < end)
ones_within MV_SUBPEL_NONE end z h l = (omega arith, omega (arith, h, l))
ones_within MV_SUBPEL_LOW_PRECISION end z h l = (omega arith, omega (arith, h, l))
ones_within MV_SUBPEL_HIGH_PRECISION end z h l = (omega arith, omega (arith, l))

module _ {U E : Type 0} (res : Result U E) (axis : ℕ) (p : MvSubpelPrecision) (c o : ℕ) where
  abbrev Eighth : ℕ → Element Distribution ℕ
  Eighth f = renamed (digit_where (has_eighths p) (eighth_slot axis c) 1) (λ h. 8 * (o / 8) + 2 * f + h) (λ o. o % 2)

  as_where : (b d : Bool) (q s : Slot) (default k : ℕ) (old new : Numbers) → b ≡ d → q ≡ s → {U E : Type 0} (res : Result U E) → Wrote coded_in learnt_in res (digit_where b q default).tree (if b then k else default) old new →
      Wrote coded_in learnt_in res (digit_where d s default).tree (if d then k else default) old new
  as_where b d q s default k old new e f res w =
      subst (λ s. Wrote coded_in learnt_in res (digit_where d s default).tree (if d then k else default) old new) f (subst (λ b. Wrote coded_in learnt_in res (digit_where b q default).tree (if b then k else default) old new) e w)

  pub fraction_refused : (b : Bool) (q : Slot) (old new : Numbers) → axis < 2 → b ≡ has_quarters p → q ≡ quarters_slot axis c (o / 8) → IsErr res → Begins coded_in learnt_in (digit_where b q 3).tree (if b then o / 2 % 4 else 3) old new →
      Wrote coded_in learnt_in res (fraction_element axis p c (o / 8)).tree (with_ones p o) old new
  fraction_refused b q old new a e f err w =
      let s = ones_parts p o in
      first_refused res (digit_where (has_quarters p) (quarters_slot axis c (o / 8)) 3) Eighth (λ o. o / 2 % 4) (quarters_of p o) (with_ones p o) old new err
      ((eighth_reads axis p c (o / 8) (quarters_of p o) a s.4).leads (with_ones p o) (s.1, (s.0, s.2)))
      (as_where b (has_quarters p) q (quarters_slot axis c (o / 8)) 3 (o / 2 % 4) old new e f {U = Unit {0}} {E = Unit {0}} (Err tt) w)

  pub fraction_wrote : (b d : Bool) (q r : Slot) (old mid new : Numbers) → b ≡ has_quarters p → q ≡ quarters_slot axis c (o / 8) → d ≡ has_eighths p → r ≡ eighth_slot axis c → Writes coded_in learnt_in (digit_where b q 3).tree (if b then o / 2 % 4 else 3) old mid →
      Wrote coded_in learnt_in res (digit_where d r 1).tree (if d then o % 2 else 1) mid new → Wrote coded_in learnt_in res (fraction_element axis p c (o / 8)).tree (with_ones p o) old new
  fraction_wrote b d q r old mid new e f x y v w =
      let s = ones_parts p o in
      second_wrote res (digit_where (has_quarters p) (quarters_slot axis c (o / 8)) 3) Eighth (λ o. o / 2 % 4) (quarters_of p o) (with_ones p o) old mid new
      (as_where b (has_quarters p) q (quarters_slot axis c (o / 8)) 3 (o / 2 % 4) old mid e f {U = Unit {0}} {E = Unit {0}} (Ok tt) v)
      (renamed_wrote res (digit_where (has_eighths p) (eighth_slot axis c) 1) (λ h. 8 * (o / 8) + 2 * quarters_of p o + h) (λ o. o % 2) (eighth_of p o) (with_ones p o) mid new s.3
      (as_where d (has_eighths p) r (eighth_slot axis c) 1 (o % 2) mid new x y res w))

  pub offset_refused : (old new : Numbers) → axis < 2 → o < 8 * span c → IsErr res → Begins coded_in learnt_in (whole_element axis c).tree (o / 8) old new → Wrote coded_in learnt_in res (offset_element axis p c).tree (with_ones p o) old new
  offset_refused old new a l err w =
      let s = ones_parts p o in
      first_refused res (whole_element axis c) (fraction_element axis p c) (λ o. o / 8) (o / 8) (with_ones p o) old new err
      ((fraction_reads axis p c (o / 8) a (λ e. first_span c (o / 8) e (omega (arith, l)))).leads (with_ones p o) (s.0, s.2)) w

  pub offset_wrote : (old mid new : Numbers) → Writes coded_in learnt_in (whole_element axis c).tree (o / 8) old mid → Wrote coded_in learnt_in res (fraction_element axis p c (o / 8)).tree (with_ones p o) mid new →
      Wrote coded_in learnt_in res (offset_element axis p c).tree (with_ones p o) old new
  offset_wrote old mid new v w = second_wrote res (whole_element axis c) (fraction_element axis p c) (λ o. o / 8) (o / 8) (with_ones p o) old mid new v w

-- the class of a size, as the code finds it
module _ (c o z : ℕ) (ten : c ≤ 10) (rest : class_base c + o ≡ z) (few : z < 16384) (most : (k : ℕ) → k ≤ 10 → class_base k ≤ z → k ≤ c) where
  pub below_end : z < class_base (suc c)
  below_end = elim (cases_lt z (class_base (suc c))) [
    | inl l ↦ l
    | inr m ↦ elim (cases_lt c 10) [
      | inl l ↦ let g = most (suc c) (omega (arith, l)) m in absurd (omega (arith, g))
      | inr k ↦ let e : c ≡ 10 = omega (arith, ten, k) in let m' : class_base 11 ≤ z = subst (λ c. class_base (suc c) ≤ z) e m in absurd (omega (arith, m', few))
    ]
  ]

  pub offset_below : o < 8 * span c
  offset_below = let e = class_ends c in let l = below_end in omega (arith, e, l, rest)

  module _ {U E : Type 0} (res : Result U E) (axis : ℕ) (p : MvSubpelPrecision) (q : Slot) (at : q ≡ component_slot axis (codes "classes_cdf") []) where
    abbrev Within : ℕ → Element Distribution ℕ
    Within c = renamed (offset_element axis p c) (λ o. class_base c + o) (λ z. z - class_base c)

    pub size_refused : (old new : Numbers) → axis < 2 → IsErr res → Begins coded_in learnt_in (digit q).tree c old new → Wrote coded_in learnt_in res (size_element axis p).tree (with_ones p z) old new
    size_refused old new a err w =
        let n = ones_within p (class_base (suc c)) z (base_whole (suc c)) below_end in
        let s = ones_parts p z in
        first_refused res (digit (component_slot axis (codes "classes_cdf") [])) Within class_of c (with_ones p z) old new err
        ((in_class_reads axis p c a ten).leads (with_ones p z) (let l = n.0 in omega (arith, rest, l), n.1, s.2)) (as_digit {U = Unit {0}} {E = Unit {0}} (Err tt) q (component_slot axis (codes "classes_cdf") []) c old new at w)

    pub size_wrote : (old mid new : Numbers) → Writes coded_in learnt_in (digit q).tree c old mid → Wrote coded_in learnt_in res (offset_element axis p c).tree (with_ones p o) mid new → Wrote coded_in learnt_in res (size_element axis p).tree (with_ones p z) old new
    size_wrote old mid new v w =
        second_wrote res (digit (component_slot axis (codes "classes_cdf") [])) Within class_of c (with_ones p z) old mid new (as_digit {U = Unit {0}} {E = Unit {0}} (Ok tt) q (component_slot axis (codes "classes_cdf") []) c old mid at v)
        (renamed_wrote res (offset_element axis p c) (λ o. class_base c + o) (λ z. z - class_base c) (with_ones p o) (with_ones p z) mid new (ones_above p (class_base c) o (base_whole c) ∙ ap (with_ones p) rest) w)

-- a component that is not zero, by its sign and its size
module _ {U E : Type 0} (res : Result U E) (axis : ℕ) (p : MvSubpelPrecision) (b : Bool) (z : ℕ) (q : Slot) (at : q ≡ component_slot axis (codes "sign_cdf") []) where
  abbrev Sized : Bool → Element Distribution ℤ
  Sized neg = renamed (size_element axis p) (λ z. directed neg (z + 1)) (λ v. magnitude v - 1)

  abbrev Signs : Slot → Element Distribution Bool
  Signs q = flag (Adaptive q)

  abbrev v : ℤ
  v = directed b (with_ones p z + 1)

  as_sign : {U E : Type 0} (res : Result U E) (old new : Numbers) → Wrote coded_in learnt_in res (Signs q).tree b old new → Wrote coded_in learnt_in res (Signs (component_slot axis (codes "sign_cdf") [])).tree b old new
  as_sign res old new w = subst (λ q. Wrote coded_in learnt_in res (Signs q).tree b old new) at w

  pub component_refused : (old new : Numbers) → axis < 2 → z < 16384 → IsErr res → Begins coded_in learnt_in (flag (Adaptive q)).tree b old new → Wrote coded_in learnt_in res (component_element axis p).tree v old new
  component_refused old new a most err w =
      let n = ones_within p 16384 z refl most in
      let s = ones_parts p z in
      let size = size_of_directed b (with_ones p z + 1) in
      let l = n.1 in
      first_refused res (Signs (component_slot axis (codes "sign_cdf") [])) Sized is_negative b v old new err
      ((signed_reads axis p b a).leads v (sign_of_directed b (with_ones p z), (omega (arith, size), record { size = omega (arith, size, l); whole = ap (λ n. n % unit_of p) size ∙ s.2 }))) (as_sign {U = Unit {0}} {E = Unit {0}} (Err tt) old new w)

  pub component_wrote : (old mid new : Numbers) → Writes coded_in learnt_in (flag (Adaptive q)).tree b old mid → Wrote coded_in learnt_in res (size_element axis p).tree (with_ones p z) mid new → Wrote coded_in learnt_in res (component_element axis p).tree v old new
  component_wrote old mid new f w =
      second_wrote res (Signs (component_slot axis (codes "sign_cdf") [])) Sized is_negative b v old mid new (as_sign {U = Unit {0}} {E = Unit {0}} (Ok tt) old mid f)
      (renamed_wrote res (size_element axis p) (λ z. directed b (z + 1)) (λ v. magnitude v - 1) (with_ones p z) v mid new refl w)

pub coded_parts : (p : MvSubpelPrecision) (v : ℤ) (b : Bool) (z : ℕ) → b ≡ is_negative v → z + 1 ≡ magnitude v → directed b (with_ones p z + 1) ≡ coded_component p v
coded_parts p v b z e f = let g : z ≡ magnitude v - 1 = omega (arith, f) in ap (λ b. directed b (with_ones p z + 1)) e ∙ ap (λ z. directed (is_negative v) (with_ones p z + 1)) g

-- a component, where it is known whether it is zero
pub where_some : {U E : Type 0} (res : Result U E) (there : Bool) (axis : ℕ) (p : MvSubpelPrecision) (v : ℤ) (old new : Numbers) → there ≡ true → 1 ≤ magnitude v → IsComponent p v → Wrote coded_in learnt_in res (component_element axis p).tree (coded_component p v) old new →
    Wrote coded_in learnt_in res (component_where there axis p).tree v old new
where_some res there axis p v old new t one h w =
    chosen res there (component_element axis p) (known (pos 0)) v old new t (subst (λ x. Wrote coded_in learnt_in res (component_element axis p).tree x old new) (coded_is p v one h) w)

pub where_none : (there : Bool) (axis : ℕ) (p : MvSubpelPrecision) (v : ℤ) (at : Numbers) → there ≡ not (int_eq v (pos 0)) → there ≡ false → Writes coded_in learnt_in (component_where there axis p).tree v at at
where_none there axis p v at e t =
    chosen_last {U = Unit {0}} {E = Unit {0}} (Ok tt) there (component_element axis p) (known (pos 0)) v at at t (known_written (pos 0) v at (sym (zero_told v (int_eq v (pos 0)) refl (sym e ∙ t))))

pub some_there : (v : ℤ) (there : Bool) → there ≡ not (int_eq v (pos 0)) → there ≡ true → 1 ≤ magnitude v
some_there v there e t = not_zero v (int_eq v (pos 0)) refl (sym e ∙ t)

-- both components
module _ {U E : Type 0} (res : Result U E) (p : MvSubpelPrecision) (d : MotionVector) (j : MvJointType) (h : Joined p j d) where
  abbrev Row : Element Distribution ℤ
  Row = component_where (is_vertical j) 0 p

  abbrev Col : Element Distribution ℤ
  Col = component_where (is_horizontal j) 1 p

  abbrev AfterRow : ℤ → Element Distribution MotionVector
  AfterRow row = renamed Col (λ col. vector row col) (λ d. d.col)

  pub components_refused : (old new : Numbers) → IsErr res → Begins coded_in learnt_in Row.tree d.row old new → Wrote coded_in learnt_in res (components_element p j).tree d old new
  components_refused old new err w = first_refused res Row AfterRow (λ d. d.row) d.row d old new err ((after_row_reads p j d.row).leads d (refl, h.1)) w

  pub components_wrote : (old mid new : Numbers) → Writes coded_in learnt_in Row.tree d.row old mid → Wrote coded_in learnt_in res Col.tree d.col mid new → Wrote coded_in learnt_in res (components_element p j).tree d old new
  components_wrote old mid new v w = second_wrote res Row AfterRow (λ d. d.row) d.row d old mid new v (renamed_wrote res Col (λ col. vector d.row col) (λ d. d.col) d.col d mid new refl w)

module _ {U E : Type 0} (res : Result U E) (p : MvSubpelPrecision) (d : MotionVector) (q : Slot) (s : ℕ) (at : q ≡ slot (codes "joints_cdf") []) (is : s ≡ joint_number (joint_of d)) where
  pub difference_refused : (old new : Numbers) → Joined p (joint_of d) d → IsErr res → new ≡ old → Wrote coded_in learnt_in res (difference_element p).tree d old new
  difference_refused old new h err e =
      first_refused res joint_element (components_element p) joint_of (joint_of d) d old new err ((components_reads p (joint_of d)).leads d h)
      (begins_symbol coded_in learnt_in (Adaptive (slot (codes "joints_cdf") [])) (λ s. slice_get joints s) joint_number (joint_of d) old new (joint_told (joint_of d)) e)

  pub difference_wrote : (old mid new : Numbers) → Stores coded_in learnt_in (Adaptive q) s old mid → Wrote coded_in learnt_in res (components_element p (joint_of d)).tree d mid new → Wrote coded_in learnt_in res (difference_element p).tree d old new
  difference_wrote old mid new v w =
      second_wrote res joint_element (components_element p) joint_of (joint_of d) d old mid new
      (writes_symbol coded_in learnt_in (Adaptive (slot (codes "joints_cdf") [])) (λ s. slice_get joints s) joint_number (joint_of d) old mid (joint_told (joint_of d))
      (stores_as (Adaptive q) (Adaptive (slot (codes "joints_cdf") [])) s (joint_number (joint_of d)) old mid (ap Adaptive at) is v)) w

-- a vector by its difference
pub vector_wrote : {U E : Type 0} (res : Result U E) (p : MvSubpelPrecision) (mv ref d : MotionVector) (old new : Numbers) → d ≡ difference mv ref → Wrote coded_in learnt_in res (difference_element p).tree d old new → Wrote coded_in learnt_in res (vector_element ref p).tree mv old new
vector_wrote res p mv ref d old new e w = renamed_wrote res (difference_element p) (shifted ref) (λ mv. difference mv ref) d mv old new (ap (shifted ref) e ∙ shifted_back mv ref) w

-- by another name of whether it is zero
pub where_as : {U E : Type 0} (res : Result U E) (b d : Bool) (axis : ℕ) (p : MvSubpelPrecision) (v u : ℤ) (old new : Numbers) → b ≡ d → v ≡ u → Wrote coded_in learnt_in res (component_where b axis p).tree v old new → Wrote coded_in learnt_in res (component_where d axis p).tree u old new
where_as res b d axis p v u old new e f w = subst (λ x. Wrote coded_in learnt_in res (component_where d axis p).tree x old new) f (subst (λ b. Wrote coded_in learnt_in res (component_where b axis p).tree v old new) e w)

-- a difference of two numbers of the code that fits them
fits_16 : (v : ℤ) → magnitude v ≤ 16384 → SFits w16 v
fits_16 (pos n) h = record { sfits = omega (arith, h) }
fits_16 (negsuc n) h = record { sfits = omega (arith, h) }

as_coded : ℤ → ℤ
as_coded v = to_z w16 (of_z w16 v)

part_is : (a b : ℤ) → SFits w16 a → SFits w16 b → magnitude (a -ℤ b) ≤ 16384 → as_coded (as_coded a -ℤ as_coded b) ≡ a -ℤ b
unfolding as_coded
part_is a b f h l = (λ i. as_coded (to_z-of_z w16 a f i -ℤ to_z-of_z w16 b h i)) ∙ to_z-of_z w16 (a -ℤ b) (fits_16 (a -ℤ b) l)

pub difference_is : (mv ref : MotionVector) → SFits w16 mv.row → SFits w16 ref.row → SFits w16 mv.col → SFits w16 ref.col → magnitude (difference mv ref).row ≤ 16384 → magnitude (difference mv ref).col ≤ 16384 →
    vector (to_z w16 (of_z w16 (to_z w16 (of_z w16 mv.row) -ℤ to_z w16 (of_z w16 ref.row)))) (to_z w16 (of_z w16 (to_z w16 (of_z w16 mv.col) -ℤ to_z w16 (of_z w16 ref.col)))) ≡ difference mv ref
unfolding as_coded
difference_is mv ref a b d e h k = λ i. record { row = part_is mv.row ref.row a b h i; col = part_is mv.col ref.col d e k i }
