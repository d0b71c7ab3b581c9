-- Vectors have one path to each of them.
use Rattle.std.proofs.Common.{◌≡◌, ℕ, zero, suc, ◌+◌, ◌-◌, ◌*◌, ◌/◌, ◌%◌, ◌^◌, ◌<◌, ◌≤◌, [], ◌∷◌, Bool, true, false, not, Some, if◌then◌else◌, nat_eq, nat_le, eqb-true, codes, inl, inr, refl, sym, ap, subst, ◌∙◌, arith, ℤ, pos, negsuc, ◌+ℤ◌, ◌-ℤ◌}
use Rattle.std.specs.Ordering.{int_eq}
use Rattle.std.specs.Prelude.{slice_get}
use Rattle.std.proofs.Math.Nat.{pow-suc, div-div-eq-div-mul, mod-lt, mod-eq_of_lt, div-eq_of_lt}
use Rattle.std.proofs.Math.Pow.{pow_mono}
use Rattle.std.proofs.lemmas.Bool.{cases_lt}
use Rattle.std.proofs.lemmas.Bool.Decides.{nat_tests, Decides-int_eq}
use Rattle.std.proofs.lemmas.Int.{ints}
use Rattle.std.proofs.lemmas.Nat.{pow_pos, pow-add, mod-pow-add, div-mul-add, mod-mul-add, div-add-mod'}
use Rattle.std.proofs.lemmas.Option.{slice_get_past}
use Rattle.av1_cdf.specs.Distribution.{HasSymbols}
use Rattle.av1_cdf.specs.Distribution.Distribution.{Adaptive}
use Rattle.av1_cdf.specs.Layout.{Slot, slot, component_slot}
use Rattle.av1_cdf.proofs.Cells.{is_le}
use Rattle.av1_geometry.specs.Cfl.{magnitude}
use Rattle.av1_geometry.specs.MotionVector.{joint_of, is_vertical, is_horizontal, class_base}
use Rattle.av1_geometry.proofs.Vectors.{eightfold}
use Rattle.av1_geometry.specs.declared.motion_vector.MotionVector.{MotionVector}
use Rattle.av1_geometry.specs.declared.motion_vector.MvJointType.{MvJointType}
use Rattle.av1_geometry.specs.declared.motion_vector.MvJointType.TheVariants.{MV_JOINT_ZERO, MV_JOINT_HNZVZ, MV_JOINT_HZVNZ, MV_JOINT_HNZVNZ}
use Rattle.av1_geometry.specs.declared.motion_vector.MvSubpelPrecision.{MvSubpelPrecision}
use Rattle.av1_geometry.specs.declared.motion_vector.MvSubpelPrecision.TheVariants.{MV_SUBPEL_NONE, MV_SUBPEL_LOW_PRECISION, MV_SUBPEL_HIGH_PRECISION}
use Rattle.av1_model.specs.Element.{known, renamed, Reads}
use Rattle.av1_model.proofs.ElementLaws.{known_reads, reads_as, symbol_reads, choose_reads, after_reads, renamed_reads}
use Rattle.av1_syntax.specs.Flags.{flag}
use Rattle.av1_syntax.specs.Vectors.{unit_of, has_quarters, has_eighths, digit_of, digit, digit_where, bits_from, span, whole_element, quarters_slot, eighth_slot, fraction_element, offset_element, class_up_to, class_of, size_element, with_ones, is_negative, directed, component_element, coded_component, IsComponent, component_where, joints, joint_number, joint_element, vector, components_element, difference_element, difference, shifted, vector_element, IsDifference}
use Rattle.av1_syntax.proofs.Elements.{flag_reads}
use Rattle.av1_syntax.proofs.Factors.{neg_is, magnitude_neg}
use Rattle.av1_syntax.proofs.InterSlots.{joints_has, sign_has, classes_has, class0_has, bits_has, class0_fp_has, fp_has, class0_hp_has, hp_has}
use Rattle.av1_syntax.proofs.Values.{below, past, told_below}

-- digits
pub digit_told : (n s : ℕ) → s < n → digit_of n s ≡ Some s
digit_told n s h = below n s (Some s) h

pub digit_reads : (s : Slot) (n : ℕ) → HasSymbols (Adaptive s) n → Reads HasSymbols (digit s) (λ k. k < n) 1
digit_reads s n has =
    let e : s.len ≡ n = has.1 in
    reads_as HasSymbols (digit s) (λ k. digit_of s.len k ≡ Some k) (λ k. k < n) 1 1 (λ k d. let t = told_below s.len k (Some k) k d in let l = t.0 in omega (arith, l, e)) (λ k l. digit_told s.len k (omega (arith, l, e))) (omega arith)
    (symbol_reads HasSymbols (Adaptive s) s.len (digit_of s.len) (λ k. k) (has.0, refl) (λ k l. past s.len k (Some k) l) (λ k a d. let t = told_below s.len k (Some k) a d in let f = t.1 in let g : k ≡ a = cc in sym g))

-- a digit where it is asked, else a known number
abbrev pub IsDigit : Bool → ℕ → ℕ → ℕ → Type 0
IsDigit true n default k = k < n
IsDigit false n default k = k ≡ default

pub digit_where_reads : (asked : Bool) (s : Slot) (n default : ℕ) → HasSymbols (Adaptive s) n → Reads HasSymbols (digit_where asked s default) (IsDigit asked n default) 1
digit_where_reads true s n default has = choose_reads HasSymbols true (digit s) (known default) (λ k. k < n) 1 (λ t. digit_reads s n has) (λ t. absurd cc)
digit_where_reads false s n default has =
    choose_reads HasSymbols false (digit s) (known default) (λ k. k ≡ default) 1 (λ t. absurd cc) (λ t. reads_as HasSymbols (known default) (λ k. k ≡ default) (λ k. k ≡ default) 0 1 (λ k e. e) (λ k e. e) (omega arith) (known_reads HasSymbols default))

-- bits, of which those below bit i are known
abbrev pub AreBits : ℕ → ℕ → ℕ → ℕ → Type 0
AreBits more i low d = (d % 2 ^ i ≡ low) × (d / 2 ^ i < 2 ^ more)

half : (d i : ℕ) → d / 2 ^ (i + 1) ≡ d / 2 ^ i / 2
half d i = ap (λ k. d / k) (omega (arith, pow-add 2 i 1)) ∙ sym (div-div-eq-div-mul d (2 ^ i) 2)

pub lowest : (d i : ℕ) → d % 2 ^ (i + 1) ≡ d / 2 ^ i % 2 * 2 ^ i + d % 2 ^ i
lowest d i = ap (λ k. d % 2 ^ k) {x = i + 1} {y = 1 + i} (omega arith) ∙ mod-pow-add d 1 i

-- a bit more is known
pub bit_more : (more i low d : ℕ) → AreBits (suc more) i low d → AreBits more (i + 1) (d / 2 ^ i % 2 * 2 ^ i + low) d
bit_more more i low d h = (lowest d i ∙ ap (λ l. d / 2 ^ i % 2 * 2 ^ i + l) h.0, let e = half d i in let p = pow-suc 2 more in let b = h.1 in omega (arith, e, p, b))

bit_less : (more i low b d : ℕ) → low < 2 ^ i → AreBits more (i + 1) (b * 2 ^ i + low) d → (d / 2 ^ i % 2 ≡ b) × AreBits (suc more) i low d
bit_less more i low b d l h =
    let own = lowest d i in
    let same : d / 2 ^ i % 2 * 2 ^ i + d % 2 ^ i ≡ b * 2 ^ i + low = sym own ∙ h.0 in
    let within = mod-lt d (pow_pos i) in
    let bit = sym (div-mul-add (d / 2 ^ i % 2) (2 ^ i) (d % 2 ^ i) within) ∙ ap (λ k. k / 2 ^ i) same ∙ div-mul-add b (2 ^ i) low l in
    let rest = sym (mod-mul-add (d / 2 ^ i % 2) (2 ^ i) (d % 2 ^ i) within) ∙ ap (λ k. k % 2 ^ i) same ∙ mod-mul-add b (2 ^ i) low l in
    (bit, (rest, let e = half d i in let p = pow-suc 2 more in let k = h.1 in omega (arith, e, p, k)))

pub low_below : (i low b : ℕ) → low < 2 ^ i → b < 2 → b * 2 ^ i + low < 2 ^ (i + 1)
low_below i low zero l h = omega (arith, l, pow-add 2 i 1)
low_below i low (suc zero) l h = omega (arith, l, pow-add 2 i 1)
low_below i low (suc (suc b)) l h = absurd (omega (arith, h))

pub bits_read : (axis more i low : ℕ) → axis < 2 → i + more ≤ 10 → low < 2 ^ i → Reads HasSymbols (bits_from axis more i low) (AreBits more i low) more
bits_read axis zero i low a h l =
    reads_as HasSymbols (known low) (λ d. d ≡ low) (AreBits zero i low) 0 0 (λ d e. none d e) (λ d p. one d p) (omega arith) (known_reads HasSymbols low)
  where
    none : (d : ℕ) → d ≡ low → AreBits zero i low d
    none d e = (ap (λ d. d % 2 ^ i) e ∙ mod-eq_of_lt l, let v : d / 2 ^ i ≡ 0 = ap (λ d. d / 2 ^ i) e ∙ div-eq_of_lt l in omega (arith, v))

    one : (d : ℕ) → AreBits zero i low d → d ≡ low
    one d p = let z : d / 2 ^ i ≡ 0 = omega (arith, p.1) in let w = div-add-mod' d (2 ^ i) in sym w ∙ ap (λ q. q * 2 ^ i + d % 2 ^ i) z ∙ (let e : 0 * 2 ^ i + d % 2 ^ i ≡ d % 2 ^ i = omega arith in e) ∙ p.0
bits_read axis (suc more) i low a h l =
    let next = λ (b : ℕ). bits_from axis more (i + 1) (b * 2 ^ i + low) in
    reads_as HasSymbols (bits_from axis (suc more) i low) (λ d. (d / 2 ^ i % 2 < 2) × AreBits more (i + 1) (d / 2 ^ i % 2 * 2 ^ i + low) d) (AreBits (suc more) i low) (1 + more) (suc more)
    (λ d p. (bit_less more i low (d / 2 ^ i % 2) d l p.1).1) (λ d p. (omega arith, bit_more more i low d p)) (omega arith)
    (after_reads HasSymbols (digit (component_slot axis (codes "bits_cdf") (i ∷ []))) next (λ d. d / 2 ^ i % 2) (λ b. b < 2) (λ b d. AreBits more (i + 1) (b * 2 ^ i + low) d) 1 more (λ b d p q. (bit_less more i low b d l q).0)
    (digit_reads _ 2 (bits_has axis i a (omega (arith, h)))) (λ b p. bits_read axis more (i + 1) (b * 2 ^ i + low) a (omega (arith, h)) (low_below i low b l p)))

pub whole_reads : (axis c : ℕ) → axis < 2 → c ≤ 10 → Reads HasSymbols (whole_element axis c) (λ d. d < span c) 10
whole_reads axis zero a h = reads_as HasSymbols (whole_element axis 0) (λ d. d < 2) (λ d. d < 2) 1 10 (λ d l. l) (λ d l. l) (omega arith) (digit_reads _ 2 (class0_has axis a))
whole_reads axis (suc c) a h =
    reads_as HasSymbols (whole_element axis (suc c)) (AreBits (suc c) 0 0) (λ d. d < 2 ^ suc c) (suc c) 10 (λ d p. let b = p.1 in omega (arith, b)) (λ d l. (omega arith, omega (arith, l))) h (bits_read axis (suc c) 0 0 a (omega (arith, h)) (omega arith))

slot_has : (b : Bool) (s t : Slot) (n : ℕ) → (b ≡ true → HasSymbols (Adaptive s) n) → HasSymbols (Adaptive t) n → HasSymbols (Adaptive (if b then s else t)) n
slot_has true s t n x y = x refl
slot_has false s t n x y = y

pub quarters_has : (axis c d : ℕ) → axis < 2 → (c ≡ 0 → d < 2) → HasSymbols (Adaptive (quarters_slot axis c d)) 4
quarters_has axis c d a h = slot_has (nat_eq c 0) _ _ 4 (λ t. class0_fp_has axis d a (h (eqb-true c 0 t))) (fp_has axis a)

pub eighth_has : (axis c : ℕ) → axis < 2 → HasSymbols (Adaptive (eighth_slot axis c)) 2
eighth_has axis c a = slot_has (nat_eq c 0) _ _ 2 (λ t. class0_hp_has axis a) (hp_has axis a)

-- what a size has beside its whole samples
abbrev pub HasOnes : MvSubpelPrecision → ℕ → Type 0
HasOnes p o = (o + 1) % unit_of p ≡ 0

abbrev pub Quarters : MvSubpelPrecision → ℕ → Type 0
Quarters p f = IsDigit (has_quarters p) 4 3 f

abbrev pub Eighth : MvSubpelPrecision → ℕ → Type 0
Eighth p h = IsDigit (has_eighths p) 2 1 h

parts_of : (p : MvSubpelPrecision) (o : ℕ) → HasOnes p o → Quarters p (o / 2 % 4) × Eighth p (o % 2)
parts_of MV_SUBPEL_NONE o h = (omega (arith, h), omega (arith, h))
parts_of MV_SUBPEL_LOW_PRECISION o h = (omega arith, omega (arith, h))
parts_of MV_SUBPEL_HIGH_PRECISION o h = (omega arith, omega arith)

of_parts : (p : MvSubpelPrecision) (d f h : ℕ) → Quarters p f → Eighth p h → let o = 8 * d + 2 * f + h in (o / 8 ≡ d) × HasOnes p o × (o / 2 % 4 ≡ f) × (o % 2 ≡ h)
of_parts MV_SUBPEL_NONE d f h x y = (omega (arith, x, y), omega (arith, x, y), omega (arith, x, y), omega (arith, x, y))
of_parts MV_SUBPEL_LOW_PRECISION d f h x y = (omega (arith, x, y), omega (arith, x, y), omega (arith, x, y), omega (arith, x, y))
of_parts MV_SUBPEL_HIGH_PRECISION d f h x y = (omega (arith, x, y), omega (arith, x, y), omega (arith, x, y), omega (arith, x, y))

abbrev pub IsFraction : MvSubpelPrecision → ℕ → ℕ → Type 0
IsFraction p d o = (o / 8 ≡ d) × HasOnes p o

abbrev AfterQuarters : MvSubpelPrecision → ℕ → ℕ → ℕ → Type 0
AfterQuarters p d f o = (o / 2 % 4 ≡ f) × (Quarters p f → IsFraction p d o)

pub eighth_reads : (axis : ℕ) (p : MvSubpelPrecision) (c d f : ℕ) → axis < 2 → Quarters p f → Reads HasSymbols (renamed (digit_where (has_eighths p) (eighth_slot axis c) 1) (λ h. 8 * d + 2 * f + h) (λ o. o % 2)) (λ o. (o / 2 % 4 ≡ f) × IsFraction p d o) 1
eighth_reads axis p c d f a q =
    renamed_reads HasSymbols (digit_where (has_eighths p) (eighth_slot axis c) 1) (λ h. 8 * d + 2 * f + h) (λ o. o % 2) (Eighth p) (λ o. (o / 2 % 4 ≡ f) × IsFraction p d o) 1
    (λ o h. ((parts_of p o h.1.1).1, omega (arith, h.0, h.1.0))) (λ h e. let w = of_parts p d f h q e in ((w.2, (w.0, w.1)), w.3)) (digit_where_reads (has_eighths p) (eighth_slot axis c) 2 1 (eighth_has axis c a))

pub fraction_reads : (axis : ℕ) (p : MvSubpelPrecision) (c d : ℕ) → axis < 2 → (c ≡ 0 → d < 2) → Reads HasSymbols (fraction_element axis p c d) (IsFraction p d) 2
fraction_reads axis p c d a h =
    reads_as HasSymbols (fraction_element axis p c d) (λ o. Quarters p (o / 2 % 4) × ((o / 2 % 4 ≡ o / 2 % 4) × IsFraction p d o)) (IsFraction p d) 2 2 (λ o w. w.1.1) (λ o w. ((parts_of p o w.1).0, (refl, w))) (omega arith)
    (after_reads HasSymbols (digit_where (has_quarters p) (quarters_slot axis c d) 3) (λ f. renamed (digit_where (has_eighths p) (eighth_slot axis c) 1) (λ h. 8 * d + 2 * f + h) (λ o. o % 2)) (λ o. o / 2 % 4) (Quarters p) (λ f o. (o / 2 % 4 ≡ f) × IsFraction p d o) 1 1
    (λ f o x y. y.0) (digit_where_reads (has_quarters p) (quarters_slot axis c d) 4 3 (quarters_has axis c d a h)) (λ f q. eighth_reads axis p c d f a q))

-- what a size has above the base of its class
abbrev pub IsOffset : MvSubpelPrecision → ℕ → ℕ → Type 0
IsOffset p c o = (o < 8 * span c) × HasOnes p o

pub first_span : (c d : ℕ) → c ≡ 0 → d < span c → d < 2
first_span c d e h = subst (λ c. d < span c) e h

pub offset_reads : (axis : ℕ) (p : MvSubpelPrecision) (c : ℕ) → axis < 2 → c ≤ 10 → Reads HasSymbols (offset_element axis p c) (IsOffset p c) 12
offset_reads axis p c a l =
    reads_as HasSymbols (offset_element axis p c) (λ o. (o / 8 < span c) × IsFraction p (o / 8) o) (IsOffset p c) 12 12 (λ o h. let k = h.0 in (omega (arith, k), h.1.1)) (λ o h. let k = h.0 in (omega (arith, k), (refl, h.1))) (omega arith)
    (after_reads HasSymbols (whole_element axis c) (fraction_element axis p c) (λ o. o / 8) (λ d. d < span c) (IsFraction p) 10 2 (λ d o x y. y.0) (whole_reads axis c a l) (λ d h. fraction_reads axis p c d a (λ e. first_span c d e h)))

-- classes
module _ (n z : ℕ) where
  reached_by : (b : Bool) → nat_le (class_base (suc n)) z ≡ b → class_base (class_up_to n z) ≤ z → class_base (if b then suc n else class_up_to n z) ≤ z
  reached_by true e h = is_le (class_base (suc n)) z e
  reached_by false e h = h

  few_by : (b : Bool) → class_up_to n z ≤ n → (if b then suc n else class_up_to n z) ≤ suc n
  few_by true h = omega arith
  few_by false h = omega (arith, h)

  greatest_by : (c : ℕ) (b : Bool) → nat_le (class_base (suc n)) z ≡ b → c ≤ suc n → class_base c ≤ z → (c ≤ n → c ≤ class_up_to n z) → c ≤ (if b then suc n else class_up_to n z)
  greatest_by c true e h k more = h
  greatest_by c false e h k more = elim (cases_lt c (suc n)) [
    | inl l ↦ more (omega (arith, l))
    | inr m ↦ let same : c ≡ suc n = omega (arith, h, m) in let k' : class_base (suc n) ≤ z = subst (λ c. class_base c ≤ z) same k in absurd (grind (arith, nat_tests, e, k'))
  ]

reached : (n z : ℕ) → class_base (class_up_to n z) ≤ z
reached zero z = omega arith
reached (suc n) z = reached_by n z (nat_le (class_base (suc n)) z) refl (reached n z)

class_few : (n z : ℕ) → class_up_to n z ≤ n
class_few zero z = omega arith
class_few (suc n) z = few_by n z (nat_le (class_base (suc n)) z) (class_few n z)

greatest : (n z c : ℕ) → c ≤ n → class_base c ≤ z → c ≤ class_up_to n z
greatest zero z c h k = omega (arith, h)
greatest (suc n) z c h k = greatest_by n z c (nat_le (class_base (suc n)) z) refl h k (λ l. greatest n z c l k)

base_rises : (c k : ℕ) → suc c ≤ k → class_base (suc c) ≤ class_base k
base_rises c zero h = absurd (omega (arith, h))
base_rises c (suc k) h = pow_mono (omega (arith, h))

pub class_is : (z c : ℕ) → c ≤ 10 → class_base c ≤ z → z < class_base (suc c) → class_of z ≡ c
class_is z c h k l = elim (cases_lt c (class_of z)) [
  | inl more ↦ let r = base_rises c (class_of z) more in let s = reached 10 z in absurd (omega (arith, r, s, l))
  | inr less ↦ let g = greatest 10 z c h k in omega (arith, g, less)
]

pub class_ends : (c : ℕ) → class_base c + 8 * span c ≡ class_base (suc c)
class_ends zero = refl
class_ends (suc c) = let e = eightfold c in let f = eightfold (suc c) in let g = pow-suc 2 (suc c) in omega (arith, e, f, g)

pub base_whole : (c : ℕ) → class_base c % 8 ≡ 0
base_whole zero = refl
base_whole (suc c) = let e = eightfold c in omega (arith, e)

pub last_base : (c : ℕ) → c ≤ 10 → class_base (suc c) ≤ 16384
last_base c h = let l : 2 ^ (c + 4) ≤ 2 ^ 14 = pow_mono {j = 14} (omega (arith, h)) in l

above_base : (p : MvSubpelPrecision) (b o : ℕ) → b % 8 ≡ 0 → (HasOnes p o → HasOnes p (b + o)) × (HasOnes p (b + o) → HasOnes p o)
above_base MV_SUBPEL_NONE b o h = (λ k. omega (arith, h, k), λ k. omega (arith, h, k))
above_base MV_SUBPEL_LOW_PRECISION b o h = (λ k. omega (arith, h, k), λ k. omega (arith, h, k))
above_base MV_SUBPEL_HIGH_PRECISION b o h = (λ k. omega arith, λ k. omega arith)

-- a size, counted from 0
abbrev pub IsSize : MvSubpelPrecision → ℕ → Type 0
IsSize p z = (z < 16384) × HasOnes p z

abbrev pub InClass : MvSubpelPrecision → ℕ → ℕ → Type 0
InClass p c z = (class_base c ≤ z) × (z < class_base (suc c)) × HasOnes p z

pub size_class : (z : ℕ) → z < 16384 → (class_of z < 11) × (class_base (class_of z) ≤ z) × (z < class_base (suc (class_of z)))
size_class z h =
    let few = class_few 10 z in (
      omega (arith, few),
      reached 10 z,
      elim (cases_lt z (class_base (suc (class_of z)))) [
        | inl l ↦ l
        | inr m ↦ elim (cases_lt (class_of z) 10) [
          | inl l ↦ let g = greatest 10 z (suc (class_of z)) (omega (arith, l)) m in absurd (omega (arith, g))
          | inr k ↦ let e : class_of z ≡ 10 = omega (arith, few, k) in let m' : class_base 11 ≤ z = subst (λ c. class_base (suc c) ≤ z) e m in absurd (omega (arith, m', h))
        ]
      ],
    )

pub in_class_reads : (axis : ℕ) (p : MvSubpelPrecision) (c : ℕ) → axis < 2 → c ≤ 10 → Reads HasSymbols (renamed (offset_element axis p c) (λ o. class_base c + o) (λ z. z - class_base c)) (InClass p c) 12
in_class_reads axis p c a l =
    let end = class_ends c in
    let base = class_base c in
    renamed_reads HasSymbols (offset_element axis p c) (λ o. base + o) (λ z. z - base) (IsOffset p c) (InClass p c) 12
    (λ z h. let from = h.0 in let to = h.1 in let same : base + (z - base) ≡ z = omega (arith, from) in ((omega (arith, end, from, to), (above_base p base (z - base) (base_whole c)).1 (subst (HasOnes p) (sym same) h.2)), same))
    (λ o h. let k = h.0 in ((omega arith, omega (arith, end, k), (above_base p base o (base_whole c)).0 h.1), omega arith)) (offset_reads axis p c a l)

pub size_reads : (axis : ℕ) (p : MvSubpelPrecision) → axis < 2 → Reads HasSymbols (size_element axis p) (IsSize p) 13
size_reads axis p a =
    reads_as HasSymbols (size_element axis p) (λ z. (class_of z < 11) × InClass p (class_of z) z) (IsSize p) 13 13
    (λ z h. let k = h.0 in let l = last_base (class_of z) (omega (arith, k)) in let m = h.1.1 in (omega (arith, l, m), h.1.2)) (λ z h. let k = size_class z h.0 in (k.0, (k.1, k.2, h.1))) (omega arith)
    (after_reads HasSymbols (digit (component_slot axis (codes "classes_cdf") [])) (λ c. renamed (offset_element axis p c) (λ o. class_base c + o) (λ z. z - class_base c)) class_of (λ c. c < 11) (InClass p) 1 12
    (λ c z x y. class_is z c (omega (arith, x)) y.0 y.1) (digit_reads _ 11 (classes_has axis a)) (λ c x. in_class_reads axis p c a (omega (arith, x))))

-- a component that is not zero
abbrev pub IsSome : MvSubpelPrecision → ℤ → Type 0
IsSome p v = (1 ≤ magnitude v) × IsComponent p v

pub directed_is : (v : ℤ) → directed (is_negative v) (magnitude v) ≡ v
directed_is (pos n) = refl
directed_is (negsuc n) = neg_is n

pub size_of_directed : (b : Bool) (n : ℕ) → magnitude (directed b n) ≡ n
size_of_directed true n = magnitude_neg n
size_of_directed false n = refl

pub sign_of_directed : (b : Bool) (n : ℕ) → is_negative (directed b (n + 1)) ≡ b
sign_of_directed true n = let e : n + 1 ≡ suc n = omega arith in ap is_negative (ap (λ k. pos 0 -ℤ pos k) e ∙ neg_is n)
sign_of_directed false n = refl

abbrev pub Signed : MvSubpelPrecision → Bool → ℤ → Type 0
Signed p neg v = (is_negative v ≡ neg) × IsSome p v

pub signed_reads : (axis : ℕ) (p : MvSubpelPrecision) (neg : Bool) → axis < 2 → Reads HasSymbols (renamed (size_element axis p) (λ z. directed neg (z + 1)) (λ v. magnitude v - 1)) (Signed p neg) 13
signed_reads axis p neg a =
    renamed_reads HasSymbols (size_element axis p) (λ z. directed neg (z + 1)) (λ v. magnitude v - 1) (IsSize p) (Signed p neg) 13
    (λ v h. let one = h.1.0 in let most = h.1.1.size in let same : magnitude v - 1 + 1 ≡ magnitude v = omega (arith, one) in
    ((omega (arith, one, most), ap (λ n. n % unit_of p) same ∙ h.1.1.whole), ap (λ b. directed b (magnitude v - 1 + 1)) (sym h.0) ∙ ap (directed (is_negative v)) same ∙ directed_is v))
    (λ z h. let m = size_of_directed neg (z + 1) in let l = h.0 in
    ((sign_of_directed neg z, (omega (arith, m), record { size = omega (arith, m, l); whole = ap (λ n. n % unit_of p) m ∙ h.1 })), let e : magnitude (directed neg (z + 1)) - 1 ≡ z = omega (arith, m) in e))
    (size_reads axis p a)

pub component_reads : (axis : ℕ) (p : MvSubpelPrecision) → axis < 2 → Reads HasSymbols (component_element axis p) (IsSome p) 14
component_reads axis p a =
    reads_as HasSymbols (component_element axis p) (λ v. Unit {0} × Signed p (is_negative v) v) (IsSome p) 14 14 (λ v h. h.1.1) (λ v h. (tt, (refl, h))) (omega arith)
    (after_reads HasSymbols (flag (Adaptive (component_slot axis (codes "sign_cdf") []))) (λ neg. renamed (size_element axis p) (λ z. directed neg (z + 1)) (λ v. magnitude v - 1)) is_negative (λ b. Unit {0}) (Signed p) 1 13 (λ neg v x y. y.0)
    (flag_reads _ (sign_has axis a)) (λ neg x. signed_reads axis p neg a))

-- a multiple of the unit has ones below it already
ones_there : (p : MvSubpelPrecision) (z : ℕ) → HasOnes p z → with_ones p z ≡ z
ones_there MV_SUBPEL_NONE z h = omega (arith, h)
ones_there MV_SUBPEL_LOW_PRECISION z h = omega (arith, h)
ones_there MV_SUBPEL_HIGH_PRECISION z h = omega arith

pub coded_is : (p : MvSubpelPrecision) (v : ℤ) → 1 ≤ magnitude v → IsComponent p v → coded_component p v ≡ v
coded_is p v one h =
    let same : magnitude v - 1 + 1 ≡ magnitude v = omega (arith, one) in
    ap (λ z. directed (is_negative v) (z + 1)) (ones_there p (magnitude v - 1) (ap (λ n. n % unit_of p) same ∙ h.whole)) ∙ ap (directed (is_negative v)) same ∙ directed_is v

-- a component, of which it is known whether it is zero
abbrev pub Where : MvSubpelPrecision → Bool → ℤ → Type 0
Where p there v = (not (int_eq v (pos 0)) ≡ there) × IsComponent p v

size_some : (v : ℤ) → (v ≡ pos 0 → ⊥) → 1 ≤ magnitude v
size_some (pos zero) h = absurd (h refl)
size_some (pos (suc n)) h = omega arith
size_some (negsuc n) h = omega arith

zero_size : (v : ℤ) → 1 ≤ magnitude v → v ≡ pos 0 → ⊥
zero_size v h e = let z = ap magnitude e in omega (arith, h, z)

pub not_zero : (v : ℤ) (b : Bool) → int_eq v (pos 0) ≡ b → not b ≡ true → 1 ≤ magnitude v
not_zero v true e h = absurd cc
not_zero v false e h = size_some v (λ z. let t = (Decides-int_eq v (pos 0)).1 z in absurd cc)

some_told : (v : ℤ) (b : Bool) → int_eq v (pos 0) ≡ b → 1 ≤ magnitude v → not b ≡ true
some_told v true e h = absurd (zero_size v h ((Decides-int_eq v (pos 0)).0 e))
some_told v false e h = refl

pub zero_told : (v : ℤ) (b : Bool) → int_eq v (pos 0) ≡ b → not b ≡ false → v ≡ pos 0
zero_told v true e h = (Decides-int_eq v (pos 0)).0 e
zero_told v false e h = absurd cc

zero_is : (p : MvSubpelPrecision) → IsComponent p (pos 0)
zero_is MV_SUBPEL_NONE = record { size = omega arith; whole = refl }
zero_is MV_SUBPEL_LOW_PRECISION = record { size = omega arith; whole = refl }
zero_is MV_SUBPEL_HIGH_PRECISION = record { size = omega arith; whole = refl }

pub where_reads : (there : Bool) (axis : ℕ) (p : MvSubpelPrecision) → axis < 2 → Reads HasSymbols (component_where there axis p) (Where p there) 14
where_reads true axis p a =
    choose_reads HasSymbols true (component_element axis p) (known (pos 0)) (Where p true) 14
    (λ t. reads_as HasSymbols (component_element axis p) (IsSome p) (Where p true) 14 14 (λ v h. (some_told v (int_eq v (pos 0)) refl h.0, h.1)) (λ v h. (not_zero v (int_eq v (pos 0)) refl h.0, h.1)) (omega arith) (component_reads axis p a)) (λ t. absurd cc)
where_reads false axis p a =
    choose_reads HasSymbols false (component_element axis p) (known (pos 0)) (Where p false) 14 (λ t. absurd cc)
    (λ t. reads_as HasSymbols (known (pos 0)) (λ v. v ≡ pos 0) (Where p false) 0 14 (λ v e. (ap (λ v. not (int_eq v (pos 0))) e, subst (IsComponent p) (sym e) (zero_is p))) (λ v h. zero_told v (int_eq v (pos 0)) refl h.0) (omega arith) (known_reads HasSymbols (pos 0)))

-- both components
joints_told : (j : MvJointType) → slice_get joints (joint_number j) ≡ Some j
joints_told MV_JOINT_ZERO = refl
joints_told MV_JOINT_HNZVZ = refl
joints_told MV_JOINT_HZVNZ = refl
joints_told MV_JOINT_HNZVNZ = refl

pub joint_told : (j : MvJointType) → slice_get joints (joint_number j) ≡ Some j
joint_told j = joints_told j

numbered : (s : ℕ) (x j : MvJointType) → Some x ≡ Some j → joint_number x ≡ s → joint_number j ≡ s
numbered s x j e h = let f : x ≡ j = cc in ap joint_number (sym f) ∙ h

joint_named : (s : ℕ) (j : MvJointType) → slice_get joints s ≡ Some j → joint_number j ≡ s
joint_named zero j h = numbered 0 MV_JOINT_ZERO j h refl
joint_named (suc zero) j h = numbered 1 MV_JOINT_HNZVZ j h refl
joint_named (suc (suc zero)) j h = numbered 2 MV_JOINT_HZVNZ j h refl
joint_named (suc (suc (suc zero))) j h = numbered 3 MV_JOINT_HNZVNZ j h refl
joint_named (suc (suc (suc (suc s)))) j h = absurd cc

pub joint_reads : Reads HasSymbols joint_element (λ j. Unit {0}) 1
joint_reads =
    reads_as HasSymbols joint_element (λ j. slice_get joints (joint_number j) ≡ Some j) (λ j. Unit {0}) 1 1 (λ j e. tt) (λ j t. joints_told j) (omega arith)
    (symbol_reads HasSymbols (Adaptive (slot (codes "joints_cdf") [])) 4 (λ s. slice_get joints s) joint_number joints_has (λ s l. slice_get_past joints s l) joint_named)

joint_by : (x y : Bool) → let j = if x then (if y then MV_JOINT_ZERO else MV_JOINT_HNZVZ) else (if y then MV_JOINT_HZVNZ else MV_JOINT_HNZVNZ) in (not x ≡ is_vertical j) × (not y ≡ is_horizontal j)
joint_by true true = (refl, refl)
joint_by true false = (refl, refl)
joint_by false true = (refl, refl)
joint_by false false = (refl, refl)

pub joint_sides : (d : MotionVector) → (not (int_eq d.row (pos 0)) ≡ is_vertical (joint_of d)) × (not (int_eq d.col (pos 0)) ≡ is_horizontal (joint_of d))
joint_sides d = joint_by (int_eq d.row (pos 0)) (int_eq d.col (pos 0))

by_joint : (x y : Bool) (j : MvJointType) → not x ≡ is_vertical j → not y ≡ is_horizontal j → (if x then (if y then MV_JOINT_ZERO else MV_JOINT_HNZVZ) else (if y then MV_JOINT_HZVNZ else MV_JOINT_HNZVNZ)) ≡ j
by_joint true true MV_JOINT_ZERO h k = refl
by_joint true true MV_JOINT_HNZVZ h k = absurd cc
by_joint true true MV_JOINT_HZVNZ h k = absurd cc
by_joint true true MV_JOINT_HNZVNZ h k = absurd cc
by_joint true false MV_JOINT_ZERO h k = absurd cc
by_joint true false MV_JOINT_HNZVZ h k = refl
by_joint true false MV_JOINT_HZVNZ h k = absurd cc
by_joint true false MV_JOINT_HNZVNZ h k = absurd cc
by_joint false true MV_JOINT_ZERO h k = absurd cc
by_joint false true MV_JOINT_HNZVZ h k = absurd cc
by_joint false true MV_JOINT_HZVNZ h k = refl
by_joint false true MV_JOINT_HNZVNZ h k = absurd cc
by_joint false false MV_JOINT_ZERO h k = absurd cc
by_joint false false MV_JOINT_HNZVZ h k = absurd cc
by_joint false false MV_JOINT_HZVNZ h k = absurd cc
by_joint false false MV_JOINT_HNZVNZ h k = refl

abbrev pub Joined : MvSubpelPrecision → MvJointType → MotionVector → Type 0
Joined p j d = Where p (is_vertical j) d.row × Where p (is_horizontal j) d.col

abbrev AfterRow : MvSubpelPrecision → MvJointType → ℤ → MotionVector → Type 0
AfterRow p j row d = (d.row ≡ row) × Where p (is_horizontal j) d.col

pub after_row_reads : (p : MvSubpelPrecision) (j : MvJointType) (row : ℤ) → Reads HasSymbols (renamed (component_where (is_horizontal j) 1 p) (λ col. vector row col) (λ d. d.col)) (AfterRow p j row) 14
after_row_reads p j row =
    renamed_reads HasSymbols (component_where (is_horizontal j) 1 p) (λ col. vector row col) (λ d. d.col) (Where p (is_horizontal j)) (AfterRow p j row) 14 (λ d h. (h.1, λ i. record { row = sym h.0 i; col = d.col })) (λ col h. ((refl, h), refl))
    (where_reads (is_horizontal j) 1 p (omega arith))

pub components_reads : (p : MvSubpelPrecision) (j : MvJointType) → Reads HasSymbols (components_element p j) (Joined p j) 28
components_reads p j =
    reads_as HasSymbols (components_element p j) (λ d. Where p (is_vertical j) d.row × AfterRow p j d.row d) (Joined p j) 28 28 (λ d h. (h.0, h.1.1)) (λ d h. (h.0, (refl, h.1))) (omega arith)
    (after_reads HasSymbols (component_where (is_vertical j) 0 p) (λ row. renamed (component_where (is_horizontal j) 1 p) (λ col. vector row col) (λ d. d.col)) (λ d. d.row) (Where p (is_vertical j)) (AfterRow p j) 14 14 (λ row d x y. y.0)
    (where_reads (is_vertical j) 0 p (omega arith)) (λ row x. after_row_reads p j row))

pub joined : (p : MvSubpelPrecision) (d : MotionVector) → IsDifference p d → Joined p (joint_of d) d
joined p d h = let s = joint_sides d in ((s.0, h.rows), (s.1, h.columns))

pub difference_reads : (p : MvSubpelPrecision) → Reads HasSymbols (difference_element p) (IsDifference p) 29
difference_reads p =
    reads_as HasSymbols (difference_element p) (λ d. Unit {0} × Joined p (joint_of d) d) (IsDifference p) 29 29 (λ d h. record { rows = h.1.0.1; columns = h.1.1.1 }) (λ d h. (tt, joined p d h)) (omega arith)
    (after_reads HasSymbols joint_element (components_element p) joint_of (λ j. Unit {0}) (Joined p) 1 28 (λ j d x y. by_joint (int_eq d.row (pos 0)) (int_eq d.col (pos 0)) j y.0.0 y.1.0) joint_reads (λ j x. components_reads p j))

add_back : (a b : ℤ) → b +ℤ (a -ℤ b) ≡ a
add_back a b = omega (arith, ints)

take_off : (a b : ℤ) → (b +ℤ a) -ℤ b ≡ a
take_off a b = omega (arith, ints)

pub shifted_back : (mv ref : MotionVector) → shifted ref (difference mv ref) ≡ mv
shifted_back mv ref = λ i. record { row = add_back mv.row ref.row i; col = add_back mv.col ref.col i }

pub vector_reads : (ref : MotionVector) (p : MvSubpelPrecision) → Reads HasSymbols (vector_element ref p) (λ mv. IsDifference p (difference mv ref)) 29
vector_reads ref p =
    renamed_reads HasSymbols (difference_element p) (shifted ref) (λ mv. difference mv ref) (IsDifference p) (λ mv. IsDifference p (difference mv ref)) 29 (λ mv h. (h, shifted_back mv ref))
    (λ d h. let same : difference (shifted ref d) ref ≡ d = (λ i. record { row = take_off d.row ref.row i; col = take_off d.col ref.col i }) in (subst (IsDifference p) (sym same) h, same)) (difference_reads p)
