-- Motion vectors, by how they differ from a reference vector, in units of 1/8 sample.
use Rattle.std.specs.Prelude.{◌≡◌, ℕ, zero, suc, ◌+◌, ◌-◌, ◌*◌, ◌/◌, ◌%◌, ◌^◌, ◌≤◌, List, [], ◌∷◌, Bool, true, false}
use Rattle.std.specs.Prelude.{if◌then◌else◌, nat_eq, nat_le, nat_lt, Option, Some, None, codes, slice_get, ℤ, pos, negsuc, ◌+ℤ◌, ◌-ℤ◌}
use Rattle.av1_cdf.specs.Distribution.{Distribution}
use Rattle.av1_cdf.specs.Distribution.Distribution.{Adaptive}
use Rattle.av1_cdf.specs.Layout.{Slot, slot, component_slot}
use Rattle.av1_geometry.specs.Cfl.{magnitude}
use Rattle.av1_geometry.specs.MotionVector.{joint_of, is_vertical, is_horizontal, class_base}
use Rattle.av1_geometry.specs.declared.motion_vector.MotionVector.{MotionVector}
use Rattle.av1_geometry.specs.declared.motion_vector.MvJointType.{MvJointType}
use Rattle.av1_geometry.specs.declared.motion_vector.MvJointType.TheVariants.{MV_JOINT_ZERO, MV_JOINT_HNZVZ, MV_JOINT_HZVNZ, MV_JOINT_HNZVNZ}
use Rattle.av1_geometry.specs.declared.motion_vector.MvSubpelPrecision.{MvSubpelPrecision}
use Rattle.av1_geometry.specs.declared.motion_vector.MvSubpelPrecision.TheVariants.{MV_SUBPEL_NONE, MV_SUBPEL_LOW_PRECISION, MV_SUBPEL_HIGH_PRECISION}
use Rattle.av1_model.specs.Element.{Element, known, symbol, choose, after, renamed}
use Rattle.av1_syntax.specs.Flags.{flag}

-- vectors are whole samples, quarters of one or eighths
abbrev pub unit_of : MvSubpelPrecision → ℕ
unit_of MV_SUBPEL_NONE = 8
unit_of MV_SUBPEL_LOW_PRECISION = 2
unit_of MV_SUBPEL_HIGH_PRECISION = 1

abbrev pub has_quarters : MvSubpelPrecision → Bool
has_quarters MV_SUBPEL_NONE = false
has_quarters MV_SUBPEL_LOW_PRECISION = true
has_quarters MV_SUBPEL_HIGH_PRECISION = true

abbrev pub has_eighths : MvSubpelPrecision → Bool
has_eighths MV_SUBPEL_NONE = false
has_eighths MV_SUBPEL_LOW_PRECISION = false
has_eighths MV_SUBPEL_HIGH_PRECISION = true

-- a symbol that is a number
abbrev pub digit_of : ℕ → ℕ → Option ℕ
digit_of n s = if nat_lt s n then Some s else None

abbrev pub digit : Slot → Element Distribution ℕ
digit s = symbol (Adaptive s) (digit_of s.len) (λ k. k)

-- the same where it is asked, else a known number
abbrev pub digit_where : Bool → Slot → ℕ → Element Distribution ℕ
digit_where asked s default = choose asked (digit s) (known default)

-- so many bits from bit i on, the lowest first, where those below it are known
abbrev pub bits_from : ℕ → ℕ → ℕ → ℕ → Element Distribution ℕ
bits_from axis zero i low = known low
bits_from axis (suc more) i low =
    after (digit (component_slot axis (codes "bits_cdf") (i ∷ []))) (λ b. bits_from axis more (i + 1) (b * 2 ^ i + low)) (λ d. d / 2 ^ i % 2)

-- how many whole samples a class spans, and which of them a size has: mv_class0_bit or mv_bit of the AV1 specification
abbrev pub span : ℕ → ℕ
span zero = 2
span (suc c) = 2 ^ suc c

abbrev pub whole_element : ℕ → ℕ → Element Distribution ℕ
whole_element axis zero = digit (component_slot axis (codes "class0_cdf") [])
whole_element axis (suc c) = bits_from axis (suc c) 0 0

-- the quarters of a sample and the eighth, all ones where they are not coded: mv_fr and mv_hp
abbrev pub quarters_slot : ℕ → ℕ → ℕ → Slot
quarters_slot axis c d = if nat_eq c 0 then component_slot axis (codes "class0_fp_cdf") (d ∷ []) else component_slot axis (codes "fp_cdf") []

abbrev pub eighth_slot : ℕ → ℕ → Slot
eighth_slot axis c = if nat_eq c 0 then component_slot axis (codes "class0_hp_cdf") [] else component_slot axis (codes "hp_cdf") []

abbrev pub fraction_element : ℕ → MvSubpelPrecision → ℕ → ℕ → Element Distribution ℕ
fraction_element axis p c d =
    after (digit_where (has_quarters p) (quarters_slot axis c d) 3)
    (λ f. renamed (digit_where (has_eighths p) (eighth_slot axis c) 1) (λ h. 8 * d + 2 * f + h) (λ o. o % 2)) (λ o. o / 2 % 4)

-- the fraction of a size that has so much above the base of its class
abbrev pub fraction_at : ℕ → MvSubpelPrecision → ℕ → ℕ → Element Distribution ℕ
fraction_at axis p c o = fraction_element axis p c (o / 8)

-- what a size has above the base of its class
abbrev pub offset_element : ℕ → MvSubpelPrecision → ℕ → Element Distribution ℕ
offset_element axis p c = after (whole_element axis c) (fraction_element axis p c) (λ o. o / 8)

-- the greatest class up to this one whose base a size reaches
abbrev pub class_up_to : ℕ → ℕ → ℕ
class_up_to zero z = 0
class_up_to (suc c) z = if nat_le (class_base (suc c)) z then suc c else class_up_to c z

abbrev pub class_of : ℕ → ℕ
class_of z = class_up_to 10 z

-- a size, counted from 0: its class, and what it has above the base
abbrev pub size_element : ℕ → MvSubpelPrecision → Element Distribution ℕ
size_element axis p =
    after (digit (component_slot axis (codes "classes_cdf") []))
    (λ c. renamed (offset_element axis p c) (λ o. class_base c + o) (λ z. z - class_base c)) class_of

-- the size with ones for what is below the unit
abbrev pub with_ones : MvSubpelPrecision → ℕ → ℕ
with_ones p z = z / unit_of p * unit_of p + (unit_of p - 1)

-- a number of a size, by its sign
abbrev pub is_negative : ℤ → Bool
is_negative (pos n) = false
is_negative (negsuc n) = true

abbrev pub directed : Bool → ℕ → ℤ
directed true n = pos 0 -ℤ pos n
directed false n = pos n

-- a component that is not zero: its sign and its size, axis 0 for rows and 1 for columns
abbrev pub component_element : ℕ → MvSubpelPrecision → Element Distribution ℤ
component_element axis p =
    after (flag (Adaptive (component_slot axis (codes "sign_cdf") [])))
    (λ neg. renamed (size_element axis p) (λ z. directed neg (z + 1)) (λ v. magnitude v - 1)) is_negative

-- a component as it is coded, by its sign and its size, which counts from 0: a size that is no multiple of the unit becomes the next one
abbrev pub coded_from : MvSubpelPrecision → Bool → ℕ → ℤ
coded_from p negative z = directed negative (with_ones p z + 1)

abbrev pub coded_component : MvSubpelPrecision → ℤ → ℤ
coded_component p v = coded_from p (is_negative v) (magnitude v - 1)

-- a component that may be zero: multiples of the unit
pub record IsComponent (p : MvSubpelPrecision) (v : ℤ) : Type 0 where
  pub size : magnitude v ≤ 16384
  pub whole : magnitude v % unit_of p ≡ 0

abbrev pub component_where : Bool → ℕ → MvSubpelPrecision → Element Distribution ℤ
component_where there axis p = choose there (component_element axis p) (known (pos 0))

-- which components are not zero: mv_joint of the AV1 specification
abbrev pub joints : List MvJointType
joints = MV_JOINT_ZERO ∷ MV_JOINT_HNZVZ ∷ MV_JOINT_HZVNZ ∷ MV_JOINT_HNZVNZ ∷ []

abbrev pub joint_number : MvJointType → ℕ
joint_number MV_JOINT_ZERO = 0
joint_number MV_JOINT_HNZVZ = 1
joint_number MV_JOINT_HZVNZ = 2
joint_number MV_JOINT_HNZVNZ = 3

abbrev pub joint_element : Element Distribution MvJointType
joint_element = symbol (Adaptive (slot (codes "joints_cdf") [])) (λ s. slice_get joints s) joint_number

abbrev pub vector : ℤ → ℤ → MotionVector
vector row col = record { row = row; col = col }

abbrev pub components_element : MvSubpelPrecision → MvJointType → Element Distribution MotionVector
components_element p j =
    after (component_where (is_vertical j) 0 p) (λ row. renamed (component_where (is_horizontal j) 1 p) (λ col. vector row col) (λ d. d.col)) (λ d. d.row)

-- a difference of two vectors
abbrev pub difference_element : MvSubpelPrecision → Element Distribution MotionVector
difference_element p = after joint_element (components_element p) joint_of

abbrev pub difference : MotionVector → MotionVector → MotionVector
difference mv ref = vector (mv.row -ℤ ref.row) (mv.col -ℤ ref.col)

abbrev pub shifted : MotionVector → MotionVector → MotionVector
shifted ref d = vector (ref.row +ℤ d.row) (ref.col +ℤ d.col)

-- a vector, against a reference vector
abbrev pub vector_element : MotionVector → MvSubpelPrecision → Element Distribution MotionVector
vector_element ref p = renamed (difference_element p) (shifted ref) (λ mv. difference mv ref)

-- how a vector may differ from a reference vector
pub record IsDifference (p : MvSubpelPrecision) (d : MotionVector) : Type 0 where
  pub rows : IsComponent p d.row
  pub columns : IsComponent p d.col
