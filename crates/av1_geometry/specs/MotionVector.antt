-- Motion vectors: their bounds, joints and classes.
use Rattle.std.specs.Prelude.{ℕ, zero, suc, ◌+◌, ◌^◌, Bool, true, false, pos, ◌<ℤ◌, if◌then◌else◌}
use Rattle.std.specs.Ordering.{int_eq}
use Rattle.av1_geometry.specs.declared.motion_vector.MotionVector.{MotionVector}
use Rattle.av1_geometry.specs.declared.motion_vector.MvJointType.{MvJointType}
use Rattle.av1_geometry.specs.declared.motion_vector.MvJointType.TheVariants.{MV_JOINT_ZERO, MV_JOINT_HNZVZ, MV_JOINT_HZVNZ, MV_JOINT_HNZVNZ}
use Rattle.av1_geometry.specs.declared.constants.TheConstants.{MV_LOW, MV_UPP}

-- both parts lie between the bounds
abbrev pub IsValid : MotionVector → Type 0
IsValid mv = (MV_LOW <ℤ mv.row) × (mv.row <ℤ MV_UPP) × (MV_LOW <ℤ mv.col) × (mv.col <ℤ MV_UPP)

-- H is the column, V the row; NZ is not zero
abbrev pub joint_of : MotionVector → MvJointType
joint_of mv =
    if int_eq mv.row (pos 0)
    then (if int_eq mv.col (pos 0) then MV_JOINT_ZERO else MV_JOINT_HNZVZ)
    else (if int_eq mv.col (pos 0) then MV_JOINT_HZVNZ else MV_JOINT_HNZVNZ)

abbrev pub is_vertical : MvJointType → Bool
is_vertical MV_JOINT_ZERO = false
is_vertical MV_JOINT_HNZVZ = false
is_vertical MV_JOINT_HZVNZ = true
is_vertical MV_JOINT_HNZVNZ = true

abbrev pub is_horizontal : MvJointType → Bool
is_horizontal MV_JOINT_ZERO = false
is_horizontal MV_JOINT_HNZVZ = true
is_horizontal MV_JOINT_HZVNZ = false
is_horizontal MV_JOINT_HNZVNZ = true

-- the least size of a class, where sizes are counted from 0 in units of 1/8 sample
abbrev pub class_base : ℕ → ℕ
class_base zero = 0
class_base (suc c) = 2 ^ (c + 4)
