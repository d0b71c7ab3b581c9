-- The references by their numbers.
use Rattle.std.specs.Prelude.{ℕ, Option, slice_get}
use Rattle.av1_geometry.specs.declared.ref_type.RefType.{RefType}
use Rattle.av1_geometry.specs.declared.ref_type.RefType.TheVariants.{INTRA_FRAME, LAST_FRAME, LAST2_FRAME, LAST3_FRAME}
use Rattle.av1_geometry.specs.declared.ref_type.RefType.TheVariants.{GOLDEN_FRAME, BWDREF_FRAME, ALTREF2_FRAME, ALTREF_FRAME, NONE_FRAME}
use Rattle.av1_geometry.specs.declared.ref_type.TheConstants.{ALL_REFERENCES}

-- the place of a reference in the order of the enum
abbrev pub reference_number : RefType → ℕ
reference_number INTRA_FRAME = 0
reference_number LAST_FRAME = 1
reference_number LAST2_FRAME = 2
reference_number LAST3_FRAME = 3
reference_number GOLDEN_FRAME = 4
reference_number BWDREF_FRAME = 5
reference_number ALTREF2_FRAME = 6
reference_number ALTREF_FRAME = 7
reference_number NONE_FRAME = 8

-- the value with this number
abbrev pub reference_of : ℕ → Option RefType
reference_of number = slice_get ALL_REFERENCES number
