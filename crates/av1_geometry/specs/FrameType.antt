-- Kinds of frames, of references and of global motion by their numbers.
use Rattle.std.specs.Prelude.{ℕ, Option, slice_get}
use Rattle.av1_geometry.specs.declared.frame_type.FrameType.{FrameType}
use Rattle.av1_geometry.specs.declared.frame_type.FrameType.TheVariants.{KEY, INTER, INTRA_ONLY, SWITCH}
use Rattle.av1_geometry.specs.declared.frame_type.TheConstants.{ALL_FRAME_TYPES}
use Rattle.av1_geometry.specs.declared.frame_type.ReferenceMode.{ReferenceMode}
use Rattle.av1_geometry.specs.declared.frame_type.ReferenceMode.TheVariants.{SINGLE, COMPOUND, SELECT}
use Rattle.av1_geometry.specs.declared.frame_type.TheConstants.{ALL_REFERENCE_MODES}
use Rattle.av1_geometry.specs.declared.frame_type.GlobalMVMode.{GlobalMVMode}
use Rattle.av1_geometry.specs.declared.frame_type.GlobalMVMode.TheVariants.{IDENTITY, TRANSLATION, ROTZOOM, AFFINE}
use Rattle.av1_geometry.specs.declared.frame_type.TheConstants.{ALL_GLOBAL_MV_MODES}

-- the place of a kind of frame in the order of the enum
abbrev pub frame_type_number : FrameType → ℕ
frame_type_number KEY = 0
frame_type_number INTER = 1
frame_type_number INTRA_ONLY = 2
frame_type_number SWITCH = 3

-- the value with this number
abbrev pub frame_type_of : ℕ → Option FrameType
frame_type_of number = slice_get ALL_FRAME_TYPES number

-- the place of a mode in the order of the enum
abbrev pub reference_mode_number : ReferenceMode → ℕ
reference_mode_number SINGLE = 0
reference_mode_number COMPOUND = 1
reference_mode_number SELECT = 2

-- the value with this number
abbrev pub reference_mode_of : ℕ → Option ReferenceMode
reference_mode_of number = slice_get ALL_REFERENCE_MODES number

-- the place of a mode in the order of the enum
abbrev pub global_mv_mode_number : GlobalMVMode → ℕ
global_mv_mode_number IDENTITY = 0
global_mv_mode_number TRANSLATION = 1
global_mv_mode_number ROTZOOM = 2
global_mv_mode_number AFFINE = 3

-- the value with this number
abbrev pub global_mv_mode_of : ℕ → Option GlobalMVMode
global_mv_mode_of number = slice_get ALL_GLOBAL_MV_MODES number
