-- The modes of intra blocks.
use Rattle.std.specs.Prelude.{ℕ, ◌-◌, List, [], ◌∷◌, ◌<◌, ◌==◌, ◌&&◌, Bool, if◌then◌else◌, nat_lt, nat_le}
use Rattle.std.specs.Prelude.{Option, Some, None, codes, slice_index, ℤ, pos, ◌+ℤ◌, ◌-ℤ◌, unsigned_abs}
use Rattle.av1_geometry.specs.declared.block_offset.BlockOffset.{BlockOffset}
use Rattle.av1_geometry.specs.declared.block_size.BlockSize.{BlockSize}
use Rattle.av1_geometry.specs.declared.prediction_mode.PredictionMode.{PredictionMode}
use Rattle.av1_geometry.specs.BlockSize.{width_log2, height_log2}
use Rattle.av1_geometry.specs.BlockTables.{size_group}
use Rattle.av1_geometry.specs.PredictionMode.{prediction_mode_number, prediction_mode_of}
use Rattle.av1_blocks.specs.Grid.{Grid, block_at}
use Rattle.av1_cdf.specs.Distribution.{Distribution}
use Rattle.av1_cdf.specs.Distribution.Distribution.{Adaptive}
use Rattle.av1_cdf.specs.Layout.{Slot, slot}
use Rattle.av1_model.specs.Element.{Element, symbol}
use Rattle.av1_syntax.specs.Calls.{adaptive}

-- one of the first n modes, by its number
abbrev pub mode_below : ℕ → ℕ → Option PredictionMode
mode_below n s = if nat_lt s n then prediction_mode_of s else None

abbrev pub mode : ℕ → Distribution → Element Distribution PredictionMode
mode n q = symbol q (mode_below n) prediction_mode_number

-- the class of a mode as a context, by its number: Intra_Mode_Context of the AV1 specification
abbrev pub intra_mode_contexts : List ℕ
intra_mode_contexts = 0 ∷ 1 ∷ 2 ∷ 3 ∷ 4 ∷ 4 ∷ 4 ∷ 4 ∷ 3 ∷ 0 ∷ 1 ∷ 2 ∷ 0 ∷ []

abbrev pub class_of : PredictionMode → ℕ
class_of m = slice_index intra_mode_contexts (prediction_mode_number m)

abbrev pub above_class : Grid → BlockOffset → ℕ
above_class g bo = if bo.y == 0 then 0 else class_of (block_at g bo.x (bo.y - 1)).mode

abbrev pub left_class : Grid → BlockOffset → ℕ
left_class g bo = if bo.x == 0 then 0 else class_of (block_at g (bo.x - 1) bo.y).mode

-- the blocks above and to the left have intra modes
pub record HasIntraNeighbours (g : Grid) (bo : BlockOffset) : Type 0 where
  pub above : 0 < bo.y → prediction_mode_number (block_at g bo.x (bo.y - 1)).mode < 13
  pub left : 0 < bo.x → prediction_mode_number (block_at g (bo.x - 1) bo.y).mode < 13

-- the luma mode in a frame of intra blocks, by the modes above and to the left
abbrev pub kf_y_slot : Grid → BlockOffset → Slot
kf_y_slot g bo = slot (codes "kf_y_cdf") (above_class g bo ∷ left_class g bo ∷ [])

abbrev pub intra_mode_kf_element : Grid → BlockOffset → Element Distribution PredictionMode
intra_mode_kf_element g bo = mode 13 (Adaptive (kf_y_slot g bo))

-- the luma mode in another frame, by the size of the block
abbrev pub y_mode_slot : BlockSize → Slot
y_mode_slot size = slot (codes "y_mode_cdf") (size_group size ∷ [])

abbrev pub intra_mode_element : BlockSize → Element Distribution PredictionMode
intra_mode_element size = mode 13 (Adaptive (y_mode_slot size))

-- whether chroma may be predicted from luma
abbrev pub cfl_allowed : BlockSize → Bool
cfl_allowed size = nat_le (width_log2 size) 5 && nat_le (height_log2 size) 5

-- how many chroma modes a block has: the last is prediction from luma
abbrev pub uv_modes : BlockSize → ℕ
uv_modes size = if cfl_allowed size then 14 else 13

-- the chroma mode, by the luma mode
abbrev pub uv_mode_slot : PredictionMode → BlockSize → Slot
uv_mode_slot luma size = slot (if cfl_allowed size then codes "uv_mode_cfl_cdf" else codes "uv_mode_cdf") (prediction_mode_number luma ∷ [])

abbrev pub uv_mode_element : PredictionMode → BlockSize → Element Distribution PredictionMode
uv_mode_element luma size = mode (uv_modes size) (Adaptive (uv_mode_slot luma size))

-- an angle from -3 to 3 is one of seven symbols
abbrev pub angle_of : ℕ → Option ℤ
angle_of s = if nat_lt s 7 then Some (pos s -ℤ pos 3) else None

abbrev pub angle_number : ℤ → ℕ
angle_number a = unsigned_abs (a +ℤ pos 3)

-- the angle of a directional mode, in steps of three degrees
abbrev pub angle_delta_element : PredictionMode → Element Distribution ℤ
angle_delta_element m = symbol (adaptive (codes "angle_delta_cdf") ((prediction_mode_number m - 1) ∷ [])) angle_of angle_number
