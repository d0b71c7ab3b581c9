-- The items of a block, by what is drawn.
use Rattle.std.specs.Prelude.{ℕ, ℤ, pos, ◌-ℤ◌, ◌+◌, ◌%◌, ◌==◌, zero, suc, List, [], ◌∷◌, ◌++◌, Bool, true, false, if◌then◌else◌, unwrap_or}
use Rattle.av1_geometry.specs.BlockTables.{max_tx_size, subsampled_size_of}
use Rattle.av1_geometry.specs.Chroma.{chroma_tx_type}
use Rattle.av1_geometry.specs.PredictionMode.{prediction_mode_of}
use Rattle.av1_geometry.specs.TxTables.{coded_size, tx_set, uses}
use Rattle.av1_geometry.specs.declared.block_size.BlockSize.{BlockSize}
use Rattle.av1_geometry.specs.declared.prediction_mode.PredictionMode.{PredictionMode}
use Rattle.av1_geometry.specs.declared.prediction_mode.PredictionMode.TheVariants.{DC_PRED}
use Rattle.av1_geometry.specs.declared.tx_size.TxSize.{TxSize}
use Rattle.av1_geometry.specs.declared.tx_type.TxType.{TxType}
use Rattle.av1_geometry.specs.declared.tx_type.TxType.TheVariants.{DCT_DCT}
use Rattle.av1_step.specs.declared.step.TileStep.{TileStep}
use Rattle.av1_step.specs.declared.step.TileStep.TheVariants.{Block, Skip, IntraModeKf, UvMode, AngleDelta, TxNote, Coeffs}
use Rattle.av1_step.specs.AngleSteps.{is_directional}
use Rattle.av1_make.specs.Draws.{Making, draw, draw_all, nothing, step, ◌>>◌}

-- one of the 13 intra modes
unfoldable pub mode_of : ℕ → PredictionMode
mode_of number = unwrap_or (prediction_mode_of (number % 13)) DC_PRED

-- from three steps to one side to three steps to the other
abbrev pub angle_of : ℕ → ℤ
angle_of number = pos (number % 7) -ℤ pos 3

-- from -15 to 15
abbrev pub level_of : ℕ → ℤ
level_of number = pos (number % 31) -ℤ pos 15

-- ---- modes

abbrev pub mode_step : Bool → PredictionMode → TileStep
mode_step false mode = IntraModeKf mode
mode_step true mode = UvMode mode

-- a mode with a direction is turned
unfoldable pub turned : Bool → PredictionMode → Making
turned chroma mode = if is_directional mode then draw (λ number. step (AngleDelta chroma (angle_of number))) else nothing

-- a mode of luma or of chroma, and how far it is turned
unfoldable pub predicted : Bool → PredictionMode → Making
predicted chroma mode = step (mode_step chroma mode) >> turned chroma mode

-- ---- coefficients

-- a level of the so many in a list: the last isn't 0
abbrev pub level_among : ℕ → ℕ → ℤ → ℤ
level_among count k (pos zero) = if k + 1 == count then pos 1 else pos 0
level_among count k level = level

-- the first of so many levels, by the numbers that are drawn for them
abbrev pub first_levels : ℕ → ℕ → (ℕ → ℕ) → List ℤ
first_levels count zero numbers = []
first_levels count (suc k) numbers = first_levels count k numbers ++ level_among count k (level_of (numbers k)) ∷ []

-- a transform block with up to three levels
unfoldable pub transform : ℕ → ℕ → ℕ → TxType → Making
transform plane x y tx_type =
    draw (λ number. draw_all (number % 4) (λ numbers. step (Coeffs plane x y tx_type (first_levels (number % 4) (number % 4) numbers))))

-- the size of the transforms of a block in chroma, whose sides are halved
abbrev pub chroma_size : BlockSize → TxSize
chroma_size size = coded_size (max_tx_size (unwrap_or (subsampled_size_of size 1 1) size))

-- the type that a chroma mode implies, where transforms of this size have it
unfoldable pub chroma_type : BlockSize → PredictionMode → TxType
chroma_type size mode = if uses (tx_set (chroma_size size) false false) (chroma_tx_type mode) then chroma_tx_type mode else DCT_DCT

-- a transform block in each plane
unfoldable pub coefficients : ℕ → ℕ → TxType → Making
coefficients x y chroma = transform 0 x y DCT_DCT >> transform 1 x y chroma >> transform 2 x y chroma

-- ---- blocks

-- what follows the modes of a block
unfoldable pub transforms : ℕ → ℕ → BlockSize → Bool → PredictionMode → Making
transforms x y size skip chroma = step TxNote >> (if skip then nothing else coefficients x y (chroma_type size chroma))

-- a block: whether it is skipped, its modes, and its transforms
unfoldable pub block : ℕ → ℕ → BlockSize → Making
block x y size =
    step (Block x y size)
    >> draw (λ number. let skip = number % 4 == 0 in step (Skip skip)
    >> draw (λ luma. predicted false (mode_of luma)
    >> draw (λ chroma. predicted true (mode_of chroma)
    >> transforms x y size skip (mode_of chroma))))
