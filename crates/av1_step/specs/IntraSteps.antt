-- The steps of intra blocks: how they are predicted.
use Rattle.std.specs.Prelude.{[], ◌∷◌, Bool, not, nat_lt}
use Rattle.av1_blocks.specs.Grid.{block_at}
use Rattle.av1_geometry.specs.Rules.{rule}
use Rattle.av1_geometry.specs.declared.block_size.BlockSize.{BlockSize}
use Rattle.av1_geometry.specs.declared.prediction_mode.PredictionMode.{PredictionMode}
use Rattle.av1_geometry.specs.Chroma.{has_chroma_at}
use Rattle.av1_geometry.specs.ChromaSampling.{xdec_of, ydec_of}
use Rattle.av1_geometry.specs.PredictionMode.{prediction_mode_number}
use Rattle.av1_syntax.specs.IntraModes.{intra_mode_kf_element, intra_mode_element, uv_mode_element, uv_modes}
use Rattle.av1_step.specs.declared.step.TileStep.TheVariants.{IntraModeKf, IntraMode, UvMode}
use Rattle.av1_step.specs.Effect.{Effect, Over, ChromaMode}
use Rattle.av1_step.specs.Kind.{Kind, of_block}
use Rattle.av1_step.specs.Tile.{Tile, CurrentBlock, place_of_block, size_of_block, sampling}

-- the luma mode that stands in the grid at the place of a block
abbrev pub mode_at : Tile → CurrentBlock → PredictionMode
mode_at t b = (block_at t.bc.blocks (place_of_block b).x (place_of_block b).y).mode

-- it is predicted within the frame
abbrev pub is_intra : Tile → CurrentBlock → Bool
is_intra t b = nat_lt (prediction_mode_number (mode_at t b)) 14

-- one of the thirteen modes of luma
abbrev pub is_luma_mode : PredictionMode → Bool
is_luma_mode m = nat_lt (prediction_mode_number m) 13

-- a block gets a mode
abbrev pub gets_mode : CurrentBlock → PredictionMode → Effect
gets_mode b m = Over (place_of_block b) (size_of_block b) (λ x. record x { mode = m })

-- the luma mode of a block, in a frame of intra blocks
abbrev pub intra_mode_kf_kind : Tile → CurrentBlock → Kind PredictionMode
intra_mode_kf_kind t b =
    of_block b (rule 65 t.given.fi.intra_only ∷ rule 66 (is_intra t b) ∷ []) (λ m. rule 70 (is_luma_mode m) ∷ [])
    (intra_mode_kf_element t.bc.blocks (place_of_block b)) (λ m. gets_mode b m ∷ []) IntraModeKf

-- the luma mode of a block, in another frame
abbrev pub intra_mode_kind : Tile → CurrentBlock → Kind PredictionMode
intra_mode_kind t b =
    of_block b (rule 65 (not t.given.fi.intra_only) ∷ rule 66 (is_intra t b) ∷ []) (λ m. rule 70 (is_luma_mode m) ∷ [])
    (intra_mode_element (size_of_block b)) (λ m. gets_mode b m ∷ []) IntraMode

-- the chroma of its place belongs to a block
abbrev pub has_chroma : Tile → CurrentBlock → Bool
has_chroma t b = has_chroma_at (place_of_block b).x (place_of_block b).y (size_of_block b) (xdec_of (sampling t)) (ydec_of (sampling t)) (sampling t)

-- a mode that the chroma of a block of this size can have
abbrev pub is_chroma_mode : BlockSize → PredictionMode → Bool
is_chroma_mode size m = nat_lt (prediction_mode_number m) (uv_modes size)

-- the chroma mode of a block
abbrev pub uv_mode_kind : Tile → CurrentBlock → Kind PredictionMode
uv_mode_kind t b =
    let size = size_of_block b in
    of_block b (rule 66 (is_intra t b) ∷ rule 71 (has_chroma t b) ∷ []) (λ m. rule 71 (is_chroma_mode size m) ∷ [])
    (uv_mode_element (mode_at t b) size) (λ m. ChromaMode m ∷ []) UvMode
