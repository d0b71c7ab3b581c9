-- The steps of transform blocks: their coefficients.
use Rattle.std.specs.Prelude.{ℕ, ◌+◌, ◌-◌, ◌*◌, ◌/◌, ◌%◌, ◌^◌, ◌&&◌, ◌||◌, ◌==◌, not, min, List, [], ◌∷◌, Bool, true, false}
use Rattle.std.specs.Prelude.{Option, Some, length, nat_le, nat_lt, if◌then◌else◌, unwrap_or, slice_index_or, ℤ, pos, unsigned_abs}
use Rattle.std.specs.List.{list_all}
use Rattle.std.specs.Option.{option_map_or}
use Rattle.av1_blocks.specs.Coefficients.{block_contexts}
use Rattle.av1_blocks.specs.Edges.{halvings}
use Rattle.av1_cdf.specs.Distribution.{Distribution}
use Rattle.av1_coef.specs.Contexts.{coded_area}
use Rattle.av1_coef.specs.Scans.{scan_of}
use Rattle.av1_frame.specs.HeaderRules.{blocks}
use Rattle.av1_geometry.specs.BlockSize.{width_mi, height_mi}
use Rattle.av1_geometry.specs.BlockTables.{max_tx_size, subsampled_size_of}
use Rattle.av1_geometry.specs.ChromaSampling.{xdec_of, ydec_of, planes_of}
use Rattle.av1_geometry.specs.Rules.{Check, rule}
use Rattle.av1_geometry.specs.TxSize.{tx_width_log2, tx_height_log2}
use Rattle.av1_geometry.specs.TxTables.{coded_size, is_type, tx_set, uses}
use Rattle.av1_geometry.specs.declared.block_offset.BlockOffset.{BlockOffset}
use Rattle.av1_geometry.specs.declared.block_size.BlockSize.{BlockSize}
use Rattle.av1_geometry.specs.declared.prediction_mode.PredictionMode.{PredictionMode}
use Rattle.av1_geometry.specs.declared.tx_size.TxSize.{TxSize}
use Rattle.av1_geometry.specs.declared.tx_type.TxType.{TxType}
use Rattle.av1_geometry.specs.declared.tx_type.TxType.TheVariants.{DCT_DCT}
use Rattle.av1_model.specs.Element.{Element, renamed, where_some}
use Rattle.av1_syntax.specs.Coefficients.{coeffs_element, entry_of, is_inter}
use Rattle.av1_step.specs.declared.coeff_steps.TransformBlock.{TransformBlock}
use Rattle.av1_step.specs.declared.step.TileStep.TheVariants.{Coeffs}
use Rattle.av1_step.specs.Effect.{Effect, Filled}
use Rattle.av1_step.specs.Given.{tile_left, tile_top}
use Rattle.av1_step.specs.IntraSteps.{has_chroma, mode_at}
use Rattle.av1_step.specs.Kind.{Kind}
use Rattle.av1_step.specs.Tile.{Tile, CurrentBlock, grid_block, inside, place_of_block, sampling, size_of_block}

-- how often the sides of a plane are halved
abbrev pub xdec_in : Tile → ℕ → ℕ
xdec_in t plane = halvings (xdec_of (sampling t)) plane

abbrev pub ydec_in : Tile → ℕ → ℕ
ydec_in t plane = halvings (ydec_of (sampling t)) plane

-- the size of a block in a plane
abbrev pub size_in : Tile → ℕ → BlockSize → BlockSize
size_in t plane size = if plane == 0 then size else unwrap_or (subsampled_size_of size (xdec_of (sampling t)) (ydec_of (sampling t))) size

-- the size of its transforms there: in luma the one that was entered, in chroma the largest, whose sides of 64 count as 32
abbrev pub tx_in : Tile → ℕ → CurrentBlock → TxSize
tx_in t plane b = if plane == 0 then (grid_block t b).txsize else coded_size (max_tx_size (size_in t plane (size_of_block b)))

-- a place along a side is whole steps behind the beginning of a block, and within the block
abbrev pub is_whole_steps : ℕ → ℕ → ℕ → ℕ → Bool
is_whole_steps begin side step at = nat_le begin at && nat_lt (at - begin) side && ((at - begin) % step == 0)

-- a transform block of a block in a plane stands at a place, which counts blocks of luma
abbrev pub is_transform : Tile → CurrentBlock → ℕ → BlockOffset → Bool
is_transform t b plane bo =
    let tx = tx_in t plane b in
    let size = size_in t plane (size_of_block b) in
    let across = 2 ^ xdec_in t plane in
    let down = 2 ^ ydec_in t plane in
    is_whole_steps (place_of_block b).x (width_mi size * across) (2 ^ (tx_width_log2 tx - 2) * across) bo.x
    && is_whole_steps (place_of_block b).y (height_mi size * down) (2 ^ (tx_height_log2 tx - 2) * down) bo.y

-- a block has coefficients in a plane: the plane is there, its chroma is the block's, and the block is not skipped
abbrev pub has_coeffs : Tile → CurrentBlock → ℕ → Bool
has_coeffs t b plane = nat_lt plane (planes_of (sampling t)) && (plane == 0 || has_chroma t b) && not (grid_block t b).skip

-- the last of levels is not 0
abbrev pub ends_in_some : List ℤ → Bool
ends_in_some levels = (length levels == 0) || nat_lt 0 (unsigned_abs (slice_index_or levels (length levels - 1) (pos 0)))

-- no more levels than are coded, of sizes below 2^20, the last of which is not 0
abbrev pub are_levels : ℕ → List ℤ → Bool
are_levels most levels = nat_le (length levels) most && list_all (λ level. nat_lt (unsigned_abs level) (2 ^ 20)) levels && ends_in_some levels

-- the type of a luma transform: DCT where there are no levels, else one of its set
abbrev pub has_type : TxSize → PredictionMode → Bool → TxType → List ℤ → Bool
has_type size mode reduced t levels = if length levels == 0 then is_type t DCT_DCT else uses (tx_set size (is_inter mode) reduced) t

-- the rules of the question, and those of a type and levels
abbrev pub coeffs_asking : Tile → Option CurrentBlock → ℕ → BlockOffset → List Check
coeffs_asking t current plane bo =
    inside bo t
    ∷ option_map_or (λ b. rule 64 true ∷ rule 83 (has_coeffs t b plane && is_transform t b plane bo) ∷ []) current (rule 64 false ∷ [])

abbrev pub coeffs_answering : Tile → Option CurrentBlock → ℕ → TxType → List ℤ → List Check
coeffs_answering t current plane given levels =
    option_map_or
    (λ b.
    rule 84 (are_levels (coded_area (tx_in t plane b)) levels)
    ∷ rule 85 (not (plane == 0) || has_type (tx_in t plane b) (mode_at t b) t.given.fi.use_reduced_tx_set given levels)
    ∷ [])
    current []

-- so many columns and rows of samples of a transform block are inside the frame
abbrev pub columns_inside : Tile → ℕ → BlockOffset → TxSize → ℕ
columns_inside t plane bo size =
    let across = 2 ^ xdec_in t plane in
    min (2 ^ tx_width_log2 size) (4 * (blocks t.given.fi.width / across - (tile_left t.given.fi t.number + bo.x) / across))

abbrev pub rows_inside : Tile → ℕ → BlockOffset → TxSize → ℕ
rows_inside t plane bo size =
    let down = 2 ^ ydec_in t plane in
    min (2 ^ tx_height_log2 size) (4 * (blocks t.given.fi.height / down - (tile_top t.given.fi t.number + bo.y) / down))

-- a transform block: its size, that of its block in the plane, the block's mode, and how much of it is inside the frame
abbrev pub transform_of : Tile → CurrentBlock → ℕ → BlockOffset → TransformBlock
transform_of t b plane bo =
    let size = tx_in t plane b in
    record {
      tx_size = size;
      plane_bsize = size_in t plane (size_of_block b);
      mode = mode_at t b;
      xdec = xdec_in t plane;
      ydec = ydec_in t plane;
      width = columns_inside t plane bo size;
      height = rows_inside t plane bo size;
    }

-- the type of a transform block and its levels in the order of the scan, where the class of their end goes by the coded size or by the
-- whole; chroma has the given type
abbrev pub coeffs_in : Bool → Tile → ℕ → BlockOffset → TxType → TransformBlock → Element Distribution (TxType × List ℤ)
coeffs_in by_coded t plane bo given b =
    coeffs_element by_coded plane b.tx_size b.mode t.given.fi.use_reduced_tx_set given
    (block_contexts t.bc plane bo b.plane_bsize b.tx_size b.xdec b.ydec b.width b.height)
    (scan_of t.given.scans b.tx_size)

abbrev pub coeffs_by : Tile → ℕ → BlockOffset → TxType → TransformBlock → Element Distribution (TxType × List ℤ)
coeffs_by t plane bo given b = coeffs_in t.given.eob_by_coded t plane bo given b

abbrev pub coeffs_of : Tile → CurrentBlock → ℕ → BlockOffset → TxType → Element Distribution (TxType × List ℤ)
coeffs_of t b plane bo given = coeffs_by t plane bo given (transform_of t b plane bo)

abbrev pub coeffs_effects : Tile → Option CurrentBlock → ℕ → BlockOffset → List ℤ → List Effect
coeffs_effects t current plane bo levels = option_map_or (λ b. Filled plane bo (tx_in t plane b) (entry_of levels) ∷ []) current []

-- the coefficients of a luma transform block
abbrev pub luma_coeffs_kind : Tile → Option CurrentBlock → BlockOffset → Kind (TxType × List ℤ)
luma_coeffs_kind t current bo = record {
  place = Some bo;
  asking = coeffs_asking t current 0 bo;
  answering = λ a. coeffs_answering t current 0 a.0 a.1;
  element = where_some current (λ b. coeffs_of t b 0 bo DCT_DCT);
  effects = λ a. coeffs_effects t current 0 bo a.1;
  step = λ a. Coeffs 0 bo.x bo.y a.0 a.1;
}

-- the coefficients of a chroma transform block of a type
abbrev pub chroma_coeffs_kind : Tile → Option CurrentBlock → ℕ → BlockOffset → TxType → Kind (List ℤ)
chroma_coeffs_kind t current plane bo given = record {
  place = Some bo;
  asking = coeffs_asking t current plane bo;
  answering = λ levels. coeffs_answering t current plane given levels;
  element = where_some current (λ b. renamed (coeffs_of t b plane bo given) (λ a. a.1) (λ levels. (given, levels)));
  effects = λ levels. coeffs_effects t current plane bo levels;
  step = λ levels. Coeffs plane bo.x bo.y given levels;
}
