-- The state of a tile: what decides how the next step is coded. Places count 4x4 luma blocks from the tile's corner.
use Rattle.std.specs.Prelude.{ℕ, ◌*◌, List, [], ◌∷◌, Bool, Option, None, replicate, ◌&&◌, is_some, nat_lt}
use Rattle.av1_blocks.specs.declared.block.TheConstants.Block.{DEFAULT}
use Rattle.av1_blocks.specs.declared.block_context.BlockContext.{BlockContext}
use Rattle.av1_blocks.specs.Edges.{fresh as fresh_edges}
use Rattle.av1_blocks.specs.Grid.{Grid, part, whole, block_at}
use Rattle.av1_frame.specs.FilterRules.{plane_at as plane_config}
use Rattle.av1_frame.specs.HeaderRules.{blocks}
use Rattle.av1_frame.specs.declared.frame.FrameInvariants.{FrameInvariants}
use Rattle.av1_frame.specs.declared.state.FrameState.{FrameState}
use Rattle.av1_blocks.specs.declared.block.Block.{Block}
use Rattle.av1_geometry.specs.declared.block_offset.BlockOffset.{BlockOffset}
use Rattle.av1_geometry.specs.declared.block_offset.TileBlockOffset.{TileBlockOffset}
use Rattle.av1_geometry.specs.declared.block_size.BlockSize.{BlockSize}
use Rattle.av1_geometry.specs.declared.chroma_sampling.ChromaSampling.{ChromaSampling}
use Rattle.av1_geometry.specs.declared.prediction_mode.PredictionMode.{PredictionMode}
use Rattle.av1_geometry.specs.Rules.{Check, rule}
use Rattle.av1_mvref.specs.ExtraSearch.{Candidates}
use Rattle.av1_syntax.specs.Restoration.{starting}
use Rattle.av1_syntax.specs.declared.restoration.TileRestorationState.{TileRestorationState}
use Rattle.av1_geometry.specs.declared.ref_type.RefType.TheVariants.{INTRA_FRAME, NONE_FRAME}
use Rattle.av1_geometry.specs.BlockSize.{width_mi, height_mi}
use Rattle.av1_geometry.specs.BlockTables.{max_tx_size, subsampled_size_of}
use Rattle.av1_geometry.specs.ChromaSampling.{xdec_of, ydec_of}
use Rattle.av1_step.specs.Given.{Given, learns_of, tile_cols, tile_left, tile_rows, tile_top}

-- the block that steps speak of: its place and its size
abbrev pub CurrentBlock : Type 0
CurrentBlock = TileBlockOffset × BlockSize

abbrev pub place_of_block : CurrentBlock → BlockOffset
place_of_block b = b.0.0

abbrev pub size_of_block : CurrentBlock → BlockSize
size_of_block b = b.1

pub record Tile : Type 0 where
  pub given : Given
  -- which tile of the frame it is
  pub number : ℕ
  -- the numbers of the adaptive distributions, and whether they learn
  pub numbers : List ℕ
  pub learns : Bool
  -- the grid of blocks, and the edges that they leave
  pub bc : BlockContext
  -- what the next restoration filters of each plane refer to
  pub rs : TileRestorationState
  pub current : Option CurrentBlock
  -- the chroma mode of the current block, once it is entered
  pub uv : Option PredictionMode
  -- the candidates for its vectors and the context of its mode, once they are found, and which candidate its mode takes
  pub cands : Option Candidates
  pub pick : ℕ

abbrev pub sampling : Tile → ChromaSampling
sampling t = t.given.fi.sequence.chroma_sampling

-- a place lies inside the tile
abbrev pub is_inside : Tile → BlockOffset → Bool
is_inside t bo = nat_lt bo.x t.bc.blocks.cols && nat_lt bo.y t.bc.blocks.rows

-- rule 60: a place lies inside the tile
abbrev pub inside : BlockOffset → Tile → Check
inside place t = rule 60 (is_inside t place)

-- a block size has a size in chroma
unfoldable pub has_chroma_size : ChromaSampling → BlockSize → Bool
has_chroma_size cs size = is_some (subsampled_size_of size (xdec_of cs) (ydec_of cs))

-- what stands in the grid where a block of a size was entered
abbrev pub new_block : BlockSize → Block
new_block size = record DEFAULT {
  bsize = size;
  n4_w = width_mi size;
  n4_h = height_mi size;
  ref_frames = INTRA_FRAME ∷ NONE_FRAME ∷ [];
  txsize = max_tx_size size;
}

-- the block of the grid at the place of a block
abbrev pub grid_block : Tile → CurrentBlock → Block
grid_block t b = block_at t.bc.blocks (place_of_block b).x (place_of_block b).y

-- the tile with these numbers
abbrev pub with_numbers : List ℕ → Tile → Tile
with_numbers numbers t = record t { numbers = numbers }

-- the grid of tile number k of a frame: its blocks, which were not entered, from its corner in the frame on
abbrev pub fresh_grid : FrameInvariants → ℕ → Grid
fresh_grid fi k =
    let cols = tile_cols fi k in
    let rows = tile_rows fi k in
    whole (part (record { x = tile_left fi k; y = tile_top fi k }) cols rows (blocks fi.width) (blocks fi.height) (replicate (cols * rows) DEFAULT))

-- which restoration filters a plane of a frame has
abbrev pub lrf_type_of : FrameState → ℕ → ℕ
lrf_type_of fs plane = (plane_config fs.restoration plane).lrf_type

-- what the first filters of a tile refer to
abbrev pub first_planes : FrameState → TileRestorationState
first_planes fs = record { planes = starting (lrf_type_of fs 0) ∷ starting (lrf_type_of fs 1) ∷ starting (lrf_type_of fs 2) ∷ [] }

-- tile number k before its first step, with the numbers that its distributions start from
abbrev pub fresh : Given → ℕ → List ℕ → Tile
fresh g k numbers = record {
  given = g;
  number = k;
  numbers = numbers;
  learns = learns_of g.fi;
  bc = fresh_edges (fresh_grid g.fi k);
  rs = first_planes g.fs;
  current = None;
  uv = None;
  cands = None;
  pick = 0;
}
