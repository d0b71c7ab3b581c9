-- What every state of a tile keeps.
use Rattle.std.specs.Prelude.{◌≡◌, ℕ, ◌+◌, ◌-◌, ◌*◌, ◌/◌, ◌%◌, ◌^◌, ◌<◌, ◌≤◌, ◌⊎◌, IsTrue, length}
use Rattle.std.specs.Prelude.{nat_eq, slice_index_or, List, [], ◌∷◌, true, Option, Some, None}
use Rattle.std.specs.Option.{ForSome}
use Rattle.av1_blocks.specs.declared.block.Block.{Block}
use Rattle.av1_blocks.specs.Block.{is_inter}
use Rattle.av1_blocks.specs.Edges.{HasEdges, halvings}
use Rattle.av1_blocks.specs.Grid.{covers}
use Rattle.av1_blocks.specs.Sound.{IsSound as IsSoundBlock}
use Rattle.av1_blocks.specs.declared.block.TheConstants.Block.{DEFAULT}
use Rattle.av1_geometry.specs.declared.block_offset.BlockOffset.{BlockOffset}
use Rattle.av1_geometry.specs.declared.block_size.BlockSize.{BlockSize}
use Rattle.av1_geometry.specs.declared.chroma_sampling.ChromaSampling.{ChromaSampling}
use Rattle.av1_geometry.specs.declared.tx_size.TxSize.{TxSize}
use Rattle.av1_geometry.specs.BlockSize.{width_log2, height_log2, width_mi, height_mi}
use Rattle.av1_geometry.specs.ChromaSampling.{xdec_of, ydec_of, planes_of}
use Rattle.av1_geometry.specs.MotionVector.{IsValid}
use Rattle.av1_geometry.specs.PredictionMode.{prediction_mode_number}
use Rattle.av1_geometry.specs.TxSize.{tx_width_log2, tx_height_log2}
use Rattle.av1_frame.specs.declared.frame.FrameInvariants.{FrameInvariants}
use Rattle.av1_frame.specs.declared.state.FrameState.{FrameState}
use Rattle.av1_mvref.specs.declared.candidate.CandidateMV.{CandidateMV}
use Rattle.av1_mvref.specs.Candidates.{no_vector}
use Rattle.av1_mvref.specs.ExtraSearch.{Candidates}
use Rattle.av1_syntax.specs.Restoration.{plane_at, HasReferences, IsFilterOf}
use Rattle.av1_syntax.specs.declared.restoration.TileRestorationState.{TileRestorationState}
use Rattle.av1_step.specs.Effect.{Effect, Over, Parted, Unfilled, Transformed, SplitTransform, NewRow}
use Rattle.av1_step.specs.Effect.{CdefCoded, Become, ChromaMode, Listed, Picked, Filled, Referred, changed_by}
use Rattle.av1_step.specs.Given.{IsGiven, tile_count, tile_cols, tile_rows}
use Rattle.av1_step.specs.Tile.{Tile, CurrentBlock, grid_block, has_chroma_size, lrf_type_of, place_of_block, sampling, size_of_block}

-- the grid is the tile's own, from its corner on
pub record HasSides (t : Tile) : Type 0 where
  pub cols : t.bc.blocks.cols ≡ tile_cols t.given.fi t.number
  pub rows : t.bc.blocks.rows ≡ tile_rows t.given.fi t.number
  pub corner : (t.bc.blocks.x ≡ 0) × (t.bc.blocks.y ≡ 0)
  pub all : length t.bc.blocks.frame.blocks ≡ t.bc.blocks.cols * t.bc.blocks.rows
  pub frame : (t.bc.blocks.frame.frame_cols ≡ t.bc.blocks.cols) × (t.bc.blocks.frame.frame_rows ≡ t.bc.blocks.rows)

-- a block that can be entered in a tile of so many columns and rows: it begins inside, no side is longer than 64, and it stands where its size may
pub record IsBlock (cols rows : ℕ) (bo : BlockOffset) (size : BlockSize) : Type 0 where
  pub column : bo.x < cols
  pub row : bo.y < rows
  pub width : width_log2 size ≤ 6
  pub height : height_log2 size ≤ 6
  pub aligned : (bo.x % width_mi size ≡ 0) × (bo.y % height_mi size ≡ 0)

-- a block of the grid: in an intra frame, or where it is predicted within the frame, its mode is one of the thirteen of luma, its
-- segment is one of the eight, and it is one that vectors and references may be looked for in
pub record IsFine (fi : FrameInvariants) (b : Block) : Type 0 where
  pub mode : IsTrue fi.intra_only ⊎ (prediction_mode_number b.mode < 14) → prediction_mode_number b.mode < 13
  pub segment : b.segmentation_idx ≤ 7
  pub sound : IsSoundBlock b

-- a block of the grid where a block of a size was entered: it has the size, and a transform that is no longer on either side
abbrev pub IsEntered : BlockSize → Block → Type 0
IsEntered size x =
    (x.bsize ≡ size) × (x.n4_w ≡ width_mi size) × (x.n4_h ≡ height_mi size) × (tx_width_log2 x.txsize ≤ width_log2 size) ×
    (tx_height_log2 x.txsize ≤ height_log2 size)

-- the blocks of the part of a block that is inside the tile are all predicted from other frames, or none is
abbrev pub IsAlike : Tile → CurrentBlock → Type 0
IsAlike t b =
    (k : ℕ) → k < length t.bc.blocks.frame.blocks → covers t.bc.blocks (place_of_block b) (size_of_block b) k ≡ true
    → is_inter (slice_index_or t.bc.blocks.frame.blocks k DEFAULT) ≡ is_inter (grid_block t b)

-- what the filters of the three planes refer to: each plane has the type that the frame says, and its references are in their ranges
pub record HasPlanes (fs : FrameState) (rs : TileRestorationState) : Type 0 where
  pub three : length rs.planes ≡ 3
  pub types : (plane : ℕ) → plane < 3 → (plane_at rs plane).lrf_type ≡ lrf_type_of fs plane
  pub references : (plane : ℕ) → plane < 3 → HasReferences (plane_at rs plane)

-- one of the candidates; there is no vector past the last
abbrev pub candidate_at : List CandidateMV → ℕ → CandidateMV
candidate_at list i = slice_index_or list i record { this_mv = no_vector; comp_mv = no_vector; weight = 0 }

-- candidates of valid vectors, with a context of a mode
pub record AreCandidates (c : Candidates) : Type 0 where
  pub vectors : (i : ℕ) → IsValid (candidate_at c.list i).this_mv × IsValid (candidate_at c.list i).comp_mv
  pub new_context : c.context % 16 ≤ 5
  pub ref_context : c.context / 16 ≤ 5

pub record IsKept (t : Tile) : Type 0 where
  pub given : IsGiven t.given
  pub number : t.number < tile_count t.given.fi
  pub sides : HasSides t
  pub edges : HasEdges t.bc
  pub current : ForSome t.current (λ b. IsBlock t.bc.blocks.cols t.bc.blocks.rows (place_of_block b) (size_of_block b))
  pub coded : ForSome t.current (λ b. has_chroma_size (sampling t) (size_of_block b) ≡ true)
  pub entered : ForSome t.current (λ b. IsEntered (size_of_block b) (grid_block t b))
  pub alike : ForSome t.current (IsAlike t)
  pub fine : (k : ℕ) → k < length t.bc.blocks.frame.blocks → IsFine t.given.fi (slice_index_or t.bc.blocks.frame.blocks k DEFAULT)
  pub planes : HasPlanes t.given.fs t.rs
  pub cands : ForSome t.cands AreCandidates

-- a transform block of a plane lies in the part of the plane that its superblock has
pub record IsTransform (cs : ChromaSampling) (plane : ℕ) (bo : BlockOffset) (size : TxSize) : Type 0 where
  pub plane_is : plane < planes_of cs
  pub columns : bo.x % 16 / 2 ^ halvings (xdec_of cs) plane + 2 ^ (tx_width_log2 size - 2) ≤ 16 / 2 ^ halvings (xdec_of cs) plane
  pub rows : bo.y % 16 / 2 ^ halvings (ydec_of cs) plane + 2 ^ (tx_height_log2 size - 2) ≤ 16 / 2 ^ halvings (ydec_of cs) plane

-- a block of the tile that is like those of the area of a change: where that is the area of the current block, it is predicted
-- from other frames exactly where the one at its place is
abbrev pub IsLike : Tile → BlockOffset → BlockSize → Block → Type 0
IsLike t bo size x = ForSome t.current (λ b. bo ≡ place_of_block b → size ≡ size_of_block b → is_inter x ≡ is_inter (grid_block t b))

-- a change leaves whether a block is predicted from other frames, or says it for the whole area of a block
abbrev pub LeavesAlike : CurrentBlock → BlockOffset → BlockSize → (Block → Block) → Type 0
LeavesAlike b bo size f =
    ((x : Block) → is_inter (f x) ≡ is_inter x) ⊎ ((bo ≡ place_of_block b) × (size ≡ size_of_block b) × ((x y : Block) → is_inter (f x) ≡ is_inter (f y)))

-- an effect lies in the tile, and leaves what every state keeps
abbrev pub Fits : Tile → Effect → Type 0
Fits t (Over bo size f) =
    IsBlock t.bc.blocks.cols t.bc.blocks.rows bo size × ((x : Block) → IsLike t bo size x → IsFine t.given.fi x → IsFine t.given.fi (f x))
    × ForSome t.current (λ b. (x : Block) → IsEntered (size_of_block b) x → IsEntered (size_of_block b) (f x))
    × ForSome t.current (λ b. LeavesAlike b bo size f)
Fits t (Parted bo size subsize) = IsBlock t.bc.blocks.cols t.bc.blocks.rows bo size
Fits t (Unfilled bo size) = IsBlock t.bc.blocks.cols t.bc.blocks.rows bo size
Fits t (Transformed bo size width height) = IsBlock t.bc.blocks.cols t.bc.blocks.rows bo size
Fits t (SplitTransform bo size split) = IsBlock t.bc.blocks.cols t.bc.blocks.rows bo size
Fits t NewRow = Unit {0}
Fits t (CdefCoded coded) = Unit {0}
Fits t (Become b) = IsBlock t.bc.blocks.cols t.bc.blocks.rows (place_of_block b) (size_of_block b) × (has_chroma_size (sampling t) (size_of_block b) ≡ true)
Fits t (ChromaMode m) = Unit {0}
Fits t (Listed c) = ForSome c AreCandidates
Fits t (Picked n) = Unit {0}
Fits t (Filled plane bo size entry) = IsTransform (sampling t) plane bo size
Fits t (Referred plane filter) = (plane < 3) × (lrf_type : ℕ) × IsFilterOf lrf_type (nat_eq plane 0) filter

-- effects fit one after another
abbrev pub AllFit : Tile → List Effect → Type 0
AllFit t [] = Unit {0}
AllFit t (e ∷ es) = Fits t e × AllFit (changed_by e t) es

-- an effect on blocks or edges is one at a place; one on restoration filters is that of a step without a place
abbrev pub IsAt : Option BlockOffset → Effect → Type 0
IsAt place (Over bo size f) = place ≡ Some bo
IsAt place (Parted bo size subsize) = place ≡ Some bo
IsAt place (Unfilled bo size) = place ≡ Some bo
IsAt place (Transformed bo size width height) = place ≡ Some bo
IsAt place (SplitTransform bo size split) = place ≡ Some bo
IsAt place (Become b) = place ≡ Some (place_of_block b)
IsAt place (Filled plane bo size entry) = place ≡ Some bo
IsAt place (Referred plane filter) = place ≡ None
IsAt place e = Unit {0}

abbrev pub AllAt : Option BlockOffset → List Effect → Type 0
AllAt place [] = Unit {0}
AllAt place (e ∷ es) = IsAt place e × AllAt place es
