-- What a step changes in the state of a tile, beside the numbers of its distributions.
use Rattle.std.specs.Prelude.{ℕ, List, [], ◌∷◌, Bool, Option, Some, None, nat_eq, slice_set}
use Rattle.av1_blocks.specs.declared.block.Block.{Block}
use Rattle.av1_blocks.specs.Edges.{with_left_reset, with_partition, with_skip_reset, with_tx_sides, planes_coded, halvings, with_coefficients}
use Rattle.av1_blocks.specs.Grid.{over}
use Rattle.av1_geometry.specs.declared.block_offset.BlockOffset.{BlockOffset}
use Rattle.av1_geometry.specs.declared.block_size.BlockSize.{BlockSize}
use Rattle.av1_geometry.specs.declared.prediction_mode.PredictionMode.{PredictionMode}
use Rattle.av1_geometry.specs.BlockTables.{max_tx_size}
use Rattle.av1_geometry.specs.ChromaSampling.{xdec_of, ydec_of, planes_of}
use Rattle.av1_mvref.specs.ExtraSearch.{Candidates}
use Rattle.av1_syntax.specs.Restoration.{plane_at, renewed}
use Rattle.av1_syntax.specs.declared.restoration.RestorationFilter.{RestorationFilter}
use Rattle.av1_syntax.specs.TransformSizes.{entered_split}
use Rattle.av1_step.specs.Tile.{CurrentBlock, Tile, sampling, new_block, place_of_block, size_of_block}
use Rattle.av1_geometry.specs.declared.tx_size.TxSize.{TxSize}

pub data Effect : Type 0 where
  -- each block of the part of a block that is inside the tile
  Over : BlockOffset → BlockSize → (Block → Block) → Effect
  -- the edges of a block that is parted into blocks of another size: the block's size, and theirs
  Parted : BlockOffset → BlockSize → BlockSize → Effect
  -- the edges of a block without coefficients
  Unfilled : BlockOffset → BlockSize → Effect
  -- the edges of a block whose transforms have these sides in samples
  Transformed : BlockOffset → BlockSize → ℕ → ℕ → Effect
  -- the edges of an inter block, whose largest transform is split or not
  SplitTransform : BlockOffset → BlockSize → Bool → Effect
  -- the left edges, before a row of superblocks
  NewRow : Effect
  -- whether the enhancement filter of the superblock is coded
  CdefCoded : Bool → Effect
  -- a block is entered in the grid and becomes the current one, without a chroma mode and candidates
  Become : CurrentBlock → Effect
  -- the chroma mode of the current block
  ChromaMode : PredictionMode → Effect
  -- the candidates of the current block and the context of its mode, or none
  Listed : Option Candidates → Effect
  -- which candidate the mode of the current block takes
  Picked : ℕ → Effect
  -- the coefficient edges of a plane over a transform block: its place, its size, and the entry
  Filled : ℕ → BlockOffset → TxSize → ℕ → Effect
  -- the next filters of a plane refer to this one
  Referred : ℕ → RestorationFilter → Effect

abbrev pub changed_by : Effect → Tile → Tile
changed_by (Over bo size f) t = record t { bc = record t.bc { blocks = over bo size f t.bc.blocks } }
changed_by (Parted bo size subsize) t = record t { bc = with_partition bo subsize size t.bc }
changed_by (Unfilled bo size) t =
    let xdec = xdec_of (sampling t) in
    let ydec = ydec_of (sampling t) in
    record t { bc = with_skip_reset (planes_coded bo size xdec ydec (sampling t)) xdec ydec bo size t.bc }
changed_by (Transformed bo size width height) t = record t { bc = with_tx_sides bo size width height t.bc }
changed_by (SplitTransform bo size split) t = record t { bc = entered_split bo size (max_tx_size size) split t.bc }
changed_by NewRow t = record t { bc = with_left_reset (planes_of (sampling t)) t.bc }
changed_by (CdefCoded coded) t = record t { bc = record t.bc { cdef_coded = coded } }
changed_by (Become b) t = record t {
  bc = record t.bc { blocks = over (place_of_block b) (size_of_block b) (λ x. new_block (size_of_block b)) t.bc.blocks };
  current = Some b;
  uv = None;
  cands = None;
  pick = 0;
}
changed_by (ChromaMode m) t = record t { uv = Some m }
changed_by (Listed c) t = record t { cands = c }
changed_by (Picked n) t = record t { pick = n }
changed_by (Filled plane bo size entry) t =
    record t { bc = with_coefficients plane bo size (halvings (xdec_of (sampling t)) plane) (halvings (ydec_of (sampling t)) plane) entry t.bc }
changed_by (Referred plane filter) t = record t { rs = record { planes = slice_set t.rs.planes plane (renewed (nat_eq plane 0) filter (plane_at t.rs plane)) } }

abbrev pub changed_by_all : List Effect → Tile → Tile
changed_by_all [] t = t
changed_by_all (e ∷ es) t = changed_by_all es (changed_by e t)
