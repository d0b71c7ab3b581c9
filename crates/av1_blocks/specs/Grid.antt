-- The blocks of a frame, or of a part of one that is stored alone, row by row, and the part of them that is a tile. Places count blocks of
-- 4x4 luma samples.
use Rattle.std.specs.Prelude.{ℕ, ◌+◌, ◌-◌, ◌*◌, ◌≤◌, ◌≡◌, ◌<◌, ◌^◌, List, Bool, ◌&&◌, ◌||◌, ◌==◌, not, min, if◌then◌else◌, length, slice_index_or}
use Rattle.av1_geometry.specs.declared.block_offset.BlockOffset.{BlockOffset}
use Rattle.av1_geometry.specs.declared.block_size.BlockSize.{BlockSize}
use Rattle.av1_geometry.specs.BlockSize.{width_mi, height_mi}
use Rattle.av1_blocks.specs.declared.block.Block.{Block}
use Rattle.av1_blocks.specs.declared.block.TheConstants.Block.{DEFAULT}
use Rattle.av1_blocks.specs.Block.{is_inter}
use Rattle.av1_blocks.specs.Places.{in_area, changed}

pub record Frame : Type 0 where
  pub frame_cols : ℕ
  pub frame_rows : ℕ
  pub blocks : List Block
  -- where in the whole frame they begin, and the columns and rows of that
  pub left : ℕ
  pub top : ℕ
  pub all_cols : ℕ
  pub all_rows : ℕ

pub record IsFrame (f : Frame) : Type 0 where
  pub size : length f.blocks ≡ f.frame_cols * f.frame_rows
  pub few : f.frame_cols * f.frame_rows ≤ 2 ^ 22
  pub columns : f.left + f.frame_cols ≤ f.all_cols
  pub rows : f.top + f.frame_rows ≤ f.all_rows

-- a place of the frame
pub record IsInFrame (f : Frame) (bo : BlockOffset) : Type 0 where
  pub column : bo.x < f.frame_cols
  pub row : bo.y < f.frame_rows

-- the block at a column and a row of the frame
abbrev pub frame_block : Frame → ℕ → ℕ → Block
frame_block f x y = slice_index_or f.blocks (y * f.frame_cols + x) DEFAULT

-- the part of a frame of so many columns and rows that begins at a place
abbrev pub part : BlockOffset → ℕ → ℕ → ℕ → ℕ → List Block → Frame
part at cols rows all_cols all_rows blocks = record {
  frame_cols = cols;
  frame_rows = rows;
  blocks = blocks;
  left = at.x;
  top = at.y;
  all_cols = all_cols;
  all_rows = all_rows;
}

-- the whole of it
abbrev pub frame : ℕ → ℕ → List Block → Frame
frame cols rows blocks = part (record { x = 0; y = 0 }) cols rows cols rows blocks

abbrev pub with_blocks : List Block → Frame → Frame
with_blocks blocks f = record f { blocks = blocks }

-- the tile from column x and row y of its frame on
pub record Grid : Type 0 where
  pub frame : Frame
  pub x : ℕ
  pub y : ℕ
  pub cols : ℕ
  pub rows : ℕ

abbrev pub tile : Frame → ℕ → ℕ → ℕ → ℕ → Grid
tile frame x y cols rows = record { frame = frame; x = x; y = y; cols = cols; rows = rows }

-- a tile is inside its frame, which has so many columns and rows
pub record IsTile (g : Grid) (all_cols all_rows : ℕ) : Type 0 where
  pub columns : g.x + g.cols ≤ g.frame.frame_cols
  pub rows : g.y + g.rows ≤ g.frame.frame_rows
  pub all_cols_are : all_cols ≡ g.frame.frame_cols
  pub all_rows_are : all_rows ≡ g.frame.frame_rows

-- the whole frame
abbrev pub whole : Frame → Grid
whole f = tile f 0 0 f.frame_cols f.frame_rows

-- the block at a column and a row of the tile
abbrev pub block_at : Grid → ℕ → ℕ → Block
block_at g x y = slice_index_or g.frame.blocks ((g.y + y) * g.frame.frame_cols + (g.x + x)) DEFAULT

-- the place in the whole frame of a place of the tile
abbrev pub place_in_frame : Grid → BlockOffset → BlockOffset
place_in_frame g bo = record { x = g.frame.left + (g.x + bo.x); y = g.frame.top + (g.y + bo.y) }

-- a place of the tile
pub record IsInside (g : Grid) (bo : BlockOffset) : Type 0 where
  pub column : bo.x < g.cols
  pub row : bo.y < g.rows

-- the part of a block that is inside the tile, by the places of the frame
abbrev pub covers : Grid → BlockOffset → BlockSize → ℕ → Bool
covers g bo size k =
    in_area g.frame.frame_cols (g.x + bo.x) (g.x + min (bo.x + width_mi size) g.cols) (g.y + bo.y) (g.y + min (bo.y + height_mi size) g.rows) k

-- with a change over that part
abbrev pub over : BlockOffset → BlockSize → (Block → Block) → Grid → Grid
over bo size f g = record g { frame = record g.frame { blocks = changed (λ k b. if covers g bo size k then f b else b) g.frame.blocks } }

-- the block above a place, and the block to the left, where the tile has one, is such a block
abbrev pub above_is : (Block → Bool) → Grid → BlockOffset → Bool
above_is p g bo = not (bo.y == 0) && p (block_at g bo.x (bo.y - 1))

abbrev pub left_is : (Block → Bool) → Grid → BlockOffset → Bool
left_is p g bo = not (bo.x == 0) && p (block_at g (bo.x - 1) bo.y)

-- how many of the blocks above and to the left are skipped (AV1 specification, "CDF selection process": skip)
abbrev pub skip_context : Grid → BlockOffset → ℕ
skip_context g bo = (if above_is (λ b. b.skip) g bo then 1 else 0) + (if left_is (λ b. b.skip) g bo then 1 else 0)

-- how the blocks above and to the left are predicted (the same section: is_inter): 3 where both are intra, 1 where one of two is,
-- 2 where the only one is, else 0
abbrev pub intra_inter_context : Grid → BlockOffset → ℕ
intra_inter_context g bo =
    let above = above_is (λ b. not (is_inter b)) g bo in
    let left = left_is (λ b. not (is_inter b)) g bo in
    if above && left then 3 else (if above || left then (if bo.x == 0 || bo.y == 0 then 2 else 1) else 0)
