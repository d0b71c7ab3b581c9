-- The blocks of a superblock that are kept, to put them back.
use Rattle.std.specs.Prelude.{ℕ, ◌+◌, ◌-◌, ◌*◌, ◌/◌, ◌%◌, ◌≡◌, ◌<◌, List, min, map, if◌then◌else◌, length, slice_index_or}
use Rattle.std.specs.List.{range_with_len}
use Rattle.av1_geometry.specs.declared.block_offset.BlockOffset.{BlockOffset}
use Rattle.av1_geometry.specs.declared.block_size.BlockSize.TheVariants.{BLOCK_64X64}
use Rattle.av1_geometry.specs.declared.superblock_offset.SuperBlockOffset.{SuperBlockOffset}
use Rattle.av1_blocks.specs.declared.block.Block.{Block}
use Rattle.av1_blocks.specs.declared.block.TheConstants.Block.{DEFAULT}
use Rattle.av1_blocks.specs.Grid.{Grid, block_at, covers}
use Rattle.av1_blocks.specs.Places.{changed}

-- the blocks of a superblock, as far as they are inside the tile, row by row: the place of the first, and corner, columns and rows of the tile
pub record Saved : Type 0 where
  pub place : BlockOffset
  pub x : ℕ
  pub y : ℕ
  pub cols : ℕ
  pub rows : ℕ
  pub blocks : List Block

abbrev pub saved : BlockOffset → ℕ → ℕ → ℕ → ℕ → List Block → Saved
saved place x y cols rows blocks = record { place = place; x = x; y = y; cols = cols; rows = rows; blocks = blocks }

-- the first block of a superblock
abbrev pub first_block : SuperBlockOffset → BlockOffset
first_block sbo = record { x = 16 * sbo.x; y = 16 * sbo.y }

-- how many columns and rows of the superblock are inside the tile
abbrev pub saved_cols : Saved → ℕ
saved_cols s = min (s.cols - s.place.x) 16

abbrev pub saved_rows : Saved → ℕ
saved_rows s = min (s.rows - s.place.y) 16

pub record IsSaved (s : Saved) : Type 0 where
  pub column : s.place.x < s.cols
  pub row : s.place.y < s.rows
  pub size : length s.blocks ≡ saved_rows s * saved_cols s

-- saved of a tile with this corner and these columns and rows
pub record IsSavedOf (g : Grid) (s : Saved) : Type 0 where
  pub x : s.x ≡ g.x
  pub y : s.y ≡ g.y
  pub cols : s.cols ≡ g.cols
  pub rows : s.rows ≡ g.rows

-- what is kept of a tile
abbrev pub saved_of : SuperBlockOffset → Grid → Saved
saved_of sbo g =
    let cols = min (g.cols - 16 * sbo.x) 16 in
    let rows = min (g.rows - 16 * sbo.y) 16 in
    let blocks = map (λ k. block_at g (16 * sbo.x + k % cols) (16 * sbo.y + k / cols)) (range_with_len 0 (rows * cols)) in
    saved (first_block sbo) g.x g.y g.cols g.rows blocks

-- the saved block at a place of the frame
abbrev pub saved_at : Saved → Grid → ℕ → Block
saved_at s g k =
    slice_index_or s.blocks ((k / g.frame.frame_cols - (g.y + s.place.y)) * saved_cols s + (k % g.frame.frame_cols - (g.x + s.place.x))) DEFAULT

-- with the saved blocks back
abbrev pub with_saved : Saved → Grid → Grid
with_saved s g =
    record g { frame = record g.frame { blocks = changed (λ k b. if covers g s.place BLOCK_64X64 k then saved_at s g k else b) g.frame.blocks } }
