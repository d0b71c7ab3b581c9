-- What entering and putting back over an area of a grid comes to.
use Rattle.std.specs.Prelude.{ℕ, ◌≤◌, ◌<◌, ◌+◌, ◌-◌, ◌*◌, ◌/◌, ◌%◌, List, min, if◌then◌else◌, slice_index_or}
use Rattle.av1_geometry.specs.declared.block_offset.BlockOffset.{BlockOffset}
use Rattle.av1_geometry.specs.declared.block_size.BlockSize.{BlockSize}
use Rattle.av1_geometry.specs.BlockSize.{width_mi, height_mi}
use Rattle.av1_blocks.specs.declared.area.Area.{Area}
use Rattle.av1_blocks.specs.declared.block.Block.{Block}
use Rattle.av1_blocks.specs.declared.block.TheConstants.Block.{DEFAULT}
use Rattle.av1_blocks.specs.declared.entry.Entry.{Entry}
use Rattle.av1_blocks.specs.Entry.{entered}
use Rattle.av1_blocks.specs.Grid.{Frame, Grid}
use Rattle.av1_blocks.specs.Places.{changed, in_area}

-- an area inside a frame
pub record IsAreaOf (f : Frame) (a : Area) : Type 0 where
  pub left : a.left ≤ a.right
  pub right : a.right ≤ f.frame_cols
  pub some : 0 < f.frame_cols
  pub top : a.top ≤ a.bottom
  pub bottom : a.bottom ≤ f.frame_rows

-- the part of a block that is inside the tile
abbrev pub area_of : Grid → BlockOffset → BlockSize → Area
area_of g bo size = record {
  left = g.x + bo.x;
  right = g.x + min (bo.x + width_mi size) g.cols;
  top = g.y + bo.y;
  bottom = g.y + min (bo.y + height_mi size) g.rows;
}

-- with an entry over an area, in rows of so many columns
abbrev pub over_area : Area → ℕ → Entry → List Block → List Block
over_area a cols entry blocks = changed (λ k b. if in_area cols a.left a.right a.top a.bottom k then entered entry b else b) blocks

-- with these blocks, which stand row by row, over an area
abbrev pub put_area : Area → ℕ → List Block → List Block → List Block
put_area a cols items blocks =
    changed
    (λ k b. if in_area cols a.left a.right a.top a.bottom k
    then slice_index_or items ((k / cols - a.top) * (a.right - a.left) + (k % cols - a.left)) DEFAULT else b)
    blocks
