-- What every block of a grid keeps.
use Rattle.std.specs.Prelude.{ℕ, ◌≡◌, ◌%◌, ◌<◌, ◌≤◌, IsTrue, slice_index_or, pos}
use Rattle.av1_geometry.specs.BlockSize.{width_mi, height_mi}
use Rattle.av1_geometry.specs.MotionVector.{IsValid}
use Rattle.av1_geometry.specs.RefType.{reference_number}
use Rattle.av1_geometry.specs.declared.ref_type.RefType.TheVariants.{NONE_FRAME}
use Rattle.av1_blocks.specs.declared.block.Block.{Block}
use Rattle.av1_blocks.specs.Block.{is_inter}
use Rattle.av1_blocks.specs.Grid.{Grid, block_at}

-- the sides are those of the size, the vectors are valid, and an inter block refers to a frame
pub record IsSound (b : Block) : Type 0 where
  pub width : b.n4_w ≡ width_mi b.bsize
  pub height : b.n4_h ≡ height_mi b.bsize
  pub first_valid : IsValid (slice_index_or b.mv 0 record { row = pos 0; col = pos 0 })
  pub second_valid : IsValid (slice_index_or b.mv 1 record { row = pos 0; col = pos 0 })
  pub counts : (k : ℕ) → k < 7 → slice_index_or b.neighbors_ref_counts k 0 ≤ 4
  pub refers : IsTrue (is_inter b) → 1 ≤ reference_number (slice_index_or b.ref_frames 0 NONE_FRAME)
  pub refers_within : IsTrue (is_inter b) → reference_number (slice_index_or b.ref_frames 0 NONE_FRAME) ≤ 7

-- the sides of the tile are even, and every block of it is sound
pub record IsReady (g : Grid) : Type 0 where
  pub columns : g.cols % 2 ≡ 0
  pub rows : g.rows % 2 ≡ 0
  pub sound : (x y : ℕ) → x < g.cols → y < g.rows → IsSound (block_at g x y)
