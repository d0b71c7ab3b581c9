-- The blocks around a place of a tile can be looked at.
use Rattle.std.proofs.Common.{◌≡◌, ℕ, ◌-◌, ◌*◌, ◌%◌, ◌≤◌, min, ap, ◌∙◌, arith}
use Rattle.av1_blocks.specs.Sound.{IsReady}
use Rattle.av1_step.specs.Kept.{IsKept}
use Rattle.av1_step.specs.Tile.{Tile}
use Rattle.av1_step.proofs.IntraSteps.{fine_at}
use Rattle.av1_step.proofs.Places.{is_cut}

even_columns : (span side m : ℕ) → min (16 * span) (2 * side - m * (16 * span)) % 2 ≡ 0
even_columns span side m = omega arith

-- a tile has whole pairs of columns and rows, and at most 1024 columns and 16384 rows
pub record IsPaired (t : Tile) : Type 0 where
  pub cols : t.bc.blocks.cols % 2 ≡ 0
  pub rows : t.bc.blocks.rows % 2 ≡ 0
  pub few : t.bc.blocks.cols ≤ 1024
  pub low : t.bc.blocks.rows ≤ 16384

pub is_paired : (t : Tile) → IsKept t → IsPaired t
is_paired t k =
    let cut = is_cut t.given.fi t.given.fs t.given.refs k.given.frame in
    record {
      cols = ap (λ n. n % 2) k.sides.cols ∙ even_columns t.given.fi.tile_width_sb _ _;
      rows = ap (λ n. n % 2) k.sides.rows ∙ even_columns t.given.fi.tile_height_sb _ _;
      few = omega (arith, k.sides.cols, cut.tile_width.1);
      low = omega (arith, k.sides.rows, cut.tile_height.1);
    }

-- the grid has even sides, and each block of it is sound
pub ready : (t : Tile) → IsKept t → IsReady t.bc.blocks
ready t k =
    let paired = is_paired t k in
    record { columns = paired.cols; rows = paired.rows; sound = λ x y column row. (fine_at t k x y column row).sound }
