-- The rows of tile_info() of the AV1 specification (5.9.15). Sides count superblocks of 64x64.
use Rattle.std.specs.Prelude.{◌≡◌, ℕ, zero, suc, ◌+◌, ◌-◌, ◌*◌, ◌<◌, ◌≤◌, max, min, Bool, true, false, ◌==◌, nat_lt, if◌then◌else◌, codes}
use Rattle.av1_frame.specs.Tiling.{least_log2, fewest_cols_log2, fewest_tiles_log2, most_log2, tiling, is_uniform, tallest, tallest_tile}
use Rattle.av1_frame.specs.declared.tiling.TilingInfo.{TilingInfo}
use Rattle.av1_frame.specs.declared.state.FrameState.{FrameState}
use Rattle.av1_header.specs.Rows.{Rows, f, ns, flag, number, number_if, on, ◌>>=◌}
use Rattle.av1_header.specs.Rows.Rows.{Done}
use Rattle.av1_header.specs.declared.tiles.Spans.{Spans}
use Rattle.av1_header.specs.declared.tiles.TileLogs.{TileLogs}
use Rattle.av1_header.specs.declared.tiles.TileValues.{TileValues}

-- one bits from a number up to another, and a 0 where there could be more of them; n steps are left
unfoldable pub increments : ℕ → ℕ → Rows ℕ ℕ
increments zero k = Done k
increments (suc n) k = do
  more ← flag (codes "increment_tile_log2") (λ goal. nat_lt k goal)
  if more then increments n (k + 1) else Done k

-- tiles that are spaced evenly: the logarithms of their numbers
unfoldable pub even_tiles : ℕ → ℕ → Rows TilingInfo TileLogs
even_tiles width height = do
  cols ← on (λ t. t.tile_cols_log2) (increments (most_log2 width - fewest_cols_log2 width) (fewest_cols_log2 width))
  rows ← on (λ t. t.tile_rows_log2) (increments (most_log2 height - (fewest_tiles_log2 width height - cols)) (fewest_tiles_log2 width height - cols))
  Done (record { cols = cols; rows = rows })

-- spans of so many superblocks at most, until none is left, after a number of them and the widest. n is as many as there can be
unfoldable pub spans : ℕ → ℕ → ℕ → ℕ → ℕ → Rows ℕ Spans
spans zero most left count widest = Done (record { count = count; widest = widest })
spans (suc n) most left count widest = if left == 0 then Done (record { count = count; widest = widest }) else do
  span ← number (codes "size_in_sbs_minus_1") (ns (min most left)) (λ side. min side left - 1)
  spans n most (left - (span + 1)) (count + 1) (max widest (span + 1))

-- tiles whose sides are said, the widths first
unfoldable pub said_tiles : ℕ → ℕ → Rows TilingInfo TileLogs
said_tiles width height = do
  across ← on (λ t. t.tile_width_sb) (spans width 64 width 0 0)
  down ← on (λ t. t.tile_height_sb) (spans height (tallest (width * height) (fewest_tiles_log2 width height) across.widest) height 0 0)
  Done (record { cols = least_log2 1 across.count; rows = least_log2 1 down.count })

-- the tiles in either way
unfoldable pub tile_logs : Bool → ℕ → ℕ → Rows TilingInfo TileLogs
tile_logs even width height = if even then even_tiles width height else said_tiles width height

-- the tiles of a frame, which of them hands on its distributions, and how many bytes the size of a tile has
pub record Tiles : Type 0 where
  pub tiling : TilingInfo
  pub update_id : ℕ
  pub size_bytes : ℕ

abbrev pub tiles_with : TilingInfo → FrameState → Tiles
tiles_with t fs = record { tiling = t; update_id = fs.context_update_tile_id; size_bytes = fs.max_tile_size_bytes }

abbrev pub logs_of : TilingInfo → TileLogs
logs_of t = record { cols = t.tile_cols_log2; rows = t.tile_rows_log2 }

-- the whole, in a frame of these sides
unfoldable pub tile_info : ℕ → ℕ → Rows Tiles TileValues
tile_info width height = do
  even ← flag (codes "uniform_tile_spacing_flag") (λ t. is_uniform t.tiling)
  logs ← on (λ t. t.tiling) (tile_logs even width height)
  let many = nat_lt 0 (logs.cols + logs.rows)
  id ← number_if many (codes "context_update_tile_id") (f (logs.cols + logs.rows)) (λ t. t.update_id)
  bytes ← number_if many (codes "tile_size_bytes_minus_1") (f 2) (λ t. t.size_bytes - 1)
  Done (record { logs = logs; size_bytes = bytes + 1 })

-- the sides and numbers of tiles are within their rows
pub record TilingFits (t : TilingInfo) : Type 0 where
  pub made : t ≡ tiling t.sb_width t.sb_height t.tile_width_sb t.tile_height_sb
  pub width : (1 ≤ t.sb_width) × (t.sb_width ≤ 1024)
  pub height : (1 ≤ t.sb_height) × (t.sb_height ≤ 1024)
  pub tile_width : (1 ≤ t.tile_width_sb) × (t.tile_width_sb ≤ t.sb_width) × (t.tile_width_sb ≤ 64)
  pub tile_height : (1 ≤ t.tile_height_sb) × (t.tile_height_sb ≤ t.sb_height)
  pub few : (t.cols ≤ 64) × (t.rows ≤ 64)
  pub cols : (t.min_tile_cols_log2 ≤ t.tile_cols_log2) × (t.tile_cols_log2 ≤ t.max_tile_cols_log2)
  pub rows : t.tile_rows_log2 ≤ t.max_tile_rows_log2
  pub even : is_uniform t ≡ true → t.min_tile_rows_log2 ≤ t.tile_rows_log2
  pub tall : is_uniform t ≡ false → t.tile_height_sb ≤ tallest_tile t

-- no logarithm is above 20
abbrev pub HasSmallLogs : TilingInfo → Type 0
HasSmallLogs t = (t.tile_cols_log2 ≤ 20) × (t.tile_rows_log2 ≤ 20) × (t.min_tiles_log2 ≤ 20)

-- and so are the tile that hands on its distributions and the bytes of sizes
pub record TilesFit (t : Tiles) : Type 0 where
  pub tiling : TilingFits t.tiling
  pub id : t.update_id < t.tiling.cols * t.tiling.rows
  pub bytes : (1 ≤ t.size_bytes) × (t.size_bytes ≤ 4)
