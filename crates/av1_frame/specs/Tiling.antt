-- How a frame is cut into tiles: tile_info() of the AV1 specification, 5.9.15. Sides count superblocks of 64x64.
use Rattle.std.specs.Prelude.{ℕ, zero, suc, ◌+◌, ◌-◌, ◌*◌, ◌/◌, ◌^◌, min, max, Bool, ◌==◌, ◌&&◌, nat_le, if◌then◌else◌}
use Rattle.std.specs.Int.{div_ceil}
use Rattle.av1_frame.specs.declared.tiling.TilingInfo.{TilingInfo}

-- how often a number is doubled until it is at least another, which is n times at most
abbrev pub doublings : ℕ → ℕ → ℕ → ℕ
doublings zero size target = 0
doublings (suc n) size target = if nat_le target size then 0 else suc (doublings n (size * 2) target)

-- tile_log2(size, target): the least k with size << k at least target, where a size isn't 0
unfoldable pub least_log2 : ℕ → ℕ → ℕ
least_log2 size target = doublings target size target

-- no tile is wider than 64 superblocks, or larger than 2304
abbrev pub fewest_cols_log2 : ℕ → ℕ
fewest_cols_log2 width = least_log2 64 width

abbrev pub fewest_tiles_log2 : ℕ → ℕ → ℕ
fewest_tiles_log2 width height = max (fewest_cols_log2 width) (least_log2 2304 (width * height))

-- there are 64 columns and 64 rows at most
abbrev pub most_log2 : ℕ → ℕ
most_log2 side = least_log2 1 (min side 64)

-- the tiling of a frame of these sides into tiles of these sides, the last of a row or a column aside
unfoldable pub tiling : ℕ → ℕ → ℕ → ℕ → TilingInfo
tiling width height tile_width tile_height =
    let across = div_ceil width tile_width in
    let down = div_ceil height tile_height in
    record {
      sb_width = width;
      sb_height = height;
      tile_width_sb = tile_width;
      tile_height_sb = tile_height;
      cols = across;
      rows = down;
      tile_cols_log2 = least_log2 1 across;
      tile_rows_log2 = least_log2 1 down;
      min_tile_cols_log2 = fewest_cols_log2 width;
      max_tile_cols_log2 = most_log2 width;
      max_tile_rows_log2 = most_log2 height;
      min_tiles_log2 = fewest_tiles_log2 width height;
      min_tile_rows_log2 = fewest_tiles_log2 width height - least_log2 1 across;
    }

-- whether a side is cut evenly into a power of two of tiles
abbrev pub is_even : ℕ → ℕ → ℕ → Bool
is_even side log2 tile = tile == div_ceil side (2 ^ log2)

-- uniform_tile_spacing_flag: both sides are cut evenly
unfoldable pub is_uniform : TilingInfo → Bool
is_uniform t = is_even t.sb_width t.tile_cols_log2 t.tile_width_sb && is_even t.sb_height t.tile_rows_log2 t.tile_height_sb

-- maxTileHeightSb: how tall a tile may be where tiles are not spaced evenly, by the number of superblocks, the fewest tiles and the widest tile
abbrev pub tallest : ℕ → ℕ → ℕ → ℕ
tallest area tiles_log2 widest = max 1 ((if tiles_log2 == 0 then area else area / 2 ^ (tiles_log2 + 1)) / widest)

unfoldable pub tallest_tile : TilingInfo → ℕ
tallest_tile t = tallest (t.sb_width * t.sb_height) t.min_tiles_log2 t.tile_width_sb
