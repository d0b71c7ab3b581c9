-- The rules of a frame's tiles.
use Rattle.std.specs.Prelude.{ℕ, ◌*◌, List, [], ◌∷◌, Bool, ◌&&◌, nat_lt, nat_le, if◌then◌else◌}
use Rattle.std.specs.Int.{div_ceil}
use Rattle.av1_geometry.specs.Rules.{Check, rule}
use Rattle.av1_frame.specs.Tests.{within}
use Rattle.av1_frame.specs.Tiling.{tiling, is_uniform, tallest_tile}
use Rattle.av1_frame.specs.declared.frame.FrameInvariants.{FrameInvariants}
use Rattle.av1_frame.specs.declared.state.FrameState.{FrameState}
use Rattle.av1_frame.specs.declared.tiling.TilingInfo.{TilingInfo}

-- the superblocks of a side
abbrev pub superblocks : ℕ → ℕ
superblocks side = div_ceil side 64

-- the tiles of a frame
abbrev pub tiling_of : FrameInvariants → TilingInfo
tiling_of fi = tiling (superblocks fi.width) (superblocks fi.height) fi.tile_width_sb fi.tile_height_sb

-- tiles lie in the frame, and are no wider than 64 superblocks
abbrev pub tile_sides_fit : FrameInvariants → Bool
tile_sides_fit fi = within 1 (superblocks fi.width) fi.tile_width_sb && within 1 (superblocks fi.height) fi.tile_height_sb && nat_le fi.tile_width_sb 64

-- there are 64 columns and rows at most; rows are enough for the area of a tile, where a header says their number, and a tile isn't too tall, where
-- it says their heights
unfoldable pub tiling_fits : TilingInfo → Bool
tiling_fits t =
    nat_le t.cols 64
    && nat_le t.rows 64
    && (if is_uniform t then nat_le t.min_tile_rows_log2 t.tile_rows_log2 else nat_le t.tile_height_sb (tallest_tile t))

abbrev pub tiles_fit : FrameInvariants → Bool
tiles_fit fi = tile_sides_fit fi && tiling_fits (tiling_of fi)

-- the tile that hands on its distributions is one of the frame
abbrev pub context_tile_fits : FrameState → TilingInfo → Bool
context_tile_fits fs t = nat_lt fs.context_update_tile_id (t.cols * t.rows)

unfoldable pub tile_rules : FrameInvariants → FrameState → List Check
tile_rules fi fs = rule 34 (tiles_fit fi) ∷ rule 35 (context_tile_fits fs (tiling_of fi)) ∷ []
