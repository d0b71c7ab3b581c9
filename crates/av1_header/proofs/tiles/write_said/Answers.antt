use Rattle.std.proofs.Common.{◌≡◌, ℕ, ◌*◌, ap, refl, sym, ◌∙◌}
use Rattle.std.specs.Int.{div_ceil}
use Rattle.av1_frame.specs.Tiling.{tiling, least_log2, fewest_tiles_log2, tallest, tallest_tile}
use Rattle.av1_frame.specs.declared.tiling.TilingInfo.{TilingInfo}
use Rattle.av1_header.specs.Tiles.{TilingFits, said_tiles}
use Rattle.av1_header.proofs.RowLaws.{on_then, wrote_done}
use Rattle.av1_header.proofs.TileLoops.{spans_at, same_logs}
use Rattle.av1_header.proofs.tiles.write_said.Goals as goal

fewest_tiles : (t : TilingInfo) → TilingFits t → t.min_tiles_log2 ≡ fewest_tiles_log2 t.sb_width t.sb_height
unfolding tiling
fewest_tiles t fits = ap (λ (x : TilingInfo). x.min_tiles_log2) fits.made

cols_are : (t : TilingInfo) → TilingFits t → t.tile_cols_log2 ≡ least_log2 1 (div_ceil t.sb_width t.tile_width_sb)
unfolding tiling
cols_are t fits = ap (λ (x : TilingInfo). x.tile_cols_log2) fits.made

rows_are : (t : TilingInfo) → TilingFits t → t.tile_rows_log2 ≡ least_log2 1 (div_ceil t.sb_height t.tile_height_sb)
unfolding tiling
rows_are t fits = ap (λ (x : TilingInfo). x.tile_rows_log2) fits.made

-- how tall a tile may be, by what the widths told
tallest_is : (t : TilingInfo) (widest : ℕ) → TilingFits t → widest ≡ t.tile_width_sb → tallest_tile t ≡ tallest (t.sb_width * t.sb_height) (fewest_tiles_log2 t.sb_width t.sb_height) widest
unfolding tallest_tile
tallest_is t widest fits e = ap (λ n. tallest (t.sb_width * t.sb_height) n t.tile_width_sb) (fewest_tiles t fits) ∙ ap (λ n. tallest (t.sb_width * t.sb_height) (fewest_tiles_log2 t.sb_width t.sb_height) n) (sym e)

pub returns-clause-wrote : goal.returns-clause-wrote
unfolding said_tiles
returns-clause-wrote c =
    let t = c.args.info.now in
    on_then _ _ _ _ _ _ _ _ _ _ _ _ _ c.write_spans-across.ensures.wrote refl
    (on_then _ _ _ _ _ _ _ _ _ _ _ _ _ (spans_at _ _ _ _ _ _ _ _ _ (c.max_tile_height_sb-most.ensures.value ∙ tallest_is t c.write_spans-across.result.widest c.requires.fits c.write_spans-across.ensures.widest) c.write_spans-down.ensures.wrote) refl
    (wrote_done _ _ _ _ _ (same_logs _ _ _ _ c.tile_log2.ensures.value c.tile_log2-2.ensures.value)))

pub returns-clause-logs : goal.returns-clause-logs
returns-clause-logs c =
    let t = c.args.info.now in
    same_logs _ _ _ _
    (c.tile_log2.ensures.value ∙ ap (λ n. least_log2 1 n) c.write_spans-across.ensures.count ∙ sym (cols_are t c.requires.fits))
    (c.tile_log2-2.ensures.value ∙ ap (λ n. least_log2 1 n) c.write_spans-down.ensures.count ∙ sym (rows_are t c.requires.fits))
