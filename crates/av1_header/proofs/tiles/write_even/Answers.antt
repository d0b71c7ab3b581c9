use Rattle.std.proofs.Common.{◌≡◌, ◌-◌, arith, ap, refl, sym, ◌∙◌}
use Rattle.av1_frame.specs.Tiling.{tiling, fewest_cols_log2, fewest_tiles_log2, most_log2}
use Rattle.av1_frame.specs.declared.tiling.TilingInfo.{TilingInfo}
use Rattle.av1_header.specs.Tiles.{TilingFits, even_tiles}
use Rattle.av1_header.proofs.RowLaws.{on_then, wrote_done}
use Rattle.av1_header.proofs.TileLoops.{increments_at, same_logs}
use Rattle.av1_header.proofs.tiles.write_even.Goals as goal

fewest_cols : (t : TilingInfo) → TilingFits t → t.min_tile_cols_log2 ≡ fewest_cols_log2 t.sb_width
unfolding tiling
fewest_cols t fits = ap (λ (x : TilingInfo). x.min_tile_cols_log2) fits.made

most_cols : (t : TilingInfo) → TilingFits t → t.max_tile_cols_log2 ≡ most_log2 t.sb_width
unfolding tiling
most_cols t fits = ap (λ (x : TilingInfo). x.max_tile_cols_log2) fits.made

most_rows : (t : TilingInfo) → TilingFits t → t.max_tile_rows_log2 ≡ most_log2 t.sb_height
unfolding tiling
most_rows t fits = ap (λ (x : TilingInfo). x.max_tile_rows_log2) fits.made

fewest_tiles : (t : TilingInfo) → TilingFits t → t.min_tiles_log2 ≡ fewest_tiles_log2 t.sb_width t.sb_height
unfolding tiling
fewest_tiles t fits = ap (λ (x : TilingInfo). x.min_tiles_log2) fits.made

fewest_rows : (t : TilingInfo) → TilingFits t → t.min_tile_rows_log2 ≡ t.min_tiles_log2 - t.tile_cols_log2
unfolding tiling
fewest_rows t fits = let e = fits.made in ap (λ (x : TilingInfo). x.min_tile_rows_log2) e ∙ sym (ap (λ (x : TilingInfo). x.min_tiles_log2 - x.tile_cols_log2) e)

pub returns-clause-wrote : goal.returns-clause-wrote
unfolding even_tiles
returns-clause-wrote c =
    let t = c.args.info.now in
    let fits = c.requires.fits in
    on_then _ _ _ _ _ _ _ _ _ _ _ _ _ (increments_at _ _ _ _ _ _ _ _ _ _ (fewest_cols t fits) (most_cols t fits) c.write_increments-cols.ensures.wrote) refl
    (on_then _ _ _ _ _ _ _ _ _ _ _ _ _ (increments_at _ _ _ _ _ _ _ _ _ _ (c.saturating_sub-least.ensures ∙ ap (λ n. n - c.write_increments-cols.result) (fewest_tiles t fits)) (most_rows t fits) c.write_increments-rows.ensures.wrote) refl
    (wrote_done _ _ _ _ _ refl))

pub returns-clause-logs : goal.returns-clause-logs
returns-clause-logs c =
    let t = c.args.info.now in
    let fits = c.requires.fits in
    let cols : c.write_increments-cols.result ≡ t.tile_cols_log2 = omega (arith, c.write_increments-cols.ensures.reached, fits.cols.0) in
    same_logs _ _ _ _ cols (omega (arith, c.write_increments-rows.ensures.reached, c.saturating_sub-least.ensures, cols, fewest_rows t fits, fits.even c.requires.even))
