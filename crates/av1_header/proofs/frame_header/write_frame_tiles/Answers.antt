use Rattle.std.proofs.Common.{subst, sym}
use Rattle.av1_frame.specs.Tiling.{tiling}
use Rattle.av1_frame.specs.declared.tiling.TilingInfo.{TilingInfo}
use Rattle.av1_header.specs.Rows.{Wrote}
use Rattle.av1_header.specs.Tiles.{TilesFit, tile_info, tiles_with}
use Rattle.av1_header.proofs.frame_header.write_frame_tiles.Goals as goal

pub write_tile_info-requires-clause-fits : goal.write_tile_info-requires-clause-fits
write_tile_info-requires-clause-fits c = subst (λ (t : TilingInfo). TilesFit (tiles_with t c.args.state.now)) (sym c.tiling_of-info.ensures.value) c.requires

pub returns : goal.returns
unfolding tiling
returns c = subst (λ (t : TilingInfo). Wrote (tile_info t.sb_width t.sb_height) (tiles_with t c.args.state.now) c.write_tile_info.result c.args.refused.now c.write_tile_info.new.refused c.args.bits.now c.write_tile_info.new.bits) c.tiling_of-info.ensures.value c.write_tile_info.ensures
