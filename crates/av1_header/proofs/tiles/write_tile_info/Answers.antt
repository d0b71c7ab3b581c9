use Rattle.av1_header.specs.Tiles.{tile_info}
use Rattle.av1_header.proofs.RowLaws.{writing}
use Rattle.av1_header.proofs.TileLoops.{small_number, number_within}
use Rattle.av1_header.proofs.tiles.write_tile_info.Goals as goal

pub overflow_cast-state : goal.overflow_cast-state
overflow_cast-state c = let t = c.requires.fits.tiling in record { fits = small_number _ _ _ c.requires.fits.id t.few.0 t.few.1 }

pub number_or-requires-clause-fits : goal.number_or-requires-clause-fits
number_or-requires-clause-fits c e = number_within c.args.info.now _ _ c.requires.fits.tiling c.requires.fits.id c.write_logs-logs.ensures.logs

pub returns : goal.returns
unfolding tile_info
returns c = search writing depth 8
