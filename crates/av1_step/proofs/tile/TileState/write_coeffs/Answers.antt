use Rattle.av1_step.specs.State.{tile_of}
use Rattle.av1_step.proofs.CoeffPlaces.{zero_at}
use Rattle.av1_step.proofs.CoeffWriting.{block_there}
use Rattle.av1_step.proofs.tile.TileState.write_coeffs.Goals as goal

pub unwrap-b-requires : goal.unwrap-b-requires
unwrap-b-requires g c = let a = c.args in block_there a.plane a.x a.y a.tx_type a.levels.now (tile_of a.self.now) c.requires.rules

pub write_laid_out-requires-clause-zeros : goal.write_laid_out-requires-clause-zeros
write_laid_out-requires-clause-zeros g c = zero_at 64

pub write_laid_out-requires-then-area-le256-clause-zeros : goal.write_laid_out-requires-then-area-le256-clause-zeros
write_laid_out-requires-then-area-le256-clause-zeros g c = zero_at 256

pub write_laid_out-requires-else-area-le256-clause-zeros : goal.write_laid_out-requires-else-area-le256-clause-zeros
write_laid_out-requires-else-area-le256-clause-zeros g c = zero_at 1024
