use Rattle.av1_header.proofs.RowLaws.{writing}
use Rattle.av1_header.specs.Tiles.{tile_logs}
use Rattle.av1_header.proofs.tiles.write_logs.Goals as goal

pub returns-then-even-clause-wrote : goal.returns-then-even-clause-wrote
unfolding tile_logs
returns-then-even-clause-wrote c = search writing depth 8

pub returns-else-even-clause-wrote : goal.returns-else-even-clause-wrote
unfolding tile_logs
returns-else-even-clause-wrote c = search writing depth 8
