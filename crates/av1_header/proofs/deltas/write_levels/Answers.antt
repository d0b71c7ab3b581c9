use Rattle.av1_header.proofs.RowLaws.{writing}
use Rattle.av1_header.specs.Deltas.{levels}
use Rattle.av1_header.proofs.deltas.write_levels.Goals as goal

pub returns : goal.returns
unfolding levels
returns c = search writing depth 8
