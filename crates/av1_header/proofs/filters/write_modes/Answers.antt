use Rattle.av1_header.proofs.RowLaws.{writing}
use Rattle.av1_header.specs.Filters.{modes}
use Rattle.av1_header.proofs.filters.write_modes.Goals as goal

pub returns : goal.returns
unfolding modes
returns c = search writing depth 8
