use Rattle.av1_header.proofs.RowLaws.{writing}
use Rattle.av1_header.specs.Filters.{lr_params}
use Rattle.av1_header.proofs.filters.write_restoration.Goals as goal

pub returns : goal.returns
unfolding lr_params
returns c = search writing depth 8
