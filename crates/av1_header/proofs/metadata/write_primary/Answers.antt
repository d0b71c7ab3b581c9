use Rattle.av1_header.proofs.RowLaws.{writing}
use Rattle.av1_header.specs.Metadata.{primary}
use Rattle.av1_header.proofs.metadata.write_primary.Goals as goal

pub returns : goal.returns
unfolding primary
returns c = search writing depth 8
