use Rattle.av1_header.proofs.RowLaws.{writing}
use Rattle.av1_header.specs.Metadata.{obu_header}
use Rattle.av1_header.proofs.metadata.write_header.Goals as goal

pub returns : goal.returns
unfolding obu_header
returns c = search writing depth 8
