use Rattle.av1_header.proofs.RowLaws.{writing}
use Rattle.av1_header.specs.Metadata.{t35_metadata}
use Rattle.av1_header.proofs.metadata.write_t35.Goals as goal

pub returns : goal.returns
unfolding t35_metadata
returns c = search writing depth 8
