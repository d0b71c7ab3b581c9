use Rattle.av1_header.proofs.RowLaws.{writing}
use Rattle.av1_header.specs.SequenceHeader.{filters}
use Rattle.av1_header.proofs.sequence_header.write_filters.Goals as goal

pub returns : goal.returns
unfolding filters
returns c = search writing depth 8
