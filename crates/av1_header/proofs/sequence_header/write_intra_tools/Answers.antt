use Rattle.av1_header.proofs.RowLaws.{writing}
use Rattle.av1_header.specs.SequenceHeader.{intra_tools}
use Rattle.av1_header.proofs.sequence_header.write_intra_tools.Goals as goal

pub returns : goal.returns
unfolding intra_tools
returns c = search writing depth 8
