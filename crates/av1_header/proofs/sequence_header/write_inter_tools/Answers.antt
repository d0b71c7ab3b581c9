use Rattle.av1_header.proofs.RowLaws.{writing}
use Rattle.av1_header.specs.SequenceHeader.{inter_tools}
use Rattle.av1_header.proofs.sequence_header.write_inter_tools.Goals as goal

pub returns : goal.returns
unfolding inter_tools
returns c = search writing depth 8
