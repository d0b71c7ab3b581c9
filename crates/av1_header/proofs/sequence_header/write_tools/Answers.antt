use Rattle.av1_header.proofs.RowLaws.{writing}
use Rattle.av1_header.specs.SequenceHeader.{tools}
use Rattle.av1_header.proofs.sequence_header.write_tools.Goals as goal

pub returns : goal.returns
unfolding tools
returns c = search writing depth 8
