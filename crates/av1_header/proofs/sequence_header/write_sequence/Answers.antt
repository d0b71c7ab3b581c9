use Rattle.av1_header.proofs.RowLaws.{writing}
use Rattle.av1_header.specs.SequenceHeader.{sequence_header}
use Rattle.av1_header.proofs.sequence_header.write_sequence.Goals as goal

pub returns : goal.returns
unfolding sequence_header
returns c = search writing depth 8
