use Rattle.av1_header.proofs.RowLaws.{writing}
use Rattle.av1_header.specs.SequenceHeader.{max_frame_size}
use Rattle.av1_header.proofs.sequence_header.write_max_size.Goals as goal

pub returns : goal.returns
unfolding max_frame_size
returns c = search writing depth 8
