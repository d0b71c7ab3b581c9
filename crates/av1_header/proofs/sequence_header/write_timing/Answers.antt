use Rattle.av1_header.proofs.RowLaws.{writing}
use Rattle.av1_header.specs.SequenceHeader.{timing}
use Rattle.av1_header.proofs.sequence_header.write_timing.Goals as goal

pub returns : goal.returns
unfolding timing
returns c = search writing depth 8
