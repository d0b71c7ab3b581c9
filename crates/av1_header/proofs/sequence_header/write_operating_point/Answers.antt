use Rattle.av1_header.proofs.RowLaws.{writing}
use Rattle.av1_header.specs.SequenceHeader.{operating_point}
use Rattle.av1_header.proofs.sequence_header.write_operating_point.Goals as goal

pub returns : goal.returns
unfolding operating_point
returns c = search writing depth 8
