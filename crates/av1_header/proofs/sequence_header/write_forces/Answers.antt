use Rattle.av1_header.proofs.RowLaws.{writing}
use Rattle.av1_header.specs.SequenceHeader.{forces}
use Rattle.av1_header.proofs.sequence_header.write_forces.Goals as goal

pub returns : goal.returns
unfolding forces
returns c = search writing depth 8
