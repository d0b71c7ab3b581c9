use Rattle.av1_header.proofs.RowLaws.{writing}
use Rattle.av1_header.specs.SequenceHeader.{profile}
use Rattle.av1_header.proofs.sequence_header.write_profile.Goals as goal

pub returns : goal.returns
unfolding profile
returns c = search writing depth 8
