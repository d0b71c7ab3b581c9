use Rattle.av1_header.proofs.RowLaws.{writing}
use Rattle.av1_header.specs.FrameHeader.{frame_start}
use Rattle.av1_header.proofs.frame_header.write_start.Goals as goal

pub returns : goal.returns
unfolding frame_start
returns c = search writing depth 8
