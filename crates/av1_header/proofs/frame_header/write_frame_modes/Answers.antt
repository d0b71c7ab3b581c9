use Rattle.av1_header.proofs.RowLaws.{writing}
use Rattle.av1_header.specs.FrameHeader.{frame_modes}
use Rattle.av1_header.proofs.frame_header.write_frame_modes.Goals as goal

pub returns : goal.returns
unfolding frame_modes
returns c = search writing depth 8
