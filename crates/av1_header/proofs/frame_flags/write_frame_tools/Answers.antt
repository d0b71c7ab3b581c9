use Rattle.av1_header.proofs.RowLaws.{writing}
use Rattle.av1_header.specs.FrameFlags.{frame_tools}
use Rattle.av1_header.proofs.frame_flags.write_frame_tools.Goals as goal

pub returns : goal.returns
unfolding frame_tools
returns c = search writing depth 8
