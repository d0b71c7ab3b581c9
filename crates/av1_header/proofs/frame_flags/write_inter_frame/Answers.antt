use Rattle.av1_header.proofs.RowLaws.{writing}
use Rattle.av1_header.specs.FrameFlags.{inter_frame}
use Rattle.av1_header.proofs.frame_flags.write_inter_frame.Goals as goal

pub returns : goal.returns
unfolding inter_frame
returns c = search writing depth 8
