use Rattle.av1_header.proofs.RowLaws.{writing}
use Rattle.av1_header.specs.FrameFlags.{intra_frame}
use Rattle.av1_header.proofs.frame_flags.write_intra_frame.Goals as goal

pub returns : goal.returns
unfolding intra_frame
returns c = search writing depth 8
