use Rattle.av1_header.proofs.RowLaws.{writing}
use Rattle.av1_header.specs.FrameFlags.{frame_kind}
use Rattle.av1_header.proofs.frame_flags.write_frame_kind.Goals as goal

pub returns : goal.returns
unfolding frame_kind
returns c = search writing depth 8
