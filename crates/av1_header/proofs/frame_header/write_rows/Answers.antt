use Rattle.av1_header.proofs.RowLaws.{writing}
use Rattle.av1_header.specs.FrameHeader.{frame_rows}
use Rattle.av1_header.proofs.frame_header.write_rows.Goals as goal

pub returns : goal.returns
unfolding frame_rows
returns c = search writing depth 8
