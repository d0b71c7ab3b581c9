use Rattle.av1_header.proofs.RowLaws.{writing}
use Rattle.av1_header.specs.FrameHeader.{frame_sides}
use Rattle.av1_header.proofs.frame_header.write_frame_sides.Goals as goal

pub returns-then-kind : goal.returns-then-kind
unfolding frame_sides
returns-then-kind c = search writing depth 8

pub returns-else-kind : goal.returns-else-kind
unfolding frame_sides
returns-else-kind c = search writing depth 8
