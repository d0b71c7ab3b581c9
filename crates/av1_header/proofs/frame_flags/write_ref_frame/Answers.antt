use Rattle.av1_header.proofs.RowLaws.{writing}
use Rattle.av1_header.specs.FrameFlags.{ref_frame_idx}
use Rattle.av1_header.proofs.frame_flags.write_ref_frame.Goals as goal

pub returns : goal.returns
unfolding ref_frame_idx
returns c = search writing depth 8
