use Rattle.av1_header.proofs.RowLaws.{writing}
use Rattle.av1_header.specs.FrameFlags.{ref_frames}
use Rattle.av1_header.proofs.frame_flags.write_ref_frames.Goals as goal

pub returns : goal.returns
unfolding ref_frames
returns c = search writing depth 8
