use Rattle.av1_header.proofs.RowLaws.{writing}
use Rattle.av1_header.specs.FrameFlags.{vectors}
use Rattle.av1_header.proofs.frame_flags.write_vectors.Goals as goal

pub returns : goal.returns
unfolding vectors
returns c = search writing depth 8
