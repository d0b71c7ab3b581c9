use Rattle.av1_header.proofs.RowLaws.{writing}
use Rattle.av1_header.specs.FrameFlags.{ref_order_hint}
use Rattle.av1_header.proofs.frame_flags.write_ref_hint.Goals as goal

pub returns : goal.returns
unfolding ref_order_hint
returns c = search writing depth 8
