use Rattle.std.proofs.Common.{arith}
use Rattle.av1_header.proofs.RowLaws.{each_next, each_done}
use Rattle.av1_header.specs.FrameFlags.{ref_order_hints}
use Rattle.av1_header.proofs.frame_flags.write_ref_hints.Goals as goal

pub loop-i-preserved : goal.loop-i-preserved
loop-i-preserved c r new rest = c.loop-i.invariant r new (each_next _ _ _ _ _ _ _ _ _ _ _ _ (omega arith) (omega arith) c.write_ref_hint.ensures rest)

pub returns : goal.returns
unfolding ref_order_hints
returns c = c.loop-i.invariant _ _ (each_done _ _ _ _ _ _ (omega arith))
