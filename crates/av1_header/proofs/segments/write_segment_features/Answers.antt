use Rattle.std.proofs.Common.{arith}
use Rattle.av1_header.proofs.RowLaws.{each_next, each_done}
use Rattle.av1_header.specs.Segments.{segment_features}
use Rattle.av1_header.proofs.segments.write_segment_features.Goals as goal

pub loop-i-preserved : goal.loop-i-preserved
loop-i-preserved c r new rest = c.loop-i.invariant r new (each_next _ _ _ _ _ _ _ _ _ _ _ _ (omega arith) (omega arith) c.write_segment.ensures rest)

pub returns : goal.returns
unfolding segment_features
returns c = c.loop-i.invariant _ _ (each_done _ _ _ _ _ _ (omega arith))
