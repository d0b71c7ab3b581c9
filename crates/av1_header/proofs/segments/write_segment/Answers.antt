use Rattle.std.proofs.Common.{arith, rules}
use Rattle.av1_header.proofs.RowLaws.{each_next, each_done, wrote_on}
use Rattle.av1_header.specs.Segments.{segment}
use Rattle.av1_header.proofs.segments.write_segment.Goals as goal

pub loop-j-preserved : goal.loop-j-preserved
loop-j-preserved c r new rest = c.loop-j.invariant r new (each_next _ _ _ _ _ _ _ _ _ _ _ _ (omega arith) (omega arith) (wrote_on _ _ _ _ _ _ _ _ _ c.write_feature.ensures (search rules)) rest)

pub returns : goal.returns
unfolding segment
returns c = c.loop-j.invariant _ _ (each_done _ _ _ _ _ _ (omega arith))
