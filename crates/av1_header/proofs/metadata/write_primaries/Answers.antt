use Rattle.std.proofs.Common.{arith, rules}
use Rattle.av1_header.proofs.RowLaws.{each_next, each_done, wrote_on}
use Rattle.av1_header.specs.Metadata.{primaries}
use Rattle.av1_header.proofs.metadata.write_primaries.Goals as goal

pub loop-i-preserved : goal.loop-i-preserved
loop-i-preserved c r new rest = c.loop-i.invariant r new (each_next _ _ _ _ _ _ _ _ _ _ _ _ (omega arith) (omega arith) (wrote_on _ _ _ _ _ _ _ _ _ c.write_primary.ensures (search rules)) rest)

pub returns : goal.returns
unfolding primaries
returns c = c.loop-i.invariant _ _ (each_done _ _ _ _ _ _ (omega arith))
