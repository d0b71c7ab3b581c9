use Rattle.std.proofs.Common.{arith, rules}
use Rattle.av1_header.proofs.RowLaws.{each_next, each_done, wrote_on}
use Rattle.av1_header.specs.Deltas.{ref_deltas}
use Rattle.av1_header.proofs.deltas.write_ref_deltas.Goals as goal

pub loop-i-preserved : goal.loop-i-preserved
loop-i-preserved c r new rest = c.loop-i.invariant r new (each_next _ _ _ _ _ _ _ _ _ _ _ _ (omega arith) (omega arith) (wrote_on _ _ _ _ _ _ _ _ _ c.write_changed.ensures (search rules)) rest)

pub returns : goal.returns
unfolding ref_deltas
returns c = c.loop-i.invariant _ _ (each_done _ _ _ _ _ _ (omega arith))
