use Rattle.std.proofs.Common.{arith, rules}
use Rattle.av1_header.proofs.RowLaws.{each_next, each_done, wrote_on}
use Rattle.av1_header.specs.Filters.{global_motion_params}
use Rattle.av1_header.proofs.filters.write_motions.Goals as goal

pub loop-i-preserved : goal.loop-i-preserved
loop-i-preserved c r new rest = c.loop-i.invariant r new (each_next _ _ _ _ _ _ _ _ _ _ _ _ (omega arith) (omega arith) (wrote_on _ _ _ _ _ _ _ _ _ c.write_motion.ensures (search rules)) rest)

pub returns : goal.returns
unfolding global_motion_params
returns c = c.loop-i.invariant _ _ (each_done _ _ _ _ _ _ (omega arith))
