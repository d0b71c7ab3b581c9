use Rattle.std.proofs.Common.{arith}
use Rattle.av1_script.proofs.Falling.{falls_none, falls_more}
use Rattle.av1_script.proofs.args.is_cdf.Goals as goal

pub loop-i-init : goal.loop-i-init
loop-i-init c = falls_none _

pub loop-i-preserved : goal.loop-i-preserved
loop-i-preserved c = falls_more _ _ _ c.loop-i.invariant (omega arith)
