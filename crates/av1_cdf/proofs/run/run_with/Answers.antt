use Rattle.std.proofs.Common.{◌+◌, ◌*◌, ◌≤◌, subst, arith}
use Rattle.av1_cdf.specs.declared.run.Run.{Run}
use Rattle.av1_cdf.proofs.Cells.{next_run}
use Rattle.av1_cdf.proofs.run.run_with.Goals as goal

pub returns-else-k-end : goal.returns-else-k-end
returns-else-k-end c =
    next_run _ _ c.requires.run
    (subst (λ (r : Run). r.place + r.count * r.len ≤ c.args.k) c.run_at.ensures.is (omega arith)) c.requires.k
