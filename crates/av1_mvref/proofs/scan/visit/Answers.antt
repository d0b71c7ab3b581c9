use Rattle.std.proofs.Common.{arith, true}
use Rattle.av1_mvref.proofs.Noting.{heaviest-took}
use Rattle.av1_mvref.proofs.scan.visit.Goals as goal

pub returns-then-new-clause-light : goal.returns-then-new-clause-light
returns-then-new-clause-light c =
    let light = heaviest-took c.args.wanted record { block = c.args.block.now; weight = c.weight_of-weight.result; is_above = true } c.args.stack.now.items in
    rw c.add_ref_mv_candidate-found.ensures.items (omega arith)

pub returns-else-new-clause-light : goal.returns-else-new-clause-light
returns-else-new-clause-light c =
    let light = heaviest-took c.args.wanted record { block = c.args.block.now; weight = c.weight_of-weight.result; is_above = true } c.args.stack.now.items in
    rw c.add_ref_mv_candidate-found.ensures.items (omega arith)
