use Rattle.std.proofs.Common.{true, arith}
use Rattle.av1_mvref.specs.Neighbours.{Neighbour}
use Rattle.av1_mvref.proofs.Noting.{length-took, heaviest-took}
use Rattle.av1_mvref.proofs.neighbours.visit_corner.Goals as goal

pub returns-clause-few : goal.returns-clause-few
returns-clause-few c =
    let n : Neighbour = record { block = c.at-block.result.now; weight = 4; is_above = true } in
    rw c.add_ref_mv_candidate-above.ensures.items (length-took c.args.wanted n c.args.stack.now.items c.requires.few)

pub returns-clause-light : goal.returns-clause-light
returns-clause-light c =
    let n : Neighbour = record { block = c.at-block.result.now; weight = 4; is_above = true } in
    let light = heaviest-took c.args.wanted n c.args.stack.now.items in
    rw c.add_ref_mv_candidate-above.ensures.items (omega arith)
