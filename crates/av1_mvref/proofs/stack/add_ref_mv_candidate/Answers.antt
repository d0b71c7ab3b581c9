use Rattle.std.proofs.Common.{arith, true}
use Rattle.av1_mvref.specs.Candidates.{vector_of}
use Rattle.av1_mvref.proofs.Noting.{length-fold, heaviest-vector}
use Rattle.av1_mvref.proofs.stack.add_ref_mv_candidate.Goals as goal

pub add_vector-second-requires-clause-few : goal.add_vector-second-requires-clause-few
add_vector-second-requires-clause-few c = rw c.add_vector-first.ensures.items (length-fold (vector_of c.args.wanted record { block = c.args.block.now; weight = c.args.weight; is_above = true } 0) c.args.stack.now.items c.requires.few)

pub add_vector-second-requires-clause-light : goal.add_vector-second-requires-clause-light
add_vector-second-requires-clause-light c =
    let light = heaviest-vector c.args.wanted record { block = c.args.block.now; weight = c.args.weight; is_above = true } 0 c.args.stack.now.items in
    rw c.add_vector-first.ensures.items (omega arith)
