use Rattle.std.proofs.Common.{◌-◌, length, inl, inr, ◌∙◌, arith}
use Rattle.std.proofs.lemmas.Bool.{cases_lt}
use Rattle.av1_ec.proofs.Moving.{moved_there}
use Rattle.av1_ec.proofs.lanes.learn_long.Goals as goal

pub returns-clause-moved : goal.returns-clause-moved
returns-clause-moved c k h =
    let old = c.args.cdf.now in
    let from = length old - 8 in
    elim (cases_lt k from) [
      | inl u ↦
          (c.put_eight-2.ensures.kept k).0 u
          ∙ moved_there old c.put_eight.new.cdf c.learned-first.result c.eight.result 0 c.args.rate c.args.val k (omega arith) (omega (arith, c.requires.most))
          c.put_eight.ensures.put c.learned-first.ensures.lanes c.eight.ensures.lanes
      | inr u ↦
          moved_there old c.put_eight-2.new.cdf c.learned-last.result c.eight-2.result from c.args.rate c.args.val k u (omega (arith, c.requires.least))
          c.put_eight-2.ensures.put c.learned-last.ensures.lanes c.eight-2.ensures.lanes
    ]
