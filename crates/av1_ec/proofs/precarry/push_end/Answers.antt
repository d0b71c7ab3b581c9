use Rattle.std.proofs.Common.{arith}
use Rattle.av1_ec.proofs.Encoding.{all_pushed}
use Rattle.av1_ec.proofs.Ending.{rounded_fits, rounded_small, ended, ended_two}
use Rattle.av1_ec.proofs.precarry.push_end.Goals as goal

pub overflow_cast-end : goal.overflow_cast-end
overflow_cast-end c = record { fits = rounded_fits c.args.low c.args.weight c.requires.least c.requires.most c.requires.low }

pub returns-in_ok-push-2-clause-carries : goal.returns-in_ok-push-2-clause-carries
returns-in_ok-push-2-clause-carries c =
    all_pushed _ _ _ (all_pushed _ _ _ c.requires.carries (rounded_small c.args.low c.args.weight c.requires.least c.requires.most c.requires.low) c.in_ok-push.ensures.items) (omega arith) c.in_ok-push-2.ensures.items

pub returns-in_ok-push-2-clause-bytes : goal.returns-in_ok-push-2-clause-bytes
returns-in_ok-push-2-clause-bytes c =
    ended_two _ _ _ _ _ c.if-weight-eq23.true c.requires.low c.in_ok-push.ensures.items c.in_ok-push-2.ensures.items

pub returns-else-weight-eq23-clause-carries : goal.returns-else-weight-eq23-clause-carries
returns-else-weight-eq23-clause-carries c = all_pushed _ _ _ c.requires.carries (rounded_small c.args.low c.args.weight c.requires.least c.requires.most c.requires.low) c.in_ok-push.ensures.items

pub returns-else-weight-eq23-clause-bytes : goal.returns-else-weight-eq23-clause-bytes
returns-else-weight-eq23-clause-bytes c = ended _ _ _ _ c.requires.least c.requires.most c.if-weight-eq23.false c.requires.low c.in_ok-push.ensures.items
