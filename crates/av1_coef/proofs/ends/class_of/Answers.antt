use Rattle.av1_coef.proofs.EndClasses.{end_as}
use Rattle.av1_coef.proofs.ends.class_of.Goals as goal

pub returns-then-eob-lt33 : goal.returns-then-eob-lt33
returns-then-eob-lt33 c =
    let e = end_as c.args.eob c.small_class.result c.small_class.ensures c.requires.some c.requires.most in
    record { value = c.small_class.ensures; least = e.least; highest = e.most; from = e.from; few = e.few }

pub returns-else-eob-lt33 : goal.returns-else-eob-lt33
returns-else-eob-lt33 c =
    let e = end_as c.args.eob c.large_class.result c.large_class.ensures c.requires.some c.requires.most in
    record { value = c.large_class.ensures; least = e.least; highest = e.most; from = e.from; few = e.few }
