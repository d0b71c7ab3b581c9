use Rattle.std.proofs.lemmas.Bool.{ne_eqb}
use Rattle.av1_make.specs.Tree.{begun}
use Rattle.av1_make.proofs.Making.{makes_nothing}
use Rattle.av1_make.proofs.tree.begin_row.Goals as goal

pub returns-in_ok-add_step : goal.returns-in_ok-add_step
unfolding begun
returns-in_ok-add_step c = rw c.if-x-eq0.true c.in_ok-add_step.ensures

pub returns-else-x-eq0 : goal.returns-else-x-eq0
unfolding begun
returns-else-x-eq0 c = rw (ne_eqb c.args.x 0 c.if-x-eq0.false) (makes_nothing c.args.maker.now)
