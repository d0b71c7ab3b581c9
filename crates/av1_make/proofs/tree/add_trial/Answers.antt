use Rattle.av1_make.specs.Tree.{trial}
use Rattle.av1_make.proofs.Making.{then_makes}
use Rattle.av1_make.proofs.tree.add_trial.Goals as goal

pub returns : goal.returns
unfolding trial
returns c = then_makes _ _ _ _ _ _ c.in_ok-add.ensures (then_makes _ _ _ _ _ _ c.in_ok-add_node.ensures c.add-2.ensures)
