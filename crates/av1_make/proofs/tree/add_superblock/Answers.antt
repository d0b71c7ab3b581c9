use Rattle.av1_make.specs.Tree.{superblock}
use Rattle.av1_make.proofs.Making.{then_makes}
use Rattle.av1_make.proofs.tree.add_superblock.Goals as goal

pub returns : goal.returns
unfolding superblock
returns c = then_makes _ _ _ _ _ _ c.in_ok-begin_row.ensures (then_makes _ _ _ _ _ _ c.in_ok-add_trial.ensures c.add_trial-2.ensures)
