use Rattle.av1_make.proofs.Making.{makes_one_more}
use Rattle.av1_make.proofs.tree.add_superblocks.Goals as goal

pub loop-k-preserved : goal.loop-k-preserved
loop-k-preserved c = makes_one_more _ _ _ _ _ _ c.loop-k.invariant c.in_ok-add_superblock.ensures
