use Rattle.av1_make.specs.Draws.{Makes}
use Rattle.av1_make.specs.Tree.{superblocks}
use Rattle.av1_make.proofs.tree.add_superblocks.Given as goal

abbrev pub invariant-loop-k : goal.invariant-loop-k
invariant-loop-k l = Makes (superblocks l.area l.across l.k) l.initial.maker l.maker
