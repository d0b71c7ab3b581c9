use Rattle.av1_make.proofs.tree.+add_node.Given as goal

abbrev pub decreases-add_node : goal.decreases-add_node
decreases-add_node l = l.level
