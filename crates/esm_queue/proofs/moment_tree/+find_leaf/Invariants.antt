use Rattle.esm_queue.proofs.moment_tree.+find_leaf.Given as goal

abbrev pub decreases-find_leaf : goal.decreases-find_leaf
decreases-find_leaf l = l.height
