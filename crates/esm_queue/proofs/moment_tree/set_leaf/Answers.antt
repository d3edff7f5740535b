use Rattle.esm_queue.proofs.Trees.{others_stay}
use Rattle.esm_queue.proofs.moment_tree.set_leaf.Goals as goal

pub returns-clause-others : goal.returns-clause-others
returns-clause-others c = λ i low other. others_stay c.loop-node.nodes c.args.nodes.now c.args.width c.args.place c.args.moment i c.loop-node.invariant.leaves low other
