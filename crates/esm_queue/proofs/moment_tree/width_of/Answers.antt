use Rattle.std.proofs.Common.{arith}
use Rattle.esm_queue.proofs.Trees.{shifted, few_leaves}
use Rattle.esm_queue.proofs.moment_tree.width_of.Goals as goal

pub returns-clause-few : goal.returns-clause-few
returns-clause-few c = omega (arith, shifted c.args.height c.requires, few_leaves c.args.height c.requires)
