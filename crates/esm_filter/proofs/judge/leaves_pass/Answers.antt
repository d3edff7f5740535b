use Rattle.esm_model.specs.Leaves.{leaf_passes}
use Rattle.esm_filter.specs.Found.{found_view}
use Rattle.esm_filter.specs.View.{test_view}
use Rattle.esm_filter.proofs.LeafLemmas.{alone, among}
use Rattle.esm_filter.proofs.judge.leaves_pass.Goals as goal

pub returns-in-Some : goal.returns-in-Some
returns-in-Some c = among (leaf_passes (test_view c.args.test.now)) (found_view c.args.value.now) c.in-Some.items.now c.items_pass.result c.in-Some.ensures c.items_pass.ensures

pub returns-in-None : goal.returns-in-None
returns-in-None c = alone (leaf_passes (test_view c.args.test.now)) (found_view c.args.value.now) c.is_passing_leaf.result c.in-None.ensures c.is_passing_leaf.ensures
