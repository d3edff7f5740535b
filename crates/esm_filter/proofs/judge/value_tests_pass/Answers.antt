use Rattle.esm_model.specs.Leaves.{leaves}
use Rattle.esm_filter.specs.Found.{value_of}
use Rattle.esm_filter.proofs.LeafLemmas.{tests_over}
use Rattle.esm_filter.proofs.judge.value_tests_pass.Goals as goal

pub returns : goal.returns
returns c = tests_over (leaves (value_of c.args.value)) c.args.tests.now c.value_passes_any.result c.value_passes_any.ensures
