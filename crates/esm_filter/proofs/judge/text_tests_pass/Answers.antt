use Rattle.std.proofs.Common.{[], ◌∷◌}
use Rattle.serde_json.specs.Data.{string}
use Rattle.esm_filter.proofs.LeafLemmas.{tests_over}
use Rattle.esm_filter.proofs.judge.text_tests_pass.Goals as goal

pub returns : goal.returns
returns c = tests_over (string c.args.text.now ∷ []) c.args.tests.now c.text_passes_any.result c.text_passes_any.ensures
