use Rattle.serde_json.specs.Data.{string}
use Rattle.esm_filter.specs.View.{test_view}
use Rattle.esm_filter.proofs.LeafLemmas.{one_absent, one_present}
use Rattle.esm_filter.proofs.judge.text_passes_test.Goals as goal

pub returns-then-absence : goal.returns-then-absence
returns-then-absence c = one_absent (string c.args.text.now) (test_view c.args.test.now) c.is_absence-absence.result c.is_absence-absence.ensures c.if-absence.true

pub returns-else-absence : goal.returns-else-absence
returns-else-absence c = one_present (string c.args.text.now) (test_view c.args.test.now) c.text_passes.result c.is_absence-absence.result c.is_absence-absence.ensures c.if-absence.false c.text_passes.ensures
