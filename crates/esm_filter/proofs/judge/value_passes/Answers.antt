use Rattle.esm_model.specs.Leaves.{leaves}
use Rattle.esm_filter.specs.Found.{value_of}
use Rattle.esm_filter.specs.View.{test_view}
use Rattle.esm_filter.proofs.LeafLemmas.{absence, presence}
use Rattle.esm_filter.proofs.judge.value_passes.Goals as goal

pub returns-then-absence : goal.returns-then-absence
returns-then-absence c =
    absence (leaves (value_of c.args.value)) (test_view c.args.test.now) c.value_leaves_pass.result c.is_absence-absence.result c.is_absence-absence.ensures c.if-absence.true c.value_leaves_pass.ensures

pub returns-else-absence : goal.returns-else-absence
returns-else-absence c =
    presence (leaves (value_of c.args.value)) (test_view c.args.test.now) c.value_leaves_pass-else-absence.result c.is_absence-absence.result c.is_absence-absence.ensures c.if-absence.false c.value_leaves_pass-else-absence.ensures
