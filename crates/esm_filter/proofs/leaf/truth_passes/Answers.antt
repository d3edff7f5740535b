use Rattle.esm_filter.proofs.ViewLemmas.{truth_but}
use Rattle.esm_filter.proofs.leaf.truth_passes.Goals as goal

pub returns-in-AnythingBut : goal.returns-in-AnythingBut
returns-in-AnythingBut c = rw c.in-AnythingBut.is (truth_but c.args.truth c.in-AnythingBut.field-0.items)
