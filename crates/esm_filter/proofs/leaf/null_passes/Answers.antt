use Rattle.esm_filter.proofs.ViewLemmas.{null_but}
use Rattle.esm_filter.proofs.leaf.null_passes.Goals as goal

pub returns-in-AnythingBut : goal.returns-in-AnythingBut
returns-in-AnythingBut c = rw c.in-AnythingBut.is (null_but c.in-AnythingBut.field-0.items)
