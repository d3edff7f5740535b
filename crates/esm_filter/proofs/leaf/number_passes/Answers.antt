use Rattle.serde_json.specs.Data as json
use Rattle.serde_json.specs.View.{number_view}
use Rattle.esm_filter.proofs.ViewLemmas.{but_passes, meets_passes}
use Rattle.esm_filter.proofs.leaf.number_passes.Goals as goal

pub returns-in-AnythingBut : goal.returns-in-AnythingBut
returns-in-AnythingBut c =
    rw c.in-AnythingBut.is
    (but_passes (json.number (number_view c.args.number.now)) c.in-AnythingBut.scalars.items c.deref.result.now c.number_equals_any.result c.deref.ensures.value c.number_equals_any.ensures)

pub returns-in-Numeric : goal.returns-in-Numeric
returns-in-Numeric c =
    rw c.in-Numeric.is
    (meets_passes (number_view c.args.number.now) c.in-Numeric.bounds.items c.deref-in-Numeric.result.now c.number_meets.result c.deref-in-Numeric.ensures.value c.number_meets.ensures)
