use Rattle.std.proofs.Common.{◌∙◌, Some, None, sym, ap}
use Rattle.serde_json.specs.View.{view, items_view}
use Rattle.esm_model.specs.Reading.{least_reading}
use Rattle.esm_verdict.proofs.IndexLemmas.{indexed_as}
use Rattle.esm_verdict.proofs.ReadingLemmas.{reads_listed}
use Rattle.esm_verdict.proofs.stream.value_reading.Goals as goal

pub returns-in-Some-2 : goal.returns-in-Some-2
returns-in-Some-2 c =
    c.least_reading.ensures ∙ ap (λ ps. least_reading (Some ps)) c.as_slice.ensures
    ∙ reads_listed c.args.batch.now (view c.args.value.now) (items_view c.in-Some.failures.now) (Some c.in-Some-2.reported) c.in-Some.ensures
    (sym c.in-Some-2.is ∙ c.in_ok-reported.ensures c.args.batch.now (indexed_as c.args.batch.now c.in_ok-index.index c.in_ok-index.ensures))

pub returns : goal.returns
returns c =
    reads_listed c.args.batch.now (view c.args.value.now) (items_view c.in-Some.failures.now) None c.in-Some.ensures
    (sym c.in-None.is ∙ c.in_ok-reported.ensures c.args.batch.now (indexed_as c.args.batch.now c.in_ok-index.index c.in_ok-index.ensures))
