use Rattle.std.proofs.Common.{◌∙◌, length, filter, Some, None, sym, ap, rules}
use Rattle.serde_json.specs.View.{view, items_view}
use Rattle.esm_model.specs.Entries.{holds}
use Rattle.esm_model.specs.Fates.{below}
use Rattle.esm_model.specs.declared.verdict.QueueReading.TheVariants.{Done}
use Rattle.esm_verdict.proofs.IndexLemmas.{indexed_as}
use Rattle.esm_verdict.proofs.ReadingLemmas.{reads_queue_listed, reads_none_listed}
use Rattle.esm_verdict.proofs.queue.value_reading.Goals as goal

pub returns-then-is_empty : goal.returns-then-is_empty
returns-then-is_empty c =
    c.done.ensures ∙ sym (reads_none_listed c.args.ids.now (view c.args.value.now) c.in-Some.failures.now (search rules) c.in-Some.ensures)

pub returns-in-Some-2 : goal.returns-in-Some-2
returns-in-Some-2 c =
    let reads = reads_queue_listed c.args.ids.now (view c.args.value.now) (items_view c.in-Some.failures.now) (Some c.in-Some-2.reported) c.in-Some.ensures
    (sym c.in-Some-2.is ∙ c.in_ok-reported.ensures c.args.ids.now (indexed_as c.args.ids.now c.in_ok-index.index c.in_ok-index.ensures)) in
    let places = c.in_ok-failed_positions-in-Some-2.ensures in
    ap Done places ∙ ap (λ ps. Done (filter (holds ps) (below (length c.args.ids.now)))) c.as_slice.ensures ∙ reads

pub returns : goal.returns
returns c =
    reads_queue_listed c.args.ids.now (view c.args.value.now) (items_view c.in-Some.failures.now) None c.in-Some.ensures
    (sym c.in-None.is ∙ c.in_ok-reported.ensures c.args.ids.now (indexed_as c.args.ids.now c.in_ok-index.index c.in_ok-index.ensures))
