use Rattle.std.proofs.Common.{length, ap, ◌∙◌, sym}
use Rattle.esm_model.specs.EventText.{event_in}
use Rattle.esm_model.proofs.EventFacts.{event_parts}
use Rattle.esm_model.proofs.EventLength.{length-event_text}
use Rattle.esm_event.specs.Elements.{ending_in}
use Rattle.esm_event.proofs.Appending.{then}
use Rattle.esm_event.proofs.event.stream_event.Goals as goal

pub returns-clause-text : goal.returns-clause-text
unfolding event_in ending_in
returns-clause-text c =
    let old = c.in_ok-text.text.items in
    let elements = rw (c.as_slice.ensures.value, c.in_ok-source.ensures) at c.in_ok-push_records.ensures in
    let to_2 = then old c.push_bytes.new.out.items c.push_records.new.out.items _ _ c.in_ok-push_bytes.ensures elements in
    let whole = then old c.push_records.new.out.items c.push_end.new.out.items _ _ to_2 c.in_ok-push_end.ensures in
    rw c.in_ok-text.ensures.items at whole ∙ sym (event_parts c.args.config.now c.args.batch.now _)

pub returns-clause-length : goal.returns-clause-length
returns-clause-length c =
    ap length (returns-clause-text c) ∙ length-event_text c.args.config.now c.args.batch.now _
