use Rattle.std.proofs.Common.{◌∙◌, sym}
use Rattle.esm_model.proofs.EventFacts.{event_parts}
use Rattle.esm_event.proofs.event.event_of.Goals as goal

pub returns : goal.returns
returns c =
    let end = rw c.new-tail.ensures.items at c.in_ok-push_end.ensures in
    c.of_records.ensures ∙ rw (c.in_ok-head.ensures.items, c.in_ok-source.ensures, end) (sym (event_parts c.args.config.now c.args.records.items _))
