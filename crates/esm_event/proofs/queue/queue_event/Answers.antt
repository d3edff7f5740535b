use Rattle.std.proofs.Common.{length, ap, ◌∙◌}
use Rattle.esm_model.specs.QueueEvent.{queue_event_text}
use Rattle.esm_event.proofs.Appending.{then}
use Rattle.esm_event.proofs.QueueLengths.{event_length}
use Rattle.esm_event.proofs.queue.queue_event.Goals as goal

pub returns-clause-text : goal.returns-clause-text
unfolding queue_event_text
returns-clause-text c =
    let old = c.in_ok-out.out.items in
    let to_2 = then old c.push_bytes.new.out.items c.push_messages.new.out.items _ _ c.in_ok-push_bytes.ensures c.in_ok-push_messages.ensures in
    let whole = then old c.push_messages.new.out.items c.push_bytes-2.new.out.items _ _ to_2 c.in_ok-push_bytes-2.ensures in
    rw c.in_ok-out.ensures.items at whole

pub returns-clause-length : goal.returns-clause-length
returns-clause-length c =
    ap length (returns-clause-text c) ∙ event_length c.args.config.now c.args.batch.now
