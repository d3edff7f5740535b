use Rattle.esm_event.proofs.Appending.{then}
use Rattle.esm_model.specs.QueueEvent.{queue_record_text}
use Rattle.esm_event.proofs.message.push_message.Goals as goal

pub returns : goal.returns
unfolding queue_record_text
returns c =
    let old = c.args.out.now.items in
    let to_2 = then old c.push_identity.new.out.items c.push_attributes.new.out.items _ _ c.in_ok-push_identity.ensures c.in_ok-push_attributes.ensures in
    let to_3 = then old c.push_attributes.new.out.items c.push_digest.new.out.items _ _ to_2 c.in_ok-push_digest.ensures in
    then old c.push_digest.new.out.items c.push_queue.new.out.items _ _ to_3 c.in_ok-push_queue.ensures
