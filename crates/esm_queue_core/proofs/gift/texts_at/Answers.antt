use Rattle.std.proofs.Common.{◌++◌, ◌∙◌}
use Rattle.esm_queue_core.specs.Kept.{messages_stored}
use Rattle.esm_queue_core.proofs.Walking.{ids_more}
use Rattle.esm_queue_core.proofs.gift.texts_at.Goals as goal

pub loop-place-preserved : goal.loop-place-preserved
loop-place-preserved c =
    ids_more (messages_stored c.args.queue.now.state ++ c.args.coming.now) c.args.places.now c.loop-place.place-index c.message_for.result.now c.loop-place.ids _ c.as_bytes.result.now
    c.loop-place-test.true c.message_for.ensures (c.as_bytes.ensures.value ∙ c.as_str-id.ensures) c.loop-place.invariant c.in_ok-ids-2.ensures
