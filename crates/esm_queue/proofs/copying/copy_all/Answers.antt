use Rattle.esm_queue.proofs.Changing.{copied_more}
use Rattle.esm_queue.proofs.copying.copy_all.Goals as goal

pub loop-place-preserved : goal.loop-place-preserved
loop-place-preserved c =
    copied_more c.args.now c.args.messages.now c.args.places.now c.loop-place.place-index c.loop-place.given.items c.push.new.self.items
    c.in_ok-copy_received.field-0 c.index-messages-place.result
    c.loop-place-test.true c.requires c.loop-place.invariant c.in_ok-push.ensures.items c.index-messages-place.is c.in_ok-copy_received.ensures
