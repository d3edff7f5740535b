use Rattle.std.proofs.Common.{arith, sym}
use Rattle.esm_event.proofs.EventBytes.{none_counted, all_counted}
use Rattle.esm_event.proofs.event.event_bytes.Goals as goal

pub returns-then-is_empty : goal.returns-then-is_empty
returns-then-is_empty c = none_counted c.args.config.now c.args.batch.now _ _ (sym c.if-is_empty.ensures) c.frame_bytes-frame.ensures (omega arith)

pub returns : goal.returns
returns c =
    all_counted c.args.config.now c.args.batch.now _ c.loop-item.item-index _ c.loop-item.total (omega arith) (sym c.if-is_empty.ensures) c.frame_bytes-frame.ensures c.loop-item.invariant
