use Rattle.std.proofs.Common.{arith, sym}
use Rattle.esm_event.proofs.QueueLengths.{none_long, all_long}
use Rattle.esm_event.proofs.queue.event_bytes.Goals as goal

pub returns-then-is_empty : goal.returns-then-is_empty
returns-then-is_empty c = none_long c.args.config.now c.args.batch.now (sym c.if-is_empty.ensures)

pub returns : goal.returns
returns c =
    all_long c.args.config.now c.args.batch.now c.loop-item.item-index c.loop-item.total (omega arith) (sym c.if-is_empty.ensures) c.loop-item.invariant
