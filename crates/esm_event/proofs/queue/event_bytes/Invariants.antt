use Rattle.std.proofs.Common.{◌≡◌, ◌+◌, min, take, length, sum_by}
use Rattle.esm_model.specs.QueueEvent.{queue_record_text}
use Rattle.esm_model.specs.declared.received.Received.{Received}
use Rattle.esm_event.proofs.queue.event_bytes.Given as goal

abbrev pub invariant-loop-item : goal.invariant-loop-item
invariant-loop-item l =
    l.total ≡ min (13 + sum_by (λ (r : Received). length (queue_record_text l.config r)) (take l.item-index l.batch) + l.item-index) 18446744073709551615
