use Rattle.std.proofs.Common.{◌≡◌, ◌+◌, ◌-◌, min, take, length, sum_by}
use Rattle.esm_model.specs.EventText.{record_text}
use Rattle.esm_model.specs.Records.{Record}
use Rattle.esm_event.proofs.event.event_bytes.Given as goal

abbrev pub invariant-loop-item : goal.invariant-loop-item
invariant-loop-item l =
    l.total ≡ min (l.frame - 1 + sum_by (λ (r : Record). length (record_text l.config r)) (take l.item-index l.batch) + l.item-index) 18446744073709551615
