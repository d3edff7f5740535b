use Rattle.esm_model.specs.EventText.{event_in}
use Rattle.esm_event.specs.Elements.{ending_in}
use Rattle.esm_event.proofs.Appending.{then}
use Rattle.esm_event.proofs.writing.write_parts.Goals as goal

pub returns : goal.returns
unfolding event_in ending_in
returns c =
    let old = c.reserve_exact.new.self.items in
    let to_2 = then old c.push_bytes.new.out.items c.push_records.new.out.items _ _ c.in_ok-push_bytes.ensures c.in_ok-push_records.ensures in
    let whole = then old c.push_records.new.out.items c.push_bytes-2.new.out.items _ _ to_2 c.in_ok-push_bytes-2.ensures in
    rw (c.reserve_exact.ensures.items, c.clear.ensures.items) at whole
