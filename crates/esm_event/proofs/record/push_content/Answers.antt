use Rattle.esm_event.proofs.Appending.{then}
use Rattle.esm_event.specs.Elements.{content_text}
use Rattle.esm_event.proofs.record.push_content.Goals as goal

pub returns : goal.returns
unfolding content_text
returns c =
    let old = c.args.out.now.items in
    let to_2 = then old c.push_escaped.new.out.items c.push_bytes.new.out.items _ _ (rw c.key.ensures.value at c.in_ok-push_escaped.ensures) c.in_ok-push_bytes.ensures in
    let to_3 = then old c.push_bytes.new.out.items c.push_bytes-2.new.out.items _ _ to_2 (rw c.seq.ensures.value at c.in_ok-push_bytes-2.ensures) in
    let to_4 = then old c.push_bytes-2.new.out.items c.push_bytes-3.new.out.items _ _ to_3 c.in_ok-push_bytes-3.ensures in
    let to_5 = then old c.push_bytes-3.new.out.items c.push_bytes-4.new.out.items _ _ to_4 (rw c.base64.ensures at c.in_ok-push_bytes-4.ensures) in
    let to_6 = then old c.push_bytes-4.new.out.items c.push_bytes-5.new.out.items _ _ to_5 c.in_ok-push_bytes-5.ensures in
    then old c.push_bytes-5.new.out.items c.push_seconds.new.out.items _ _ to_6 (rw c.arrival.ensures at c.in_ok-push_seconds.ensures)
