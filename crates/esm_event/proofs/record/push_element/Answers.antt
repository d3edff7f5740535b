use Rattle.esm_event.proofs.Appending.{then}
use Rattle.esm_event.specs.Elements.{element_text}
use Rattle.esm_event.proofs.record.push_element.Goals as goal

pub returns : goal.returns
unfolding element_text
returns c =
    let old = c.args.out.now.items in
    let to_2 = then old c.push_bytes.new.out.items c.push_content.new.out.items _ _ c.in_ok-push_bytes.ensures c.in_ok-push_content.ensures in
    let to_3 = then old c.push_content.new.out.items c.push_bytes-2.new.out.items _ _ to_2 c.in_ok-push_bytes-2.ensures in
    let to_4 = then old c.push_bytes-2.new.out.items c.push_bytes-3.new.out.items _ _ to_3 (rw c.seq.ensures.value at c.in_ok-push_bytes-3.ensures) in
    then old c.push_bytes-3.new.out.items c.push_bytes-4.new.out.items _ _ to_4 c.in_ok-push_bytes-4.ensures
