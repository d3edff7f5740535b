use Rattle.esm_event.proofs.Appending.{then}
use Rattle.esm_ddb.proofs.element.push_event.Goals as goal

pub returns : goal.returns
returns c =
    let old = c.args.out.now.items in
    let to_2 = then old c.push_bytes.new.out.items c.push_quoted.new.out.items _ _ c.in_ok-push_bytes.ensures (rw c.as_bytes.ensures.value at c.in_ok-push_quoted.ensures) in
    let to_3 = then old c.push_quoted.new.out.items c.push_bytes-2.new.out.items _ _ to_2 c.in_ok-push_bytes-2.ensures in
    let to_4 = then old c.push_bytes-2.new.out.items c.push_quoted-2.new.out.items _ _ to_3 (rw c.as_bytes-2.ensures.value at c.in_ok-push_quoted-2.ensures) in
    let to_5 = then old c.push_quoted-2.new.out.items c.push_bytes-3.new.out.items _ _ to_4 c.in_ok-push_bytes-3.ensures in
    then old c.push_bytes-3.new.out.items c.push_quoted-3.new.out.items _ _ to_5 (rw c.as_slice.ensures at c.in_ok-push_quoted-3.ensures)
