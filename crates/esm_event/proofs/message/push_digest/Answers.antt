use Rattle.esm_event.proofs.Appending.{then}
use Rattle.esm_event.proofs.message.push_digest.Goals as goal

pub returns : goal.returns
returns c =
    let old = c.args.out.now.items in
    let to_2 = then old c.push_bytes.new.out.items c.push_hexadecimal_bytes.new.out.items _ _ c.in_ok-push_bytes.ensures (rw (c.digest-digest.ensures, c.as_slice.ensures) at c.in_ok-push_hexadecimal_bytes.ensures) in
    then old c.push_hexadecimal_bytes.new.out.items c.push_bytes-2.new.out.items _ _ to_2 c.in_ok-push_bytes-2.ensures
