use Rattle.esm_event.proofs.Appending.{then}
use Rattle.esm_event.proofs.failure.push_request_id.Goals as goal

pub returns : goal.returns
returns c =
    let old = c.args.out.now.items in
    let to_2 = then old c.push_hexadecimal.new.out.items c.push_bytes.new.out.items _ _ c.in_ok-push_hexadecimal.ensures c.in_ok-push_bytes.ensures in
    then old c.push_bytes.new.out.items c.push_hexadecimal-2.new.out.items _ _ to_2 c.in_ok-push_hexadecimal-2.ensures
