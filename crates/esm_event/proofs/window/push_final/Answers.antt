use Rattle.esm_event.proofs.Appending.{then}
use Rattle.esm_event.proofs.window.push_final.Goals as goal

pub returns : goal.returns
returns c =
    let old = c.args.out.now.items in
    let to_2 = then old c.push_bytes.new.out.items c.push_shard_id.new.out.items _ _ c.in_ok-push_bytes.ensures c.in_ok-push_shard_id.ensures in
    let to_3 = then old c.push_shard_id.new.out.items c.push_bytes-2.new.out.items _ _ to_2 c.in_ok-push_bytes-2.ensures in
    let to_4 = then old c.push_bytes-2.new.out.items c.push_bytes-3.new.out.items _ _ to_3 (rw c.as_slice.ensures at c.in_ok-push_bytes-3.ensures) in
    let to_5 = then old c.push_bytes-3.new.out.items c.push_bytes-4.new.out.items _ _ to_4 c.in_ok-push_bytes-4.ensures in
    let to_6 = then old c.push_bytes-4.new.out.items c.push_truth.new.out.items _ _ to_5 c.in_ok-push_truth.ensures in
    then old c.push_truth.new.out.items c.push_bytes-5.new.out.items _ _ to_6 c.in_ok-push_bytes-5.ensures
