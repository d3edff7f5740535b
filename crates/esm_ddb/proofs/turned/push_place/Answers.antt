use Rattle.esm_event.proofs.Appending.{then}
use Rattle.esm_ddb.proofs.turned.push_place.Goals as goal

pub returns : goal.returns
returns c =
    let old = c.args.out.now.items in
    let to_2 = then old c.push_bytes.new.out.items c.push_shard_id.new.out.items _ _ c.in_ok-push_bytes.ensures c.in_ok-push_shard_id.ensures in
    let to_3 = then old c.push_shard_id.new.out.items c.push_bytes-2.new.out.items _ _ to_2 c.in_ok-push_bytes-2.ensures in
    then old c.push_bytes-2.new.out.items c.push_bytes-3.new.out.items _ _ to_3 c.in_ok-push_bytes-3.ensures
