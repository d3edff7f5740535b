use Rattle.std.proofs.Common.{refl}
use Rattle.esm_ddb.proofs.OwnPieces.{told}
use Rattle.esm_ddb.proofs.own_line.own_line.Goals as goal

pub returns : goal.returns
returns c =
    told c.args.text.now c.in_ok-shard.behind_shard.now c.in_ok-arrival.behind_arrival.now c.in_ok-event.behind_event.now c.in_ok-members.members.now c.in_ok-keys.behind_images.now c.in_ok-seq.end.now
    c.in_ok-event.event.now c.in_ok-keys.keys.now c.in_ok-seq.seq.now c.front_of-item.result.now c.in_ok-shard.shard c.in_ok-arrival.arrival _ refl refl refl refl refl refl
    c.in_ok-shard.ensures c.in_ok-arrival.ensures c.in_ok-event.ensures c.in_ok-members.ensures c.in_ok-keys.ensures c.in_ok-seq.ensures (c.is_end.ensures (cc)) c.front_of-item.ensures
