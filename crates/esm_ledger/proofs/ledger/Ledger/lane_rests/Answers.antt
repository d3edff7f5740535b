use Rattle.std.proofs.Common.{refl, ap}
use Rattle.std.specs.Vec.{with_item}
use Rattle.esm_shard_index.specs.LaneView.{LaneView}
use Rattle.esm_ledger.specs.declared.ledger.Ledger.{Ledger}
use Rattle.esm_ledger.specs.declared.shard.ShardLedger.{ShardLedger}
use Rattle.esm_ledger.specs.Adding.{RestsAt}
use Rattle.esm_ledger.proofs.ShardChanges.{found_at, set_at, changed_none, changed_set, rests_stay, other_number}
use Rattle.esm_ledger.proofs.Readings.{lane_known}
use Rattle.esm_ledger.proofs.ledger.Ledger.lane_rests.Goals as goal

pub end-requires-clause-known : goal.end-requires-clause-known
end-requires-clause-known c =
    let here = found_at c.args.self.now c.args.lane.shard c.in-Some.at c.index_mut.result.now c.in-Some.ensures.at c.index_mut.ensures.value in
    lane_known c.args.self.now c.args.lane c.index_mut.result.now c.requires.rests here c.requires.known

pub end-requires-clause-within : goal.end-requires-clause-within
end-requires-clause-within c =
    let here = found_at c.args.self.now c.args.lane.shard c.in-Some.at c.index_mut.result.now c.in-Some.ensures.at c.index_mut.ensures.value in
    (c.requires.ends c.index_mut.result.now here).within

pub end-requires-clause-reserved : goal.end-requires-clause-reserved
end-requires-clause-reserved c =
    let here = found_at c.args.self.now c.args.lane.shard c.in-Some.at c.index_mut.result.now c.in-Some.ensures.at c.index_mut.ensures.value in
    c.requires.splits c.index_mut.result.now here

pub end-requires-clause-few : goal.end-requires-clause-few
end-requires-clause-few c =
    let here = found_at c.args.self.now c.args.lane.shard c.in-Some.at c.index_mut.result.now c.in-Some.ensures.at c.index_mut.ensures.value in
    (c.requires.ends c.index_mut.result.now here).few

pub returns-in-None-clause-changed : goal.returns-in-None-clause-changed
returns-in-None-clause-changed c = changed_none c.args.self.now c.args.lane.shard (RestsAt c.args.lane) c.in-None.ensures.none (rests_stay c.args.lane)

pub returns-in-Some-clause-changed : goal.returns-in-Some-clause-changed
returns-in-Some-clause-changed c =
    let self = c.args.self.now in
    let lane = c.args.lane in
    let x = c.index_mut.result.now in
    let y : ShardLedger = record x { lanes = c.end.new.self } in
    let at = c.in-Some.at in
    let d : Ledger = record self { shards = with_item self.shards at y } in
    let here = found_at self lane.shard at x c.in-Some.ensures.at c.index_mut.ensures.value in
    let is = set_at self.shards.items d.shards.items at x y c.in-Some.ensures.at.0 c.index_mut.ensures.value refl refl refl in
    changed_set self d lane.shard at x y (RestsAt lane) c.requires.rests is here.2
    (record { others = λ k away. c.end.ensures.others k (other_number lane x.shard k here.2 away); rests = λ there. ap (λ (v : LaneView). v.state.running) c.end.ensures.lane; lanes = c.end.ensures.lanes }) (rests_stay lane)
