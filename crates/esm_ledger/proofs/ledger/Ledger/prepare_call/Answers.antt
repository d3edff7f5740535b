use Rattle.std.proofs.Common.{◌≤◌, refl, ap}
use Rattle.std.specs.Vec.{with_item}
use Rattle.std.proofs.lemmas.Result.{on_ok_weaker}
use Rattle.esm_shard_index.specs.LaneView.{lane_in}
use Rattle.esm_ledger.specs.declared.ledger.Ledger.{Ledger}
use Rattle.esm_ledger.specs.declared.shard.ShardLedger.{ShardLedger}
use Rattle.esm_ledger.proofs.ShardChanges.{found_at, set_at, at_set, prepared, prepared_splits, changed_set, HasAsMany}
use Rattle.esm_ledger.proofs.Readings.{lane_known}
use Rattle.esm_ledger.proofs.Prepared.{others_set, others_none, prepared_elsewhere, splits_more, states_over}
use Rattle.esm_ledger.specs.Adding.{KeepsStates}
use Rattle.esm_shard_index.specs.Windows.{WindowTable}
use Rattle.esm_ledger.proofs.ledger.Ledger.prepare_call.Goals as goal

pub prepare_call-requires : goal.prepare_call-requires
prepare_call-requires c =
    let here = found_at c.args.self.now c.args.lane.shard c.in-Some.at c.index_mut.result.now c.in-Some.ensures.at c.index_mut.ensures.value in
    record { known = lane_known c.args.self.now c.args.lane c.index_mut.result.now c.requires.kept.rests here c.requires.known }

pub returns-in-None-clause-ok : goal.returns-in-None-clause-ok
returns-in-None-clause-ok c = λ x at. absurd (c.in-None.ensures.none x at)

pub returns-in-Some-clause-kept : goal.returns-in-Some-clause-kept
returns-in-Some-clause-kept c =
    let self = c.args.self.now in
    let x = c.index_mut.result.now in
    let y = c.prepare_call.new.self in
    let at = c.in-Some.at in
    let d : Ledger = record self { shards = with_item self.shards at y } in
    let here = found_at self c.args.lane.shard at x c.in-Some.ensures.at c.index_mut.ensures.value in
    let is = set_at self.shards.items d.shards.items at x y c.in-Some.ensures.at.0 c.index_mut.ensures.value refl c.prepare_call.ensures.shard c.prepare_call.ensures.records in
    let p = c.prepare_call.ensures in
    (prepared self d c.args.lane.shard at x y c.requires.kept refl is here.2 p.kept (prepared_splits x y c.args.lane.lane c.prepare_call.result p.ok p.err p.others)).kept

pub returns-in-Some-clause-setting : goal.returns-in-Some-clause-setting
returns-in-Some-clause-setting c =
    let self = c.args.self.now in
    let x = c.index_mut.result.now in
    let y = c.prepare_call.new.self in
    let at = c.in-Some.at in
    let d : Ledger = record self { shards = with_item self.shards at y } in
    let here = found_at self c.args.lane.shard at x c.in-Some.ensures.at c.index_mut.ensures.value in
    let is = set_at self.shards.items d.shards.items at x y c.in-Some.ensures.at.0 c.index_mut.ensures.value refl c.prepare_call.ensures.shard c.prepare_call.ensures.records in
    let p = c.prepare_call.ensures in
    (prepared self d c.args.lane.shard at x y c.requires.kept refl is here.2 p.kept (prepared_splits x y c.args.lane.lane c.prepare_call.result p.ok p.err p.others)).setting

pub returns-in-Some-clause-ok : goal.returns-in-Some-clause-ok
returns-in-Some-clause-ok c =
    let self = c.args.self.now in
    let x = c.index_mut.result.now in
    let y = c.prepare_call.new.self in
    let at = c.in-Some.at in
    let d : Ledger = record self { shards = with_item self.shards at y } in
    let here = found_at self c.args.lane.shard at x c.in-Some.ensures.at c.index_mut.ensures.value in
    let is = set_at self.shards.items d.shards.items at x y c.in-Some.ensures.at.0 c.index_mut.ensures.value refl c.prepare_call.ensures.shard c.prepare_call.ensures.records in
    on_ok_weaker c.prepare_call.result
    (λ (some : 2 ≤ (lane_in y.lanes c.args.lane.lane).kept.splits). at_set self d c.args.lane.shard at x y (λ (z : ShardLedger). 2 ≤ (lane_in z.lanes c.args.lane.lane).kept.splits) c.requires.kept.rests is here.2 some)
    c.prepare_call.ensures.ok

pub returns-in-None-clause-elsewhere : goal.returns-in-None-clause-elsewhere
returns-in-None-clause-elsewhere c = prepared_elsewhere c.args.self.now c.args.self.now c.args.lane.shard refl refl (others_none c.args.self.now c.args.lane.shard)

pub returns-in-Some-clause-elsewhere : goal.returns-in-Some-clause-elsewhere
returns-in-Some-clause-elsewhere c =
    let self = c.args.self.now in
    let x = c.index_mut.result.now in
    let y = c.prepare_call.new.self in
    let at = c.in-Some.at in
    let d : Ledger = record self { shards = with_item self.shards at y } in
    let here = found_at self c.args.lane.shard at x c.in-Some.ensures.at c.index_mut.ensures.value in
    let is = set_at self.shards.items d.shards.items at x y c.in-Some.ensures.at.0 c.index_mut.ensures.value refl c.prepare_call.ensures.shard c.prepare_call.ensures.records in
    let p = c.prepare_call.ensures in
    prepared_elsewhere self d c.args.lane.shard (prepared self d c.args.lane.shard at x y c.requires.kept refl is here.2 p.kept (prepared_splits x y c.args.lane.lane c.prepare_call.result p.ok p.err p.others)).setting refl (others_set self d c.args.lane.shard at x y is here.2 refl refl)

pub returns-in-Some-clause-splits : goal.returns-in-Some-clause-splits
returns-in-Some-clause-splits c = λ other has.
    let self = c.args.self.now in
    let x = c.index_mut.result.now in
    let y = c.prepare_call.new.self in
    let at = c.in-Some.at in
    let d : Ledger = record self { shards = with_item self.shards at y } in
    let here = found_at self c.args.lane.shard at x c.in-Some.ensures.at c.index_mut.ensures.value in
    let is = set_at self.shards.items d.shards.items at x y c.in-Some.ensures.at.0 c.index_mut.ensures.value refl c.prepare_call.ensures.shard c.prepare_call.ensures.records in
    let p = c.prepare_call.ensures in
    splits_more self d other (changed_set self d c.args.lane.shard at x y HasAsMany c.requires.kept.rests is here.2 (prepared_splits x y c.args.lane.lane c.prepare_call.result p.ok p.err p.others) (λ z off j low. low)) has

pub returns-in-Some-clause-states : goal.returns-in-Some-clause-states
returns-in-Some-clause-states c = λ n v has.
    let self = c.args.self.now in
    let x = c.index_mut.result.now in
    let y = c.prepare_call.new.self in
    let at = c.in-Some.at in
    let d : Ledger = record self { shards = with_item self.shards at y } in
    let here = found_at self c.args.lane.shard at x c.in-Some.ensures.at c.index_mut.ensures.value in
    let is = set_at self.shards.items d.shards.items at x y c.in-Some.ensures.at.0 c.index_mut.ensures.value refl c.prepare_call.ensures.shard c.prepare_call.ensures.records in
    let p = c.prepare_call.ensures in
    states_over self d d n v refl (changed_set self d c.args.lane.shard at x y KeepsStates c.requires.kept.rests is here.2 (ap (λ (t : WindowTable). t.states) p.windows) (λ z off. refl)) has
