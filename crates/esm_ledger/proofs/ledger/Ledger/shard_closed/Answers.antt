use Rattle.std.proofs.Common.{refl, ap, ◌∷◌}
use Rattle.std.specs.Vec.{with_item}
use Rattle.esm_model.specs.declared.entry.Entry.TheVariants.{Closed}
use Rattle.esm_shard_index.specs.LaneView.{Table, lane_in}
use Rattle.esm_ledger.specs.declared.ledger.Ledger.{Ledger}
use Rattle.esm_ledger.specs.Shard.{lane_id}
use Rattle.esm_ledger.specs.Ledger.{past_of, setting_of}
use Rattle.esm_ledger.specs.Adding.{KeepsSplits}
use Rattle.esm_ledger.proofs.ShardChanges.{found_at, set_at, changed_set, shards_set, shards_none, splits_stay, leaves_closed, relabel}
use Rattle.esm_ledger.proofs.Prepared.{others_set, others_none}
use Rattle.esm_ledger.proofs.ledger.Ledger.shard_closed.Goals as goal

pub returns-in-None-clause-goes_on : goal.returns-in-None-clause-goes_on
returns-in-None-clause-goes_on c = λ m legal.
    let self = c.args.self.now in
    let lane = c.args.lane in
    shards_none self lane.shard (Closed lane c.args.window m ∷ past_of self) c.requires.kept legal (leaves_closed lane c.args.window m (past_of self)) c.in-None.ensures.none

pub returns-in-Some-clause-changed : goal.returns-in-Some-clause-changed
returns-in-Some-clause-changed c =
    let self = c.args.self.now in
    let x = c.index_mut.result.now in
    let y = c.closed.new.self in
    let at = c.in-Some.at in
    let d : Ledger = record self { shards = with_item self.shards at y } in
    let here = found_at self c.args.lane.shard at x c.in-Some.ensures.at c.index_mut.ensures.value in
    let is = set_at self.shards.items d.shards.items at x y c.in-Some.ensures.at.0 c.index_mut.ensures.value refl c.closed.ensures.shard c.closed.ensures.records in
    changed_set self d c.args.lane.shard at x y KeepsSplits c.requires.kept.rests is here.2 (λ k. ap (λ (t : Table). (lane_in t k).kept.splits) c.closed.ensures.lanes) (splits_stay c.args.lane.shard)

pub returns-in-Some-clause-goes_on : goal.returns-in-Some-clause-goes_on
returns-in-Some-clause-goes_on c = λ m legal.
    let self = c.args.self.now in
    let x = c.index_mut.result.now in
    let y = c.closed.new.self in
    let at = c.in-Some.at in
    let d : Ledger = record self { shards = with_item self.shards at y } in
    let here = found_at self c.args.lane.shard at x c.in-Some.ensures.at c.index_mut.ensures.value in
    let is = set_at self.shards.items d.shards.items at x y c.in-Some.ensures.at.0 c.index_mut.ensures.value refl c.closed.ensures.shard c.closed.ensures.records in
    let lane = c.args.lane in
    let s = setting_of self in
    let h = past_of self in
    shards_set self d lane.shard at x y (Closed lane c.args.window m ∷ h) c.requires.kept legal (leaves_closed lane c.args.window m h) is here.2
    (λ shard. relabel s h lane.shard x y (λ n. Closed (lane_id n lane.lane) c.args.window m) here.2 (λ own. c.closed.ensures.kept s h lane.lane m (c.requires.kept.found x.shard) own shard) legal)

pub returns-in-None-clause-others : goal.returns-in-None-clause-others
returns-in-None-clause-others c = others_none c.args.self.now c.args.lane.shard

pub returns-in-Some-clause-others : goal.returns-in-Some-clause-others
returns-in-Some-clause-others c =
    let self = c.args.self.now in
    let x = c.index_mut.result.now in
    let y = c.closed.new.self in
    let at = c.in-Some.at in
    let d : Ledger = record self { shards = with_item self.shards at y } in
    let here = found_at self c.args.lane.shard at x c.in-Some.ensures.at c.index_mut.ensures.value in
    let is = set_at self.shards.items d.shards.items at x y c.in-Some.ensures.at.0 c.index_mut.ensures.value refl c.closed.ensures.shard c.closed.ensures.records in
    others_set self d c.args.lane.shard at x y is here.2 refl refl
