use Rattle.std.proofs.Common.{Some, None, refl, arith, ◌∷◌}
use Rattle.std.specs.Vec.{with_item}
use Rattle.esm_model.specs.declared.entry.Entry.TheVariants.{Gave}
use Rattle.esm_model.specs.declared.entry.Fate.TheVariants.{Expired}
use Rattle.esm_ledger.specs.declared.ledger.Ledger.{Ledger}
use Rattle.esm_ledger.specs.Shard.{lane_id}
use Rattle.esm_ledger.specs.Ledger.{past_of, setting_of}
use Rattle.esm_ledger.specs.Adding.{KeepsSplits, KeepsStates}
use Rattle.esm_ledger.proofs.ShardChanges.{found_at, set_items_at, changed_set, shards_set, shards_none, splits_stay, leaves_gave, relabel, changed_none}
use Rattle.esm_ledger.proofs.Prepared.{others_set, others_none}
use Rattle.esm_ledger.proofs.ledger.Ledger.shard_expired.Goals as goal

pub expired-requires-clause-known : goal.expired-requires-clause-known
expired-requires-clause-known c =
    let here = found_at c.args.self.now c.args.lane.shard c.in-Some.at c.index_mut.result.now c.in-Some.ensures.at c.index_mut.ensures.value in
    let fits = c.requires.fits c.index_mut.result.now here in
    fits.known

pub expired-requires-clause-came : goal.expired-requires-clause-came
expired-requires-clause-came c =
    let here = found_at c.args.self.now c.args.lane.shard c.in-Some.at c.index_mut.result.now c.in-Some.ensures.at c.index_mut.ensures.value in
    let fits = c.requires.fits c.index_mut.result.now here in
    fits.gift.came

pub expired-requires-clause-measured : goal.expired-requires-clause-measured
expired-requires-clause-measured c =
    let here = found_at c.args.self.now c.args.lane.shard c.in-Some.at c.index_mut.result.now c.in-Some.ensures.at c.index_mut.ensures.value in
    let fits = c.requires.fits c.index_mut.result.now here in
    fits.gift.measured

pub expired-requires-clause-within : goal.expired-requires-clause-within
expired-requires-clause-within c =
    let here = found_at c.args.self.now c.args.lane.shard c.in-Some.at c.index_mut.result.now c.in-Some.ensures.at c.index_mut.ensures.value in
    let fits = c.requires.fits c.index_mut.result.now here in
    fits.within

pub expired-requires-clause-short : goal.expired-requires-clause-short
expired-requires-clause-short c =
    let here = found_at c.args.self.now c.args.lane.shard c.in-Some.at c.index_mut.result.now c.in-Some.ensures.at c.index_mut.ensures.value in
    let fits = c.requires.fits c.index_mut.result.now here in
    omega (arith, fits.short)

pub returns-in-None-clause-goes_on : goal.returns-in-None-clause-goes_on
returns-in-None-clause-goes_on c = λ line m legal.
    let self = c.args.self.now in
    let lane = c.args.lane in
    shards_none self lane.shard (Gave (Some lane) lane.shard c.args.places.now Expired line None m ∷ past_of self) c.requires.kept legal (leaves_gave (Some lane) lane.shard c.args.places.now Expired line None m (past_of self)) c.in-None.ensures.none

pub returns-in-Some-clause-changed : goal.returns-in-Some-clause-changed
returns-in-Some-clause-changed c =
    let self = c.args.self.now in
    let x = c.index_mut.result.now in
    let y = c.expired.new.self in
    let at = c.in-Some.at in
    let d : Ledger = record self { shards = with_item self.shards at y } in
    let here = found_at self c.args.lane.shard at x c.in-Some.ensures.at c.index_mut.ensures.value in
    let is = set_items_at self.shards.items d.shards.items at x y c.in-Some.ensures.at.0 c.index_mut.ensures.value refl c.expired.ensures.shard c.expired.ensures.records in
    changed_set self d c.args.lane.shard at x y KeepsSplits c.requires.kept.rests is here.2 c.expired.ensures.splits (splits_stay c.args.lane.shard)

pub returns-in-Some-clause-goes_on : goal.returns-in-Some-clause-goes_on
returns-in-Some-clause-goes_on c = λ line m legal.
    let self = c.args.self.now in
    let x = c.index_mut.result.now in
    let y = c.expired.new.self in
    let at = c.in-Some.at in
    let d : Ledger = record self { shards = with_item self.shards at y } in
    let here = found_at self c.args.lane.shard at x c.in-Some.ensures.at c.index_mut.ensures.value in
    let is = set_items_at self.shards.items d.shards.items at x y c.in-Some.ensures.at.0 c.index_mut.ensures.value refl c.expired.ensures.shard c.expired.ensures.records in
    let lane = c.args.lane in
    let places = c.args.places.now in
    let s = setting_of self in
    let h = past_of self in
    shards_set self d lane.shard at x y (Gave (Some lane) lane.shard places Expired line None m ∷ h) c.requires.kept legal (leaves_gave (Some lane) lane.shard places Expired line None m h) is here.2
    (λ shard. relabel s h lane.shard x y (λ n. Gave (Some (lane_id n lane.lane)) n places Expired line None m) here.2 (λ own. c.expired.ensures.kept s h line m (c.requires.kept.found x.shard) own shard) legal)

pub returns-in-None-clause-others : goal.returns-in-None-clause-others
returns-in-None-clause-others c = others_none c.args.self.now c.args.lane.shard

pub returns-in-Some-clause-others : goal.returns-in-Some-clause-others
returns-in-Some-clause-others c =
    let self = c.args.self.now in
    let x = c.index_mut.result.now in
    let y = c.expired.new.self in
    let at = c.in-Some.at in
    let d : Ledger = record self { shards = with_item self.shards at y } in
    let here = found_at self c.args.lane.shard at x c.in-Some.ensures.at c.index_mut.ensures.value in
    let is = set_items_at self.shards.items d.shards.items at x y c.in-Some.ensures.at.0 c.index_mut.ensures.value refl c.expired.ensures.shard c.expired.ensures.records in
    others_set self d c.args.lane.shard at x y is here.2 refl refl

pub returns-in-None-clause-states : goal.returns-in-None-clause-states
returns-in-None-clause-states c = changed_none c.args.self.now c.args.lane.shard KeepsStates c.in-None.ensures.none (λ x off. refl)

pub returns-in-Some-clause-states : goal.returns-in-Some-clause-states
returns-in-Some-clause-states c =
    let self = c.args.self.now in
    let x = c.index_mut.result.now in
    let y = c.expired.new.self in
    let at = c.in-Some.at in
    let d : Ledger = record self { shards = with_item self.shards at y } in
    let here = found_at self c.args.lane.shard at x c.in-Some.ensures.at c.index_mut.ensures.value in
    let is = set_items_at self.shards.items d.shards.items at x y c.in-Some.ensures.at.0 c.index_mut.ensures.value refl c.expired.ensures.shard c.expired.ensures.records in
    changed_set self d c.args.lane.shard at x y KeepsStates c.requires.kept.rests is here.2 (c.expired.ensures.states) (λ z off. refl)
