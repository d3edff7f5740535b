use Rattle.std.proofs.Common.{refl, ap, ◌∷◌}
use Rattle.std.specs.Vec.{with_item}
use Rattle.esm_model.specs.declared.entry.Entry.TheVariants.{Gave}
use Rattle.std.proofs.lemmas.Option.{IfSome_then}
use Rattle.esm_shard_index.specs.LaneView.{Table, lane_in}
use Rattle.esm_ledger.specs.declared.ledger.Ledger.{Ledger}
use Rattle.esm_ledger.specs.Ledger.{past_of, setting_of}
use Rattle.esm_ledger.specs.Adding.{KeepsSplits, KeepsStates, KeepsClosings}
use Rattle.esm_ledger.proofs.ShardChanges.{found_at, set_items_at, changed_set, shards_set, shards_none, splits_stay, leaves_gave, relabel, changed_none}
use Rattle.esm_ledger.proofs.Prepared.{others_set, others_none, always_if_none, if_none}
use Rattle.esm_ledger.proofs.ledger.Ledger.shard_gave.Goals as goal

pub gave-requires-clause-came : goal.gave-requires-clause-came
gave-requires-clause-came c =
    let here = found_at c.args.self.now c.args.shard c.in-Some.at c.index_mut.result.now c.in-Some.ensures.at c.index_mut.ensures.value in
    let fits = c.requires.fits c.index_mut.result.now here in
    fits.came

pub gave-requires-clause-measured : goal.gave-requires-clause-measured
gave-requires-clause-measured c =
    let here = found_at c.args.self.now c.args.shard c.in-Some.at c.index_mut.result.now c.in-Some.ensures.at c.index_mut.ensures.value in
    let fits = c.requires.fits c.index_mut.result.now here in
    fits.measured

pub gave-requires-clause-prepared : goal.gave-requires-clause-prepared
gave-requires-clause-prepared c =
    let here = found_at c.args.self.now c.args.shard c.in-Some.at c.index_mut.result.now c.in-Some.ensures.at c.index_mut.ensures.value in
    IfSome_then c.args.state c.requires.state (λ st has. has c.index_mut.result.now here)

pub returns-in-None-clause-goes_on : goal.returns-in-None-clause-goes_on
returns-in-None-clause-goes_on c = λ by line m legal.
    let self = c.args.self.now in
    let a = c.args in
    shards_none self a.shard (Gave by a.shard a.places.now a.fate line a.state m ∷ past_of self) c.requires.kept legal (leaves_gave by a.shard a.places.now a.fate line a.state m (past_of self)) c.in-None.ensures.none

pub returns-in-Some-clause-changed : goal.returns-in-Some-clause-changed
returns-in-Some-clause-changed c =
    let self = c.args.self.now in
    let x = c.index_mut.result.now in
    let y = c.gave.new.self in
    let at = c.in-Some.at in
    let d : Ledger = record self { shards = with_item self.shards at y } in
    let here = found_at self c.args.shard at x c.in-Some.ensures.at c.index_mut.ensures.value in
    let is = set_items_at self.shards.items d.shards.items at x y c.in-Some.ensures.at.0 c.index_mut.ensures.value refl c.gave.ensures.shard c.gave.ensures.records in
    changed_set self d c.args.shard at x y KeepsSplits c.requires.kept.rests is here.2 (λ k. ap (λ (t : Table). (lane_in t k).kept.splits) c.gave.ensures.lanes) (splits_stay c.args.shard)

pub returns-in-Some-clause-goes_on : goal.returns-in-Some-clause-goes_on
returns-in-Some-clause-goes_on c = λ by line m legal.
    let self = c.args.self.now in
    let x = c.index_mut.result.now in
    let y = c.gave.new.self in
    let at = c.in-Some.at in
    let d : Ledger = record self { shards = with_item self.shards at y } in
    let here = found_at self c.args.shard at x c.in-Some.ensures.at c.index_mut.ensures.value in
    let is = set_items_at self.shards.items d.shards.items at x y c.in-Some.ensures.at.0 c.index_mut.ensures.value refl c.gave.ensures.shard c.gave.ensures.records in
    let a = c.args in
    let s = setting_of self in
    let h = past_of self in
    shards_set self d a.shard at x y (Gave by a.shard a.places.now a.fate line a.state m ∷ h) c.requires.kept legal (leaves_gave by a.shard a.places.now a.fate line a.state m h) is here.2
    (λ shard. relabel s h a.shard x y (λ n. Gave by n a.places.now a.fate line a.state m) here.2 (λ own. c.gave.ensures.kept s h by line m (c.requires.kept.found x.shard) own shard) legal)

pub returns-in-None-clause-others : goal.returns-in-None-clause-others
returns-in-None-clause-others c = others_none c.args.self.now c.args.shard

pub returns-in-Some-clause-others : goal.returns-in-Some-clause-others
returns-in-Some-clause-others c =
    let self = c.args.self.now in
    let x = c.index_mut.result.now in
    let y = c.gave.new.self in
    let at = c.in-Some.at in
    let d : Ledger = record self { shards = with_item self.shards at y } in
    let here = found_at self c.args.shard at x c.in-Some.ensures.at c.index_mut.ensures.value in
    let is = set_items_at self.shards.items d.shards.items at x y c.in-Some.ensures.at.0 c.index_mut.ensures.value refl c.gave.ensures.shard c.gave.ensures.records in
    others_set self d c.args.shard at x y is here.2 refl refl

pub returns-in-None-clause-states : goal.returns-in-None-clause-states
returns-in-None-clause-states c = always_if_none c.args.state (changed_none c.args.self.now c.args.shard KeepsStates c.in-None.ensures.none (λ x off. refl))

pub returns-in-Some-clause-states : goal.returns-in-Some-clause-states
returns-in-Some-clause-states c =
    let self = c.args.self.now in
    let x = c.index_mut.result.now in
    let y = c.gave.new.self in
    let at = c.in-Some.at in
    let d : Ledger = record self { shards = with_item self.shards at y } in
    let here = found_at self c.args.shard at x c.in-Some.ensures.at c.index_mut.ensures.value in
    let is = set_items_at self.shards.items d.shards.items at x y c.in-Some.ensures.at.0 c.index_mut.ensures.value refl c.gave.ensures.shard c.gave.ensures.records in
    if_none c.args.state (λ same. changed_set self d c.args.shard at x y KeepsStates c.requires.kept.rests is here.2 same (λ z off. refl)) c.gave.ensures.states

pub returns-in-None-clause-closings : goal.returns-in-None-clause-closings
returns-in-None-clause-closings c = changed_none c.args.self.now c.args.shard KeepsClosings c.in-None.ensures.none (λ x off. record { lanes = refl; tries = refl })

pub returns-in-Some-clause-closings : goal.returns-in-Some-clause-closings
returns-in-Some-clause-closings c =
    let self = c.args.self.now in
    let x = c.index_mut.result.now in
    let y = c.gave.new.self in
    let at = c.in-Some.at in
    let d : Ledger = record self { shards = with_item self.shards at y } in
    let here = found_at self c.args.shard at x c.in-Some.ensures.at c.index_mut.ensures.value in
    let is = set_items_at self.shards.items d.shards.items at x y c.in-Some.ensures.at.0 c.index_mut.ensures.value refl c.gave.ensures.shard c.gave.ensures.records in
    changed_set self d c.args.shard at x y KeepsClosings c.requires.kept.rests is here.2 (record { lanes = c.gave.ensures.lanes; tries = c.gave.ensures.tries }) (λ z off. record { lanes = refl; tries = refl })
