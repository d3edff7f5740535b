use Rattle.std.proofs.Common.{◌≡◌, true, refl}
use Rattle.std.specs.Vec.{with_item}
use Rattle.std.proofs.lemmas.Result.{on_ok_weaker}
use Rattle.esm_shard_index.specs.WindowEntries.{has_entry}
use Rattle.esm_ledger.specs.declared.ledger.Ledger.{Ledger}
use Rattle.esm_ledger.specs.declared.shard.ShardLedger.{ShardLedger}
use Rattle.esm_ledger.proofs.ShardChanges.{found_at, set_at, at_set, prepared, same_splits, changed_set, HasAsMany}
use Rattle.esm_ledger.proofs.Prepared.{others_set, others_none, prepared_elsewhere, splits_more}
use Rattle.esm_ledger.proofs.ledger.Ledger.prepare_window.Goals as goal

pub returns-in-Some-clause-kept : goal.returns-in-Some-clause-kept
returns-in-Some-clause-kept c =
    let self = c.args.self.now in
    let x = c.index_mut.result.now in
    let y = c.prepare_window.new.self in
    let at = c.in-Some.at in
    let d : Ledger = record self { shards = with_item self.shards at y } in
    let here = found_at self c.args.shard at x c.in-Some.ensures.at c.index_mut.ensures.value in
    let is = set_at self.shards.items d.shards.items at x y c.in-Some.ensures.at.0 c.index_mut.ensures.value refl c.prepare_window.ensures.shard c.prepare_window.ensures.records in
    let p = c.prepare_window.ensures in
    (prepared self d c.args.shard at x y c.requires.kept refl is here.2 p.kept (same_splits x y p.lanes)).kept

pub returns-in-Some-clause-setting : goal.returns-in-Some-clause-setting
returns-in-Some-clause-setting c =
    let self = c.args.self.now in
    let x = c.index_mut.result.now in
    let y = c.prepare_window.new.self in
    let at = c.in-Some.at in
    let d : Ledger = record self { shards = with_item self.shards at y } in
    let here = found_at self c.args.shard at x c.in-Some.ensures.at c.index_mut.ensures.value in
    let is = set_at self.shards.items d.shards.items at x y c.in-Some.ensures.at.0 c.index_mut.ensures.value refl c.prepare_window.ensures.shard c.prepare_window.ensures.records in
    let p = c.prepare_window.ensures in
    (prepared self d c.args.shard at x y c.requires.kept refl is here.2 p.kept (same_splits x y p.lanes)).setting

pub returns-in-None-clause-state : goal.returns-in-None-clause-state
returns-in-None-clause-state c = λ x at. absurd (c.in-None.ensures.none x at)

pub returns-in-Some-clause-state : goal.returns-in-Some-clause-state
returns-in-Some-clause-state c =
    let self = c.args.self.now in
    let x = c.index_mut.result.now in
    let y = c.prepare_window.new.self in
    let at = c.in-Some.at in
    let d : Ledger = record self { shards = with_item self.shards at y } in
    let here = found_at self c.args.shard at x c.in-Some.ensures.at c.index_mut.ensures.value in
    let is = set_at self.shards.items d.shards.items at x y c.in-Some.ensures.at.0 c.index_mut.ensures.value refl c.prepare_window.ensures.shard c.prepare_window.ensures.records in
    on_ok_weaker c.prepare_window.result
    (λ (some : has_entry y.windows.states c.args.window ≡ true). at_set self d c.args.shard at x y (λ (z : ShardLedger). has_entry z.windows.states c.args.window ≡ true) c.requires.kept.rests is here.2 some)
    c.prepare_window.ensures.state

pub returns-in-None-clause-tries : goal.returns-in-None-clause-tries
returns-in-None-clause-tries c = λ x at. absurd (c.in-None.ensures.none x at)

pub returns-in-Some-clause-tries : goal.returns-in-Some-clause-tries
returns-in-Some-clause-tries c =
    let self = c.args.self.now in
    let x = c.index_mut.result.now in
    let y = c.prepare_window.new.self in
    let at = c.in-Some.at in
    let d : Ledger = record self { shards = with_item self.shards at y } in
    let here = found_at self c.args.shard at x c.in-Some.ensures.at c.index_mut.ensures.value in
    let is = set_at self.shards.items d.shards.items at x y c.in-Some.ensures.at.0 c.index_mut.ensures.value refl c.prepare_window.ensures.shard c.prepare_window.ensures.records in
    on_ok_weaker c.prepare_window.result
    (λ (some : has_entry y.windows.tries c.args.window ≡ true). at_set self d c.args.shard at x y (λ (z : ShardLedger). has_entry z.windows.tries c.args.window ≡ true) c.requires.kept.rests is here.2 some)
    c.prepare_window.ensures.tries

pub returns-in-None-clause-elsewhere : goal.returns-in-None-clause-elsewhere
returns-in-None-clause-elsewhere c = prepared_elsewhere c.args.self.now c.args.self.now c.args.shard refl refl (others_none c.args.self.now c.args.shard)

pub returns-in-Some-clause-elsewhere : goal.returns-in-Some-clause-elsewhere
returns-in-Some-clause-elsewhere c =
    let self = c.args.self.now in
    let x = c.index_mut.result.now in
    let y = c.prepare_window.new.self in
    let at = c.in-Some.at in
    let d : Ledger = record self { shards = with_item self.shards at y } in
    let here = found_at self c.args.shard at x c.in-Some.ensures.at c.index_mut.ensures.value in
    let is = set_at self.shards.items d.shards.items at x y c.in-Some.ensures.at.0 c.index_mut.ensures.value refl c.prepare_window.ensures.shard c.prepare_window.ensures.records in
    let p = c.prepare_window.ensures in
    prepared_elsewhere self d c.args.shard (prepared self d c.args.shard at x y c.requires.kept refl is here.2 p.kept (same_splits x y p.lanes)).setting refl (others_set self d c.args.shard at x y is here.2 refl refl)

pub returns-in-Some-clause-splits : goal.returns-in-Some-clause-splits
returns-in-Some-clause-splits c = λ other has.
    let self = c.args.self.now in
    let x = c.index_mut.result.now in
    let y = c.prepare_window.new.self in
    let at = c.in-Some.at in
    let d : Ledger = record self { shards = with_item self.shards at y } in
    let here = found_at self c.args.shard at x c.in-Some.ensures.at c.index_mut.ensures.value in
    let is = set_at self.shards.items d.shards.items at x y c.in-Some.ensures.at.0 c.index_mut.ensures.value refl c.prepare_window.ensures.shard c.prepare_window.ensures.records in
    let p = c.prepare_window.ensures in
    splits_more self d other (changed_set self d c.args.shard at x y HasAsMany c.requires.kept.rests is here.2 (same_splits x y p.lanes) (λ z off j low. low)) has
