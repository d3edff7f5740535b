use Rattle.std.proofs.Common.{sym, refl, arith}
use Rattle.std.specs.Vec.{with_item}
use Rattle.std.proofs.lemmas.Result.{on_ok_weaker}
use Rattle.esm_ledger.specs.declared.ledger.Ledger.{Ledger}
use Rattle.esm_ledger.specs.declared.shard.ShardLedger.{ShardLedger}
use Rattle.esm_ledger.specs.Arriving.{HasRoomFor}
use Rattle.esm_ledger.proofs.ShardChanges.{found_at, set_items_at, at_set, prepared, HasAsMany}
use Rattle.esm_ledger.proofs.Prepared.{others_set, others_none, prepared_elsewhere}
use Rattle.esm_ledger.proofs.ledger.Ledger.prepare_known.Goals as goal

pub prepare_records-requires-clause-lanes : goal.prepare_records-requires-clause-lanes
prepare_records-requires-clause-lanes c =
    let here = found_at c.args.self.now c.args.shard c.in-Some.at c.index_mut.result.now c.in-Some.ensures.at c.index_mut.ensures.value in
    sym (c.requires.kept.rests.factor c.args.shard c.index_mut.result.now here)

pub returns-in-None-clause-ok : goal.returns-in-None-clause-ok
returns-in-None-clause-ok c = λ y at. absurd (c.in-None.ensures.none y at)

pub returns-in-None-clause-elsewhere : goal.returns-in-None-clause-elsewhere
returns-in-None-clause-elsewhere c = prepared_elsewhere c.args.self.now c.args.self.now c.args.shard refl refl (others_none c.args.self.now c.args.shard)

pub returns-in-Some-clause-kept : goal.returns-in-Some-clause-kept
returns-in-Some-clause-kept c =
    let self = c.args.self.now in
    let x = c.index_mut.result.now in
    let y = c.prepare_records.new.self in
    let at = c.in-Some.at in
    let d : Ledger = record self { shards = with_item self.shards at y } in
    let here = found_at self c.args.shard at x c.in-Some.ensures.at c.index_mut.ensures.value in
    let is = set_items_at self.shards.items d.shards.items at x y c.in-Some.ensures.at.0 c.index_mut.ensures.value refl c.prepare_records.ensures.shard c.prepare_records.ensures.records in
    let p = c.prepare_records.ensures in
    let many : HasAsMany x y = λ k low. (let more = p.splits k in omega (arith, more, low)) in
    (prepared self d c.args.shard at x y c.requires.kept refl is here.2 p.kept many).kept

pub returns-in-Some-clause-setting : goal.returns-in-Some-clause-setting
returns-in-Some-clause-setting c =
    let self = c.args.self.now in
    let x = c.index_mut.result.now in
    let y = c.prepare_records.new.self in
    let at = c.in-Some.at in
    let d : Ledger = record self { shards = with_item self.shards at y } in
    let here = found_at self c.args.shard at x c.in-Some.ensures.at c.index_mut.ensures.value in
    let is = set_items_at self.shards.items d.shards.items at x y c.in-Some.ensures.at.0 c.index_mut.ensures.value refl c.prepare_records.ensures.shard c.prepare_records.ensures.records in
    let p = c.prepare_records.ensures in
    let many : HasAsMany x y = λ k low. (let more = p.splits k in omega (arith, more, low)) in
    (prepared self d c.args.shard at x y c.requires.kept refl is here.2 p.kept many).setting

pub returns-in-Some-clause-ok : goal.returns-in-Some-clause-ok
returns-in-Some-clause-ok c =
    let self = c.args.self.now in
    let x = c.index_mut.result.now in
    let y = c.prepare_records.new.self in
    let at = c.in-Some.at in
    let d : Ledger = record self { shards = with_item self.shards at y } in
    let here = found_at self c.args.shard at x c.in-Some.ensures.at c.index_mut.ensures.value in
    let is = set_items_at self.shards.items d.shards.items at x y c.in-Some.ensures.at.0 c.index_mut.ensures.value refl c.prepare_records.ensures.shard c.prepare_records.ensures.records in
    let p = c.prepare_records.ensures in
    let many : HasAsMany x y = λ k low. (let more = p.splits k in omega (arith, more, low)) in
    on_ok_weaker c.prepare_records.result
    (λ (some : HasRoomFor y c.args.arriving.now). at_set self d c.args.shard at x y (λ (z : ShardLedger). HasRoomFor z c.args.arriving.now) c.requires.kept.rests is here.2 some)
    p.ok

pub returns-in-Some-clause-elsewhere : goal.returns-in-Some-clause-elsewhere
returns-in-Some-clause-elsewhere c =
    let self = c.args.self.now in
    let x = c.index_mut.result.now in
    let y = c.prepare_records.new.self in
    let at = c.in-Some.at in
    let d : Ledger = record self { shards = with_item self.shards at y } in
    let here = found_at self c.args.shard at x c.in-Some.ensures.at c.index_mut.ensures.value in
    let is = set_items_at self.shards.items d.shards.items at x y c.in-Some.ensures.at.0 c.index_mut.ensures.value refl c.prepare_records.ensures.shard c.prepare_records.ensures.records in
    let p = c.prepare_records.ensures in
    let many : HasAsMany x y = λ k low. (let more = p.splits k in omega (arith, more, low)) in
    prepared_elsewhere self d c.args.shard (prepared self d c.args.shard at x y c.requires.kept refl is here.2 p.kept many).setting refl (others_set self d c.args.shard at x y is here.2 refl refl)
