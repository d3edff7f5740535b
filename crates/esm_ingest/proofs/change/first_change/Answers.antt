use Rattle.std.proofs.Common.{◌≡◌, ◌∙◌, ℕ, ◌+◌, [], Some, cond, take, refl, sym, ap, subst, arith, rules}
use Rattle.std.specs.Ordering.{nat_cmp, is_eq}
use Rattle.std.specs.BTreeMap.{get}
use Rattle.esm_model.specs.Entries.{came_count}
use Rattle.esm_ledger.specs.Ledger.{past_of, setting_of}
use Rattle.esm_ingest.specs.Coming.{count_of}
use Rattle.esm_ingest.proofs.Changing.{place_within, next_more, change_found, change_more, change_none, nothing_changes}
use Rattle.esm_ingest.proofs.change.first_change.Goals as goal

pub loop-item-init : goal.loop-item-init
loop-item-init c = record { places = λ n. search rules; so_far = refl }

pub overflow_add-after : goal.overflow_add-after
overflow_add-after c =
    let x = c.item-item.result in
    let at : c.next_place-place.result ≡ came_count (past_of c.args.ledger.now) x.shard + count_of x.shard (take c.loop-item.item-index c.args.items.now) = c.next_place-place.ensures ∙ c.loop-item.invariant.places c.shard-shard.result ∙ ap (λ (n : ℕ). came_count (past_of c.args.ledger.now) n + count_of n (take c.loop-item.item-index c.args.items.now)) c.shard-shard.ensures in
    let fits = place_within (past_of c.args.ledger.now) c.args.items.now c.loop-item.item-index x c.next_place-place.result c.requires.places c.loop-item-test.true c.item-item.is at in
    omega (arith, fits)

pub returns-then-is_some : goal.returns-then-is_some
returns-then-is_some c =
    let x = c.item-item.result in
    let at = c.next_place-place.ensures ∙ c.loop-item.invariant.places c.shard-shard.result ∙ ap (λ (n : ℕ). came_count (past_of c.args.ledger.now) n + count_of n (take c.loop-item.item-index c.args.items.now)) c.shard-shard.ensures in
    change_found (setting_of c.args.ledger.now) (past_of c.args.ledger.now) c.args.items.now c.loop-item.item-index x c.next_place-place.result c.in_ok-change.change c.loop-item-test.true c.item-item.is at
    c.in_ok-change.ensures (sym c.is_some.ensures ∙ c.if-is_some.true) c.loop-item.invariant.so_far

pub loop-item-preserved : goal.loop-item-preserved
loop-item-preserved c =
    let x = c.item-item.result in
    let s = setting_of c.args.ledger.now in
    let h = past_of c.args.ledger.now in
    let i = c.loop-item.item-index in
    let at = c.next_place-place.ensures ∙ c.loop-item.invariant.places c.shard-shard.result ∙ ap (λ (n : ℕ). came_count (past_of c.args.ledger.now) n + count_of n (take c.loop-item.item-index c.args.items.now)) c.shard-shard.ensures in
    record {
      places = λ n. next_more h c.args.items.now i x c.next_place-place.result n (get nat_cmp c.loop-item.next n) (get nat_cmp c.insert.new.self n) c.loop-item-test.true c.item-item.is at (subst (λ (k : ℕ). get nat_cmp c.insert.new.self n ≡ cond (is_eq (nat_cmp k n)) (Some (c.next_place-place.result + 1)) (get nat_cmp c.loop-item.next n)) c.shard-shard.ensures (c.in_ok-insert.ensures.updates.0 n)) (c.loop-item.invariant.places n);
      so_far = change_more s h c.args.items.now i x c.next_place-place.result c.in_ok-change.change c.loop-item-test.true c.item-item.is at c.in_ok-change.ensures (sym c.is_some.ensures ∙ c.if-is_some.false) c.loop-item.invariant.so_far;
    }

pub returns : goal.returns
returns c = change_none (setting_of c.args.ledger.now) (past_of c.args.ledger.now) c.args.items.now c.loop-item.item-index c.loop-item-test.false c.loop-item.invariant.so_far

pub returns-then-not-is_any_told : goal.returns-then-not-is_any_told
returns-then-not-is_any_told c =
    let none = c.if-not-is_any_told.true in
    sym (nothing_changes (setting_of c.args.ledger.now) (past_of c.args.ledger.now) [] c.args.items.now (c.is_any_told.ensures.fates none) (c.is_any_told.ensures.tries none))
