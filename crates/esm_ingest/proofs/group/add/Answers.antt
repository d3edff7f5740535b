use Rattle.std.proofs.Common.{◌≡◌, ℕ, Some, cond, length, subst, rules}
use Rattle.std.specs.Ordering.{nat_cmp, is_eq}
use Rattle.std.specs.BTreeMap.{get}
use Rattle.esm_ingest.specs.Inside.{names_in, place_in}
use Rattle.esm_ingest.proofs.Groups.{index_next, index_here}
use Rattle.esm_ingest.proofs.group.add.Goals as goal

pub returns-in_ok-push_group-in-None-clause-index : goal.returns-in_ok-push_group-in-None-clause-index
returns-in_ok-push_group-in-None-clause-index c = λ n.
    let gs = c.args.groups.now.items in
    let now = c.push_group.new.groups.items in
    let count : c.len-at.result ≡ length c.args.groups.now.items = search rules in
    index_next c.args.item.shard n c.len-at.result (length gs) (get nat_cmp c.args.index.now n) (get nat_cmp c.insert.new.self n) (place_in (names_in gs) n) (place_in (names_in now) n) count (subst (λ (k : ℕ). get nat_cmp c.insert.new.self n ≡ cond (is_eq (nat_cmp k n)) (Some c.len-at.result) (get nat_cmp c.args.index.now n)) c.shard-shard.ensures (c.in_ok-insert-in-None.ensures.updates.0 n)) (c.requires.index n) (c.in_ok-push_group-in-None.ensures.index n)

pub returns-in_ok-push_group-in-None-clause-run : goal.returns-in_ok-push_group-in-None-clause-run
returns-in_ok-push_group-in-None-clause-run c = index_here c.shard-shard.result c.len-at.result (get nat_cmp c.args.index.now c.shard-shard.result) (get nat_cmp c.insert.new.self c.shard-shard.result) (c.in_ok-insert-in-None.ensures.updates.0 c.shard-shard.result)
