use Rattle.std.proofs.Common.{◌≡◌, sym, ◌∙◌}
use Rattle.std.specs.Prelude.{◌==◌}
use Rattle.std.specs.List.{list_any}
use Rattle.esm_input.proofs.Counts.{held_same, new_same}
use Rattle.esm_input.proofs.counted.note_shard.Goals as goal

pub returns-then-contains-clause-noted : goal.returns-then-contains-clause-noted
returns-then-contains-clause-noted c =
    let value : c.contains.result ≡ list_any (λ y. y == c.shard-shard.result) c.deref.result.now = c.contains.ensures.value in
    sym (held_same c.args.shards.now.items c.deref.result.now c.args.item.now c.in-Stream.record c.contains.result
    c.deref.ensures.value c.in-Stream.is (rw c.shard-shard.ensures at value) c.if-contains.true)

pub returns-in_ok-push-clause-noted : goal.returns-in_ok-push-clause-noted
returns-in_ok-push-clause-noted c =
    let value : c.contains.result ≡ list_any (λ y. y == c.shard-shard.result) c.deref.result.now = c.contains.ensures.value in
    c.in_ok-push.ensures.items
    ∙ rw c.shard-shard.ensures (sym (new_same c.args.shards.now.items c.deref.result.now c.args.item.now c.in-Stream.record c.contains.result
    c.deref.ensures.value c.in-Stream.is (rw c.shard-shard.ensures at value) c.if-contains.false))
