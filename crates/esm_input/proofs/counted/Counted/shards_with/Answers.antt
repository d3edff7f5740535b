use Rattle.std.proofs.Common.{◌≡◌, sym, ◌∙◌}
use Rattle.std.specs.Prelude.{◌==◌}
use Rattle.std.specs.List.{list_any}
use Rattle.esm_input.proofs.Counts.{held_length, new_length}
use Rattle.esm_input.proofs.counted.Counted.shards_with.Goals as goal

pub returns-then-contains : goal.returns-then-contains
returns-then-contains c =
    let value : c.contains.result ≡ list_any (λ y. y == c.shard-shard.result) c.deref.result.now = c.contains.ensures.value in
    held_length c.args.self.now.shards.items c.deref.result.now c.args.item.now c.in-Stream.record c.len.result c.contains.result
    c.deref.ensures.value c.in-Stream.is (rw c.shard-shard.ensures at value) c.if-contains.true (c.len.ensures ∙ sym c.deref.ensures.len)

pub returns-else-contains : goal.returns-else-contains
returns-else-contains c =
    let value : c.contains.result ≡ list_any (λ y. y == c.shard-shard.result) c.deref.result.now = c.contains.ensures.value in
    new_length c.args.self.now.shards.items c.deref.result.now c.args.item.now c.in-Stream.record c.len-else-contains.result c.contains.result
    c.deref.ensures.value c.in-Stream.is (rw c.shard-shard.ensures at value) c.if-contains.false (c.len-else-contains.ensures ∙ sym c.deref.ensures.len)
