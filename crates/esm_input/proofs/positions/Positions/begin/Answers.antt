use Rattle.std.proofs.Common.{◌≡◌, sym, ◌∙◌}
use Rattle.std.specs.Prelude.{◌==◌}
use Rattle.std.specs.List.{list_any}
use Rattle.esm_input.proofs.Counts.{held_same, new_same}
use Rattle.esm_input.proofs.positions.Positions.begin.Goals as goal

pub returns-then-contains-clause-noted : goal.returns-then-contains-clause-noted
returns-then-contains-clause-noted c =
    let value : c.contains.result ≡ list_any (λ y. y == c.shard-shard.result) c.deref.result.now = c.contains.ensures.value in
    sym (held_same c.args.self.now.begun.items c.deref.result.now c.args.item.now c.in-Stream.record c.contains.result
    c.deref.ensures.value c.in-Stream.is (rw c.shard-shard.ensures at value) c.if-contains.true)

pub returns-clause-noted : goal.returns-clause-noted
returns-clause-noted c =
    let value : c.contains.result ≡ list_any (λ y. y == c.shard-shard.result) c.deref.result.now = c.contains.ensures.value in
    c.in_ok-push.ensures.items
    ∙ rw c.shard-shard.ensures (sym (new_same c.args.self.now.begun.items c.deref.result.now c.args.item.now c.in-Stream.record c.contains.result
    c.deref.ensures.value c.in-Stream.is (rw c.shard-shard.ensures at value) c.if-contains.false))
