use Rattle.std.proofs.Common.{◌≡◌, ◌∙◌, ◌-◌, List, Option, None, true, false, is_some, set, get_or, sym, ap, rules}
use Rattle.esm_model.specs.Records.{Record}
use Rattle.esm_ledger.specs.Chunks.{chunk_of}
use Rattle.esm_ledger.proofs.ChunkSlots.{still_empty, chunk_gone, chunk_none, empty_of}
use Rattle.esm_ledger.proofs.chunk.Chunk.let_go.Goals as goal

pub returns-then-not-is_held : goal.returns-then-not-is_held
returns-then-not-is_held c =
    let slots = c.self.inside.slots.items in
    let none : is_some (get_or slots c.args.at None) ≡ false = ap (λ (xs : List (Option Record)). is_some (get_or xs c.args.at None)) (sym c.as_slice.ensures.value) ∙ sym c.is_held.ensures ∙ search rules in
    sym c.self.view_is ∙ sym (still_empty slots c.args.at (empty_of (get_or slots c.args.at None) none)) ∙ ap (λ (xs : List (Option Record)). set xs c.args.at None) c.self.view_is

pub invariant_of-self : goal.invariant_of-self
invariant_of-self c = chunk_none c.new.result (c.self.inside.held - 1) c.if-self-eq0.true c.new.ensures.items c.new.ensures.capacity

pub returns-then-self-eq0 : goal.returns-then-self-eq0
returns-then-self-eq0 c =
    let here = c.self.inside in
    let slots = here.slots.items in
    let some : is_some (get_or slots c.args.at None) ≡ true = ap (λ (xs : List (Option Record)). is_some (get_or xs c.args.at None)) (sym c.as_slice.ensures.value) ∙ sym c.is_held.ensures ∙ search rules in
    ap chunk_of c.new.ensures.items ∙ chunk_gone here.slots here.held c.args.at c.self.invariant some c.if-self-eq0.true ∙ ap (λ (xs : List (Option Record)). set xs c.args.at None) c.self.view_is
