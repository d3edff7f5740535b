use Rattle.std.proofs.Common.{◌≡◌, ◌∙◌, List, Option, sym, ap, is_some}
use Rattle.std.specs.List.{count_by}
use Rattle.esm_model.specs.Records.{Record}
use Rattle.esm_ledger.specs.Chunks.{chunk_of}
use Rattle.esm_ledger.proofs.ChunkSlots.{chunk_none, none_came}
use Rattle.esm_ledger.proofs.chunk.Chunk.of.Goals as goal

pub invariant_of-t-8 : goal.invariant_of-t-8
invariant_of-t-8 c = chunk_none c.new-slots.result c.held_count-held.result c.if-held-eq0.true c.new-slots.ensures.items c.new-slots.ensures.capacity

pub returns-then-held-eq0 : goal.returns-then-held-eq0
returns-then-held-eq0 c =
    let none : count_by is_some c.args.slots.items ≡ 0 = ap (λ (xs : List (Option Record)). count_by is_some xs) (sym c.as_slice.ensures.value) ∙ sym c.held_count-held.ensures ∙ c.if-held-eq0.true in
    ap chunk_of c.new-slots.ensures.items ∙ none_came c.args.slots.items c.requires none
