use Rattle.std.proofs.Common.{◌∙◌, List, Option, None, sym, ap, get_or}
use Rattle.esm_model.specs.Records.{Record}
use Rattle.esm_ledger.proofs.ChunkSlots.{chunk_at}
use Rattle.esm_ledger.proofs.chunk.Chunk.get.Goals as goal

pub returns : goal.returns
returns c =
    c.held_in.ensures ∙ ap (λ (xs : List (Option Record)). get_or xs c.args.at None) c.as_slice.ensures.value
    ∙ sym (chunk_at c.self.inside.slots.items c.args.at) ∙ ap (λ (xs : List (Option Record)). get_or xs c.args.at None) c.self.view_is
