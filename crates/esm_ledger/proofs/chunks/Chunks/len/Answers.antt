use Rattle.std.proofs.Common.{◌≡◌, ◌∙◌, ◌+◌, ◌*◌, length, ap, rules}
use Rattle.esm_ledger.specs.Chunks.{Slotted}
use Rattle.esm_ledger.proofs.ChunkSlots.{places_length}
use Rattle.esm_ledger.proofs.chunks.Chunks.len.Goals as goal

pub returns : goal.returns
returns c =
    let here = c.self.inside in
    let n : c.len.result ≡ length here.chunks.items = search rules in
    ap (λ k. here.base + 16 * k) n ∙ places_length here.base here.chunks.items c.self.invariant.whole ∙ ap (λ (v : Slotted). length v.places) c.self.view_is
