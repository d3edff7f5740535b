use Rattle.std.proofs.Common.{◌≡◌, ◌∙◌, ◌-◌, ◌/◌, ◌%◌, ◌<◌, ◌≤◌, length, List, [], Option, None, sym, ap, get_or, rules}
use Rattle.esm_model.specs.Records.{Record}
use Rattle.esm_ledger.specs.Chunks.{Slotted}
use Rattle.esm_ledger.proofs.ChunkSlots.{place_past, place_in}
use Rattle.esm_ledger.proofs.chunks.Chunks.get.Goals as goal

pub returns-in-None : goal.returns-in-None
returns-in-None c =
    let here = c.self.inside in
    let past : length here.chunks.items ≤ (c.args.place - here.base) / 16 = search rules in
    sym (ap (λ (v : Slotted). get_or v.places c.args.place None) (sym c.self.view_is) ∙ place_past here.base here.chunks.items c.args.place c.self.invariant.whole c.if-place-self.false past)

pub returns-in-Some : goal.returns-in-Some
returns-in-Some c =
    let here = c.self.inside in
    let at = c.args.place - here.base in
    let low : at / 16 < length here.chunks.items = search rules in
    let chunk : c.in-Some.chunk.now ≡ get_or here.chunks.items (at / 16) [] = search rules in
    c.get-in-Some.ensures ∙ ap (λ (xs : List (Option Record)). get_or xs (at % 16) None) chunk
    ∙ sym (place_in here.base here.chunks.items c.args.place c.self.invariant.whole c.if-place-self.false low) ∙ ap (λ (v : Slotted). get_or v.places c.args.place None) c.self.view_is
