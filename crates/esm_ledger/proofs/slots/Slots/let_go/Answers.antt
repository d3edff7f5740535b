use Rattle.std.proofs.Common.{◌∙◌, ◌++◌, ◌<◌, ◌≤◌, length, set, None, sym, ap, rules}
use Rattle.std.proofs.lemmas.List.{set-append_left, set-append_right}
use Rattle.esm_ledger.specs.Chunks.{Slotted}
use Rattle.esm_ledger.proofs.slots.Slots.let_go.Goals as goal

pub returns-then-place-full-clause-places : goal.returns-then-place-full-clause-places
returns-then-place-full-clause-places c =
    let here = c.self.inside in
    let low : c.args.place < length here.full.places = search rules in
    ap (λ xs. xs ++ here.last.items) c.let_go.ensures.places ∙ sym (set-append_left here.full.places here.last.items c.args.place None low)
    ∙ ap (λ (v : Slotted). set v.places c.args.place None) c.self.view_is

pub returns-else-place-full-clause-places : goal.returns-else-place-full-clause-places
returns-else-place-full-clause-places c =
    let here = c.self.inside in
    let high : c.len-full.result ≤ c.args.place = c.if-place-full.false in
    ap (λ xs. here.full.places ++ xs) c.empty_slot.ensures.items ∙ sym (set-append_right here.full.places here.last.items c.len-full.result c.args.place None (sym c.len-full.ensures) high)
    ∙ ap (λ (v : Slotted). set v.places c.args.place None) c.self.view_is
