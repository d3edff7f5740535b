use Rattle.std.proofs.Common.{◌≡◌, ◌∙◌, ◌-◌, ◌/◌, ◌%◌, ◌<◌, ◌≤◌, length, List, [], Option, set, get_or, None, sym, ap, rules}
use Rattle.esm_model.specs.Records.{Record}
use Rattle.esm_ledger.specs.Chunks.{Slotted, places_in}
use Rattle.esm_ledger.proofs.ChunkSlots.{gone_before, gone_past, gone_in, one_chunk}
use Rattle.esm_ledger.proofs.chunks.Chunks.let_go.Goals as goal

pub returns-then-place-self-clause-places : goal.returns-then-place-self-clause-places
returns-then-place-self-clause-places c =
    let here = c.self.inside in
    sym (ap (λ (v : Slotted). v.places) c.self.view_is) ∙ gone_before here.base here.chunks.items c.args.place c.if-place-self.true ∙ ap (λ (v : Slotted). set v.places c.args.place None) c.self.view_is

pub returns-then-chunk-len-clause-places : goal.returns-then-chunk-len-clause-places
returns-then-chunk-len-clause-places c =
    let here = c.self.inside in
    let cs = here.chunks.items in
    let at = c.args.place - here.base in
    let low : at / 16 < length cs = search rules in
    let was : c.index_mut.result.now ≡ get_or cs (at / 16) [] = one_chunk cs (at / 16) c.index_mut.result.now low c.index_mut.ensures.value in
    c.trim.ensures.places
    ∙ ap (λ (x : List (Option Record)). places_in here.base (set cs (at / 16) x)) (c.let_go.ensures ∙ ap (λ (x : List (Option Record)). set x (at % 16) None) was)
    ∙ gone_in here.base cs c.args.place c.self.invariant.whole c.if-place-self.false low
    ∙ ap (λ (v : Slotted). set v.places c.args.place None) c.self.view_is

pub returns-else-chunk-len-clause-places : goal.returns-else-chunk-len-clause-places
returns-else-chunk-len-clause-places c =
    let here = c.self.inside in
    let past : length here.chunks.items ≤ (c.args.place - here.base) / 16 = search rules in
    sym (ap (λ (v : Slotted). v.places) c.self.view_is) ∙ gone_past here.base here.chunks.items c.args.place c.self.invariant.whole c.if-place-self.false past ∙ ap (λ (v : Slotted). set v.places c.args.place None) c.self.view_is
