use Rattle.std.proofs.Common.{◌≡◌, ◌∙◌, ◌++◌, ◌∷◌, [], length, List, Option, sym, ap, subst, arith, length-append}
use Rattle.std.specs.List.{All}
use Rattle.std.proofs.lemmas.List.Elements.{All-append, All-cons, All-nil}
use Rattle.esm_model.specs.Records.{Record}
use Rattle.esm_ledger.specs.Chunks.{Slotted, IsWhole, places_in}
use Rattle.esm_ledger.proofs.ChunkSlots.{places_length, places_push}
use Rattle.esm_ledger.proofs.chunks.Chunks.push.Goals as goal

pub trim-requires-clause-few : goal.trim-requires-clause-few
trim-requires-clause-few c =
    let here = c.self.inside in
    let items : c.push_back_reserved.new.self.items ≡ here.chunks.items ++ c.of.result ∷ [] = c.push_back_reserved.ensures.items in
    let n : length c.push_back_reserved.new.self.items ≡ length (here.chunks.items ++ c.of.result ∷ []) = ap length items in
    let more = length-append here.chunks.items (c.of.result ∷ []) in
    let before = places_length here.base here.chunks.items c.self.invariant.whole in
    let view : length (places_in here.base here.chunks.items) ≡ length c.args.self.now.places = ap (λ (v : Slotted). length v.places) c.self.view_is in
    let few = c.requires.few in
    omega (arith, n, more, before, view, few)

pub trim-requires-clause-whole : goal.trim-requires-clause-whole
trim-requires-clause-whole c =
    let here = c.self.inside in
    let whole : IsWhole c.of.result = ap length c.of.ensures ∙ c.requires.whole in
    subst (λ (cs : List (List (Option Record))). All IsWhole cs) (sym c.push_back_reserved.ensures.items)
    (All-append IsWhole here.chunks.items (c.of.result ∷ []) c.self.invariant.whole (All-cons IsWhole c.of.result [] whole (All-nil IsWhole)))

pub returns-clause-places : goal.returns-clause-places
returns-clause-places c =
    let here = c.self.inside in
    c.trim.ensures.places ∙ ap (places_in here.base) c.push_back_reserved.ensures.items ∙ places_push here.base here.chunks.items c.of.result
    ∙ ap (λ (xs : List (Option Record)). places_in here.base here.chunks.items ++ xs) c.of.ensures ∙ ap (λ (v : Slotted). v.places ++ c.args.slots.items) c.self.view_is
