use Rattle.std.proofs.Common.{◌≡◌, ◌∙◌, ◌∷◌, ◌++◌, [], Option, ap}
use Rattle.std.specs.declared.snapshot.Snapshot.{Snapshot}
use Rattle.std.proofs.lemmas.List.{map_push}
use Rattle.esm_model.specs.Records.{Record}
use Rattle.esm_ledger.specs.Slots.{seen_in}
use Rattle.esm_ledger.proofs.HeldRecords.{slots_came}
use Rattle.esm_ledger.proofs.records.Records.came_one.Goals as goal

pub invariant_of-self : goal.invariant_of-self
invariant_of-self c =
    let was = c.self.inside in
    let item : Record = c.args.item in
    let seen : seen_in c.push_reserved.new.self.items ≡ seen_in was.seen.items ++ item ∷ [] =
    ap seen_in c.push_reserved.ensures.items ∙ map_push (λ (x : Snapshot Record). x.value) was.seen.items c.of.result ∙ ap (λ (r : Record). seen_in was.seen.items ++ r ∷ []) c.of.ensures in
    let slots = c.push.ensures.places ∙ ap (λ (o : Option Record). was.slots.places ++ o ∷ []) c.slot_for.ensures in
    rw (seen, slots) (slots_came (seen_in was.seen.items) was.slots.places item c.args.found c.self.invariant)
