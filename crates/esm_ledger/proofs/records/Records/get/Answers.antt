use Rattle.std.proofs.Common.{◌≡◌, ◌∙◌, ◌<◌, true, false, length, map, get_or, is_some, sym, ap, subst}
use Rattle.std.specs.Prelude.{slice_get}
use Rattle.esm_ledger.specs.Held.{Held}
use Rattle.esm_ledger.specs.Slots.{seen_in}
use Rattle.esm_ledger.proofs.HeldRecords.{held_is}
use Rattle.esm_ledger.proofs.records.Records.get.Goals as goal

pub returns : goal.returns
returns c =
    let here = c.self.inside in
    let held : c.args.place < length (seen_in here.seen.items) → get_or (map is_some here.slots.places) c.args.place false ≡ true =
    let P : Held → Type 0 = λ v. c.args.place < length v.items → get_or v.held c.args.place false ≡ true in subst P (sym c.self.view_is) c.requires in
    c.get.ensures ∙ held_is (seen_in here.seen.items) here.slots.places c.args.place c.self.invariant held ∙ ap (λ (v : Held). slice_get v.items c.args.place) c.self.view_is
