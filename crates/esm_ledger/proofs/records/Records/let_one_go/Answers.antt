use Rattle.std.proofs.Common.{◌∙◌, ◌&&◌, List, Option, false, not, map, get_or, is_some, ap}
use Rattle.std.specs.Prelude.{◌==◌}
use Rattle.esm_model.specs.Records.{Record}
use Rattle.esm_ledger.specs.Held.{Held}
use Rattle.esm_ledger.proofs.HeldRecords.{held_emptied}
use Rattle.esm_ledger.proofs.records.Records.let_one_go.Goals as goal

pub returns-clause-held : goal.returns-clause-held
returns-clause-held c = λ i.
    let slots = c.self.inside.slots.places in
    ap (λ (xs : List (Option Record)). get_or (map is_some xs) i false) c.let_go.ensures.places ∙ held_emptied slots c.args.place i
    ∙ ap (λ (v : Held). get_or v.held i false && not (c.args.place == i)) c.self.view_is
