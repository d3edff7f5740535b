use Rattle.std.proofs.Common.{[], ◌∷◌, ◌++◌, Option, ap, ◌∙◌, sym, append-nil}
use Rattle.std.specs.List.{cons_option}
use Rattle.esm_model.specs.Records.{Record}
use Rattle.esm_next.proofs.event.push_place.Goals as goal

pub returns-in-None : goal.returns-in-None
returns-in-None c =
    let none = rw c.in-None.is at c.record.ensures in
    sym (ap (λ (found : Option Record). c.args.records.now.items ++ cons_option found []) (sym none) ∙ append-nil c.args.records.now.items)

pub returns-in_ok-push-in-Some : goal.returns-in_ok-push-in-Some
returns-in_ok-push-in-Some c =
    let there = rw c.in-Some.is at c.record.ensures in
    c.in_ok-push-in-Some.ensures.items
    ∙ (ap (λ (r : Record). c.args.records.now.items ++ r ∷ []) c.in_ok-copy-in-Some.ensures
    ∙ ap (λ (found : Option Record). c.args.records.now.items ++ cons_option found []) there)
