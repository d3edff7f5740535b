use Rattle.std.proofs.Common.{◌∙◌, List, reverse, sym, ap, subst}
use Rattle.esm_model.specs.declared.item.Message.{Message}
use Rattle.esm_redrive_core.specs.declared.owed.Gift.{Gift}
use Rattle.esm_redrive_core.specs.RedriveView.{forgotten}
use Rattle.esm_redrive_core.specs.Kept.{IsKept}
use Rattle.esm_redrive_core.specs.Inside.{parts_of}
use Rattle.esm_redrive_core.proofs.Keeping.{forgetting, kept_forgotten, seen_forgotten}
use Rattle.esm_redrive_core.proofs.redrive_core.RedriveCore.forget.Goals as goal

pub invariant_of-self : goal.invariant_of-self
invariant_of-self c =
    let p = parts_of c.self.inside in
    subst (λ (gs : List Gift). IsKept (record (forgetting p) { coming = c.clear.new.self.items; gifts = gs })) (sym (ap reverse c.clear-2.ensures.items))
    (subst (λ (ms : List Message). IsKept (record (forgetting p) { coming = ms })) (sym c.clear.ensures.items) (kept_forgotten p c.self.invariant))

pub returns : goal.returns
returns c = seen_forgotten (parts_of c.self.inside) c.clear.new.self.items (reverse c.clear-2.new.self.items) c.clear.ensures.items (ap reverse c.clear-2.ensures.items) ∙ ap forgotten c.self.view_is
