use Rattle.std.proofs.Common.{◌∙◌, List, sym, ap, subst}
use Rattle.esm_model.specs.declared.item.Message.{Message}
use Rattle.esm_queue_core.specs.declared.standing.Standing.{Standing}
use Rattle.esm_queue_core.specs.CoreView.{forgotten}
use Rattle.esm_queue_core.specs.Kept.{IsKept}
use Rattle.esm_queue_core.specs.Inside.{parts_of}
use Rattle.esm_queue_core.proofs.Added.{forgetting, kept_forgotten, seen_forgotten}
use Rattle.esm_queue_core.proofs.queue_core.QueueCore.forget.Goals as goal

pub invariant_of-self : goal.invariant_of-self
invariant_of-self c =
    let p = parts_of c.self.inside in
    subst (λ (st : Standing). IsKept (record (forgetting p) { coming = c.clear.new.self.items; standing = st })) (sym c.forgotten-self-inside.ensures)
    (subst (λ (ms : List Message). IsKept (record (forgetting p) { coming = ms })) (sym c.clear.ensures.items) (kept_forgotten p c.self.invariant))

pub returns : goal.returns
returns c = seen_forgotten (parts_of c.self.inside) c.clear.new.self.items c.forgotten-self-inside.result c.clear.ensures.items ∙ ap forgotten c.self.view_is
