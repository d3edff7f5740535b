use Rattle.std.proofs.Common.{◌≡◌, eqb, subst}
use Rattle.esm_queue_model.specs.QueueStep.{LegalQueue}
use Rattle.esm_queue_core.specs.CoreView.{CoreView}
use Rattle.esm_queue_core.specs.Inside.{parts_of}
use Rattle.esm_queue_core.specs.Next.{is_all_deleted}
use Rattle.esm_queue_core.proofs.Counted.{all_counted}
use Rattle.esm_queue_core.proofs.queue_core.QueueCore.is_over.Goals as goal

pub returns : goal.returns
returns c =
    subst (λ (v : CoreView). LegalQueue v.setting v.past → eqb c.self.inside.deleted c.len.result ≡ is_all_deleted v.setting v.past) c.self.view_is
    (λ legal. all_counted (parts_of c.self.inside) c.len.result c.self.invariant legal c.len.ensures)
