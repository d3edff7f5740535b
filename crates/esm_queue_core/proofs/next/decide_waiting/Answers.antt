use Rattle.std.proofs.Common.{◌≡◌, ◌∙◌, ◌<◌, List, ℕ, length, sym, subst}
use Rattle.std.specs.Prelude.{All}
use Rattle.esm_model.specs.Moment.{capped_moment}
use Rattle.esm_queue_model.specs.Queue.{receivable}
use Rattle.esm_queue_core.proofs.Choosing.{receivable_within}
use Rattle.esm_queue_core.proofs.next.decide_waiting.Goals as goal

pub gather-requires-clause-places : goal.gather-requires-clause-places
gather-requires-clause-places c =
    let q = c.args.queue.now.state in
    let m = capped_moment c.args.now in
    let given : c.as_slice-all.result.now ≡ receivable q m c.saturating_add-most.result = c.as_slice-all.ensures ∙ c.in_ok-places.ensures in
    subst (λ (ps : List ℕ). All (λ p. p < length q.messages) ps) (sym given) (receivable_within q m c.saturating_add-most.result)
