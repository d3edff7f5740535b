use Rattle.std.proofs.Common.{◌≤◌, ap, ◌∙◌, arith}
use Rattle.std.specs.Prelude.{slice_get}
use Rattle.esm_model.specs.declared.moment.TheConstants.{MAX_MOMENT}
use Rattle.esm_model.specs.Moment.{capped_moment}
use Rattle.esm_redrive.specs.Limited.{Limited, due_in}
use Rattle.esm_redrive.proofs.Limits.{first_found}
use Rattle.esm_redrive.proofs.limited.LimitedQueue.first_due.Goals as goal

pub returns : goal.returns
returns c =
    let q = c.self.inside in
    let m = c.min.result in
    let capped = c.min.ensures in
    let early : m ≤ MAX_MOMENT = omega (arith, capped) in
    first_found q.max_receives m q.queue.state q.spent.moments c.first_from.result c.self.invariant.limited early c.first_from.ensures.none c.first_from.ensures.some
    ∙ (ap (λ n. slice_get (due_in q.max_receives q.queue.state n) 0) capped
    ∙ ap (λ (h : Limited). slice_get (due_in h.max_receives h.state (capped_moment c.args.now)) 0) c.self.view_is)
