use Rattle.std.proofs.Common.{ℕ, List, ap, ap₂, ◌∙◌}
use Rattle.std.specs.Prelude.{filter}
use Rattle.esm_queue_model.specs.Queue.{least, next_show}
use Rattle.esm_queue.specs.Held.{Held}
use Rattle.esm_queue.specs.Moments.{is_after}
use Rattle.esm_queue.proofs.Leaves.{shows_are}
use Rattle.esm_queue.proofs.queue.Queue.next_show.Goals as goal

pub returns : goal.returns
returns c =
    let q = c.self.inside in
    let m = c.min.result in
    c.next_after.ensures
    ∙ (ap (λ (ms : List ℕ). least (filter (is_after m) ms)) c.self.invariant.shown
    ∙ (ap least (shows_are q.visibility_ms m q.messages.items)
    ∙ ap₂ (λ (h : Held) (now : ℕ). next_show h.state now) c.self.view_is c.min.ensures))
