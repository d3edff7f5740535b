use Rattle.std.proofs.Common.{◌≡◌, ◌<◌, ◌≤◌, ◌∷◌, [], length, sym, ap, ◌∙◌, subst}
use Rattle.std.below.core.specs.declared.int.u32.TheConstants.{MAX}
use Rattle.esm_queue_model.specs.Queue.{QueueState, deleted_once, after_deletion}
use Rattle.esm_queue.proofs.Changing.{length-changed_from}
use Rattle.esm_redrive.specs.Limited.{Limited}
use Rattle.esm_redrive.proofs.Limits.{limited_by, limited_deleted}
use Rattle.esm_redrive.proofs.limited.LimitedQueue.delete.Goals as goal

pub invariant_of-self : goal.invariant_of-self
invariant_of-self c =
    let q = c.self.inside in
    let k = c.self.invariant in
    let p = c.args.place in
    let old = q.queue.state in
    let new = c.delete-is_new.new.self.state in
    let state : new ≡ after_deletion (p ∷ []) old = c.delete-is_new.ensures.state in
    let known : p < length old.messages = subst (λ (h : Limited). p < length h.state.messages) (sym c.self.view_is) c.requires.known in
    let size : length new.messages ≡ length old.messages = ap (λ (r : QueueState). length r.messages) state ∙ length-changed_from deleted_once (p ∷ []) 0 old.messages in
    record {
      few = subst (λ n. n ≤ MAX) (sym size) k.few;
      some = k.some;
      low = k.low;
      visibility = k.visibility ∙ ap (λ (r : QueueState). r.visibility) (sym state);
      limited = limited_by q.max_receives (after_deletion (p ∷ []) old) new _ c.set.new.self.moments state c.set.ensures.moments (limited_deleted q.max_receives old.visibility p old.fifo old.messages q.spent.moments known k.limited);
    }
