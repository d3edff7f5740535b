use Rattle.std.proofs.Common.{◌≡◌, ◌+◌, ◌<◌, ◌++◌, ◌∷◌, [], List, ℕ, length, sym, ap, ◌∙◌, subst, arith, length-append}
use Rattle.std.below.core.specs.declared.int.u32.TheConstants.{MAX}
use Rattle.esm_model.specs.Moment.{capped_moment}
use Rattle.esm_queue_model.specs.Queue.{QueueState, arrived, after_arrival}
use Rattle.esm_queue.specs.declared.moment_tree.TheConstants.{NEVER}
use Rattle.esm_redrive.specs.Limited.{Limited}
use Rattle.esm_redrive.proofs.Limits.{limited_by, limited_came}
use Rattle.esm_redrive.proofs.limited.LimitedQueue.came.Goals as goal

pub invariant_of-self-2 : goal.invariant_of-self-2
invariant_of-self-2 c =
    let q = c.self.inside in
    let k = c.self.invariant in
    let x = c.args.message in
    let m = capped_moment c.args.moment in
    let old = q.queue.state in
    let new = c.came.new.self.state in
    let state : new ≡ after_arrival x m old = c.in_ok-place.ensures.ok in
    let few = subst (λ (h : Limited). length h.state.messages < MAX) (sym c.self.view_is) c.requires.few in
    let size : length new.messages ≡ length old.messages + 1 = ap (λ (r : QueueState). length r.messages) state ∙ length-append old.messages (arrived x m ∷ []) in
    record {
      few = omega (arith, few, size);
      some = k.some;
      low = k.low;
      visibility = k.visibility ∙ ap (λ (r : QueueState). r.visibility) (sym state);
      limited = limited_by q.max_receives (after_arrival x m old) new (q.spent.moments ++ NEVER ∷ []) c.push.new.self.moments state
          (c.push.ensures.moments ∙ ap (λ (ms : List ℕ). ms ++ NEVER ∷ []) c.reserve.ensures.moments)
          (limited_came q.max_receives old.visibility old.fifo old.messages q.spent.moments x m k.some k.limited);
    }
