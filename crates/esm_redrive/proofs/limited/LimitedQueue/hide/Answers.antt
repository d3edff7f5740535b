use Rattle.std.proofs.Common.{◌≡◌, ℕ, ◌<◌, ◌≤◌, ◌&&◌, [], cond, length, refl, sym, ap, ap₂, ◌∙◌, subst, arith}
use Rattle.std.specs.Prelude.{slice_index}
use Rattle.std.below.core.specs.declared.int.u32.TheConstants.{MAX}
use Rattle.esm_model.specs.Entries.{holds}
use Rattle.esm_model.specs.Fates.{below}
use Rattle.esm_model.specs.Moment.{moment_after, capped_moment}
use Rattle.esm_queue_model.specs.Queue.{QueueState, received_once, after_receipt, is_eligible, eligible, receivable}
use Rattle.esm_queue_model.proofs.Places.{In, In-take, In-filter, In-below}
use Rattle.esm_queue.proofs.Changing.{length-changed_from}
use Rattle.esm_redrive.specs.Limited.{Limited, is_spent, due_in}
use Rattle.esm_redrive.proofs.Limits.{IsReceipt, limited_by, limited_received, all_of}
use Rattle.esm_redrive.proofs.limited.LimitedQueue.hide.Goals as goal

pub mark_spent-requires : goal.mark_spent-requires
mark_spent-requires c =
    let q = c.self.inside in
    let old = q.queue.state in
    let m = capped_moment c.args.now in
    let n = length old.messages in
    let places = c.args.places.now in
    let first = subst (λ (h : Limited). places ≡ receivable h.state m (length places)) (sym c.self.view_is) c.requires.first in
    let sized = c.self.invariant.limited.sized in
    all_of (λ i. i < length q.spent.moments) places (λ i member.
    let low : i < n = In-below n i (In-filter (is_eligible old m) (below n) i (In-take (length places) (eligible old m) i (subst (λ ps. In ps i) first member))).0 in
    omega (arith, low, sized))

pub invariant_of-self : goal.invariant_of-self
invariant_of-self c =
    let q = c.self.inside in
    let k = c.self.invariant in
    let old = q.queue.state in
    let new = c.hide.new.self.state in
    let m = capped_moment c.args.now in
    let places = c.args.places.now in
    let state : new ≡ after_receipt m places old = c.hide.ensures.state in
    let first : places ≡ receivable old m (length places) = subst (λ (h : Limited). places ≡ receivable h.state m (length places)) (sym c.self.view_is) c.requires.first in
    let none : due_in q.max_receives old m ≡ [] = subst (λ (h : Limited). due_in h.max_receives h.state m ≡ []) (sym c.self.view_is) c.requires.none_due in
    let low = k.low in
    let receipt : IsReceipt q.max_receives m old places = record { count = length places; first = first; none_due = none; low = omega (arith, low) } in
    let size : length new.messages ≡ length old.messages = ap (λ (r : QueueState). length r.messages) state ∙ length-changed_from (received_once m) places 0 old.messages in
    let show : c.moment_after-show.result ≡ moment_after m old.visibility = c.moment_after-show.ensures ∙ ap₂ moment_after c.min.ensures k.visibility in
    record {
      few = subst (λ n. n ≤ MAX) (sym size) k.few;
      some = k.some;
      low = k.low;
      visibility = k.visibility ∙ ap (λ (r : QueueState). r.visibility) (sym state);
      limited = limited_by q.max_receives (after_receipt m places old) new c.mark_spent.new.spent.moments c.mark_spent.new.spent.moments state refl
          (limited_received q.max_receives m old places q.spent.moments c.mark_spent.new.spent.moments receipt k.limited c.mark_spent.ensures.sized
          (λ i within. c.mark_spent.ensures.marked i within
          ∙ (ap (λ (r : QueueState). cond (holds places i && is_spent q.max_receives r i) c.moment_after-show.result (slice_index q.spent.moments i)) state
          ∙ ap (λ (n : ℕ). cond (holds places i && is_spent q.max_receives (after_receipt m places old) i) n (slice_index q.spent.moments i)) show)));
    }
