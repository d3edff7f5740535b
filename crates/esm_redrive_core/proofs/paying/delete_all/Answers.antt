use Rattle.std.proofs.Common.{◌≡◌, ◌∙◌, ◌+◌, Bool, true, false, cond, refl, sym, ap, arith}
use Rattle.esm_queue_core.proofs.Deletions.{deleted_none, deleted_more, deleted_few}
use Rattle.esm_redrive_core.proofs.paying.delete_all.Goals as goal
use Rattle.esm_redrive_core.proofs.paying.delete_all.Goals.{then-delete, else-delete}

pub loop-place-init : goal.loop-place-init
loop-place-init c = record { done = deleted_none c.args.queue.now.state c.args.places.now; limit = refl }

pub overflow_add-deleted : goal.overflow_add-deleted
overflow_add-deleted c =
    let at = c.loop-place in
    let n = at.deleted in
    let yes : c.delete.result ≡ true = c.if-delete.true in
    let one : n + 1 ≡ n + cond c.delete.result 1 0 = ap (λ (b : Bool). n + cond b 1 0) (sym yes) in
    let more = deleted_more c.args.queue.now.state at.queue.state c.delete.new.self.state c.args.places.now at.place-index n (n + 1) c.delete.result c.loop-place-test.true c.requires.within at.invariant.done c.delete.ensures.state c.delete.ensures.answer one in
    let low = deleted_few c.args.queue.now.state c.delete.new.self.state c.args.places.now (at.place-index + 1) (n + 1) more in
    let few = c.requires.few in
    omega (arith, low, few)

pub loop-place-preserved : goal.loop-place-preserved
loop-place-preserved c =
    let at = c.loop-place in
    let n = at.deleted in
    let counted : c.if-delete.deleted ≡ n + cond c.delete.result 1 0 = elim c.if-delete.branch [
      | then-delete w ↦ (let yes : c.delete.result ≡ true = w.if-delete.true in w.deleted-is ∙ ap (λ (b : Bool). n + cond b 1 0) (sym yes))
      | else-delete w ↦ (let no : c.delete.result ≡ false = w.if-delete.false in let same : n ≡ n + 0 = omega arith in w.deleted-is ∙ (same ∙ ap (λ (b : Bool). n + cond b 1 0) (sym no)))
    ] in
    record {
      done = deleted_more c.args.queue.now.state at.queue.state c.delete.new.self.state c.args.places.now at.place-index n c.if-delete.deleted c.delete.result c.loop-place-test.true c.requires.within at.invariant.done c.delete.ensures.state c.delete.ensures.answer counted;
      limit = c.delete.ensures.limit ∙ at.invariant.limit;
    }
