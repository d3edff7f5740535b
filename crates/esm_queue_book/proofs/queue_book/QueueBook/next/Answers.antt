use Rattle.std.proofs.Common.{subst}
use Rattle.esm_queue_core.specs.declared.decisions.QueueCall.TheVariants as call
use Rattle.esm_queue_core.specs.CoreView.{moment_for}
use Rattle.esm_queue_book.specs.Carried.{IsAnswer}
use Rattle.esm_queue_book.proofs.Deciding.{runs_call}
use Rattle.esm_queue_book.proofs.queue_book.QueueBook.next.Goals as goal

pub returns-in-Ok-Next-clause-runs : goal.returns-in-Ok-Next-clause-runs
returns-in-Ok-Next-clause-runs g c =
    let old = c.self.inside.durable.core in
    let e = c.in-Ok-Next.ensures in
    runs_call old.setting old.past c.carry.new.durable.core.past c.args.batcher (moment_for old.past c.args.moment) c.in-Ok-Next.next
    (subst (IsAnswer old (call.Next c.args.batcher c.args.moment)) c.in-Ok-Next.field-0-is e.answer_is) e.added.added.past
