use Rattle.std.proofs.Common.{subst}
use Rattle.esm_redrive_core.specs.declared.decisions.RedriveCall.TheVariants as call
use Rattle.esm_queue_core.specs.CoreView.{moment_for}
use Rattle.esm_redrive_core.specs.Told.{IsAnswer}
use Rattle.esm_redrive_book.proofs.Standing.{runs_call}
use Rattle.esm_redrive_book.proofs.redrive_book.Redrive.next.Goals as goal

pub returns-in-Ok-Next-clause-runs : goal.returns-in-Ok-Next-clause-runs
returns-in-Ok-Next-clause-runs g c =
    let old = c.self.inside.durable.core in
    let e = c.in-Ok-Next.ensures in
    runs_call old.setting old.past c.carry.new.durable.core.past (moment_for old.past c.args.moment) c.in-Ok-Next.next
    (subst (IsAnswer old (call.Next c.args.moment)) c.in-Ok-Next.field-0-is e.answer_is) e.added.added.past
