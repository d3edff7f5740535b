use Rattle.std.proofs.Common.{subst}
use Rattle.esm_replay_core.specs.declared.decisions.ReplayCall.TheVariants as call
use Rattle.esm_replay_core.specs.View.{moment_for}
use Rattle.esm_replay_book.specs.Carried.{IsAnswer}
use Rattle.esm_replay_book.proofs.Endings.{runs_next}
use Rattle.esm_replay_book.proofs.replay_book.Replay.next.Goals as goal

pub returns-in-Ok-Next-clause-runs : goal.returns-in-Ok-Next-clause-runs
returns-in-Ok-Next-clause-runs g c =
    let old = c.self.inside.durable in
    let e = c.in-Ok-Next.ensures in
    runs_next old c.carry.new.durable (moment_for old.core.past c.args.moment) c.in-Ok-Next.next
    (subst (IsAnswer old.core (call.Next c.args.moment)) c.in-Ok-Next.field-0-is e.answer_is) e.added.added e.sound.run
