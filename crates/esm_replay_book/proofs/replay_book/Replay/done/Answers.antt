use Rattle.std.proofs.Common.{◌≡◌, subst}
use Rattle.esm_io.specs.Meanings.{disk}
use Rattle.esm_replay_core.specs.declared.decisions.ReplayCall.TheVariants as call
use Rattle.esm_replay_core.specs.View.{setting_of, moment_for}
use Rattle.esm_replay_core.specs.Deciding.{done_entries, done_count}
use Rattle.esm_replay_book.specs.Books.{BookState}
use Rattle.esm_replay_book.specs.Calls.{AddedAll, AddedSome}
use Rattle.esm_replay_book.specs.Carried.{IsAnswer}
use Rattle.esm_replay_book.proofs.replay_book.Replay.done.Goals as goal

pub returns-in-Ok-Replayed-clause-answer : goal.returns-in-Ok-Replayed-clause-answer
returns-in-Ok-Replayed-clause-answer g c =
    let e = c.in-Ok-Replayed.ensures in
    let old = c.self.inside.durable.core in
    subst (λ (b : BookState g.row.D.Denot). c.in-Ok-Replayed.count ≡ done_count (setting_of b.core) b.core.past c.args.reply) c.self.view_is
    (subst (IsAnswer old (call.Done c.args.job c.args.reply c.args.moment)) c.in-Ok-Replayed.field-0-is e.answer_is)

pub returns-in-Ok-Replayed-clause-added : goal.returns-in-Ok-Replayed-clause-added
returns-in-Ok-Replayed-clause-added g c =
    subst (λ (b : BookState g.row.D.Denot). AddedAll (disk g.D.Disk) b.core.records b c.carry.new.durable (done_entries (setting_of b.core) b.core.past c.args.job.lane c.args.reply (moment_for b.core.past c.args.moment))) c.self.view_is
    c.in-Ok-Replayed.ensures.added

pub returns-in-Err-DiskFault-clause-stopped : goal.returns-in-Err-DiskFault-clause-stopped
returns-in-Err-DiskFault-clause-stopped g c = λ is.
    let some = rw c.in-Err-DiskFault.field-0-is at c.in-Err-DiskFault.ensures in
    subst (λ (b : BookState g.row.D.Denot). AddedSome (disk g.D.Disk) b.core.records b c.carry.new.durable (done_entries (setting_of b.core) b.core.past c.args.job.lane c.args.reply (moment_for b.core.past c.args.moment))) c.self.view_is
    some.added
