use Rattle.std.proofs.Common.{◌≡◌, subst}
use Rattle.esm_io.specs.Meanings.{disk, destination}
use Rattle.esm_model.specs.declared.book.Trouble.TheVariants.{Disk, Dest}
use Rattle.esm_stream_core.specs.declared.decisions.StreamCall.TheVariants as call
use Rattle.esm_stream_core.specs.Calls.{moment_for, ended_entries, given_by_end}
use Rattle.esm_stream_book.specs.Books.{BookState}
use Rattle.esm_stream_book.specs.Calls.{AddedAll, AddedSome}
use Rattle.esm_stream_book.specs.Carried.{IsAnswer}
use Rattle.esm_stream_book.proofs.stream_book.Book.done.Goals as goal

pub returns-in-Ok-Given-clause-answer : goal.returns-in-Ok-Given-clause-answer
returns-in-Ok-Given-clause-answer g c =
    subst (λ (b : BookState g.row.D.Denot g.row.T.Denot). c.in-Ok-Given.count ≡ given_by_end b.core c.args.job.lane c.args.reply (moment_for b.core.past c.args.moment)) c.self.view_is
    (subst (IsAnswer c.self.inside.durable.core (call.Done c.args.job c.args.reply c.args.moment)) c.in-Ok-Given.field-0-is c.in-Ok-Given.ensures.answer_is)

pub returns-in-Ok-Given-clause-added : goal.returns-in-Ok-Given-clause-added
returns-in-Ok-Given-clause-added g c =
    let m = disk g.D.Disk in
    let n = destination g.T.Dest in
    subst (λ (b : BookState g.row.D.Denot g.row.T.Denot). AddedAll m n b.core.setting b c.carry.new.durable (ended_entries b.core c.args.job.lane c.args.reply (moment_for b.core.past c.args.moment))) c.self.view_is c.in-Ok-Given.ensures.added

pub returns-in-Err-DiskFault-clause-stopped : goal.returns-in-Err-DiskFault-clause-stopped
returns-in-Err-DiskFault-clause-stopped g c = λ is.
    let m = disk g.D.Disk in
    let n = destination g.T.Dest in
    let some = rw c.in-Err-DiskFault.field-0-is at c.in-Err-DiskFault.ensures in
    subst (λ (b : BookState g.row.D.Denot g.row.T.Denot). AddedSome m n b.core.setting b c.carry.new.durable (ended_entries b.core c.args.job.lane c.args.reply (moment_for b.core.past c.args.moment)) Disk) c.self.view_is some.added

pub returns-in-Err-DestFault-clause-undelivered : goal.returns-in-Err-DestFault-clause-undelivered
returns-in-Err-DestFault-clause-undelivered g c = λ is.
    let m = disk g.D.Disk in
    let n = destination g.T.Dest in
    let some = rw c.in-Err-DestFault.field-0-is at c.in-Err-DestFault.ensures in
    subst (λ (b : BookState g.row.D.Denot g.row.T.Denot). AddedSome m n b.core.setting b c.carry.new.durable (ended_entries b.core c.args.job.lane c.args.reply (moment_for b.core.past c.args.moment)) Dest) c.self.view_is some.added
