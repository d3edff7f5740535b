use Rattle.std.proofs.Common.{subst}
use Rattle.esm_io.specs.Meanings.{disk, destination}
use Rattle.esm_stream_core.specs.declared.decisions.StreamCall.TheVariants as call
use Rattle.esm_stream_core.specs.Calls.{moment_for, IsNextOver}
use Rattle.esm_stream_book.specs.Books.{BookState}
use Rattle.esm_stream_book.specs.Calls.{AddedAll, RunsCall, next_entries_now}
use Rattle.esm_stream_book.specs.Carried.{IsAnswer}
use Rattle.esm_stream_book.proofs.Deciding.{runs_call}
use Rattle.esm_stream_book.proofs.stream_book.Book.next.Goals as goal

pub returns-in-Ok-Next-clause-answer : goal.returns-in-Ok-Next-clause-answer
returns-in-Ok-Next-clause-answer g c =
    subst (λ (b : BookState g.row.D.Denot g.row.T.Denot). IsNextOver b.core c.args.batcher (moment_for b.core.past c.args.moment) c.in-Ok-Next.next) c.self.view_is
    (subst (IsAnswer c.self.inside.durable.core (call.Next c.args.batcher c.args.moment)) c.in-Ok-Next.field-0-is c.in-Ok-Next.ensures.answer_is)

pub returns-in-Ok-Next-clause-added : goal.returns-in-Ok-Next-clause-added
returns-in-Ok-Next-clause-added g c =
    let m = disk g.D.Disk in
    let n = destination g.T.Dest in
    subst (λ (b : BookState g.row.D.Denot g.row.T.Denot). AddedAll m n b.core.setting b c.carry.new.durable (next_entries_now b.core c.args.batcher c.args.moment)) c.self.view_is c.in-Ok-Next.ensures.added

pub returns-in-Ok-Next-clause-runs : goal.returns-in-Ok-Next-clause-runs
returns-in-Ok-Next-clause-runs g c =
    let old = c.self.inside.durable.core in
    let e = c.in-Ok-Next.ensures in
    subst (λ (b : BookState g.row.D.Denot g.row.T.Denot). RunsCall c.args.batcher b.core c.carry.new.durable.core c.in-Ok-Next.next) c.self.view_is
    (runs_call old c.carry.new.durable.core c.args.batcher c.args.moment c.in-Ok-Next.next
    (subst (IsAnswer old (call.Next c.args.batcher c.args.moment)) c.in-Ok-Next.field-0-is e.answer_is) e.added.added.past)
