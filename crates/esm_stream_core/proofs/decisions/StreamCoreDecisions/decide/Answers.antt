use Rattle.std.proofs.Common.{[], sym, subst}
use Rattle.std.specs.Prelude.{IfErr}
use Rattle.esm_book.specs.Decided.{IsRefused}
use Rattle.esm_stream_core.specs.CoreView.{full_setting}
use Rattle.esm_stream_core.specs.declared.decisions.StreamCall.{StreamCall}
use Rattle.esm_stream_core.specs.declared.decisions.StreamAnswer.TheVariants as answer
use Rattle.esm_stream_core.specs.Calls.{moment_for, Differs, coming_lists, came_entries, next_adds, ended_entries}
use Rattle.esm_stream_core.specs.Told.{owed_of, opened, Decides, Refuses, IsChange}
use Rattle.esm_stream_core.proofs.Tellings.{none_owed, adds_of, told_coming, told_alone}
use Rattle.esm_stream_core.proofs.Changes.{refused_so, handed_on}
use Rattle.esm_stream_core.proofs.decisions.StreamCoreDecisions.decide.Goals as goal

pub came-requires-clause-settled : goal.came-requires-clause-settled
came-requires-clause-settled c = none_owed (full_setting c.args.self.now) c.args.self.now.owed c.requires.settled

pub next-requires-clause-settled : goal.next-requires-clause-settled
next-requires-clause-settled c = none_owed (full_setting c.args.self.now) c.args.self.now.owed c.requires.settled

pub done-requires-clause-settled : goal.done-requires-clause-settled
done-requires-clause-settled c = none_owed (full_setting c.args.self.now) c.args.self.now.owed c.requires.settled

pub returns-in_ok-came-in-Came-clause-decided : goal.returns-in_ok-came-in-Came-clause-decided
returns-in_ok-came-in-Came-clause-decided c =
    let v = c.args.self.now in
    let items = c.in-Came.items.items in
    let e = c.in_ok-came-in-Came.ensures in
    subst (λ (call : StreamCall). Decides v call answer.Taken (owed_of c.came.new.self)) (sym c.in-Came.is)
    (e.same, adds_of v c.came.new.self (coming_lists v items) (came_entries v items (moment_for v.past c.in-Came.moment)) e.owes e.legal e.settled)

pub returns-in_ok-came-in-Came-clause-history : goal.returns-in_ok-came-in-Came-clause-history
returns-in_ok-came-in-Came-clause-history c =
    let v = c.args.self.now in
    let items = c.in-Came.items.items in
    let e = c.in_ok-came-in-Came.ensures in
    told_coming v c.came.new.self (coming_lists v items) (came_entries v items (moment_for v.past c.in-Came.moment)) e.owes e.undone e.before

pub returns-in_ok-next-in-Next-clause-decided : goal.returns-in_ok-next-in-Next-clause-decided
returns-in_ok-next-in-Next-clause-decided c =
    let v = c.args.self.now in
    let next = c.in_ok-next-in-Next.field-0 in
    let e = c.in_ok-next-in-Next.ensures in
    subst (λ (call : StreamCall). Decides v call (answer.Next next) (owed_of c.next.new.self)) (sym c.in-Next.is)
    (e.answer, adds_of v c.next.new.self [] (next_adds v c.in-Next.batcher (moment_for v.past c.in-Next.moment) next) e.owes e.legal e.settled)

pub returns-in_ok-next-in-Next-clause-history : goal.returns-in_ok-next-in-Next-clause-history
returns-in_ok-next-in-Next-clause-history c =
    let v = c.args.self.now in
    let e = c.in_ok-next-in-Next.ensures in
    told_alone v c.next.new.self (next_adds v c.in-Next.batcher (moment_for v.past c.in-Next.moment) c.in_ok-next-in-Next.field-0) e.owes e.undone

pub returns-in_ok-count-in-Done-clause-decided : goal.returns-in_ok-count-in-Done-clause-decided
returns-in_ok-count-in-Done-clause-decided c =
    let v = c.args.self.now in
    let e = c.in_ok-count-in-Done.ensures in
    subst (λ (call : StreamCall). Decides v call (answer.Given c.in_ok-count-in-Done.count) (owed_of c.done.new.self)) (sym c.in-Done.is)
    (e.answer, adds_of v c.done.new.self [] (ended_entries v c.in-Done.job.lane c.in-Done.reply (moment_for v.past c.in-Done.moment)) e.owes e.legal e.settled)

pub returns-in_ok-count-in-Done-clause-history : goal.returns-in_ok-count-in-Done-clause-history
returns-in_ok-count-in-Done-clause-history c =
    let v = c.args.self.now in
    let e = c.in_ok-count-in-Done.ensures in
    told_alone v c.done.new.self (ended_entries v c.in-Done.job.lane c.in-Done.reply (moment_for v.past c.in-Done.moment)) e.owes e.undone

pub returns-in_err-came-in-Came-clause-refused : goal.returns-in_err-came-in-Came-clause-refused
returns-in_err-came-in-Came-clause-refused c =
    let v = c.args.self.now in
    let so = refused_so v c.in-Came.items.items c.in_err-came-in-Came.field-0.0 c.in_err-came-in-Came.ensures.refused in
    subst (λ (call : StreamCall). IfErr c.from_residual.result (IsRefused (λ change. Refuses v call change × IsChange (opened v) change))) (sym c.in-Came.is)
    (handed_on (IsRefused (λ change. Differs v c.in-Came.items.items change × IsChange (opened v) change)) c.in_err-came-in-Came.field-0.0 c.from_residual.result so c.from_residual.ensures.1)
