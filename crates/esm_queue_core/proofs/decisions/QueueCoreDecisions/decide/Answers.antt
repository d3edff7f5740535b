use Rattle.std.proofs.Common.{[], sym, subst}
use Rattle.esm_queue_core.specs.declared.decisions.QueueCall.{QueueCall}
use Rattle.esm_queue_core.specs.declared.decisions.QueueAnswer.TheVariants as answer
use Rattle.esm_queue_core.specs.CoreView.{all_messages, moment_for}
use Rattle.esm_queue_core.specs.Coming.{came_entries}
use Rattle.esm_queue_core.specs.Ending.{ended_entries}
use Rattle.esm_queue_core.specs.Next.{next_entries}
use Rattle.esm_queue_core.specs.Told.{owed_of, Decides}
use Rattle.esm_queue_core.proofs.Tellings.{none_owed, adds_of, told_coming}
use Rattle.esm_queue_core.proofs.decisions.QueueCoreDecisions.decide.Goals as goal

pub came-requires-clause-settled : goal.came-requires-clause-settled
came-requires-clause-settled c = none_owed (all_messages c.args.self.now) c.args.self.now.owed c.requires.settled

pub next-requires-clause-settled : goal.next-requires-clause-settled
next-requires-clause-settled c = none_owed (all_messages c.args.self.now) c.args.self.now.owed c.requires.settled

pub done-requires-clause-settled : goal.done-requires-clause-settled
done-requires-clause-settled c = none_owed (all_messages c.args.self.now) c.args.self.now.owed c.requires.settled

pub returns-in_ok-came-in-Came-clause-decided : goal.returns-in_ok-came-in-Came-clause-decided
returns-in_ok-came-in-Came-clause-decided c =
    let v = c.args.self.now in
    let e = c.in_ok-came-in-Came.ensures in
    subst (λ (call : QueueCall). Decides v call answer.Taken (owed_of c.came.new.self)) (sym c.in-Came.is)
    (adds_of v c.came.new.self c.in-Came.items.items (came_entries v c.in-Came.items.items c.in-Came.moment) e.owes e.legal e.settled)

pub returns-in_ok-came-in-Came-clause-history : goal.returns-in_ok-came-in-Came-clause-history
returns-in_ok-came-in-Came-clause-history c =
    let e = c.in_ok-came-in-Came.ensures in
    told_coming c.args.self.now c.came.new.self c.in-Came.items.items c.in-Came.moment e.owes e.undone e.legal

pub returns-in_ok-next-in-Next-clause-decided : goal.returns-in_ok-next-in-Next-clause-decided
returns-in_ok-next-in-Next-clause-decided c =
    let v = c.args.self.now in
    let next = c.in_ok-next-in-Next.field-0 in
    let e = c.in_ok-next-in-Next.ensures in
    subst (λ (call : QueueCall). Decides v call (answer.Next next) (owed_of c.next.new.self)) (sym c.in-Next.is)
    (e.answer, adds_of v c.next.new.self [] (next_entries next (moment_for v.past c.in-Next.moment)) e.owes e.legal e.settled)

pub returns-in_ok-count-in-Done-clause-decided : goal.returns-in_ok-count-in-Done-clause-decided
returns-in_ok-count-in-Done-clause-decided c =
    let v = c.args.self.now in
    let e = c.in_ok-count-in-Done.ensures in
    subst (λ (call : QueueCall). Decides v call (answer.Deleted c.in_ok-count-in-Done.count) (owed_of c.done.new.self)) (sym c.in-Done.is)
    (e.answer, adds_of v c.done.new.self [] (ended_entries v.setting v.past c.in-Done.job.lane c.in-Done.reply (moment_for v.past c.in-Done.moment)) e.owes e.legal e.settled)
