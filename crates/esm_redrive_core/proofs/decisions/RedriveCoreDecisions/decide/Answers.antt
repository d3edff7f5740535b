use Rattle.std.proofs.Common.{[], sym, ap, subst}
use Rattle.esm_redrive_core.specs.declared.decisions.RedriveCall.{RedriveCall}
use Rattle.esm_redrive_core.specs.declared.decisions.RedriveAnswer.TheVariants as answer
use Rattle.esm_queue_core.specs.CoreView.{moment_for}
use Rattle.esm_redrive_core.specs.RedriveView.{all_messages}
use Rattle.esm_redrive_core.specs.Adding.{came_entries, redrive_next_entries, ended_entries}
use Rattle.esm_redrive_core.specs.Told.{owed_of, Decides}
use Rattle.esm_redrive_core.proofs.Telling.{none_told, told_owing}
use Rattle.esm_redrive_core.proofs.decisions.RedriveCoreDecisions.decide.Goals as goal

pub came-requires-clause-settled : goal.came-requires-clause-settled
came-requires-clause-settled c = none_told (all_messages c.args.self.now) c.args.self.now.owed c.requires.settled

pub next-requires-clause-settled : goal.next-requires-clause-settled
next-requires-clause-settled c = none_told (all_messages c.args.self.now) c.args.self.now.owed c.requires.settled

pub done-requires-clause-settled : goal.done-requires-clause-settled
done-requires-clause-settled c = none_told (all_messages c.args.self.now) c.args.self.now.owed c.requires.settled

pub returns-in_ok-came-in-Came-clause-decided : goal.returns-in_ok-came-in-Came-clause-decided
returns-in_ok-came-in-Came-clause-decided c =
    let v = c.args.self.now in
    let e = c.in_ok-came-in-Came.ensures in
    subst (λ (call : RedriveCall). Decides v call answer.Taken (owed_of c.came.new.self)) (sym c.in-Came.is)
    (record { answer_is = e.alike; entries_are = ap owed_of e.owes })

pub returns-in_ok-came-in-Came-clause-history : goal.returns-in_ok-came-in-Came-clause-history
returns-in_ok-came-in-Came-clause-history c =
    let v = c.args.self.now in
    told_owing v c.came.new.self c.in-Came.items.items (came_entries v c.in-Came.items.items c.in-Came.moment) c.keeps.ensures c.in_ok-came-in-Came.ensures.owes

pub returns-in_ok-next-in-Next-clause-decided : goal.returns-in_ok-next-in-Next-clause-decided
returns-in_ok-next-in-Next-clause-decided c =
    let v = c.args.self.now in
    let e = c.in_ok-next-in-Next.ensures in
    subst (λ (call : RedriveCall). Decides v call (answer.Next c.in_ok-next-in-Next.field-0) (owed_of c.next.new.self)) (sym c.in-Next.is)
    (record { answer_is = e.answer; entries_are = ap owed_of e.owes })

pub returns-in_ok-next-in-Next-clause-history : goal.returns-in_ok-next-in-Next-clause-history
returns-in_ok-next-in-Next-clause-history c =
    let v = c.args.self.now in
    told_owing v c.next.new.self [] (redrive_next_entries v.setting v.past (moment_for v.past c.in-Next.moment)) c.keeps.ensures c.in_ok-next-in-Next.ensures.owes

pub returns-in_ok-count-in-Done-clause-decided : goal.returns-in_ok-count-in-Done-clause-decided
returns-in_ok-count-in-Done-clause-decided c =
    let v = c.args.self.now in
    let e = c.in_ok-count-in-Done.ensures in
    subst (λ (call : RedriveCall). Decides v call (answer.Deleted c.in_ok-count-in-Done.count) (owed_of c.done.new.self)) (sym c.in-Done.is)
    (record { answer_is = e.answer; entries_are = ap owed_of e.owes })

pub returns-in_ok-count-in-Done-clause-history : goal.returns-in_ok-count-in-Done-clause-history
returns-in_ok-count-in-Done-clause-history c =
    let v = c.args.self.now in
    told_owing v c.done.new.self [] (ended_entries v.setting v.past c.in-Done.reply (moment_for v.past c.in-Done.moment)) c.keeps.ensures c.in_ok-count-in-Done.ensures.owes
