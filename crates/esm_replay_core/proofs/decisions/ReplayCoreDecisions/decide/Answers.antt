use Rattle.std.proofs.Common.{[], refl, sym, ap, subst}
use Rattle.esm_replay_core.specs.declared.decisions.ReplayCall.{ReplayCall}
use Rattle.esm_replay_core.specs.declared.decisions.ReplayCall.TheVariants as call
use Rattle.esm_replay_core.specs.declared.decisions.ReplayAnswer.TheVariants as answer
use Rattle.esm_replay_core.specs.View.{setting_of, moment_for}
use Rattle.esm_replay_core.specs.Deciding.{next_entries, done_entries}
use Rattle.esm_replay_core.specs.Told.{history_of, owed_of, MayAsk, Decides}
use Rattle.esm_replay_core.proofs.Tellings.{adds_of, owes_coming, payable_decided, payable_none}
use Rattle.esm_replay_core.proofs.decisions.ReplayCoreDecisions.decide.Goals as goal

pub returns-in_ok-came-in-Came-clause-decided : goal.returns-in_ok-came-in-Came-clause-decided
returns-in_ok-came-in-Came-clause-decided c =
    let v = c.args.self.now in
    let e = c.in_ok-came-in-Came.ensures in
    subst (λ (call : ReplayCall). Decides v call answer.Taken (owed_of c.came.new.self)) (sym c.in-Came.is)
    (e.same, owes_coming v c.came.new.self c.in-Came.items.items e.owes)

pub returns-in_ok-came-in-Came-clause-history : goal.returns-in_ok-came-in-Came-clause-history
returns-in_ok-came-in-Came-clause-history c = ap history_of c.in_ok-came-in-Came.ensures.owes

pub returns-in_ok-came-in-Came-clause-payable : goal.returns-in_ok-came-in-Came-clause-payable
returns-in_ok-came-in-Came-clause-payable c =
    let v = c.args.self.now in
    let may : MayAsk v (call.Came c.in-Came.items) = subst (MayAsk v) c.in-Came.is c.requires.may in
    payable_decided v c.came.new.self c.in-Came.items.items [] c.in_ok-came-in-Came.ensures.owes (λ some. (may.early, refl))

pub returns-in_ok-next-in-Next-clause-decided : goal.returns-in_ok-next-in-Next-clause-decided
returns-in_ok-next-in-Next-clause-decided c =
    let v = c.args.self.now in
    let next = c.in_ok-next-in-Next.field-0 in
    let e = c.in_ok-next-in-Next.ensures in
    subst (λ (call : ReplayCall). Decides v call (answer.Next next) (owed_of c.next.new.self)) (sym c.in-Next.is)
    (e.answer, adds_of v c.next.new.self (next_entries next (moment_for v.past c.in-Next.moment)) e.owes e.run)

pub returns-in_ok-next-in-Next-clause-history : goal.returns-in_ok-next-in-Next-clause-history
returns-in_ok-next-in-Next-clause-history c = ap history_of c.in_ok-next-in-Next.ensures.owes

pub returns-in_ok-next-in-Next-clause-payable : goal.returns-in_ok-next-in-Next-clause-payable
returns-in_ok-next-in-Next-clause-payable c =
    let v = c.args.self.now in
    payable_none v c.next.new.self (next_entries c.in_ok-next-in-Next.field-0 (moment_for v.past c.in-Next.moment)) c.in_ok-next-in-Next.ensures.owes

pub returns-in_ok-count-in-Done-clause-decided : goal.returns-in_ok-count-in-Done-clause-decided
returns-in_ok-count-in-Done-clause-decided c =
    let v = c.args.self.now in
    let e = c.in_ok-count-in-Done.ensures in
    subst (λ (call : ReplayCall). Decides v call (answer.Replayed c.in_ok-count-in-Done.count) (owed_of c.done.new.self)) (sym c.in-Done.is)
    (e.count, adds_of v c.done.new.self (done_entries (setting_of v) v.past c.in-Done.job.lane c.in-Done.reply (moment_for v.past c.in-Done.moment)) e.owes e.run)

pub returns-in_ok-count-in-Done-clause-history : goal.returns-in_ok-count-in-Done-clause-history
returns-in_ok-count-in-Done-clause-history c = ap history_of c.in_ok-count-in-Done.ensures.owes

pub returns-in_ok-count-in-Done-clause-payable : goal.returns-in_ok-count-in-Done-clause-payable
returns-in_ok-count-in-Done-clause-payable c =
    let v = c.args.self.now in
    payable_none v c.done.new.self (done_entries (setting_of v) v.past c.in-Done.job.lane c.in-Done.reply (moment_for v.past c.in-Done.moment)) c.in_ok-count-in-Done.ensures.owes
