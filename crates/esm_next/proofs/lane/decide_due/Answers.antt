use Rattle.std.proofs.Common.{◌≡◌, ℕ, [], Some}
use Rattle.std.proofs.lemmas.Result.{IfOk-weaker}
use Rattle.esm_ledger.specs.Ledger.{past_of, setting_of}
use Rattle.esm_model.specs.declared.book.Next.TheVariants as next
use Rattle.esm_next.specs.Following.{job_of, next_allowed}
use Rattle.esm_next.specs.Deciding.{answer_of, Gives}
use Rattle.esm_next.proofs.Groups.{free_due}
use Rattle.esm_next.proofs.lane.decide_due.Goals as goal

pub returns-in-None-clause-answer : goal.returns-in-None-clause-answer
returns-in-None-clause-answer c =
    let s = setting_of c.args.ledger.now in
    let h = past_of c.args.ledger.now in
    IfOk-weaker c.call_final.result (λ d. answer_of d ≡ next.Call (job_of s h c.args.lane [] (Some c.args.window))) (λ d. answer_of d ≡ next_allowed s h c.args.lane c.args.now)
    (λ d answer. free_due s h c.args.lane c.args.now c.args.window (answer_of d) c.in-None.ensures.free c.requires.due answer) c.call_final.ensures.answer

pub returns-in-None-clause-gives : goal.returns-in-None-clause-gives
returns-in-None-clause-gives c =
    let s = setting_of c.args.ledger.now in
    let h = past_of c.args.ledger.now in
    IfOk-weaker c.call_final.result (λ d. (m : ℕ) → Gives s h c.args.lane m d) (Gives s h c.args.lane c.args.now) (λ d gives. gives c.args.now) c.call_final.ensures.gives
