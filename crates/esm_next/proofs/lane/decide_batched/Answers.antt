use Rattle.std.proofs.Common.{◌≡◌}
use Rattle.std.proofs.lemmas.Result.{IfOk-weaker}
use Rattle.esm_ledger.specs.Ledger.{past_of, setting_of}
use Rattle.esm_next.specs.Following.{next_allowed, next_batch}
use Rattle.esm_next.specs.Deciding.{answer_of}
use Rattle.esm_next.proofs.Groups.{free_batch}
use Rattle.esm_next.proofs.lane.decide_batched.Goals as goal

pub returns-in-None-clause-answer : goal.returns-in-None-clause-answer
returns-in-None-clause-answer c =
    let s = setting_of c.args.ledger.now in
    let h = past_of c.args.ledger.now in
    IfOk-weaker c.decide_batch.result (λ d. answer_of d ≡ next_batch s h c.args.lane c.args.now) (λ d. answer_of d ≡ next_allowed s h c.args.lane c.args.now)
    (λ d answer. free_batch s h c.args.lane c.args.now (answer_of d) c.in-None.ensures.free c.requires.none answer) c.decide_batch.ensures.answer
