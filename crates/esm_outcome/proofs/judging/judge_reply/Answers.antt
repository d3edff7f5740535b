use Rattle.std.proofs.Common.{◌≤◌, ◌≡◌, ◌∙◌, length, ap, subst, arith}
use Rattle.std.specs.Prelude.{is_some}
use Rattle.esm_model.specs.declared.verdict.Reading.{Reading}
use Rattle.esm_model.specs.declared.verdict.Verdict.{Verdict}
use Rattle.esm_model.specs.Setting.{sequences_at}
use Rattle.esm_model.specs.Reading.{reading}
use Rattle.esm_model.specs.Ruling.{ruling}
use Rattle.esm_ledger.specs.Ledger.{setting_of}
use Rattle.esm_outcome.specs.Parts.{text_in}
use Rattle.esm_outcome.proofs.Called.{called_few, called_open, verdict_read}
use Rattle.esm_outcome.proofs.Verdicts.{state_told}
use Rattle.esm_outcome.proofs.judging.judge_reply.Goals as goal

pub answer_of-requires-clause-open : goal.answer_of-requires-clause-open
answer_of-requires-clause-open c = called_open c.args.ledger.now c.args.lane c.args.places.now c.args.closing c.requires.kept c.requires.call

pub answer_of-requires-clause-few : goal.answer_of-requires-clause-few
answer_of-requires-clause-few c = called_few c.args.ledger.now c.args.lane c.args.places.now c.args.closing c.requires.kept c.requires.call

pub overflow_cast-places : goal.overflow_cast-places
overflow_cast-places c =
    let few : length c.args.places.now ≤ 10000 = called_few c.args.ledger.now c.args.lane c.args.places.now c.args.closing c.requires.kept c.requires.call in
    omega (arith, few)

pub returns-clause-verdict : goal.returns-clause-verdict
returns-clause-verdict c =
    c.judge-verdict.ensures
    ∙ verdict_read c.args.ledger.now c.args.lane c.args.places.now c.args.closing c.args.reply.now c.tries_of-tries.result c.in_ok-answer.answer.reading c.requires.kept c.requires.call c.tries_of-tries.ensures c.in_ok-answer.ensures.reading

pub returns-clause-state : goal.returns-clause-state
returns-clause-state c some windows =
    let config = c.args.ledger.now.config in
    let ids = sequences_at (setting_of c.args.ledger.now) c.args.lane.shard c.args.places.now in
    let count = length c.args.places.now in
    let tries = c.tries_of-tries.result in
    let judged : c.judge-verdict.result ≡ ruling config count tries (reading config ids (is_some c.args.closing) c.args.reply.now) =
    c.judge-verdict.ensures ∙ ap (λ (r : Reading). ruling config count tries r) c.in_ok-answer.ensures.reading in
    ap (text_in c.args.reply.now) c.in_ok-answer.ensures.state
    ∙ state_told config ids (is_some c.args.closing) c.args.reply.now count tries (subst (λ (v : Verdict). 1 ≤ v.succeeded) judged some) windows
