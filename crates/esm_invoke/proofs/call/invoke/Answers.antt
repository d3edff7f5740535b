use Rattle.std.proofs.Common.{◌<◌, ◌≤◌, ◌∙◌, length, sym, subst, arith, vec_len}
use Rattle.esm_io.specs.Talks.{Writes}
use Rattle.esm_invoke.specs.Receiving.{WritesPart}
use Rattle.esm_invoke.proofs.CallLemmas.{answers_after, answers_early, loses_after, loses_early, sends_none, sends_part, sends_all, request_some}
use Rattle.esm_invoke.proofs.call.invoke.Goals as goal

pub returns-in_err-request-clause-sent : goal.returns-in_err-request-clause-sent
returns-in_err-request-clause-sent g c = sends_none g.L.Link.told g.L.Link.faults _ _ _ _ (omega (arith, c.truncate.ensures.len))

pub send-requires : goal.send-requires
send-requires g c =
    let text = c.deref.ensures.value ∙ c.in_ok-request.ensures in
    record { some = subst (λ t. 0 < length t) (sym text) (request_some c.args.name.now c.args.event.now) }

pub returns-in-Ok-clause-answered : goal.returns-in-Ok-clause-answered
returns-in-Ok-clause-answered g c =
    let text = c.deref.ensures.value ∙ c.in_ok-request.ensures in
    answers_after g.L.Link.told g.L.Link.faults c.receive.result _ _ _ _ (subst (Writes _ _) text c.in-Ok.ensures.sent) c.receive.ensures.replied

pub returns-in-Ok-clause-unanswered : goal.returns-in-Ok-clause-unanswered
returns-in-Ok-clause-unanswered g c =
    let text = c.deref.ensures.value ∙ c.in_ok-request.ensures in
    loses_after g.L.Link.told g.L.Link.faults c.receive.result _ _ _ _ (subst (Writes _ _) text c.in-Ok.ensures.sent) c.receive.ensures.none c.receive.ensures.lost

pub returns-in-Ok-clause-sent : goal.returns-in-Ok-clause-sent
returns-in-Ok-clause-sent g c =
    let text = c.deref.ensures.value ∙ c.in_ok-request.ensures in
    let shorter : vec_len c.truncate.new.self ≤ vec_len c.args.buffer.now = omega (arith, c.truncate.ensures.len) in
    sends_all g.L.Link.told g.L.Link.faults _ _ _ _ _ _ _ (subst (Writes _ _) text c.in-Ok.ensures.sent) shorter c.receive.ensures.read

pub returns-clause-answered : goal.returns-clause-answered
returns-clause-answered g c =
    let text = c.deref.ensures.value ∙ c.in_ok-request.ensures in
    answers_early g.L.Link.told g.L.Link.faults c.receive_early.result _ _ _ _ (subst (WritesPart _ _) text c.in-Err.ensures.part) c.in-Err.ensures.cause
    c.receive_early.ensures.answered

pub returns-clause-unanswered : goal.returns-clause-unanswered
returns-clause-unanswered g c =
    let text = c.deref.ensures.value ∙ c.in_ok-request.ensures in
    loses_early g.L.Link.told g.L.Link.faults c.receive_early.result _ _ _ _ (subst (WritesPart _ _) text c.in-Err.ensures.part) c.in-Err.ensures.cause
    c.receive_early.ensures.missed

pub returns-clause-sent : goal.returns-clause-sent
returns-clause-sent g c =
    let text = c.deref.ensures.value ∙ c.in_ok-request.ensures in
    let shorter : vec_len c.truncate.new.self ≤ vec_len c.args.buffer.now = omega (arith, c.truncate.ensures.len) in
    sends_part g.L.Link.told g.L.Link.faults _ _ _ _ _ _ _ (subst (WritesPart _ _) text c.in-Err.ensures.part) c.in-Err.ensures.cause shorter c.receive_early.ensures.read
