use Rattle.std.proofs.Common.{◌≡◌, ◌≤◌, ◌+◌, ℕ, [], length, take, drop, sym, ap, ◌∙◌, subst, inr, append-nil, arith, rules, vec_len}
use Rattle.std.proofs.lemmas.List.{length-take-le}
use Rattle.http1.proofs.TextLemmas.{OnErr_always}
use Rattle.esm_io.specs.Meanings.{disk as meaning}
use Rattle.esm_io.specs.Talks.{Writes}
use Rattle.esm_model.specs.declared.limits.TheConstants.{MAX_HEAD}
use Rattle.esm_api.specs.declared.length.TheConstants.{MAX_REQUEST_BODY}
use Rattle.esm_api.specs.declared.serve.Served.TheVariants.{Answered}
use Rattle.esm_api.specs.Judged.{judgement_of}
use Rattle.esm_api.specs.Receiving.{Receives}
use Rattle.esm_api.specs.Request.{judged}
use Rattle.esm_api.specs.Serving.{Responds}
use Rattle.esm_api.proofs.RequestLemmas.{judged_if_planned}
use Rattle.esm_api.proofs.ServeLemmas.{responds_if, responds_fault, unanswered_if}
use Rattle.esm_api.proofs.TalkLemmas.{front_is}
use Rattle.esm_api.proofs.serve.serve_one.Goals as goal

status_same : (a b : ℕ) → Answered a ≡ Answered b → a ≡ b
status_same a b e = cc

pub returns-in_err-response-clause-unanswered : goal.returns-in_err-response-clause-unanswered
returns-in_err-response-clause-unanswered g c =
    let m = (meaning g.D.Disk) in
    let head = c.in-Whole.head in
    let read = take c.in-Whole.filled c.receive.new.buffer.items in
    let received = subst (Receives (g.L.Link.told c.args.link.now) (g.L.Link.told c.receive.new.link) c.receive.new.buffer.items) c.in-Whole.is c.in_ok-head.ensures.received in
    let bytes_are = front_is _ _ _ _ c.split_at.ensures.front c.as_slice.ensures.value in
    let after_is : c.split_at-2.result.1.now ≡ drop head.len read = c.split_at-2.ensures.back ∙ ap (drop head.len) bytes_are in
    let is = judged_if_planned read head (judgement_of c.in_ok-judged.judged) received.2 (c.in_ok-judged.ensures ∙ ap (judged head.plan) after_is) in
    OnErr_always c.from_residual-in_err-response.result
    (unanswered_if _ _ m c.args.registry.now c.respond.new.registry c.args.moment read (judgement_of c.in_ok-judged.judged) received.1 is c.in_err-response.ensures.unanswered)

pub returns-in-Ok-clause-answered : goal.returns-in-Ok-clause-answered
returns-in-Ok-clause-answered g c =
    let m = (meaning g.D.Disk) in
    let head = c.in-Whole.head in
    let read = take c.in-Whole.filled c.receive.new.buffer.items in
    let received = subst (Receives (g.L.Link.told c.args.link.now) (g.L.Link.told c.receive.new.link) c.receive.new.buffer.items) c.in-Whole.is c.in_ok-head.ensures.received in
    let bytes_are = front_is _ _ _ _ c.split_at.ensures.front c.as_slice.ensures.value in
    let after_is : c.split_at-2.result.1.now ≡ drop head.len read = c.split_at-2.ensures.back ∙ ap (drop head.len) bytes_are in
    let is = judged_if_planned read head (judgement_of c.in_ok-judged.judged) received.2 (c.in_ok-judged.ensures ∙ ap (judged head.plan) after_is) in
    let text = c.in_ok-response.response.text.items in
    let told = g.L.Link.told in
    let all : vec_len c.receive.new.buffer ≡ length c.receive.new.buffer.items = search rules in
    let within : length read ≤ MAX_HEAD + MAX_REQUEST_BODY =
    omega (arith, length-take-le c.in-Whole.filled c.receive.new.buffer.items received.0, received.0, c.in_ok-head.ensures.bound) in
    let writes = subst (Writes (told c.receive.new.link) (told c.send.new.link)) c.deref.ensures.value c.in-Ok.ensures.sent in
    λ n e.
    subst (λ n. Responds told c.args.link.now c.send.new.link m c.args.registry.now c.respond.new.registry c.args.moment n []) (status_same _ n e)
    (responds_if told c.args.link.now c.receive.new.link c.send.new.link m c.args.registry.now c.respond.new.registry c.args.moment read c.in_ok-judged.judged c.in_ok-response.response text []
    within received.1 is c.in_ok-response.ensures.given (sym (append-nil text)) writes)

pub returns-in-Ok-clause-disk_cause : goal.returns-in-Ok-clause-disk_cause
returns-in-Ok-clause-disk_cause g c =
    let m = (meaning g.D.Disk) in
    let head = c.in-Whole.head in
    let read = take c.in-Whole.filled c.receive.new.buffer.items in
    let received = subst (Receives (g.L.Link.told c.args.link.now) (g.L.Link.told c.receive.new.link) c.receive.new.buffer.items) c.in-Whole.is c.in_ok-head.ensures.received in
    let bytes_are = front_is _ _ _ _ c.split_at.ensures.front c.as_slice.ensures.value in
    let after_is : c.split_at-2.result.1.now ≡ drop head.len read = c.split_at-2.ensures.back ∙ ap (drop head.len) bytes_are in
    let is = judged_if_planned read head (judgement_of c.in_ok-judged.judged) received.2 (c.in_ok-judged.ensures ∙ ap (judged head.plan) after_is) in
    let text = c.in_ok-response.response.text.items in
    let told = g.L.Link.told in
    let all : vec_len c.receive.new.buffer ≡ length c.receive.new.buffer.items = search rules in
    let within : length read ≤ MAX_HEAD + MAX_REQUEST_BODY =
    omega (arith, length-take-le c.in-Whole.filled c.receive.new.buffer.items received.0, received.0, c.in_ok-head.ensures.bound) in
    let writes = subst (Writes (told c.receive.new.link) (told c.send.new.link)) c.deref.ensures.value c.in-Ok.ensures.sent in
    λ e.
    responds_fault told c.args.link.now c.send.new.link m c.args.registry.now c.respond.new.registry c.args.moment _ []
    (responds_if told c.args.link.now c.receive.new.link c.send.new.link m c.args.registry.now c.respond.new.registry c.args.moment read c.in_ok-judged.judged c.in_ok-response.response text []
    within received.1 is c.in_ok-response.ensures.given (sym (append-nil text)) writes) (status_same _ 500 e)

pub returns-clause-fault : goal.returns-clause-fault
returns-clause-fault g c =
    let m = (meaning g.D.Disk) in
    let head = c.in-Whole.head in
    let read = take c.in-Whole.filled c.receive.new.buffer.items in
    let received = subst (Receives (g.L.Link.told c.args.link.now) (g.L.Link.told c.receive.new.link) c.receive.new.buffer.items) c.in-Whole.is c.in_ok-head.ensures.received in
    let bytes_are = front_is _ _ _ _ c.split_at.ensures.front c.as_slice.ensures.value in
    let after_is : c.split_at-2.result.1.now ≡ drop head.len read = c.split_at-2.ensures.back ∙ ap (drop head.len) bytes_are in
    let is = judged_if_planned read head (judgement_of c.in_ok-judged.judged) received.2 (c.in_ok-judged.ensures ∙ ap (judged head.plan) after_is) in
    let told = g.L.Link.told in
    let all : vec_len c.receive.new.buffer ≡ length c.receive.new.buffer.items = search rules in
    let within : length read ≤ MAX_HEAD + MAX_REQUEST_BODY =
    omega (arith, length-take-le c.in-Whole.filled c.receive.new.buffer.items received.0, received.0, c.in_ok-head.ensures.bound) in
    let part = c.send.ensures.part in
    λ _. inr (
      c.in_ok-response.response.status,
      part.unsent,
      responds_if told c.args.link.now c.receive.new.link c.send.new.link m c.args.registry.now c.respond.new.registry c.args.moment read c.in_ok-judged.judged c.in_ok-response.response part.sent part.unsent
          within received.1 is c.in_ok-response.ensures.given (sym c.deref.ensures.value ∙ part.parts) part.writes,
    )
