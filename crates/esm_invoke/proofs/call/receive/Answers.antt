use Rattle.std.proofs.Common.{◌≡◌, length, subst, arith, rules, vec_len}
use Rattle.std.proofs.lemmas.List.{length-take-le}
use Rattle.std.specs.Prelude.{IfOk}
use Rattle.esm_model.specs.declared.entry.Reply.TheVariants.{Garbled}
use Rattle.esm_invoke.specs.Exchange.{GrowsFor}
use Rattle.esm_invoke.specs.Receiving.{ReceivesHead}
use Rattle.esm_invoke.proofs.ReplyLemmas.{into_then, front_is}
use Rattle.esm_invoke.proofs.CallLemmas.{replies_after, replies_garbled, none_after}
use Rattle.esm_invoke.proofs.call.receive.Goals as goal

pub returns-in-Head-clause-read : goal.returns-in-Head-clause-read
returns-in-Head-clause-read g c =
    let buffer = c.receive_head.new.buffer in
    let all : vec_len buffer ≡ length buffer.items = search rules in
    let head = subst (ReceivesHead _ _ _ buffer.items) c.in-Head.is c.in_ok-head.ensures.received in
    let grows : GrowsFor (vec_len c.args.buffer.now) (vec_len buffer) c.in-Head.filled = omega (arith, head.4) in
    into_then _ _ _ _ _ _ _ _ head.1 (length-take-le c.in-Head.filled buffer.items head.0) grows c.receive_body.ensures.read

pub returns-in-Head-clause-replied : goal.returns-in-Head-clause-replied
returns-in-Head-clause-replied g c =
    let head = subst (ReceivesHead _ _ _ c.receive_head.new.buffer.items) c.in-Head.is c.in_ok-head.ensures.received in
    replies_after c.receive_body.result _ _ _ _ head.1 c.receive_body.ensures.replied

pub returns-in-Head-clause-none : goal.returns-in-Head-clause-none
returns-in-Head-clause-none g c =
    let head = subst (ReceivesHead _ _ _ c.receive_head.new.buffer.items) c.in-Head.is c.in_ok-head.ensures.received in
    none_after c.receive_body.result _ _ _ _ head.1 c.receive_body.ensures.none

pub returns-in-Lost-clause-none : goal.returns-in-Lost-clause-none
returns-in-Lost-clause-none g c = λ _. subst (ReceivesHead _ _ _ c.receive_head.new.buffer.items) c.in-Lost.is c.in_ok-head.ensures.received

pub returns-in-Garbled-clause-replied : goal.returns-in-Garbled-clause-replied
returns-in-Garbled-clause-replied g c =
    let none = subst (ReceivesHead _ _ _ c.receive_head.new.buffer.items) c.in-Garbled.is c.in_ok-head.ensures.received in
    replies_garbled c.garbled.result _ _ _ none.1 none.2
    (subst (λ t. IfOk c.garbled.result (λ reply. reply ≡ Garbled t)) (front_is _ _ _ _ c.split_at.ensures.front c.as_slice.ensures.value) c.garbled.ensures)
