use Rattle.std.proofs.Common.{◌≡◌, length, subst, arith, rules, vec_len}
use Rattle.std.proofs.lemmas.List.{length-take-le}
use Rattle.esm_invoke.specs.Exchange.{GrowsFor}
use Rattle.esm_invoke.specs.Receiving.{ReceivesHead}
use Rattle.esm_invoke.proofs.ReplyLemmas.{into_then}
use Rattle.esm_invoke.proofs.CallLemmas.{whole_after, misses_after, misses_stopped}
use Rattle.esm_invoke.proofs.call.receive_early.Goals as goal

pub returns-in-Head-clause-read : goal.returns-in-Head-clause-read
returns-in-Head-clause-read g c =
    let buffer = c.receive_head.new.buffer in
    let all : vec_len buffer ≡ length buffer.items = search rules in
    let head = subst (ReceivesHead _ _ _ buffer.items) c.in-Head.is c.in_ok-head.ensures.received in
    let grows : GrowsFor (vec_len c.args.buffer.now) (vec_len buffer) c.in-Head.filled = omega (arith, head.4) in
    into_then _ _ _ _ _ _ _ _ head.1 (length-take-le c.in-Head.filled buffer.items head.0) grows c.receive_early_body.ensures.read

pub returns-in-Head-clause-answered : goal.returns-in-Head-clause-answered
returns-in-Head-clause-answered g c =
    let head = subst (ReceivesHead _ _ _ c.receive_head.new.buffer.items) c.in-Head.is c.in_ok-head.ensures.received in
    whole_after c.receive_early_body.result _ _ _ _ head.1 c.receive_early_body.ensures.answered

pub returns-in-Head-clause-missed : goal.returns-in-Head-clause-missed
returns-in-Head-clause-missed g c =
    let head = subst (ReceivesHead _ _ _ c.receive_head.new.buffer.items) c.in-Head.is c.in_ok-head.ensures.received in
    misses_after c.receive_early_body.result _ _ _ _ _ _ _ head.1 c.receive_head.ensures.count.never_falls c.receive_early_body.ensures.missed

pub returns-in-Garbled-clause-missed : goal.returns-in-Garbled-clause-missed
returns-in-Garbled-clause-missed g c =
    let none = subst (ReceivesHead _ _ _ c.receive_head.new.buffer.items) c.in-Garbled.is c.in_ok-head.ensures.received in
    λ _. misses_stopped _ _ _ _ _ none.1 none.2
