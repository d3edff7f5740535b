use Rattle.std.proofs.Common.{◌≡◌, length, take, subst, arith, rules, vec_len}
use Rattle.esm_api.specs.Receiving.{ReadsMore, ReceivesHead}
use Rattle.esm_api.proofs.TalkLemmas.{reads_on}
use Rattle.esm_api.proofs.receive.receive.Goals as goal

pub returns-in-Ok-Some-clause-received : goal.returns-in-Ok-Some-clause-received
returns-in-Ok-Some-clause-received g c =
    let buffer = c.receive_head.new.buffer in
    let all : vec_len buffer ≡ length buffer.items = search rules in
    let head = subst (ReceivesHead _ _ buffer.items) c.in-Whole.is c.in_ok-head.ensures.received in
    let body = rw c.in-Ok-Some.field-0-is at c.in-Ok-Some.ensures.whole in
    let front = c.in_ok-make_room.ensures.front c.in-Whole.filled (omega (arith, head.0)) in (
      body.within,
      reads_on _ _ _ _ _ head.1 (subst (λ t. ReadsMore (g.L.Link.told c.receive_head.new.link) (g.L.Link.told c.receive_body.new.link) t (take c.in-Ok-Some.filled c.receive_body.new.buffer.items)) front body.more),
      body.planned,
      body.whole,
    )

pub returns-in-Ok-None-clause-received : goal.returns-in-Ok-None-clause-received
returns-in-Ok-None-clause-received g c =
    let buffer = c.receive_head.new.buffer in
    let all : vec_len buffer ≡ length buffer.items = search rules in
    let head = subst (ReceivesHead _ _ buffer.items) c.in-Whole.is c.in_ok-head.ensures.received in
    let cut = c.in-Ok-None.ensures.cut c.in-Ok-None.field-0-is in
    let front = c.in_ok-make_room.ensures.front c.in-Whole.filled (omega (arith, head.0)) in (
      record {
        bytes = cut.0.bytes;
        reads = reads_on _ _ _ _ _ head.1 (subst (λ t. ReadsMore (g.L.Link.told c.receive_head.new.link) (g.L.Link.told c.receive_body.new.link) t cut.0.bytes) front cut.0.more);
        unfinished = cut.0.unfinished;
      },
      cut.1,
    )

pub returns-in-Err-clause-received : goal.returns-in-Err-clause-received
returns-in-Err-clause-received g c =
    let buffer = c.receive_head.new.buffer in
    let all : vec_len buffer ≡ length buffer.items = search rules in
    let head = subst (ReceivesHead _ _ buffer.items) c.in-Whole.is c.in_ok-head.ensures.received in
    let fault = c.in-Err.ensures.fault in
    let front = c.in_ok-make_room.ensures.front c.in-Whole.filled (omega (arith, head.0)) in
    record {
      bytes = fault.bytes;
      reads = reads_on _ _ _ _ _ head.1 (subst (λ t. ReadsMore (g.L.Link.told c.receive_head.new.link) (g.L.Link.told c.receive_body.new.link) t fault.bytes) front fault.more);
      unfinished = fault.unfinished;
    }
