use Rattle.std.proofs.Common.{◌≡◌, ◌≤◌, ◌+◌, [], length, take, refl, subst, arith, rules, vec_len}
use Rattle.std.proofs.lemmas.List.{length-take-le}
use Rattle.http1.proofs.TextLemmas.{OnErr_always}
use Rattle.esm_model.specs.declared.limits.TheConstants.{MAX_HEAD}
use Rattle.esm_api.specs.Head.{AwaitsHead}
use Rattle.esm_api.specs.HeadRead.{IsPlanned, FindsHead}
use Rattle.esm_api.proofs.HeadLemmas.{none_yet_in_none, awaits_if_short}
use Rattle.esm_api.proofs.PlanLemmas.{planned_short}
use Rattle.esm_api.proofs.RequestLemmas.{unfinished_if_awaits}
use Rattle.esm_api.proofs.TalkLemmas.{Reads_none, Reads_same, Reads_and_none, reads_on, front_is}
use Rattle.esm_api.proofs.receive.receive_head.Goals as goal

pub loop-count-init : goal.loop-count-init
loop-count-init g c = record {
  room = c.requires.room;
  read = Reads_none _;
  front = refl;
  awaits = awaits_if_short [] none_yet_in_none (omega arith);
  not_fallen = omega arith;
}

pub read_more-requires : goal.read_more-requires
read_more-requires g c =
    let inv = c.loop-count.invariant in
    record {
      room = omega (arith, inv.room, inv.front, inv.awaits.short);
      unfinished = unfinished_if_awaits _ inv.awaits;
    }

pub returns-in-Ok-eq0-clause-received : goal.returns-in-Ok-eq0-clause-received
returns-in-Ok-eq0-clause-received g c =
    let inv = c.loop-count.invariant in
    let ended = c.in-Ok-eq0.ensures.end c.in-Ok-eq0.field-0-test in (
      record {
        bytes = take c.loop-count.filled c.loop-count.buffer.items;
        reads = Reads_and_none _ _ _ _ inv.read ended.1;
        unfinished = unfinished_if_awaits _ inv.awaits;
      },
      ended.0,
    )

pub returns-in-Err-clause-received : goal.returns-in-Err-clause-received
returns-in-Err-clause-received g c =
    let inv = c.loop-count.invariant in
    record {
      bytes = take c.loop-count.filled c.loop-count.buffer.items;
      reads = Reads_same _ _ _ _ inv.read c.in-Err.ensures.unread;
      unfinished = unfinished_if_awaits _ inv.awaits;
    }

pub returns-in_err-head-clause-read : goal.returns-in_err-head-clause-read
returns-in_err-head-clause-read g c =
    OnErr_always c.from_residual.result (
      take (c.loop-count.filled + c.in-Ok.count) c.read_more.new.buffer.items,
      reads_on _ _ _ _ _ c.loop-count.invariant.read c.in-Ok.ensures.read,
    )

pub returns-in-Some-clause-received : goal.returns-in-Some-clause-received
returns-in-Some-clause-received g c =
    let buffer = c.read_more.new.buffer in
    let all : vec_len buffer ≡ length buffer.items = search rules in
    let head = c.in-Some.head in
    let bytes = c.split_at.result.0.now in
    let bytes_are = front_is _ _ _ _ c.split_at.ensures.front c.as_slice.ensures.value in
    let found = subst (FindsHead bytes) c.in-Some.is c.in_ok-head.ensures in
    let short : length bytes ≤ MAX_HEAD = omega (arith, c.split_at.ensures.front_len, c.in-Ok.ensures.within, c.in-Ok.ensures.room, c.loop-count.invariant.room) in (
      omega (arith, c.in-Ok.ensures.within),
      reads_on _ _ _ _ _ c.loop-count.invariant.read c.in-Ok.ensures.read,
      subst (λ t. IsPlanned t head) bytes_are found.0,
      omega (arith, found.1, c.split_at.ensures.front_len),
      planned_short bytes head found.0 found.1 short,
    )

pub loop-count-preserved : goal.loop-count-preserved
loop-count-preserved g c =
    let inv = c.loop-count.invariant in
    let buffer = c.read_more.new.buffer in
    let all : vec_len buffer ≡ length buffer.items = search rules in
    let count = c.loop-count.filled + c.in-Ok.count in
    let bytes = c.split_at.result.0.now in
    let bytes_are = front_is _ _ _ _ c.split_at.ensures.front c.as_slice.ensures.value in
    let found = subst (FindsHead bytes) c.in_default.is c.in_ok-head.ensures in
    record {
      room = omega (arith, c.in-Ok.ensures.room, inv.room);
      read = reads_on _ _ _ _ _ inv.read c.in-Ok.ensures.read;
      front = length-take-le count buffer.items (omega (arith, c.in-Ok.ensures.within));
      awaits = subst AwaitsHead bytes_are found;
      not_fallen = omega (arith, inv.not_fallen, c.in-Ok.ensures.count.never_falls);
    }
