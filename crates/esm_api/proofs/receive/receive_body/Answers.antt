use Rattle.std.proofs.Common.{◌≡◌, ◌+◌, length, take, sym, refl, subst, arith, rules, vec_len}
use Rattle.std.proofs.lemmas.List.{length-take-le}
use Rattle.esm_api.specs.HeadRead.{IsPlanned}
use Rattle.esm_api.proofs.HeadLemmas.{planned_on}
use Rattle.esm_api.proofs.RequestLemmas.{unfinished_if_short}
use Rattle.esm_api.proofs.TalkLemmas.{no_more, more_then, more_same, more_and_none}
use Rattle.esm_api.proofs.receive.receive_body.Goals as goal

pub loop-filled-init : goal.loop-filled-init
loop-filled-init g c =
    let buffer = c.args.buffer.now in
    let all : vec_len buffer ≡ length buffer.items = search rules in
    record {
      within = c.requires.within;
      room = refl;
      more = no_more _ (take c.args.first buffer.items);
      front = length-take-le c.args.first buffer.items (omega (arith, c.requires.within));
      planned = c.requires.planned;
      len = c.requires.len;
      not_fallen = omega arith;
      counted = c.requires.counted;
    }

pub read_more-requires-clause-unfinished : goal.read_more-requires-clause-unfinished
read_more-requires-clause-unfinished g c =
    let inv = c.loop-filled.invariant in
    unfinished_if_short (take c.loop-filled.filled c.loop-filled.buffer.items) c.args.head inv.planned (omega (arith, inv.len, inv.front))
    (omega (arith, inv.front, c.loop-filled-test.true, c.body_bytes.ensures))

pub returns-in-Ok-eq0-clause-cut : goal.returns-in-Ok-eq0-clause-cut
returns-in-Ok-eq0-clause-cut g c =
    let inv = c.loop-filled.invariant in
    let ended = c.in-Ok-eq0.ensures.end c.in-Ok-eq0.field-0-test in
    λ _. (
      record {
        bytes = take c.loop-filled.filled c.loop-filled.buffer.items;
        more = more_and_none _ _ _ _ _ inv.more ended.1;
        unfinished =
            unfinished_if_short (take c.loop-filled.filled c.loop-filled.buffer.items) c.args.head inv.planned (omega (arith, inv.len, inv.front))
            (omega (arith, inv.front, c.loop-filled-test.true, c.body_bytes.ensures));
      },
      ended.0,
    )

pub returns-in-Err-clause-fault : goal.returns-in-Err-clause-fault
returns-in-Err-clause-fault g c =
    let inv = c.loop-filled.invariant in
    record {
      bytes = take c.loop-filled.filled c.loop-filled.buffer.items;
      more = more_same _ _ _ _ _ inv.more c.in-Err.ensures.unread;
      unfinished =
          unfinished_if_short (take c.loop-filled.filled c.loop-filled.buffer.items) c.args.head inv.planned (omega (arith, inv.len, inv.front))
          (omega (arith, inv.front, c.loop-filled-test.true, c.body_bytes.ensures));
    }

pub loop-filled-preserved : goal.loop-filled-preserved
loop-filled-preserved g c =
    let inv = c.loop-filled.invariant in
    let before = take c.loop-filled.filled c.loop-filled.buffer.items in
    let buffer = c.read_more.new.buffer in
    let all : vec_len buffer ≡ length buffer.items = search rules in
    let count = c.loop-filled.filled + c.in-Ok.count in
    let more = c.in-Ok.ensures.read in
    record {
      within = c.in-Ok.ensures.within;
      room = omega (arith, c.in-Ok.ensures.room, inv.room);
      more = more_then _ _ _ _ _ _ inv.more more;
      front = length-take-le count buffer.items (omega (arith, c.in-Ok.ensures.within));
      planned = subst (λ t. IsPlanned t c.args.head) (sym more.grown) (planned_on before more.piece c.args.head (omega (arith, inv.len, inv.front)) inv.planned);
      len = omega (arith, inv.len);
      not_fallen = omega (arith, inv.not_fallen, c.in-Ok.ensures.count.never_falls);
      counted = c.in-Ok.ensures.count.greatest;
    }

pub returns-clause-whole : goal.returns-clause-whole
returns-clause-whole g c =
    let inv = c.loop-filled.invariant in
    let buffer = c.loop-filled.buffer in
    let all : vec_len buffer ≡ length buffer.items = search rules in
    record {
      within = omega (arith, inv.within);
      whole = omega (arith, c.loop-filled-test.false, c.body_bytes.ensures);
      more = inv.more;
      planned = inv.planned;
    }
