use Rattle.std.proofs.Common.{◌≡◌, ◌+◌, true, false, length, take, drop, sym, refl, inl, inr, subst, arith, rules, vec_len}
use Rattle.std.proofs.lemmas.Bool.{false≢true}
use Rattle.std.proofs.lemmas.List.{length-take-le}
use Rattle.esm_io.specs.Talks.{Reads}
use Rattle.esm_invoke.specs.Response.{BeginsWith, NeverHolds}
use Rattle.esm_invoke.specs.ResponseRead.{HasNoHead, NeverBegins}
use Rattle.esm_invoke.proofs.TalkLemmas.{Reads_none}
use Rattle.esm_invoke.proofs.ReplyLemmas.{no_head_in_none, none_without_head, never_without_head, never_none, reads_behind, into_front, front_is}
use Rattle.esm_invoke.proofs.call.receive_head.Goals as goal

pub loop-filled-init : goal.loop-filled-init
loop-filled-init g c = record {
  within = omega arith;
  room = c.requires.room;
  read = Reads_none _;
  front = refl;
  grows = omega arith;
  none = no_head_in_none;
  not_fallen = omega arith;
  counted = c.requires.counted;
}

pub returns-in-Found-clause-read : goal.returns-in-Found-clause-read
returns-in-Found-clause-read g c =
    let buffer = c.read_more.new.buffer in
    let all : vec_len buffer ≡ length buffer.items = search rules in
    let count = c.loop-filled.filled + c.in-Ok.count in
    let len : length (take count buffer.items) ≡ count = length-take-le count buffer.items (omega (arith, c.in-Ok.ensures.within)) in
    into_front _ _ _ count _ _ (reads_behind _ _ _ _ _ _ c.loop-filled.invariant.read c.in_ok-make_room.ensures.front c.in-Ok.ensures.read) len
    (omega (arith, c.loop-filled.invariant.grows, c.make_room.ensures.grows, c.read_more.ensures.room))

pub returns-in-Found-clause-received : goal.returns-in-Found-clause-received
returns-in-Found-clause-received g c =
    let buffer = c.read_more.new.buffer in
    let all : vec_len buffer ≡ length buffer.items = search rules in
    let bytes_are = front_is _ _ _ _ c.split_at.ensures.front c.as_slice.ensures.value in
    let head = c.in-Found.head in (
      omega (arith, c.in-Ok.ensures.within),
      reads_behind _ _ _ _ _ _ c.loop-filled.invariant.read c.in_ok-make_room.ensures.front c.in-Ok.ensures.read,
      subst (λ t. BeginsWith t head (drop head.len t)) bytes_are c.in-Found.ensures.0,
      omega (arith, c.in-Found.ensures.1, c.split_at.ensures.front_len),
      omega (arith, c.loop-filled.invariant.grows, c.make_room.ensures.grows, c.read_more.ensures.room),
    )

pub returns-in-More-2-clause-received : goal.returns-in-More-2-clause-received
returns-in-More-2-clause-received g c =
    let buffer = c.read_more.new.buffer in
    let all : vec_len buffer ≡ length buffer.items = search rules in
    let bytes = take (c.loop-filled.filled + c.in-Ok.count) buffer.items in
    let bytes_are = front_is _ _ _ _ c.split_at.ensures.front c.as_slice.ensures.value in
    let none : HasNoHead (length bytes) bytes = subst (λ t. HasNoHead (length t) t) bytes_are c.in-More-2.ensures in (
      omega (arith, c.in-Ok.ensures.within),
      reads_behind _ _ _ _ _ _ c.loop-filled.invariant.read c.in_ok-make_room.ensures.front c.in-Ok.ensures.read,
      record {
        ended = true;
        at_end = λ _. c.in-Ok.ensures.end (omega (arith, c.if-count-gt0.false));
        none = none_without_head true bytes none;
        reason = inl refl;
      },
    )

pub returns-in-Never-clause-read : goal.returns-in-Never-clause-read
returns-in-Never-clause-read g c =
    let buffer = c.read_more.new.buffer in
    let all : vec_len buffer ≡ length buffer.items = search rules in
    let count = c.loop-filled.filled + c.in-Ok.count in
    let len : length (take count buffer.items) ≡ count = length-take-le count buffer.items (omega (arith, c.in-Ok.ensures.within)) in
    into_front _ _ _ count _ _ (reads_behind _ _ _ _ _ _ c.loop-filled.invariant.read c.in_ok-make_room.ensures.front c.in-Ok.ensures.read) len
    (omega (arith, c.loop-filled.invariant.grows, c.make_room.ensures.grows, c.read_more.ensures.room))

pub returns-in-Never-clause-received : goal.returns-in-Never-clause-received
returns-in-Never-clause-received g c =
    let buffer = c.read_more.new.buffer in
    let all : vec_len buffer ≡ length buffer.items = search rules in
    let bytes = take (c.loop-filled.filled + c.in-Ok.count) buffer.items in
    let bytes_are = front_is _ _ _ _ c.split_at.ensures.front c.as_slice.ensures.value in
    let never : NeverHolds bytes = never_without_head bytes (subst NeverBegins bytes_are c.in-Never.ensures) in (
      omega (arith, c.in-Ok.ensures.within),
      reads_behind _ _ _ _ _ _ c.loop-filled.invariant.read c.in_ok-make_room.ensures.front c.in-Ok.ensures.read,
      record {
        ended = false;
        at_end = λ e. absurd (false≢true e);
        none = never_none false bytes never;
        reason = inr (inr never);
      },
    )

pub returns-clause-received : goal.returns-clause-received
returns-clause-received g c =
    let buffer = c.loop-filled.buffer in
    let all : vec_len buffer ≡ length buffer.items = search rules in
    let bytes = take c.loop-filled.filled buffer.items in
    let len : length bytes ≡ c.loop-filled.filled = length-take-le c.loop-filled.filled buffer.items (omega (arith, c.loop-filled.invariant.within)) in
    let none : HasNoHead (length bytes) bytes = subst (λ n. HasNoHead n bytes) (sym len) c.loop-filled.invariant.none in (
      omega (arith, c.loop-filled.invariant.within),
      c.loop-filled.invariant.read,
      record {
        ended = false;
        at_end = λ e. absurd (false≢true e);
        none = none_without_head false bytes none;
        reason = inr (inl (omega (arith, len, c.loop-filled-test.false)));
      },
    )

pub returns-in_err-make_room-clause-read : goal.returns-in_err-make_room-clause-read
returns-in_err-make_room-clause-read g c =
    into_front _ _ _ c.loop-filled.filled _ _ c.loop-filled.invariant.read c.loop-filled.invariant.front (omega (arith, c.loop-filled.invariant.grows, c.make_room.ensures.grows))

pub returns-in-Err-clause-read : goal.returns-in-Err-clause-read
returns-in-Err-clause-read g c =
    let inv = c.loop-filled.invariant in
    into_front _ _ _ c.loop-filled.filled _ _
    (subst (λ t. Reads (g.L.Link.told c.args.link.now) t (take c.loop-filled.filled c.loop-filled.buffer.items)) (sym c.in-Err.ensures.unread) inv.read) inv.front
    (omega (arith, inv.grows, c.make_room.ensures.grows, c.read_more.ensures.room))

pub returns-in-Err-clause-received : goal.returns-in-Err-clause-received
returns-in-Err-clause-received g c =
    let inv = c.loop-filled.invariant in
    let bytes = take c.loop-filled.filled c.loop-filled.buffer.items in record {
      read = bytes;
      reads = subst (λ t. Reads (g.L.Link.told c.args.link.now) t bytes) (sym c.in-Err.ensures.unread) inv.read;
      none = none_without_head false bytes (subst (λ n. HasNoHead n bytes) (sym inv.front) inv.none);
    }

pub returns-clause-read : goal.returns-clause-read
returns-clause-read g c = into_front _ _ _ c.loop-filled.filled _ _ c.loop-filled.invariant.read c.loop-filled.invariant.front c.loop-filled.invariant.grows
