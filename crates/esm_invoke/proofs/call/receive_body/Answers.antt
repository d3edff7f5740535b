use Rattle.std.proofs.Common.{◌≡◌, ◌≤◌, ◌+◌, true, false, length, take, drop, sym, refl, ap, ◌∙◌, inl, inr, subst, arith, rules, vec_len}
use Rattle.std.specs.Prelude.{IfOk}
use Rattle.std.proofs.lemmas.Bool.{false≢true}
use Rattle.std.proofs.lemmas.List.{length-take-le}
use Rattle.esm_model.specs.declared.entry.Reply.TheVariants.{Garbled}
use Rattle.esm_invoke.specs.Response.{BeginsWith}
use Rattle.esm_invoke.specs.ResponseRead.{Awaits, IsUnfinished}
use Rattle.esm_invoke.specs.Receiving.{ReadsMore}
use Rattle.esm_invoke.proofs.ReplyLemmas.{no_more, more_then, more_behind, begins_on, awaits_more, awaits_start, none_unfinished, garbled_if, replies_if, has_none, goes_on_here, front_stays, into_behind, front_is}
use Rattle.esm_invoke.proofs.call.receive_body.Goals as goal

pub loop-body-init : goal.loop-body-init
loop-body-init g c =
    let buffer = c.args.buffer.now in
    let all : vec_len buffer ≡ length buffer.items = search rules in
    let bytes = take c.args.first buffer.items in
    let len : length bytes ≡ c.args.first = length-take-le c.args.first buffer.items (omega (arith, c.requires.within)) in
    let same = c.new-body.ensures.head in
    record {
      within = c.requires.within;
      room = c.requires.room;
      read = no_more _ bytes;
      first = len;
      front = len;
      grows = omega arith;
      begins = subst (λ h. BeginsWith bytes h (drop h.len bytes)) (sym same) c.requires.begins;
      len = omega (arith, ap (λ h. h.len) same, c.requires.len);
      awaits = awaits_start bytes c.args.head c.new-body.result same c.new-body.ensures.decoder c.new-body.ensures.at c.new-body.ensures.content (omega (arith, len, c.requires.len));
      not_fallen = omega arith;
      counted = c.requires.counted;
    }

pub returns-then-filled-gt-MAX_RESPONSE-clause-replied : goal.returns-then-filled-gt-MAX_RESPONSE-clause-replied
returns-then-filled-gt-MAX_RESPONSE-clause-replied g c =
    let buffer = c.loop-body.buffer in
    let r = c.settle.new.body in
    let inv = c.loop-body.invariant in
    let all : vec_len buffer ≡ length buffer.items = search rules in
    let before = take c.loop-body.filled buffer.items in
    let len : length before ≡ c.loop-body.filled = length-take-le c.loop-body.filled buffer.items (omega (arith, inv.within)) in
    let bytes_are = front_is _ _ _ _ c.split_at.ensures.front c.as_slice.ensures.value in
    let state = goes_on_here _ before r _ c.in_ok-reply.ensures.settled c.in_default.is bytes_are in
    let begins = subst (λ h. BeginsWith before h (drop h.len before)) (sym c.in_ok-reply.ensures.head) inv.begins in
    replies_if c.garbled.result _ _ (take c.args.first c.args.buffer.now.items) before false inv.read
    (λ e. absurd (false≢true e))
    (garbled_if c.garbled.result false before (none_unfinished false before r begins state.0 state.1 (λ _. refl))
    (inr (inl (omega (arith, len, c.if-filled-gt-MAX_RESPONSE.true)))) (subst (λ t. IfOk c.garbled.result (λ reply. reply ≡ Garbled t)) bytes_are c.garbled.ensures))

pub returns-in-Err-clause-none : goal.returns-in-Err-clause-none
returns-in-Err-clause-none g c =
    let r = c.settle.new.body in
    let inv = c.loop-body.invariant in
    let start = take c.args.first c.args.buffer.now.items in
    let before = take c.loop-body.filled c.loop-body.buffer.items in
    let bytes_are = front_is _ _ _ _ c.split_at.ensures.front c.as_slice.ensures.value in
    let state = goes_on_here _ before r _ c.in_ok-reply.ensures.settled c.in_default.is bytes_are in
    let begins = subst (λ h. BeginsWith before h (drop h.len before)) (sym c.in_ok-reply.ensures.head) inv.begins in
    λ _. has_none _ _ start before (subst (λ t. ReadsMore (g.L.Link.told c.args.link.now) t start before) (sym c.in-Err.ensures.unread) inv.read)
    (none_unfinished false before r begins state.0 state.1 (λ _. refl))

pub close-requires-clause-begins : goal.close-requires-clause-begins
close-requires-clause-begins g c =
    let r = c.settle.new.body in
    let before = take c.loop-body.filled c.loop-body.buffer.items in
    let roomy = c.make_room.new.buffer in
    let room : vec_len roomy ≡ length roomy.items = search rules in
    let buffer = c.read_more.new.buffer in
    let all : vec_len buffer ≡ length buffer.items = search rules in
    let bytes = c.split_at-in-Ok-eq0.result.0.now in
    let same : bytes ≡ before = front_stays _ _ roomy.items buffer.items bytes c.loop-body.filled c.in-Ok-eq0.field-0 (omega (arith, c.in_ok-make_room.ensures.room)) (omega (arith, c.in-Ok-eq0.ensures.within))
    c.in-Ok-eq0.field-0-test c.in-Ok-eq0.ensures.read (front_is _ _ _ _ c.split_at-in-Ok-eq0.ensures.front c.as_slice-in-Ok-eq0.ensures.value) ∙ c.make_room.ensures.front in
    subst (λ t. BeginsWith t r.head (drop r.head.len t)) (sym same) (subst (λ h. BeginsWith before h (drop h.len before)) (sym c.in_ok-reply.ensures.head) c.loop-body.invariant.begins)

pub close-requires-clause-awaits : goal.close-requires-clause-awaits
close-requires-clause-awaits g c =
    let r = c.settle.new.body in
    let before = take c.loop-body.filled c.loop-body.buffer.items in
    let roomy = c.make_room.new.buffer in
    let room : vec_len roomy ≡ length roomy.items = search rules in
    let buffer = c.read_more.new.buffer in
    let all : vec_len buffer ≡ length buffer.items = search rules in
    let bytes = c.split_at-in-Ok-eq0.result.0.now in
    let same : bytes ≡ before = front_stays _ _ roomy.items buffer.items bytes c.loop-body.filled c.in-Ok-eq0.field-0 (omega (arith, c.in_ok-make_room.ensures.room)) (omega (arith, c.in-Ok-eq0.ensures.within))
    c.in-Ok-eq0.field-0-test c.in-Ok-eq0.ensures.read (front_is _ _ _ _ c.split_at-in-Ok-eq0.ensures.front c.as_slice-in-Ok-eq0.ensures.value) ∙ c.make_room.ensures.front in
    let bytes_are = front_is _ _ _ _ c.split_at.ensures.front c.as_slice.ensures.value in
    subst (λ t. Awaits t r) (sym same) (goes_on_here _ before r _ c.in_ok-reply.ensures.settled c.in_default.is bytes_are).0

pub close-requires-clause-unfinished : goal.close-requires-clause-unfinished
close-requires-clause-unfinished g c =
    let r = c.settle.new.body in
    let before = take c.loop-body.filled c.loop-body.buffer.items in
    let roomy = c.make_room.new.buffer in
    let room : vec_len roomy ≡ length roomy.items = search rules in
    let buffer = c.read_more.new.buffer in
    let all : vec_len buffer ≡ length buffer.items = search rules in
    let bytes = c.split_at-in-Ok-eq0.result.0.now in
    let same : bytes ≡ before = front_stays _ _ roomy.items buffer.items bytes c.loop-body.filled c.in-Ok-eq0.field-0 (omega (arith, c.in_ok-make_room.ensures.room)) (omega (arith, c.in-Ok-eq0.ensures.within))
    c.in-Ok-eq0.field-0-test c.in-Ok-eq0.ensures.read (front_is _ _ _ _ c.split_at-in-Ok-eq0.ensures.front c.as_slice-in-Ok-eq0.ensures.value) ∙ c.make_room.ensures.front in
    let bytes_are = front_is _ _ _ _ c.split_at.ensures.front c.as_slice.ensures.value in
    subst (λ t. IsUnfinished t r) (sym same) (goes_on_here _ before r _ c.in_ok-reply.ensures.settled c.in_default.is bytes_are).1

pub returns-in-Ok-eq0-clause-read : goal.returns-in-Ok-eq0-clause-read
returns-in-Ok-eq0-clause-read g c =
    let inv = c.loop-body.invariant in
    let buffer = c.read_more.new.buffer in
    let all : vec_len buffer ≡ length buffer.items = search rules in
    let count = c.loop-body.filled + c.in-Ok-eq0.field-0 in
    let len : length (take count buffer.items) ≡ count = length-take-le count buffer.items (omega (arith, c.in-Ok-eq0.ensures.within)) in
    into_behind _ _ _ _ _ count _ _ (more_behind _ _ _ _ _ _ _ inv.read c.make_room.ensures.front c.in-Ok-eq0.ensures.read) inv.first len
    (omega (arith, inv.grows, c.make_room.ensures.grows, c.read_more.ensures.room))

pub returns-in-Ok-eq0-clause-replied : goal.returns-in-Ok-eq0-clause-replied
returns-in-Ok-eq0-clause-replied g c =
    let buffer = c.read_more.new.buffer in
    let bytes = c.split_at-in-Ok-eq0.result.0.now in
    let after = take (c.loop-body.filled + c.in-Ok-eq0.field-0) buffer.items in
    let bytes_are = front_is _ _ _ _ c.split_at-in-Ok-eq0.ensures.front c.as_slice-in-Ok-eq0.ensures.value in
    let all : after ≡ bytes = ap (λ k. take k buffer.items) (omega (arith, c.in-Ok-eq0.field-0-test)) ∙ sym bytes_are in
    replies_if c.close.result _ _ (take c.args.first c.args.buffer.now.items) bytes true
    (subst (ReadsMore _ _ (take c.args.first c.args.buffer.now.items)) all (more_behind _ _ _ _ _ _ _ c.loop-body.invariant.read c.make_room.ensures.front c.in-Ok-eq0.ensures.read))
    (λ _. c.in-Ok-eq0.ensures.end c.in-Ok-eq0.field-0-test) c.close.ensures

pub loop-body-preserved : goal.loop-body-preserved
loop-body-preserved g c =
    let r = c.settle.new.body in
    let inv = c.loop-body.invariant in
    let old = c.loop-body.buffer in
    let before = take c.loop-body.filled old.items in
    let buffer = c.read_more.new.buffer in
    let all : vec_len buffer ≡ length buffer.items = search rules in
    let count = c.loop-body.filled + c.in-Ok.count in
    let after = take count buffer.items in
    let len = inv.front in
    let head = c.in_ok-reply.ensures.head in
    let short : r.head.len ≤ length before = omega (arith, len, inv.len, ap (λ h. h.len) head) in
    let bytes_are = front_is _ _ _ _ c.split_at.ensures.front c.as_slice.ensures.value in
    let state = goes_on_here _ before r _ c.in_ok-reply.ensures.settled c.in_default.is bytes_are in
    let begins = subst (λ h. BeginsWith before h (drop h.len before)) (sym head) inv.begins in
    let more = subst (λ t. ReadsMore (g.L.Link.told c.loop-body.link) (g.L.Link.told c.read_more.new.link) t after) c.make_room.ensures.front c.in-Ok.ensures.read in
    record {
      within = c.in-Ok.ensures.within;
      room = omega (arith, c.make_room.ensures.bound, c.in-Ok.ensures.room);
      read = more_then _ _ _ _ _ _ inv.read more;
      first = inv.first;
      front = length-take-le count buffer.items (omega (arith, c.in-Ok.ensures.within));
      grows = omega (arith, inv.grows, c.make_room.ensures.grows, c.read_more.ensures.room);
      begins = begins_on _ _ before _ r.head more short begins;
      len = omega (arith, short, len);
      awaits = awaits_more _ _ before _ r more short state.0;
      not_fallen = omega (arith, inv.not_fallen, c.in-Ok.ensures.count.never_falls);
      counted = c.in-Ok.ensures.count.greatest;
    }
