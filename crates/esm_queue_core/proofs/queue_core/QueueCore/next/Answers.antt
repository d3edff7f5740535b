use Rattle.std.proofs.Common.{◌≡◌, ◌∙◌, [], List, rules, arith, length, reverse, vec_len, refl, sym, ap, subst}
use Rattle.std.specs.Vec.{vec_capacity}
use Rattle.esm_model.specs.declared.entry.Entry.{Entry}
use Rattle.esm_model.specs.Entries.{is_running}
use Rattle.esm_queue_model.specs.QueueEntries.{queue_lane}
use Rattle.esm_queue_core.specs.declared.next.Counts.{Counts}
use Rattle.esm_queue_core.specs.declared.standing.Standing.TheVariants.{Whole}
use Rattle.esm_queue_core.specs.CoreView.{CoreView}
use Rattle.esm_queue_core.specs.Kept.{IsKept, own, owed_entries}
use Rattle.esm_queue_core.specs.Inside.{parts_of}
use Rattle.esm_queue_core.proofs.Keeping.{owed_none, kept_rest}
use Rattle.esm_queue_core.proofs.Following.{Follows, stored_valid, told_by, decided}
use Rattle.esm_queue_core.proofs.queue_core.QueueCore.next.Goals as goal

pub make_room-requires : goal.make_room-requires
make_room-requires c = omega (arith, c.may_decide.ensures.short c.if-not-may_decide.false)

pub decide_next-requires-clause-stored : goal.decide_next-requires-clause-stored
decide_next-requires-clause-stored c =
    let whole : c.self.inside.standing ≡ Whole = c.may_decide.ensures.whole c.if-not-may_decide.false in
    stored_valid (parts_of c.self.inside) c.self.invariant whole

pub invariant_of-self-in_err-prepare_for : goal.invariant_of-self-in_err-prepare_for
invariant_of-self-in_err-prepare_for c =
    let p = parts_of c.self.inside in
    let owed : owed_entries p.first p.gift ≡ [] = ap (λ (v : CoreView). v.owed) c.self.view_is ∙ c.requires.settled in
    let none = owed_none p.first p.gift owed in
    subst (λ (items : List Entry). IsKept (record p { held = c.prepare_for.new.queue; capacity = vec_capacity c.make_room.new.history; past = reverse items; number = length items })) (sym c.make_room.ensures.items)
    (kept_rest p c.prepare_for.new.queue (vec_capacity c.make_room.new.history) c.self.invariant none.0 c.prepare_for.ensures.state c.make_room.ensures.capacity)

pub invariant_of-self-2 : goal.invariant_of-self-2
invariant_of-self-2 c =
    let p = parts_of c.self.inside in
    let k : IsKept p = c.self.invariant in
    let whole : c.self.inside.standing ≡ Whole = c.may_decide.ensures.whole c.if-not-may_decide.false in
    let owed : owed_entries p.first p.gift ≡ [] = ap (λ (v : CoreView). v.owed) c.self.view_is ∙ c.requires.settled in
    let none = owed_none p.first p.gift owed in
    let counts : Counts = record { calls = c.self.inside.calls; begun = c.self.inside.begun; deleted = c.self.inside.deleted; shut = c.self.inside.shut } in
    let all : vec_len c.self.inside.history ≡ length c.self.inside.history.items = search rules in
    let follows : Follows p c.prepare_for.new.queue (vec_capacity c.make_room.new.history) c.args.batcher c.in_ok-next.next c.in_ok-began.began c.raised_to-now.result c.args.moment = record {
      none = none.0;
      nothing = none.1;
      rests = ap (λ (v : CoreView). is_running v.past (queue_lane c.args.batcher)) c.self.view_is ∙ c.requires.rests;
      is = c.in_ok-next.ensures (own p) p.past (told_by p k whole counts refl refl refl);
      begun = c.in_ok-began.ensures;
      now = c.raised_to-now.ensures.value;
      same = c.prepare_for.ensures.state;
      ready = c.in_ok-prepare_for.ensures.ready;
      grown = c.make_room.ensures.capacity;
      room = c.in_ok-make_room.ensures.ok;
      short = omega (arith, all, c.len.ensures, c.may_decide.ensures.short c.if-not-may_decide.false);
    } in
    let done = decided p c.args.self.now c.prepare_for.new.queue (vec_capacity c.make_room.new.history) c.self.inside.history.items c.make_room.new.history.items c.args.batcher c.raised_to-now.result c.args.moment c.in_ok-next.next c.in_ok-began.began k whole c.self.view_is follows refl refl c.make_room.ensures.items in
    done.kept

pub returns-clause-answer : goal.returns-clause-answer
returns-clause-answer c =
    let p = parts_of c.self.inside in
    let k : IsKept p = c.self.invariant in
    let whole : c.self.inside.standing ≡ Whole = c.may_decide.ensures.whole c.if-not-may_decide.false in
    let owed : owed_entries p.first p.gift ≡ [] = ap (λ (v : CoreView). v.owed) c.self.view_is ∙ c.requires.settled in
    let none = owed_none p.first p.gift owed in
    let counts : Counts = record { calls = c.self.inside.calls; begun = c.self.inside.begun; deleted = c.self.inside.deleted; shut = c.self.inside.shut } in
    let all : vec_len c.self.inside.history ≡ length c.self.inside.history.items = search rules in
    let follows : Follows p c.prepare_for.new.queue (vec_capacity c.make_room.new.history) c.args.batcher c.in_ok-next.next c.in_ok-began.began c.raised_to-now.result c.args.moment = record {
      none = none.0;
      nothing = none.1;
      rests = ap (λ (v : CoreView). is_running v.past (queue_lane c.args.batcher)) c.self.view_is ∙ c.requires.rests;
      is = c.in_ok-next.ensures (own p) p.past (told_by p k whole counts refl refl refl);
      begun = c.in_ok-began.ensures;
      now = c.raised_to-now.ensures.value;
      same = c.prepare_for.ensures.state;
      ready = c.in_ok-prepare_for.ensures.ready;
      grown = c.make_room.ensures.capacity;
      room = c.in_ok-make_room.ensures.ok;
      short = omega (arith, all, c.len.ensures, c.may_decide.ensures.short c.if-not-may_decide.false);
    } in
    let done = decided p c.args.self.now c.prepare_for.new.queue (vec_capacity c.make_room.new.history) c.self.inside.history.items c.make_room.new.history.items c.args.batcher c.raised_to-now.result c.args.moment c.in_ok-next.next c.in_ok-began.began k whole c.self.view_is follows refl refl c.make_room.ensures.items in
    done.answer_is

pub returns-clause-owes : goal.returns-clause-owes
returns-clause-owes c =
    let p = parts_of c.self.inside in
    let k : IsKept p = c.self.invariant in
    let whole : c.self.inside.standing ≡ Whole = c.may_decide.ensures.whole c.if-not-may_decide.false in
    let owed : owed_entries p.first p.gift ≡ [] = ap (λ (v : CoreView). v.owed) c.self.view_is ∙ c.requires.settled in
    let none = owed_none p.first p.gift owed in
    let counts : Counts = record { calls = c.self.inside.calls; begun = c.self.inside.begun; deleted = c.self.inside.deleted; shut = c.self.inside.shut } in
    let all : vec_len c.self.inside.history ≡ length c.self.inside.history.items = search rules in
    let follows : Follows p c.prepare_for.new.queue (vec_capacity c.make_room.new.history) c.args.batcher c.in_ok-next.next c.in_ok-began.began c.raised_to-now.result c.args.moment = record {
      none = none.0;
      nothing = none.1;
      rests = ap (λ (v : CoreView). is_running v.past (queue_lane c.args.batcher)) c.self.view_is ∙ c.requires.rests;
      is = c.in_ok-next.ensures (own p) p.past (told_by p k whole counts refl refl refl);
      begun = c.in_ok-began.ensures;
      now = c.raised_to-now.ensures.value;
      same = c.prepare_for.ensures.state;
      ready = c.in_ok-prepare_for.ensures.ready;
      grown = c.make_room.ensures.capacity;
      room = c.in_ok-make_room.ensures.ok;
      short = omega (arith, all, c.len.ensures, c.may_decide.ensures.short c.if-not-may_decide.false);
    } in
    let done = decided p c.args.self.now c.prepare_for.new.queue (vec_capacity c.make_room.new.history) c.self.inside.history.items c.make_room.new.history.items c.args.batcher c.raised_to-now.result c.args.moment c.in_ok-next.next c.in_ok-began.began k whole c.self.view_is follows refl refl c.make_room.ensures.items in
    done.owes

pub returns-clause-legal : goal.returns-clause-legal
returns-clause-legal c =
    let p = parts_of c.self.inside in
    let k : IsKept p = c.self.invariant in
    let whole : c.self.inside.standing ≡ Whole = c.may_decide.ensures.whole c.if-not-may_decide.false in
    let owed : owed_entries p.first p.gift ≡ [] = ap (λ (v : CoreView). v.owed) c.self.view_is ∙ c.requires.settled in
    let none = owed_none p.first p.gift owed in
    let counts : Counts = record { calls = c.self.inside.calls; begun = c.self.inside.begun; deleted = c.self.inside.deleted; shut = c.self.inside.shut } in
    let all : vec_len c.self.inside.history ≡ length c.self.inside.history.items = search rules in
    let follows : Follows p c.prepare_for.new.queue (vec_capacity c.make_room.new.history) c.args.batcher c.in_ok-next.next c.in_ok-began.began c.raised_to-now.result c.args.moment = record {
      none = none.0;
      nothing = none.1;
      rests = ap (λ (v : CoreView). is_running v.past (queue_lane c.args.batcher)) c.self.view_is ∙ c.requires.rests;
      is = c.in_ok-next.ensures (own p) p.past (told_by p k whole counts refl refl refl);
      begun = c.in_ok-began.ensures;
      now = c.raised_to-now.ensures.value;
      same = c.prepare_for.ensures.state;
      ready = c.in_ok-prepare_for.ensures.ready;
      grown = c.make_room.ensures.capacity;
      room = c.in_ok-make_room.ensures.ok;
      short = omega (arith, all, c.len.ensures, c.may_decide.ensures.short c.if-not-may_decide.false);
    } in
    let done = decided p c.args.self.now c.prepare_for.new.queue (vec_capacity c.make_room.new.history) c.self.inside.history.items c.make_room.new.history.items c.args.batcher c.raised_to-now.result c.args.moment c.in_ok-next.next c.in_ok-began.began k whole c.self.view_is follows refl refl c.make_room.ensures.items in
    done.legal

pub returns-clause-settled : goal.returns-clause-settled
returns-clause-settled c =
    let p = parts_of c.self.inside in
    let k : IsKept p = c.self.invariant in
    let whole : c.self.inside.standing ≡ Whole = c.may_decide.ensures.whole c.if-not-may_decide.false in
    let owed : owed_entries p.first p.gift ≡ [] = ap (λ (v : CoreView). v.owed) c.self.view_is ∙ c.requires.settled in
    let none = owed_none p.first p.gift owed in
    let counts : Counts = record { calls = c.self.inside.calls; begun = c.self.inside.begun; deleted = c.self.inside.deleted; shut = c.self.inside.shut } in
    let all : vec_len c.self.inside.history ≡ length c.self.inside.history.items = search rules in
    let follows : Follows p c.prepare_for.new.queue (vec_capacity c.make_room.new.history) c.args.batcher c.in_ok-next.next c.in_ok-began.began c.raised_to-now.result c.args.moment = record {
      none = none.0;
      nothing = none.1;
      rests = ap (λ (v : CoreView). is_running v.past (queue_lane c.args.batcher)) c.self.view_is ∙ c.requires.rests;
      is = c.in_ok-next.ensures (own p) p.past (told_by p k whole counts refl refl refl);
      begun = c.in_ok-began.ensures;
      now = c.raised_to-now.ensures.value;
      same = c.prepare_for.ensures.state;
      ready = c.in_ok-prepare_for.ensures.ready;
      grown = c.make_room.ensures.capacity;
      room = c.in_ok-make_room.ensures.ok;
      short = omega (arith, all, c.len.ensures, c.may_decide.ensures.short c.if-not-may_decide.false);
    } in
    let done = decided p c.args.self.now c.prepare_for.new.queue (vec_capacity c.make_room.new.history) c.self.inside.history.items c.make_room.new.history.items c.args.batcher c.raised_to-now.result c.args.moment c.in_ok-next.next c.in_ok-began.began k whole c.self.view_is follows refl refl c.make_room.ensures.items in
    done.settled
