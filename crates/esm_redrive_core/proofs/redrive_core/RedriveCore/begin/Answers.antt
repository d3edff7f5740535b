use Rattle.std.proofs.Common.{◌≡◌, ◌∙◌, [], List, arith, length, reverse, refl, sym, ap, subst}
use Rattle.std.specs.List.{All}
use Rattle.std.specs.Vec.{vec_capacity}
use Rattle.esm_model.specs.declared.entry.Entry.{Entry}
use Rattle.esm_queue_model.specs.Queue.{QueueState}
use Rattle.esm_queue_core.specs.declared.next.Counts.{Counts}
use Rattle.esm_queue_core.specs.Next.{IsToldBy, IsValidStored, next_for, deleted_number}
use Rattle.esm_redrive_core.specs.RedriveView.{RedriveView}
use Rattle.esm_redrive_core.specs.Kept.{IsKept, own, owed_entries}
use Rattle.esm_redrive_core.specs.Inside.{parts_of}
use Rattle.esm_redrive_core.proofs.Keeping.{none_coming}
use Rattle.esm_redrive_core.proofs.Owing.{owed_none}
use Rattle.esm_redrive_core.proofs.Deciding.{Follows, told_by, kept_rest, begun_decided, kept_grown}
use Rattle.esm_redrive_core.proofs.Due.{none_due_own, short_by}
use Rattle.esm_redrive_core.proofs.redrive_core.RedriveCore.begin.Goals as goal

pub decide_next-requires-clause-stored : goal.decide_next-requires-clause-stored
decide_next-requires-clause-stored c =
    let p = parts_of c.self.inside in
    subst (λ (q : QueueState). All (IsValidStored p.config.kind) q.messages) (sym c.queue.ensures.state) c.self.invariant.stored

pub decide_next-requires-clause-deleted : goal.decide_next-requires-clause-deleted
decide_next-requires-clause-deleted c = c.self.invariant.deleted ∙ ap deleted_number (sym c.queue.ensures.state)

pub invariant_of-self : goal.invariant_of-self
invariant_of-self c =
    let p = parts_of c.self.inside in
    let owed : owed_entries p.first p.gifts ≡ [] = ap (λ (v : RedriveView). v.owed) c.self.view_is ∙ c.requires.settled in
    kept_grown p p.limited (vec_capacity c.make_room.new.history) c.self.inside.history.items c.make_room.new.history.items c.self.invariant owed refl refl c.make_room.ensures.capacity refl refl c.make_room.ensures.items

pub invariant_of-self-in_err-prepare_for : goal.invariant_of-self-in_err-prepare_for
invariant_of-self-in_err-prepare_for c =
    let p = parts_of c.self.inside in
    let owed : owed_entries p.first p.gifts ≡ [] = ap (λ (v : RedriveView). v.owed) c.self.view_is ∙ c.requires.settled in
    let none = owed_none p.first p.gifts owed in
    subst (λ (items : List Entry). IsKept (record p { limited = c.prepare_for.new.queue; capacity = vec_capacity c.make_room.new.history; past = reverse items; number = length items })) (sym c.make_room.ensures.items)
    (kept_rest p c.prepare_for.new.queue (vec_capacity c.make_room.new.history) c.self.invariant none.0 none.1 c.prepare_for.ensures.state c.prepare_for.ensures.limit c.make_room.ensures.capacity)

pub invariant_of-self-2 : goal.invariant_of-self-2
invariant_of-self-2 c =
    let p = parts_of c.self.inside in
    let v = c.args.self.now in
    let k : IsKept p = c.self.invariant in
    let owed : owed_entries p.first p.gifts ≡ [] = ap (λ (w : RedriveView). w.owed) c.self.view_is ∙ c.requires.settled in
    let none = owed_none p.first p.gifts owed in
    let counts : Counts = record { calls = c.self.inside.calls; begun = c.self.inside.begun; deleted = c.self.inside.deleted; shut = c.self.inside.shut } in
    let told : IsToldBy p.config c.queue.result.now.state counts (own p) p.past = subst (λ (q : QueueState). IsToldBy p.config q counts (own p) p.past) (sym c.queue.ensures.state) (told_by p counts k refl refl refl) in
    let follows : Follows p c.prepare_for.new.queue (vec_capacity c.make_room.new.history) c.in_ok-next.next c.in_ok-began.began c.args.now = record {
      none = none_coming p k none.0;
      is = c.in_ok-next.ensures (own p) p.past told;
      begun = c.in_ok-began.ensures;
      none_due = none_due_own p v c.args.now k c.self.view_is c.requires.none_due;
      in_time = c.requires.in_time;
      same = c.prepare_for.ensures.state;
      limit = c.prepare_for.ensures.limit;
      ready = c.in_ok-prepare_for.ensures.ready;
      room = omega (arith, c.in_ok-make_room.ensures.ok);
      short = short_by p v c.self.inside.history.items c.self.view_is refl refl c.requires.short;
    } in
    let done = begun_decided p v c.prepare_for.new.queue (vec_capacity c.make_room.new.history) c.args.now c.self.inside.history.items c.make_room.new.history.items c.in_ok-next.next c.in_ok-began.began k c.self.view_is none.1 follows refl refl c.make_room.ensures.items in
    done.kept

pub returns-clause-owes : goal.returns-clause-owes
returns-clause-owes c =
    let p = parts_of c.self.inside in
    let v = c.args.self.now in
    let k : IsKept p = c.self.invariant in
    let owed : owed_entries p.first p.gifts ≡ [] = ap (λ (w : RedriveView). w.owed) c.self.view_is ∙ c.requires.settled in
    let none = owed_none p.first p.gifts owed in
    let counts : Counts = record { calls = c.self.inside.calls; begun = c.self.inside.begun; deleted = c.self.inside.deleted; shut = c.self.inside.shut } in
    let told : IsToldBy p.config c.queue.result.now.state counts (own p) p.past = subst (λ (q : QueueState). IsToldBy p.config q counts (own p) p.past) (sym c.queue.ensures.state) (told_by p counts k refl refl refl) in
    let follows : Follows p c.prepare_for.new.queue (vec_capacity c.make_room.new.history) c.in_ok-next.next c.in_ok-began.began c.args.now = record {
      none = none_coming p k none.0;
      is = c.in_ok-next.ensures (own p) p.past told;
      begun = c.in_ok-began.ensures;
      none_due = none_due_own p v c.args.now k c.self.view_is c.requires.none_due;
      in_time = c.requires.in_time;
      same = c.prepare_for.ensures.state;
      limit = c.prepare_for.ensures.limit;
      ready = c.in_ok-prepare_for.ensures.ready;
      room = omega (arith, c.in_ok-make_room.ensures.ok);
      short = short_by p v c.self.inside.history.items c.self.view_is refl refl c.requires.short;
    } in
    let done = begun_decided p v c.prepare_for.new.queue (vec_capacity c.make_room.new.history) c.args.now c.self.inside.history.items c.make_room.new.history.items c.in_ok-next.next c.in_ok-began.began k c.self.view_is none.1 follows refl refl c.make_room.ensures.items in
    done.owes

pub returns-clause-answer : goal.returns-clause-answer
returns-clause-answer c =
    let p = parts_of c.self.inside in
    let k : IsKept p = c.self.invariant in
    let counts : Counts = record { calls = c.self.inside.calls; begun = c.self.inside.begun; deleted = c.self.inside.deleted; shut = c.self.inside.shut } in
    let told : IsToldBy p.config c.queue.result.now.state counts (own p) p.past = subst (λ (q : QueueState). IsToldBy p.config q counts (own p) p.past) (sym c.queue.ensures.state) (told_by p counts k refl refl refl) in
    c.in_ok-next.ensures (own p) p.past told ∙ ap (λ (w : RedriveView). next_for w.setting.queue w.past 0 c.args.now) c.self.view_is
