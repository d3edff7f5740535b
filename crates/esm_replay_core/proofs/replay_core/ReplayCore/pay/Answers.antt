use Rattle.std.proofs.Common.{◌≡◌, ℕ, ◌∙◌, ◌+◌, Bool, [], List, None, length, vec_len, drop, sym, ap, subst, refl, rules, arith}
use Rattle.std.specs.Vec.{vec_capacity}
use Rattle.std.proofs.lemmas.List.{length-reverse}
use Rattle.esm_model.specs.declared.entry.Entry.TheVariants as entry
use Rattle.esm_replay_core.specs.declared.owed.Owed.TheVariants.{Nothing, Coming, Began, Ended, Replayed}
use Rattle.esm_replay_core.specs.Owing.{replay_entry, owed_entries, owing_replay, still_coming}
use Rattle.esm_replay_core.specs.Kept.{MayOwe, parts_of}
use Rattle.esm_replay_core.proofs.Keeping.{IsStill, still_is}
use Rattle.esm_replay_core.proofs.Paying.{IsPaid, with_entry, begun_few, may_end_call, pay_began, pay_end, pay_replayed}
use Rattle.esm_replay_core.proofs.Named.{one}
use Rattle.esm_replay_core.proofs.Due.{not_nothing, not_left}
use Rattle.esm_replay_core.proofs.Deciding.{core_record, core_pushed, came_low, came_counted, came_few, came_named, named_fits}
use Rattle.esm_replay.proofs.Naming.{named_long}
use Rattle.esm_replay_core.proofs.replay_core.ReplayCore.pay.Goals as goal

-- records come

pub unreachable-requires : goal.unreachable-requires
unreachable-requires c = not_nothing (parts_of c.self.inside) c.args.self.now c.self.invariant.0 c.self.view_is c.requires (sym c.in-Nothing.ensures.value)

pub unreachable-requires-in-Left : goal.unreachable-requires-in-Left
unreachable-requires-in-Left c = not_left (parts_of c.self.inside) c.args.self.now c.self.invariant.0 c.self.view_is c.requires (sym c.in-Left.ensures.value)

pub index-item-requires : goal.index-item-requires
index-item-requires c =
    let p = parts_of c.self.inside in
    let low = came_low p c.self.inside.came c.self.inside.records.items c.self.invariant.0 (sym c.in-Coming.ensures.value) in
    let all : vec_len c.self.inside.records ≡ length c.self.inside.records.items = search rules in
    omega (arith, low, all)

pub index-is_named-requires : goal.index-is_named-requires
index-is_named-requires c =
    let p = parts_of c.self.inside in
    let low = came_low p c.self.inside.came c.self.inside.records.items c.self.invariant.0 (sym c.in-Coming.ensures.value) in
    let long : length c.self.inside.are_named.items ≡ length c.self.inside.records.items = ap (λ (bs : List Bool). length bs) c.self.invariant.2 ∙ named_long p.opened.said p.opened.ranges [] c.self.inside.records.items in
    let all : vec_len c.self.inside.are_named ≡ length c.self.inside.are_named.items = search rules in
    omega (arith, low, long, all)

pub count_one-requires-clause-there : goal.count_one-requires-clause-there
count_one-requires-clause-there c =
    let p = parts_of c.self.inside in
    let low = came_low p c.self.inside.came c.self.inside.records.items c.self.invariant.0 (sym c.in-Coming.ensures.value) in
    rw c.shard.ensures (came_counted p c.self.inside.came c.self.inside.records.items c.index-item.result.now c.self.invariant.0 low c.index-item.ensures)

pub count_one-requires-clause-few : goal.count_one-requires-clause-few
count_one-requires-clause-few c =
    let p = parts_of c.self.inside in
    let low = came_low p c.self.inside.came c.self.inside.records.items c.self.invariant.0 (sym c.in-Coming.ensures.value) in
    rw c.shard.ensures (came_few p c.self.inside.came c.self.inside.records.items c.index-item.result.now.shard c.self.invariant.0 low)

pub overflow_add-self : goal.overflow_add-self
overflow_add-self c =
    let p = parts_of c.self.inside in
    let low = came_low p c.self.inside.came c.self.inside.records.items c.self.invariant.0 (sym c.in-Coming.ensures.value) in
    let fits = named_fits p c.self.inside.came c.self.inside.records.items c.index-is_named.result.now c.one_if.result c.self.invariant.0 low c.one_if.ensures in
    omega (arith, fits)

pub invariant_of-self : goal.invariant_of-self
invariant_of-self c =
    let p = parts_of c.self.inside in
    let is : p.owed ≡ Coming = sym c.in-Coming.ensures.value in
    let low = came_low p c.self.inside.came c.self.inside.records.items c.self.invariant.0 is in
    let long : c.len.result ≡ length c.self.inside.records.items = c.len.ensures ∙ search rules in
    let still : IsStill (drop (c.self.inside.came + 1) c.self.inside.records.items) c.put.new.place = subst (IsStill (drop (c.self.inside.came + 1) c.self.inside.records.items)) (ap (still_coming (c.self.inside.came + 1)) (sym long) ∙ sym c.still_coming.ensures ∙ sym c.put.ensures) (still_is c.self.inside.records.items (c.self.inside.came + 1)) in
    let done = core_record p c.args.self.now c.self.inside.came c.self.inside.records.items c.index-item.result.now c.count_one.new.counts c.one_if.result c.put.new.place c.self.invariant.0 c.self.view_is is low c.index-item.ensures (rw c.shard.ensures at c.count_one.ensures) (c.one_if.ensures ∙ ap one (came_named p c.self.inside.came c.self.inside.records.items c.self.inside.are_named.items c.index-item.result.now c.index-is_named.result.now c.self.invariant.0 low c.index-item.ensures c.self.invariant.2 c.index-is_named.ensures)) still in
    (done.kept.0, done.kept.1, c.self.invariant.2)

pub returns-in-Coming : goal.returns-in-Coming
returns-in-Coming c =
    let p = parts_of c.self.inside in
    let is : p.owed ≡ Coming = sym c.in-Coming.ensures.value in
    let low = came_low p c.self.inside.came c.self.inside.records.items c.self.invariant.0 is in
    let long : c.len.result ≡ length c.self.inside.records.items = c.len.ensures ∙ search rules in
    let still : IsStill (drop (c.self.inside.came + 1) c.self.inside.records.items) c.put.new.place = subst (IsStill (drop (c.self.inside.came + 1) c.self.inside.records.items)) (ap (still_coming (c.self.inside.came + 1)) (sym long) ∙ sym c.still_coming.ensures ∙ sym c.put.ensures) (still_is c.self.inside.records.items (c.self.inside.came + 1)) in
    (core_record p c.args.self.now c.self.inside.came c.self.inside.records.items c.index-item.result.now c.count_one.new.counts c.one_if.result c.put.new.place c.self.invariant.0 c.self.view_is is low c.index-item.ensures (rw c.shard.ensures at c.count_one.ensures) (c.one_if.ensures ∙ ap one (came_named p c.self.inside.came c.self.inside.records.items c.self.inside.are_named.items c.index-item.result.now c.index-is_named.result.now c.self.invariant.0 low c.index-item.ensures c.self.invariant.2 c.index-is_named.ensures)) still).seen

-- a call begins

pub push_reserved-requires : goal.push_reserved-requires
push_reserved-requires c =
    let p = parts_of c.self.inside in
    let x = c.in-Began in
    let is : p.owed ≡ Began x.lane x.places x.names x.moment = sym x.ensures.value in
    let room = (subst (MayOwe p) is c.self.invariant.0.owed).room in
    let all : vec_len c.self.inside.history ≡ length c.self.inside.history.items = search rules in
    omega (arith, room, all, length-reverse c.self.inside.history.items)

pub overflow_add-self-in-Began : goal.overflow_add-self-in-Began
overflow_add-self-in-Began c =
    let p = parts_of c.self.inside in
    let x = c.in-Began in
    let is : p.owed ≡ Began x.lane x.places x.names x.moment = sym x.ensures.value in
    let few = begun_few p x.lane x.places x.names x.moment c.self.invariant.0 (subst (MayOwe p) is c.self.invariant.0.owed) in
    omega (arith, few)

pub invariant_of-self-in-Began : goal.invariant_of-self-in-Began
invariant_of-self-in-Began c =
    let p = parts_of c.self.inside in
    let x = c.in-Began in
    let is : p.owed ≡ Began x.lane x.places x.names x.moment = sym x.ensures.value in
    let began = pay_began p x.lane x.places x.names x.moment c.self.invariant.0 (subst (MayOwe p) is c.self.invariant.0.owed) (ap owed_entries is) in
    let paid : IsPaid (with_entry p (entry.Began x.lane x.places None x.moment) p.waiting c.put_names.new.place x.moment (p.begun + 1) Nothing) p = subst (λ (names : List (List ℕ)). IsPaid (with_entry p (entry.Began x.lane x.places None x.moment) p.waiting names x.moment (p.begun + 1) Nothing) p) (sym c.put_names.ensures) began in
    let push = c.push_reserved in (
      (core_pushed p c.args.self.now (entry.Began x.lane x.places None x.moment) p.waiting c.put_names.new.place x.moment (p.begun + 1) Nothing c.replace.new.dest c.self.inside.history.items push.new.self.items (vec_capacity push.new.self)
          paid c.self.view_is refl push.ensures.items push.ensures.capacity c.replace.ensures.after).kept,
      c.self.invariant.1,
      c.self.invariant.2,
    )

pub returns-in-Began : goal.returns-in-Began
returns-in-Began c =
    let p = parts_of c.self.inside in
    let x = c.in-Began in
    let is : p.owed ≡ Began x.lane x.places x.names x.moment = sym x.ensures.value in
    let began = pay_began p x.lane x.places x.names x.moment c.self.invariant.0 (subst (MayOwe p) is c.self.invariant.0.owed) (ap owed_entries is) in
    let paid : IsPaid (with_entry p (entry.Began x.lane x.places None x.moment) p.waiting c.put_names.new.place x.moment (p.begun + 1) Nothing) p = subst (λ (names : List (List ℕ)). IsPaid (with_entry p (entry.Began x.lane x.places None x.moment) p.waiting names x.moment (p.begun + 1) Nothing) p) (sym c.put_names.ensures) began in
    let push = c.push_reserved in
    (core_pushed p c.args.self.now (entry.Began x.lane x.places None x.moment) p.waiting c.put_names.new.place x.moment (p.begun + 1) Nothing c.replace.new.dest c.self.inside.history.items push.new.self.items (vec_capacity push.new.self)
    paid c.self.view_is refl push.ensures.items push.ensures.capacity c.replace.ensures.after).seen

-- a call ends

pub push_reserved-requires-in-Ended : goal.push_reserved-requires-in-Ended
push_reserved-requires-in-Ended c =
    let p = parts_of c.self.inside in
    let x = c.in-Ended in
    let is : p.owed ≡ Ended x.lane x.reply x.moment x.count x.parts x.replay = sym x.ensures.value in
    let room = (subst (MayOwe p) is c.self.invariant.0.owed).room in
    let all : vec_len c.self.inside.history ≡ length c.self.inside.history.items = search rules in
    omega (arith, room, all, length-reverse c.self.inside.history.items)

pub end_call-requires : goal.end_call-requires
end_call-requires c =
    let p = parts_of c.self.inside in
    let x = c.in-Ended in
    let is : p.owed ≡ Ended x.lane x.reply x.moment x.count x.parts x.replay = sym x.ensures.value in
    may_end_call p x.lane x.reply x.moment x.count x.parts x.replay (subst (MayOwe p) is c.self.invariant.0.owed)

pub invariant_of-self-in-Ended : goal.invariant_of-self-in-Ended
invariant_of-self-in-Ended c =
    let p = parts_of c.self.inside in
    let x = c.in-Ended in
    let is : p.owed ≡ Ended x.lane x.reply x.moment x.count x.parts x.replay = sym x.ensures.value in
    let paid = pay_end p x.lane x.reply x.moment x.count x.parts x.replay c.end_call.new.waiting c.self.invariant.0 (subst (MayOwe p) is c.self.invariant.0.owed) c.end_call.ensures (ap owed_entries is) in
    let push = c.push_reserved-in-Ended in (
      (core_pushed p c.args.self.now (entry.Ended x.lane x.reply x.moment) c.end_call.new.waiting p.names x.moment p.begun (owing_replay x.replay) c.put-in-Ended.new.place c.self.inside.history.items push.new.self.items (vec_capacity push.new.self)
          paid c.self.view_is refl push.ensures.items push.ensures.capacity (c.put-in-Ended.ensures ∙ c.owing_replay.ensures)).kept,
      c.self.invariant.1,
      c.self.invariant.2,
    )

pub returns-in-Ended : goal.returns-in-Ended
returns-in-Ended c =
    let p = parts_of c.self.inside in
    let x = c.in-Ended in
    let is : p.owed ≡ Ended x.lane x.reply x.moment x.count x.parts x.replay = sym x.ensures.value in
    let paid = pay_end p x.lane x.reply x.moment x.count x.parts x.replay c.end_call.new.waiting c.self.invariant.0 (subst (MayOwe p) is c.self.invariant.0.owed) c.end_call.ensures (ap owed_entries is) in
    let push = c.push_reserved-in-Ended in
    (core_pushed p c.args.self.now (entry.Ended x.lane x.reply x.moment) c.end_call.new.waiting p.names x.moment p.begun (owing_replay x.replay) c.put-in-Ended.new.place c.self.inside.history.items push.new.self.items (vec_capacity push.new.self)
    paid c.self.view_is refl push.ensures.items push.ensures.capacity (c.put-in-Ended.ensures ∙ c.owing_replay.ensures)).seen

-- records are replayed

pub push_reserved-requires-in-Replayed : goal.push_reserved-requires-in-Replayed
push_reserved-requires-in-Replayed c =
    let p = parts_of c.self.inside in
    let x = c.in-Replayed in
    let is : p.owed ≡ Replayed x.replay = sym x.ensures.value in
    let room = (subst (MayOwe p) is c.self.invariant.0.owed).room in
    let all : vec_len c.self.inside.history ≡ length c.self.inside.history.items = search rules in
    omega (arith, room, all, length-reverse c.self.inside.history.items)

pub invariant_of-self-in-Replayed : goal.invariant_of-self-in-Replayed
invariant_of-self-in-Replayed c =
    let p = parts_of c.self.inside in
    let x = c.in-Replayed in
    let is : p.owed ≡ Replayed x.replay = sym x.ensures.value in
    let paid = pay_replayed p x.replay c.self.invariant.0 (subst (MayOwe p) is c.self.invariant.0.owed) (ap owed_entries is) in
    let push = c.push_reserved-in-Replayed in (
      (core_pushed p c.args.self.now (replay_entry x.replay) p.waiting p.names x.replay.moment p.begun Nothing c.replace.new.dest c.self.inside.history.items push.new.self.items (vec_capacity push.new.self)
          paid c.self.view_is refl push.ensures.items push.ensures.capacity c.replace.ensures.after).kept,
      c.self.invariant.1,
      c.self.invariant.2,
    )

pub returns-in-Replayed : goal.returns-in-Replayed
returns-in-Replayed c =
    let p = parts_of c.self.inside in
    let x = c.in-Replayed in
    let is : p.owed ≡ Replayed x.replay = sym x.ensures.value in
    let paid = pay_replayed p x.replay c.self.invariant.0 (subst (MayOwe p) is c.self.invariant.0.owed) (ap owed_entries is) in
    let push = c.push_reserved-in-Replayed in
    (core_pushed p c.args.self.now (replay_entry x.replay) p.waiting p.names x.replay.moment p.begun Nothing c.replace.new.dest c.self.inside.history.items push.new.self.items (vec_capacity push.new.self)
    paid c.self.view_is refl push.ensures.items push.ensures.capacity c.replace.ensures.after).seen
