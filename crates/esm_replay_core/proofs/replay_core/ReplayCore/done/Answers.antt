use Rattle.std.proofs.Common.{◌≡◌, ◌∙◌, List, [], ℕ, arith, refl, sym, ap, subst}
use Rattle.std.specs.Vec.{vec_capacity}
use Rattle.esm_model.specs.declared.entry.Reply.{Reply}
use Rattle.esm_replay_core.specs.View.{ReplayView, setting_of, moment_for, owing, RunAhead}
use Rattle.esm_replay_core.specs.Deciding.{done_entries}
use Rattle.esm_replay_core.specs.Ending.{MayEnd, IsEnding}
use Rattle.esm_replay_core.specs.declared.owed.Owed.{Owed}
use Rattle.esm_replay_core.specs.declared.owed.Owed.TheVariants.{Ended}
use Rattle.esm_replay_core.specs.Kept.{IsKept, own, seen_of, parts_of}
use Rattle.esm_replay_core.proofs.Keeping.{settled_of, nothing_of}
use Rattle.esm_replay_core.proofs.Deciding.{IsDone, left_with, not_idle, out_may_end, few_names, out_counts, waits_roomier, wide_of, core_waiting, done_done, undone}
use Rattle.esm_replay_core.proofs.replay_core.ReplayCore.done.Goals as goal

pub unreachable-requires : goal.unreachable-requires
unreachable-requires c = not_idle (parts_of c.self.inside) c.args.self.now c.args.job c.self.invariant.0 c.self.view_is c.requires.out c.in_default.is

pub end_of-requires : goal.end_of-requires
end_of-requires c =
    let p = parts_of c.self.inside in
    subst (λ (names : List (List ℕ)). MayEnd p.opened.config c.in-Some.waiting names c.args.job.lane.shard c.args.job.places c.args.reply c.raised_to-now.result) (sym c.as_slice.ensures)
    (out_may_end p c.args.self.now c.in-Some.waiting c.args.job c.args.reply c.raised_to-now.result c.args.moment c.self.invariant.0 c.self.view_is c.in-Some.is c.requires.out c.raised_to-now.ensures.value)

pub invariant_of-self : goal.invariant_of-self
invariant_of-self c =
    let p = parts_of c.self.inside in
    let settled = settled_of p c.args.self.now c.self.view_is c.requires.settled in
    let nothing = nothing_of p c.self.invariant.0 settled (sym c.is_left.ensures ∙ c.if-is_left.false) in (
      core_waiting p c.make_room.new.waiting (vec_capacity c.make_room.new.history) c.self.inside.history.items c.make_room.new.history.items c.self.invariant.0 settled nothing refl c.make_room.ensures.items
          (waits_roomier (own p) p.known p.past c.self.inside.waiting c.make_room.new.waiting c.make_room.ensures.waiting c.self.invariant.0.waiting),
      c.self.invariant.1,
      c.self.invariant.2,
    )

pub overflow_cast-owed : goal.overflow_cast-owed
overflow_cast-owed c =
    let p = parts_of c.self.inside in
    let few = few_names p c.args.self.now c.in-Some.waiting c.args.job c.args.reply c.raised_to-now.result c.args.moment c.self.invariant.0 c.self.view_is c.in-Some.is c.requires.out c.raised_to-now.ensures.value in
    omega (arith, few, c.len.ensures)

pub invariant_of-self-2 : goal.invariant_of-self-2
invariant_of-self-2 c =
    let p = parts_of c.self.inside in
    let v = c.args.self.now in
    let settled = settled_of p v c.self.view_is c.requires.settled in
    let wide = wide_of c.in-Some.waiting c.self.inside.waiting c.make_room.new.waiting c.in-Some.is c.make_room.ensures.waiting c.in_ok-make_room.ensures.room in
    let ended : IsEnding p.opened.config c.in-Some.waiting p.names c.args.job.lane.shard c.args.job.places c.args.reply c.raised_to-now.result c.in_ok-ending.ending =
    subst (λ (names : List (List ℕ)). IsEnding p.opened.config c.in-Some.waiting names c.args.job.lane.shard c.args.job.places c.args.reply c.raised_to-now.result c.in_ok-ending.ending) c.as_slice.ensures c.in_ok-ending.ensures in
    let done : IsDone (left_with p c.make_room.new.waiting (vec_capacity c.make_room.new.history) c.make_room.new.history.items (Ended c.args.job.lane c.args.reply c.raised_to-now.result c.len.result c.in_ok-ending.ending.parts c.in_ok-ending.ending.replay)) v (done_entries (setting_of v) v.past c.args.job.lane c.args.reply (moment_for v.past c.args.moment)) =
    done_done p v c.in-Some.waiting c.make_room.new.waiting (vec_capacity c.make_room.new.history) c.self.inside.history.items c.make_room.new.history.items c.args.job c.args.reply c.in_ok-ending.ending c.len.result c.raised_to-now.result c.args.moment c.self.invariant.0 c.self.view_is settled c.in-Some.is c.requires.out wide refl c.make_room.ensures.items c.in_ok-make_room.ensures.ok c.raised_to-now.ensures.value c.len.ensures ended in
    (subst (λ (o : Owed). IsKept (left_with p c.make_room.new.waiting (vec_capacity c.make_room.new.history) c.make_room.new.history.items o)) (sym c.put.ensures) (subst (λ (reply : Reply). IsKept (left_with p c.make_room.new.waiting (vec_capacity c.make_room.new.history) c.make_room.new.history.items (Ended c.args.job.lane reply c.raised_to-now.result c.len.result c.in_ok-ending.ending.parts c.in_ok-ending.ending.replay))) (sym c.of.ensures) done.kept), c.self.invariant.1, c.self.invariant.2)

pub returns-clause-count : goal.returns-clause-count
returns-clause-count c =
    let p = parts_of c.self.inside in
    let v = c.args.self.now in
    let settled = settled_of p v c.self.view_is c.requires.settled in
    let wide = wide_of c.in-Some.waiting c.self.inside.waiting c.make_room.new.waiting c.in-Some.is c.make_room.ensures.waiting c.in_ok-make_room.ensures.room in
    let ended : IsEnding p.opened.config c.in-Some.waiting p.names c.args.job.lane.shard c.args.job.places c.args.reply c.raised_to-now.result c.in_ok-ending.ending =
    subst (λ (names : List (List ℕ)). IsEnding p.opened.config c.in-Some.waiting names c.args.job.lane.shard c.args.job.places c.args.reply c.raised_to-now.result c.in_ok-ending.ending) c.as_slice.ensures c.in_ok-ending.ensures in
    out_counts p v c.in-Some.waiting c.args.job c.args.reply c.in_ok-ending.ending c.raised_to-now.result c.args.moment c.self.invariant.0 c.self.view_is c.in-Some.is c.requires.out c.raised_to-now.ensures.value ended

pub returns-clause-owes : goal.returns-clause-owes
returns-clause-owes c =
    let p = parts_of c.self.inside in
    let v = c.args.self.now in
    let settled = settled_of p v c.self.view_is c.requires.settled in
    let wide = wide_of c.in-Some.waiting c.self.inside.waiting c.make_room.new.waiting c.in-Some.is c.make_room.ensures.waiting c.in_ok-make_room.ensures.room in
    let ended : IsEnding p.opened.config c.in-Some.waiting p.names c.args.job.lane.shard c.args.job.places c.args.reply c.raised_to-now.result c.in_ok-ending.ending =
    subst (λ (names : List (List ℕ)). IsEnding p.opened.config c.in-Some.waiting names c.args.job.lane.shard c.args.job.places c.args.reply c.raised_to-now.result c.in_ok-ending.ending) c.as_slice.ensures c.in_ok-ending.ensures in
    let done : IsDone (left_with p c.make_room.new.waiting (vec_capacity c.make_room.new.history) c.make_room.new.history.items (Ended c.args.job.lane c.args.reply c.raised_to-now.result c.len.result c.in_ok-ending.ending.parts c.in_ok-ending.ending.replay)) v (done_entries (setting_of v) v.past c.args.job.lane c.args.reply (moment_for v.past c.args.moment)) =
    done_done p v c.in-Some.waiting c.make_room.new.waiting (vec_capacity c.make_room.new.history) c.self.inside.history.items c.make_room.new.history.items c.args.job c.args.reply c.in_ok-ending.ending c.len.result c.raised_to-now.result c.args.moment c.self.invariant.0 c.self.view_is settled c.in-Some.is c.requires.out wide refl c.make_room.ensures.items c.in_ok-make_room.ensures.ok c.raised_to-now.ensures.value c.len.ensures ended in
    subst (λ (o : Owed). seen_of (left_with p c.make_room.new.waiting (vec_capacity c.make_room.new.history) c.make_room.new.history.items o) ≡ owing v [] (done_entries (setting_of v) v.past c.args.job.lane c.args.reply (moment_for v.past c.args.moment))) (sym c.put.ensures) (subst (λ (reply : Reply). seen_of (left_with p c.make_room.new.waiting (vec_capacity c.make_room.new.history) c.make_room.new.history.items (Ended c.args.job.lane reply c.raised_to-now.result c.len.result c.in_ok-ending.ending.parts c.in_ok-ending.ending.replay)) ≡ owing v [] (done_entries (setting_of v) v.past c.args.job.lane c.args.reply (moment_for v.past c.args.moment))) (sym c.of.ensures) done.owes)

pub returns-clause-run : goal.returns-clause-run
returns-clause-run c =
    let p = parts_of c.self.inside in
    let v = c.args.self.now in
    let settled = settled_of p v c.self.view_is c.requires.settled in
    let wide = wide_of c.in-Some.waiting c.self.inside.waiting c.make_room.new.waiting c.in-Some.is c.make_room.ensures.waiting c.in_ok-make_room.ensures.room in
    let ended : IsEnding p.opened.config c.in-Some.waiting p.names c.args.job.lane.shard c.args.job.places c.args.reply c.raised_to-now.result c.in_ok-ending.ending =
    subst (λ (names : List (List ℕ)). IsEnding p.opened.config c.in-Some.waiting names c.args.job.lane.shard c.args.job.places c.args.reply c.raised_to-now.result c.in_ok-ending.ending) c.as_slice.ensures c.in_ok-ending.ensures in
    let done : IsDone (left_with p c.make_room.new.waiting (vec_capacity c.make_room.new.history) c.make_room.new.history.items (Ended c.args.job.lane c.args.reply c.raised_to-now.result c.len.result c.in_ok-ending.ending.parts c.in_ok-ending.ending.replay)) v (done_entries (setting_of v) v.past c.args.job.lane c.args.reply (moment_for v.past c.args.moment)) =
    done_done p v c.in-Some.waiting c.make_room.new.waiting (vec_capacity c.make_room.new.history) c.self.inside.history.items c.make_room.new.history.items c.args.job c.args.reply c.in_ok-ending.ending c.len.result c.raised_to-now.result c.args.moment c.self.invariant.0 c.self.view_is settled c.in-Some.is c.requires.out wide refl c.make_room.ensures.items c.in_ok-make_room.ensures.ok c.raised_to-now.ensures.value c.len.ensures ended in
    subst (λ (o : Owed). RunAhead (seen_of (left_with p c.make_room.new.waiting (vec_capacity c.make_room.new.history) c.make_room.new.history.items o))) (sym c.put.ensures) (subst (λ (reply : Reply). RunAhead (seen_of (left_with p c.make_room.new.waiting (vec_capacity c.make_room.new.history) c.make_room.new.history.items (Ended c.args.job.lane reply c.raised_to-now.result c.len.result c.in_ok-ending.ending.parts c.in_ok-ending.ending.replay)))) (sym c.of.ensures) done.run)

pub returns-clause-undone : goal.returns-clause-undone
returns-clause-undone c =
    let p = parts_of c.self.inside in
    let v = c.args.self.now in
    let settled = settled_of p v c.self.view_is c.requires.settled in
    let wide = wide_of c.in-Some.waiting c.self.inside.waiting c.make_room.new.waiting c.in-Some.is c.make_room.ensures.waiting c.in_ok-make_room.ensures.room in
    let ended : IsEnding p.opened.config c.in-Some.waiting p.names c.args.job.lane.shard c.args.job.places c.args.reply c.raised_to-now.result c.in_ok-ending.ending =
    subst (λ (names : List (List ℕ)). IsEnding p.opened.config c.in-Some.waiting names c.args.job.lane.shard c.args.job.places c.args.reply c.raised_to-now.result c.in_ok-ending.ending) c.as_slice.ensures c.in_ok-ending.ensures in
    let done : IsDone (left_with p c.make_room.new.waiting (vec_capacity c.make_room.new.history) c.make_room.new.history.items (Ended c.args.job.lane c.args.reply c.raised_to-now.result c.len.result c.in_ok-ending.ending.parts c.in_ok-ending.ending.replay)) v (done_entries (setting_of v) v.past c.args.job.lane c.args.reply (moment_for v.past c.args.moment)) =
    done_done p v c.in-Some.waiting c.make_room.new.waiting (vec_capacity c.make_room.new.history) c.self.inside.history.items c.make_room.new.history.items c.args.job c.args.reply c.in_ok-ending.ending c.len.result c.raised_to-now.result c.args.moment c.self.invariant.0 c.self.view_is settled c.in-Some.is c.requires.out wide refl c.make_room.ensures.items c.in_ok-make_room.ensures.ok c.raised_to-now.ensures.value c.len.ensures ended in
    undone v _ [] (done_entries (setting_of v) v.past c.args.job.lane c.args.reply (moment_for v.past c.args.moment)) (subst (λ (o : Owed). seen_of (left_with p c.make_room.new.waiting (vec_capacity c.make_room.new.history) c.make_room.new.history.items o) ≡ owing v [] (done_entries (setting_of v) v.past c.args.job.lane c.args.reply (moment_for v.past c.args.moment))) (sym c.put.ensures) (subst (λ (reply : Reply). seen_of (left_with p c.make_room.new.waiting (vec_capacity c.make_room.new.history) c.make_room.new.history.items (Ended c.args.job.lane reply c.raised_to-now.result c.len.result c.in_ok-ending.ending.parts c.in_ok-ending.ending.replay)) ≡ owing v [] (done_entries (setting_of v) v.past c.args.job.lane c.args.reply (moment_for v.past c.args.moment))) (sym c.of.ensures) done.owes)) (sym (ap (λ (u : ReplayView). u.coming) c.self.view_is) ∙ settled.coming) (sym (ap (λ (u : ReplayView). u.owed) c.self.view_is) ∙ settled.entries)
