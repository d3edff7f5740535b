use Rattle.std.proofs.Common.{◌≡◌, ◌∙◌, ◌+◌, ◌<◌, ◌≤◌, ◌^◌, Bool, List, [], length, vec_len, rules, arith, refl, sym, ap, subst}
use Rattle.std.specs.List.{All}
use Rattle.std.specs.Vec.{vec_capacity}
use Rattle.esm_model.specs.Records.{Record}
use Rattle.esm_model.specs.Valid.{IsValidRecord}
use Rattle.esm_replay.specs.Records.{are_named}
use Rattle.esm_replay.proofs.Naming.{named_long}
use Rattle.esm_replay_core.specs.View.{ReplayView, setting_of, moment_for}
use Rattle.esm_replay_core.specs.Deciding.{next_of, next_entries}
use Rattle.esm_replay_core.specs.declared.owed.Owed.{Owed}
use Rattle.esm_replay_core.specs.Choosing.{OwesNext}
use Rattle.esm_replay_core.specs.Kept.{own, parts_of}
use Rattle.esm_replay_core.proofs.Keeping.{settled_of, nothing_of, kept_waiting}
use Rattle.esm_replay_core.proofs.Deciding.{whole_of, waits_after, ready_for, core_waiting, next_done, undone}
use Rattle.esm_replay_core.proofs.replay_core.ReplayCore.next.Goals as goal

pub make_first-requires-clause-few : goal.make_first-requires-clause-few
make_first-requires-clause-few c =
    let p = parts_of c.self.inside in
    let settled = settled_of p c.args.self.now c.self.view_is c.requires.settled in
    let slice_is : c.as_slice.result.now ≡ p.known = c.as_slice.ensures.value ∙ whole_of c.self.inside.came c.self.inside.records.items settled.coming in
    let few = c.self.invariant.0.few in
    subst (λ (rs : List Record). length rs < 2 ^ 32) (sym slice_is) (omega arith)

pub make_first-requires-clause-each : goal.make_first-requires-clause-each
make_first-requires-clause-each c =
    let p = parts_of c.self.inside in
    ap (λ (bs : List Bool). length bs) (c.as_slice-2.ensures.value ∙ c.self.invariant.2)
    ∙ named_long p.opened.said p.opened.ranges [] c.self.inside.records.items
    ∙ ap (λ (rs : List Record). length rs) (sym c.as_slice.ensures.value)

pub choose-requires-clause-valid : goal.choose-requires-clause-valid
choose-requires-clause-valid c =
    let p = parts_of c.self.inside in
    let settled = settled_of p c.args.self.now c.self.view_is c.requires.settled in
    let slice_is : c.as_slice-3.result.now ≡ p.known = c.as_slice-3.ensures.value ∙ whole_of c.self.inside.came c.self.inside.records.items settled.coming in
    subst (All IsValidRecord) (sym slice_is) c.self.invariant.0.valid

pub choose-requires-clause-ready : goal.choose-requires-clause-ready
choose-requires-clause-ready c =
    let p = parts_of c.self.inside in
    let settled = settled_of p c.args.self.now c.self.view_is c.requires.settled in
    let slice_is : c.as_slice.result.now ≡ p.known = c.as_slice.ensures.value ∙ whole_of c.self.inside.came c.self.inside.records.items settled.coming in
    let again : c.as_slice-3.result.now ≡ p.known = c.as_slice-3.ensures.value ∙ whole_of c.self.inside.came c.self.inside.records.items settled.coming in
    let waits = waits_after p c.as_slice.result.now c.make_first.new.waiting c.self.invariant.0 slice_is (c.make_first.ensures.stays p.opened.said p.opened.ranges (c.as_slice-2.ensures.value ∙ c.self.invariant.2 ∙ ap (are_named p.opened.said p.opened.ranges []) (sym c.as_slice.ensures.value))) in
    (own p, p.past, ready_for p c.as_slice-3.result.now c.make_first.new.waiting c.in-Some.waiting c.self.invariant.0 again c.in-Some.is waits)

pub invariant_of-self-in_err-chosen : goal.invariant_of-self-in_err-chosen
invariant_of-self-in_err-chosen c =
    let p = parts_of c.self.inside in
    let settled = settled_of p c.args.self.now c.self.view_is c.requires.settled in
    let nothing = nothing_of p c.self.invariant.0 settled (sym c.is_left.ensures ∙ c.if-is_left.false) in
    let slice_is : c.as_slice.result.now ≡ p.known = c.as_slice.ensures.value ∙ whole_of c.self.inside.came c.self.inside.records.items settled.coming in
    let waits = waits_after p c.as_slice.result.now c.make_first.new.waiting c.self.invariant.0 slice_is (c.make_first.ensures.stays p.opened.said p.opened.ranges (c.as_slice-2.ensures.value ∙ c.self.invariant.2 ∙ ap (are_named p.opened.said p.opened.ranges []) (sym c.as_slice.ensures.value))) in
    (kept_waiting p c.make_first.new.waiting p.capacity c.self.invariant.0 settled.coming nothing waits, c.self.invariant.1, c.self.invariant.2)

pub invariant_of-self-in_err-reserve : goal.invariant_of-self-in_err-reserve
invariant_of-self-in_err-reserve c =
    let p = parts_of c.self.inside in
    let settled = settled_of p c.args.self.now c.self.view_is c.requires.settled in
    let nothing = nothing_of p c.self.invariant.0 settled (sym c.is_left.ensures ∙ c.if-is_left.false) in
    let slice_is : c.as_slice.result.now ≡ p.known = c.as_slice.ensures.value ∙ whole_of c.self.inside.came c.self.inside.records.items settled.coming in
    let waits = waits_after p c.as_slice.result.now c.make_first.new.waiting c.self.invariant.0 slice_is (c.make_first.ensures.stays p.opened.said p.opened.ranges (c.as_slice-2.ensures.value ∙ c.self.invariant.2 ∙ ap (are_named p.opened.said p.opened.ranges []) (sym c.as_slice.ensures.value))) in
    (core_waiting p c.make_first.new.waiting (vec_capacity c.reserve.new.self) c.self.inside.history.items c.reserve.new.self.items c.self.invariant.0 settled nothing refl c.reserve.ensures.items waits, c.self.invariant.1, c.self.invariant.2)

pub invariant_of-self-2 : goal.invariant_of-self-2
invariant_of-self-2 c =
    let p = parts_of c.self.inside in
    let v = c.args.self.now in
    let k = c.self.invariant.0 in
    let settled = settled_of p v c.self.view_is c.requires.settled in
    let nothing = nothing_of p k settled (sym c.is_left.ensures ∙ c.if-is_left.false) in
    let slice_is : c.as_slice.result.now ≡ p.known = c.as_slice.ensures.value ∙ whole_of c.self.inside.came c.self.inside.records.items settled.coming in
    let again : c.as_slice-3.result.now ≡ p.known = c.as_slice-3.ensures.value ∙ whole_of c.self.inside.came c.self.inside.records.items settled.coming in
    let waits = waits_after p c.as_slice.result.now c.make_first.new.waiting k slice_is (c.make_first.ensures.stays p.opened.said p.opened.ranges (c.as_slice-2.ensures.value ∙ c.self.invariant.2 ∙ ap (are_named p.opened.said p.opened.ranges []) (sym c.as_slice.ensures.value))) in
    let ready = ready_for p c.as_slice-3.result.now c.make_first.new.waiting c.in-Some.waiting k again c.in-Some.is waits in
    let chosen = c.in_ok-chosen.ensures (own p) p.past ready in
    let all : vec_len c.reserve.new.self ≡ length c.reserve.new.self.items = search rules in
    let room : length c.self.inside.history.items + 1 ≤ vec_capacity c.reserve.new.self = subst (λ es. length es + 1 ≤ vec_capacity c.reserve.new.self) c.reserve.ensures.items (omega (arith, all, c.in_ok-reserve.ensures.ok)) in
    let done = next_done p v c.make_first.new.waiting (vec_capacity c.reserve.new.self) c.self.inside.history.items c.reserve.new.self.items c.in_ok-chosen.chosen.next c.put.new.place c.raised_to-now.result c.args.moment k c.self.view_is settled nothing waits c.in_ok-make_first.ensures.there c.requires.rests refl c.reserve.ensures.items room c.raised_to-now.ensures.value (subst (λ (o : Owed). OwesNext (own p) p.past c.raised_to-now.result c.in_ok-chosen.chosen.next o) (sym c.put.ensures) chosen.owes) in
    (done.kept, c.self.invariant.1, c.self.invariant.2)

pub returns-clause-answer : goal.returns-clause-answer
returns-clause-answer c =
    let p = parts_of c.self.inside in
    let v = c.args.self.now in
    let k = c.self.invariant.0 in
    let settled = settled_of p v c.self.view_is c.requires.settled in
    let nothing = nothing_of p k settled (sym c.is_left.ensures ∙ c.if-is_left.false) in
    let slice_is : c.as_slice.result.now ≡ p.known = c.as_slice.ensures.value ∙ whole_of c.self.inside.came c.self.inside.records.items settled.coming in
    let again : c.as_slice-3.result.now ≡ p.known = c.as_slice-3.ensures.value ∙ whole_of c.self.inside.came c.self.inside.records.items settled.coming in
    let waits = waits_after p c.as_slice.result.now c.make_first.new.waiting k slice_is (c.make_first.ensures.stays p.opened.said p.opened.ranges (c.as_slice-2.ensures.value ∙ c.self.invariant.2 ∙ ap (are_named p.opened.said p.opened.ranges []) (sym c.as_slice.ensures.value))) in
    let ready = ready_for p c.as_slice-3.result.now c.make_first.new.waiting c.in-Some.waiting k again c.in-Some.is waits in
    let chosen = c.in_ok-chosen.ensures (own p) p.past ready in
    let all : vec_len c.reserve.new.self ≡ length c.reserve.new.self.items = search rules in
    let room : length c.self.inside.history.items + 1 ≤ vec_capacity c.reserve.new.self = subst (λ es. length es + 1 ≤ vec_capacity c.reserve.new.self) c.reserve.ensures.items (omega (arith, all, c.in_ok-reserve.ensures.ok)) in
    let done = next_done p v c.make_first.new.waiting (vec_capacity c.reserve.new.self) c.self.inside.history.items c.reserve.new.self.items c.in_ok-chosen.chosen.next c.put.new.place c.raised_to-now.result c.args.moment k c.self.view_is settled nothing waits c.in_ok-make_first.ensures.there c.requires.rests refl c.reserve.ensures.items room c.raised_to-now.ensures.value (subst (λ (o : Owed). OwesNext (own p) p.past c.raised_to-now.result c.in_ok-chosen.chosen.next o) (sym c.put.ensures) chosen.owes) in
    chosen.answer ∙ ap (λ (u : ReplayView). next_of (setting_of u) u.past) c.self.view_is

pub returns-clause-owes : goal.returns-clause-owes
returns-clause-owes c =
    let p = parts_of c.self.inside in
    let v = c.args.self.now in
    let k = c.self.invariant.0 in
    let settled = settled_of p v c.self.view_is c.requires.settled in
    let nothing = nothing_of p k settled (sym c.is_left.ensures ∙ c.if-is_left.false) in
    let slice_is : c.as_slice.result.now ≡ p.known = c.as_slice.ensures.value ∙ whole_of c.self.inside.came c.self.inside.records.items settled.coming in
    let again : c.as_slice-3.result.now ≡ p.known = c.as_slice-3.ensures.value ∙ whole_of c.self.inside.came c.self.inside.records.items settled.coming in
    let waits = waits_after p c.as_slice.result.now c.make_first.new.waiting k slice_is (c.make_first.ensures.stays p.opened.said p.opened.ranges (c.as_slice-2.ensures.value ∙ c.self.invariant.2 ∙ ap (are_named p.opened.said p.opened.ranges []) (sym c.as_slice.ensures.value))) in
    let ready = ready_for p c.as_slice-3.result.now c.make_first.new.waiting c.in-Some.waiting k again c.in-Some.is waits in
    let chosen = c.in_ok-chosen.ensures (own p) p.past ready in
    let all : vec_len c.reserve.new.self ≡ length c.reserve.new.self.items = search rules in
    let room : length c.self.inside.history.items + 1 ≤ vec_capacity c.reserve.new.self = subst (λ es. length es + 1 ≤ vec_capacity c.reserve.new.self) c.reserve.ensures.items (omega (arith, all, c.in_ok-reserve.ensures.ok)) in
    let done = next_done p v c.make_first.new.waiting (vec_capacity c.reserve.new.self) c.self.inside.history.items c.reserve.new.self.items c.in_ok-chosen.chosen.next c.put.new.place c.raised_to-now.result c.args.moment k c.self.view_is settled nothing waits c.in_ok-make_first.ensures.there c.requires.rests refl c.reserve.ensures.items room c.raised_to-now.ensures.value (subst (λ (o : Owed). OwesNext (own p) p.past c.raised_to-now.result c.in_ok-chosen.chosen.next o) (sym c.put.ensures) chosen.owes) in
    done.owes

pub returns-clause-run : goal.returns-clause-run
returns-clause-run c =
    let p = parts_of c.self.inside in
    let v = c.args.self.now in
    let k = c.self.invariant.0 in
    let settled = settled_of p v c.self.view_is c.requires.settled in
    let nothing = nothing_of p k settled (sym c.is_left.ensures ∙ c.if-is_left.false) in
    let slice_is : c.as_slice.result.now ≡ p.known = c.as_slice.ensures.value ∙ whole_of c.self.inside.came c.self.inside.records.items settled.coming in
    let again : c.as_slice-3.result.now ≡ p.known = c.as_slice-3.ensures.value ∙ whole_of c.self.inside.came c.self.inside.records.items settled.coming in
    let waits = waits_after p c.as_slice.result.now c.make_first.new.waiting k slice_is (c.make_first.ensures.stays p.opened.said p.opened.ranges (c.as_slice-2.ensures.value ∙ c.self.invariant.2 ∙ ap (are_named p.opened.said p.opened.ranges []) (sym c.as_slice.ensures.value))) in
    let ready = ready_for p c.as_slice-3.result.now c.make_first.new.waiting c.in-Some.waiting k again c.in-Some.is waits in
    let chosen = c.in_ok-chosen.ensures (own p) p.past ready in
    let all : vec_len c.reserve.new.self ≡ length c.reserve.new.self.items = search rules in
    let room : length c.self.inside.history.items + 1 ≤ vec_capacity c.reserve.new.self = subst (λ es. length es + 1 ≤ vec_capacity c.reserve.new.self) c.reserve.ensures.items (omega (arith, all, c.in_ok-reserve.ensures.ok)) in
    let done = next_done p v c.make_first.new.waiting (vec_capacity c.reserve.new.self) c.self.inside.history.items c.reserve.new.self.items c.in_ok-chosen.chosen.next c.put.new.place c.raised_to-now.result c.args.moment k c.self.view_is settled nothing waits c.in_ok-make_first.ensures.there c.requires.rests refl c.reserve.ensures.items room c.raised_to-now.ensures.value (subst (λ (o : Owed). OwesNext (own p) p.past c.raised_to-now.result c.in_ok-chosen.chosen.next o) (sym c.put.ensures) chosen.owes) in
    done.run

pub returns-clause-undone : goal.returns-clause-undone
returns-clause-undone c =
    let p = parts_of c.self.inside in
    let v = c.args.self.now in
    let k = c.self.invariant.0 in
    let settled = settled_of p v c.self.view_is c.requires.settled in
    let nothing = nothing_of p k settled (sym c.is_left.ensures ∙ c.if-is_left.false) in
    let slice_is : c.as_slice.result.now ≡ p.known = c.as_slice.ensures.value ∙ whole_of c.self.inside.came c.self.inside.records.items settled.coming in
    let again : c.as_slice-3.result.now ≡ p.known = c.as_slice-3.ensures.value ∙ whole_of c.self.inside.came c.self.inside.records.items settled.coming in
    let waits = waits_after p c.as_slice.result.now c.make_first.new.waiting k slice_is (c.make_first.ensures.stays p.opened.said p.opened.ranges (c.as_slice-2.ensures.value ∙ c.self.invariant.2 ∙ ap (are_named p.opened.said p.opened.ranges []) (sym c.as_slice.ensures.value))) in
    let ready = ready_for p c.as_slice-3.result.now c.make_first.new.waiting c.in-Some.waiting k again c.in-Some.is waits in
    let chosen = c.in_ok-chosen.ensures (own p) p.past ready in
    let all : vec_len c.reserve.new.self ≡ length c.reserve.new.self.items = search rules in
    let room : length c.self.inside.history.items + 1 ≤ vec_capacity c.reserve.new.self = subst (λ es. length es + 1 ≤ vec_capacity c.reserve.new.self) c.reserve.ensures.items (omega (arith, all, c.in_ok-reserve.ensures.ok)) in
    let done = next_done p v c.make_first.new.waiting (vec_capacity c.reserve.new.self) c.self.inside.history.items c.reserve.new.self.items c.in_ok-chosen.chosen.next c.put.new.place c.raised_to-now.result c.args.moment k c.self.view_is settled nothing waits c.in_ok-make_first.ensures.there c.requires.rests refl c.reserve.ensures.items room c.raised_to-now.ensures.value (subst (λ (o : Owed). OwesNext (own p) p.past c.raised_to-now.result c.in_ok-chosen.chosen.next o) (sym c.put.ensures) chosen.owes) in
    undone v _ [] (next_entries c.in_ok-chosen.chosen.next (moment_for v.past c.args.moment)) done.owes (sym (ap (λ (u : ReplayView). u.coming) c.self.view_is) ∙ settled.coming) (sym (ap (λ (u : ReplayView). u.owed) c.self.view_is) ∙ settled.entries)
