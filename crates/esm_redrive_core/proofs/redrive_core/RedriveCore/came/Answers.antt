use Rattle.std.proofs.Common.{◌≡◌, ◌∙◌, ◌<◌, ◌≤◌, [], rules, arith, length, vec_len, refl, sym, ap, subst}
use Rattle.std.specs.Vec.{vec_capacity}
use Rattle.std.proofs.lemmas.Bool.{eqb-false}
use Rattle.std.proofs.lemmas.List.{length-reverse}
use Rattle.esm_queue_model.specs.Queue.{QueueState}
use Rattle.esm_queue_core.specs.Coming.{HasChangedFirst}
use Rattle.esm_queue_core.proofs.Comes.{changed_there}
use Rattle.esm_redrive_core.specs.RedriveView.{RedriveView}
use Rattle.esm_redrive_core.specs.Kept.{owed_entries}
use Rattle.esm_redrive_core.specs.Inside.{parts_of}
use Rattle.esm_redrive_core.proofs.Arrived.{refused_for, slice_valid, slice_few, came_decided}
use Rattle.esm_redrive_core.proofs.Deciding.{kept_grown}
use Rattle.esm_redrive_core.proofs.redrive_core.RedriveCore.came.Goals as goal

pub change_at-requires : goal.change_at-requires
change_at-requires c =
    let slice = c.as_slice.ensures.value in
    let first = subst (λ items. HasChangedFirst c.self.inside.said.deletions c.len-from.result items c.in-Some.j) slice c.in-Some.ensures.found in
    changed_there c.self.inside.said.deletions c.len-from.result c.args.items.items c.in-Some.j c.index.result.now (subst (λ items. c.in-Some.j < length items) slice c.in-Some.ensures.some) c.index.ensures first

pub returns-in-Some-clause-refused : goal.returns-in-Some-clause-refused
returns-in-Some-clause-refused c =
    let p = parts_of c.self.inside in
    let slice = c.as_slice.ensures.value in
    let first = subst (λ items. HasChangedFirst c.self.inside.said.deletions c.len-from.result items c.in-Some.j) slice c.in-Some.ensures.found in
    let l = subst (λ items. c.in-Some.j < length items) slice c.in-Some.ensures.some in
    let from_is : c.len-from.result ≡ length c.self.inside.queue.state.messages = c.len-from.ensures ∙ ap (λ (r : QueueState). length r.messages) c.queue.ensures.state in
    refused_for p c.args.items.items c.len-from.result c.in-Some.j c.index.result.now from_is l c.index.ensures first c.args.self.now c.index-in-Some.result.now c.in_ok-told.told c.in_ok-kept.kept c.self.view_is c.index-in-Some.ensures c.in_ok-told.ensures c.in_ok-kept.ensures

pub gifts_for-requires-clause-valid : goal.gifts_for-requires-clause-valid
gifts_for-requires-clause-valid c =
    let p = parts_of c.self.inside in
    let from_is : c.len-from.result ≡ length c.self.inside.queue.state.messages = c.len-from.ensures ∙ ap (λ (r : QueueState). length r.messages) c.queue.ensures.state in
    slice_valid p c.args.self.now c.args.items.items c.as_slice-2.result.now c.len-from.result c.raised_to-now.result c.self.invariant c.self.view_is c.as_slice-2.ensures.value from_is c.requires.valid c.requires.places c.queue-2.result.now.state c.queue-2.ensures.state

pub gifts_for-requires-clause-places : goal.gifts_for-requires-clause-places
gifts_for-requires-clause-places c =
    let p = parts_of c.self.inside in
    let from_is : c.len-from.result ≡ length c.self.inside.queue.state.messages = c.len-from.ensures ∙ ap (λ (r : QueueState). length r.messages) c.queue.ensures.state in
    slice_few p c.args.self.now c.args.items.items c.as_slice-2.result.now c.len-from.result c.raised_to-now.result c.self.invariant c.self.view_is c.as_slice-2.ensures.value from_is c.requires.valid c.requires.places c.queue-2.result.now.state c.queue-2.ensures.state

pub invariant_of-self : goal.invariant_of-self
invariant_of-self c =
    let p = parts_of c.self.inside in
    let owed : owed_entries p.first p.gifts ≡ [] = ap (λ (v : RedriveView). v.owed) c.self.view_is ∙ c.requires.settled in
    kept_grown p p.limited (vec_capacity c.make_room.new.history) c.self.inside.history.items c.make_room.new.history.items c.self.invariant owed refl refl c.make_room.ensures.capacity refl refl c.make_room.ensures.items

pub invariant_of-self-in_err-reserve : goal.invariant_of-self-in_err-reserve
invariant_of-self-in_err-reserve c =
    let p = parts_of c.self.inside in
    let owed : owed_entries p.first p.gifts ≡ [] = ap (λ (v : RedriveView). v.owed) c.self.view_is ∙ c.requires.settled in
    kept_grown p c.reserve.new.self (vec_capacity c.make_room.new.history) c.self.inside.history.items c.make_room.new.history.items c.self.invariant owed c.reserve.ensures.state c.reserve.ensures.limit c.make_room.ensures.capacity refl refl c.make_room.ensures.items

pub invariant_of-self-2 : goal.invariant_of-self-2
invariant_of-self-2 c =
    let p = parts_of c.self.inside in
    let owed : owed_entries p.first p.gifts ≡ [] = ap (λ (v : RedriveView). v.owed) c.self.view_is ∙ c.requires.settled in
    let all : vec_len c.self.inside.history ≡ length c.self.inside.history.items = search rules in
    let ne = eqb-false (vec_len c.args.items) 0 (sym c.is_empty.ensures ∙ c.if-is_empty.false) in
    let some : 1 ≤ length c.args.items.items = omega (arith, c.args.items.ok, ne) in
    let count : c.len-count.result ≡ length c.args.items.items = omega (arith, c.len-count.ensures, c.args.items.ok) in
    let from_is : c.len-from.result ≡ length c.self.inside.queue.state.messages = c.len-from.ensures ∙ ap (λ (r : QueueState). length r.messages) c.queue.ensures.state in
    let done = came_decided p c.args.self.now c.args.items.items c.as_slice-2.result.now c.len-from.result c.raised_to-now.result c.self.invariant c.self.view_is c.as_slice-2.ensures.value from_is c.requires.valid c.requires.places
    c.reserve.new.self (vec_capacity c.make_room.new.history) c.self.inside.history.items c.make_room.new.history.items c.self.inside.said c.self.inside.dead c.in_ok-gifts.gifts.items c.queue-2.result.now.state c.len-count.result c.args.moment refl refl c.queue-2.ensures.state count some
    c.reserve.ensures.state c.reserve.ensures.limit (omega (arith, c.in_ok-reserve.ensures.ok, count)) c.raised_to-now.ensures.value
    c.in_ok-gifts.ensures.entries c.in_ok-gifts.ensures.texts c.in_ok-gifts.ensures.written c.in_ok-gifts.ensures.no_lines c.in_ok-gifts.ensures.short (length-reverse c.in_ok-gifts.gifts.items) (omega (arith, c.in_ok-make_room.ensures.ok)) (omega (arith, all, c.len.ensures, c.may_decide.ensures c.if-not-may_decide.false)) refl refl c.make_room.ensures.items in
    done.kept

pub returns-clause-owes : goal.returns-clause-owes
returns-clause-owes c =
    let p = parts_of c.self.inside in
    let owed : owed_entries p.first p.gifts ≡ [] = ap (λ (v : RedriveView). v.owed) c.self.view_is ∙ c.requires.settled in
    let all : vec_len c.self.inside.history ≡ length c.self.inside.history.items = search rules in
    let ne = eqb-false (vec_len c.args.items) 0 (sym c.is_empty.ensures ∙ c.if-is_empty.false) in
    let some : 1 ≤ length c.args.items.items = omega (arith, c.args.items.ok, ne) in
    let count : c.len-count.result ≡ length c.args.items.items = omega (arith, c.len-count.ensures, c.args.items.ok) in
    let from_is : c.len-from.result ≡ length c.self.inside.queue.state.messages = c.len-from.ensures ∙ ap (λ (r : QueueState). length r.messages) c.queue.ensures.state in
    let done = came_decided p c.args.self.now c.args.items.items c.as_slice-2.result.now c.len-from.result c.raised_to-now.result c.self.invariant c.self.view_is c.as_slice-2.ensures.value from_is c.requires.valid c.requires.places
    c.reserve.new.self (vec_capacity c.make_room.new.history) c.self.inside.history.items c.make_room.new.history.items c.self.inside.said c.self.inside.dead c.in_ok-gifts.gifts.items c.queue-2.result.now.state c.len-count.result c.args.moment refl refl c.queue-2.ensures.state count some
    c.reserve.ensures.state c.reserve.ensures.limit (omega (arith, c.in_ok-reserve.ensures.ok, count)) c.raised_to-now.ensures.value
    c.in_ok-gifts.ensures.entries c.in_ok-gifts.ensures.texts c.in_ok-gifts.ensures.written c.in_ok-gifts.ensures.no_lines c.in_ok-gifts.ensures.short (length-reverse c.in_ok-gifts.gifts.items) (omega (arith, c.in_ok-make_room.ensures.ok)) (omega (arith, all, c.len.ensures, c.may_decide.ensures c.if-not-may_decide.false)) refl refl c.make_room.ensures.items in
    done.owes
