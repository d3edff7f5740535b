use Rattle.std.proofs.Common.{◌≡◌, ◌∙◌, ◌<◌, ◌≤◌, [], rules, arith, length, vec_len, refl, sym, ap, subst}
use Rattle.std.specs.Vec.{vec_capacity}
use Rattle.std.proofs.lemmas.Bool.{eqb-false}
use Rattle.esm_queue_core.specs.declared.standing.Standing.TheVariants.{Whole}
use Rattle.esm_queue_core.specs.CoreView.{CoreView, LegalAhead, SettledAhead}
use Rattle.esm_queue_core.specs.Coming.{refused_from, HasChangedFirst, NoneHasChanged}
use Rattle.esm_queue_core.specs.Kept.{owed_entries}
use Rattle.esm_queue_core.specs.Inside.{parts_of}
use Rattle.esm_queue_core.proofs.Keeping.{owed_none, legal_ahead, settled_ahead}
use Rattle.esm_queue_core.proofs.Comes.{changed_there, refused_for, came_given, came_decided}
use Rattle.esm_queue_core.proofs.queue_core.QueueCore.came.Goals as goal

pub returns-then-is_empty-clause-legal : goal.returns-then-is_empty-clause-legal
returns-then-is_empty-clause-legal c =
    let whole : c.self.inside.standing ≡ Whole = c.may_decide.ensures.whole c.if-not-may_decide.false in
    subst LegalAhead c.self.view_is (legal_ahead (parts_of c.self.inside) c.self.invariant whole)

pub returns-then-is_empty-clause-settled : goal.returns-then-is_empty-clause-settled
returns-then-is_empty-clause-settled c =
    let whole : c.self.inside.standing ≡ Whole = c.may_decide.ensures.whole c.if-not-may_decide.false in
    subst SettledAhead c.self.view_is (settled_ahead (parts_of c.self.inside) c.self.invariant whole)

pub change_at-requires : goal.change_at-requires
change_at-requires c =
    let slice = c.as_slice.ensures.value in
    let first = subst (λ items. HasChangedFirst c.self.inside.said.deletions c.len-from.result items c.in-Some.j) slice c.in-Some.ensures.found in
    changed_there c.self.inside.said.deletions c.len-from.result c.args.items.items c.in-Some.j c.index.result.now (subst (λ items. c.in-Some.j < length items) slice c.in-Some.ensures.some) c.index.ensures first

pub returns-in-Some-clause-refused : goal.returns-in-Some-clause-refused
returns-in-Some-clause-refused c =
    let p = parts_of c.self.inside in
    let slice = c.as_slice.ensures.value in
    let first = subst (λ items. HasChangedFirst c.self.inside.said.deletions c.len-from.result items c.in-Some.j) slice c.in-Some.ensures.found in
    let l = subst (λ items. c.in-Some.j < length items) slice c.in-Some.ensures.some in
    refused_for p c.args.items.items c.len-from.result c.in-Some.j c.index.result.now c.len-from.ensures l c.index.ensures first c.args.self.now c.index-in-Some.result.now c.in_ok-told.told c.in_ok-kept.kept c.self.view_is c.index-in-Some.ensures c.in_ok-told.ensures c.in_ok-kept.ensures

pub gift_of-requires : goal.gift_of-requires
gift_of-requires c =
    let p = parts_of c.self.inside in
    let alike : c.as_slice-2.result.now ≡ c.as_slice-3.result.now = c.as_slice-2.ensures.value ∙ sym c.as_slice-3.ensures.value in
    came_given p c.args.self.now c.args.items.items c.as_slice-3.result.now c.len-from.result c.raised_to-now.result c.self.invariant c.self.view_is c.as_slice-3.ensures.value c.len-from.ensures c.requires.valid c.requires.places
    c.self.inside.said c.in_ok-places.places.items c.requires.few c.raised_to-now.ensures.in_time refl
    (λ s judged. c.in_ok-places.ensures s judged ∙ ap (λ items. refused_from s c.len-from.result items) alike)

pub invariant_of-self-2 : goal.invariant_of-self-2
invariant_of-self-2 c =
    let p = parts_of c.self.inside in
    let whole : c.self.inside.standing ≡ Whole = c.may_decide.ensures.whole c.if-not-may_decide.false in
    let owed : owed_entries p.first p.gift ≡ [] = ap (λ (v : CoreView). v.owed) c.self.view_is ∙ c.requires.settled in
    let all : vec_len c.self.inside.history ≡ length c.self.inside.history.items = search rules in
    let ne = eqb-false (vec_len c.args.items) 0 (sym c.is_empty.ensures ∙ c.if-is_empty.false) in
    let some : 1 ≤ length c.args.items.items = omega (arith, c.args.items.ok) in
    let count : c.len-count.result ≡ length c.args.items.items = omega (arith, c.len-count.ensures, c.args.items.ok) in
    let alike : c.as_slice-2.result.now ≡ c.as_slice-3.result.now = c.as_slice-2.ensures.value ∙ sym c.as_slice-3.ensures.value in
    let first : c.as_slice.result.now ≡ c.as_slice-3.result.now = c.as_slice.ensures.value ∙ sym c.as_slice-3.ensures.value in
    let done = came_decided p c.args.self.now c.args.items.items c.as_slice-3.result.now c.len-from.result c.raised_to-now.result c.self.invariant c.self.view_is c.as_slice-3.ensures.value c.len-from.ensures c.requires.valid c.requires.places
    c.reserve.new.self (vec_capacity c.make_room.new.history) c.self.inside.history.items c.make_room.new.history.items c.self.inside.said c.in_ok-places.places.items c.in_ok-gift.gift c.len-count.result c.args.moment whole (owed_none p.first p.gift owed).0
    count some c.requires.going (subst (λ items. NoneHasChanged c.self.inside.said.deletions c.len-from.result items (length items)) first c.in_default.ensures.none) c.reserve.ensures.state (omega (arith, c.in_ok-reserve.ensures.ok, count)) c.raised_to-now.ensures.value
    refl (λ s judged. c.in_ok-places.ensures s judged ∙ ap (λ items. refused_from s c.len-from.result items) alike)
    c.in_ok-gift.ensures.entry c.in_ok-gift.ensures.written c.in_ok-make_room.ensures.ok (omega (arith, all, c.len.ensures, c.may_decide.ensures.short c.if-not-may_decide.false)) refl refl c.make_room.ensures.items in
    done.kept

pub returns-clause-legal : goal.returns-clause-legal
returns-clause-legal c =
    let p = parts_of c.self.inside in
    let whole : c.self.inside.standing ≡ Whole = c.may_decide.ensures.whole c.if-not-may_decide.false in
    let owed : owed_entries p.first p.gift ≡ [] = ap (λ (v : CoreView). v.owed) c.self.view_is ∙ c.requires.settled in
    let all : vec_len c.self.inside.history ≡ length c.self.inside.history.items = search rules in
    let ne = eqb-false (vec_len c.args.items) 0 (sym c.is_empty.ensures ∙ c.if-is_empty.false) in
    let some : 1 ≤ length c.args.items.items = omega (arith, c.args.items.ok) in
    let count : c.len-count.result ≡ length c.args.items.items = omega (arith, c.len-count.ensures, c.args.items.ok) in
    let alike : c.as_slice-2.result.now ≡ c.as_slice-3.result.now = c.as_slice-2.ensures.value ∙ sym c.as_slice-3.ensures.value in
    let first : c.as_slice.result.now ≡ c.as_slice-3.result.now = c.as_slice.ensures.value ∙ sym c.as_slice-3.ensures.value in
    let done = came_decided p c.args.self.now c.args.items.items c.as_slice-3.result.now c.len-from.result c.raised_to-now.result c.self.invariant c.self.view_is c.as_slice-3.ensures.value c.len-from.ensures c.requires.valid c.requires.places
    c.reserve.new.self (vec_capacity c.make_room.new.history) c.self.inside.history.items c.make_room.new.history.items c.self.inside.said c.in_ok-places.places.items c.in_ok-gift.gift c.len-count.result c.args.moment whole (owed_none p.first p.gift owed).0
    count some c.requires.going (subst (λ items. NoneHasChanged c.self.inside.said.deletions c.len-from.result items (length items)) first c.in_default.ensures.none) c.reserve.ensures.state (omega (arith, c.in_ok-reserve.ensures.ok, count)) c.raised_to-now.ensures.value
    refl (λ s judged. c.in_ok-places.ensures s judged ∙ ap (λ items. refused_from s c.len-from.result items) alike)
    c.in_ok-gift.ensures.entry c.in_ok-gift.ensures.written c.in_ok-make_room.ensures.ok (omega (arith, all, c.len.ensures, c.may_decide.ensures.short c.if-not-may_decide.false)) refl refl c.make_room.ensures.items in
    done.legal

pub returns-clause-settled : goal.returns-clause-settled
returns-clause-settled c =
    let p = parts_of c.self.inside in
    let whole : c.self.inside.standing ≡ Whole = c.may_decide.ensures.whole c.if-not-may_decide.false in
    let owed : owed_entries p.first p.gift ≡ [] = ap (λ (v : CoreView). v.owed) c.self.view_is ∙ c.requires.settled in
    let all : vec_len c.self.inside.history ≡ length c.self.inside.history.items = search rules in
    let ne = eqb-false (vec_len c.args.items) 0 (sym c.is_empty.ensures ∙ c.if-is_empty.false) in
    let some : 1 ≤ length c.args.items.items = omega (arith, c.args.items.ok) in
    let count : c.len-count.result ≡ length c.args.items.items = omega (arith, c.len-count.ensures, c.args.items.ok) in
    let alike : c.as_slice-2.result.now ≡ c.as_slice-3.result.now = c.as_slice-2.ensures.value ∙ sym c.as_slice-3.ensures.value in
    let first : c.as_slice.result.now ≡ c.as_slice-3.result.now = c.as_slice.ensures.value ∙ sym c.as_slice-3.ensures.value in
    let done = came_decided p c.args.self.now c.args.items.items c.as_slice-3.result.now c.len-from.result c.raised_to-now.result c.self.invariant c.self.view_is c.as_slice-3.ensures.value c.len-from.ensures c.requires.valid c.requires.places
    c.reserve.new.self (vec_capacity c.make_room.new.history) c.self.inside.history.items c.make_room.new.history.items c.self.inside.said c.in_ok-places.places.items c.in_ok-gift.gift c.len-count.result c.args.moment whole (owed_none p.first p.gift owed).0
    count some c.requires.going (subst (λ items. NoneHasChanged c.self.inside.said.deletions c.len-from.result items (length items)) first c.in_default.ensures.none) c.reserve.ensures.state (omega (arith, c.in_ok-reserve.ensures.ok, count)) c.raised_to-now.ensures.value
    refl (λ s judged. c.in_ok-places.ensures s judged ∙ ap (λ items. refused_from s c.len-from.result items) alike)
    c.in_ok-gift.ensures.entry c.in_ok-gift.ensures.written c.in_ok-make_room.ensures.ok (omega (arith, all, c.len.ensures, c.may_decide.ensures.short c.if-not-may_decide.false)) refl refl c.make_room.ensures.items in
    done.settled
