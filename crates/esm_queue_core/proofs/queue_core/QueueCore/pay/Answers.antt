use Rattle.std.proofs.Common.{◌≡◌, ◌∙◌, ◌+◌, ◌++◌, ◌∷◌, [], List, ℕ, Option, Some, None, refl, sym, ap, ap₂, subst, take, drop, arith, length}
use Rattle.std.specs.Vec.{vec_capacity}
use Rattle.std.proofs.lemmas.List.{length-reverse}
use Rattle.esm_model.specs.declared.item.Message.{Message}
use Rattle.esm_model.specs.declared.entry.Reply.{Reply}
use Rattle.esm_model.specs.declared.entry.Entry.{Entry}
use Rattle.esm_model.specs.declared.entry.Entry.TheVariants as entry
use Rattle.esm_model.specs.Moment.{capped_moment}
use Rattle.esm_queue_model.specs.Queue.{after_receipt, after_deletion}
use Rattle.esm_queue_core.specs.declared.owed.First.{First}
use Rattle.esm_queue_core.specs.declared.owed.Gift.{Gift}
use Rattle.esm_queue_core.specs.declared.owed.First.TheVariants.{Came, Began, Ended}
use Rattle.esm_queue_core.specs.Kept.{IsKept, gift_entry, owed_entries, full, messages_stored}
use Rattle.esm_queue_core.specs.Standing.{standing_paid}
use Rattle.esm_queue_core.specs.Inside.{parts_of}
use Rattle.esm_queue_core.proofs.Adding.{begun_few, adds_as, front_first, rest_first, is_paid, ended_adds, began_adds, began_state, can_first, gave_adds, none_coming, came_adds, deleted_within, all_own}
use Rattle.esm_queue_core.proofs.Bringing.{with_coming}
use Rattle.esm_queue_core.proofs.Added.{messages_came, messages_deleted}
use Rattle.esm_queue_core.proofs.queue_core.QueueCore.pay.Goals as goal

pub overflow_add-self-in-Some-Began : goal.overflow_add-self-in-Some-Began
overflow_add-self-in-Some-Began c =
    let p = parts_of c.self.inside in
    let few = begun_few p c.self.invariant (length-reverse c.self.inside.history.items) in
    omega (arith, few)

pub invariant_of-self-in-Some-Ended : goal.invariant_of-self-in-Some-Ended
invariant_of-self-in-Some-Ended c =
    let p = parts_of c.self.inside in
    let x = c.in-Some-Ended in
    let push = c.push_reserved-in-Some-Ended in
    let is : p.first ≡ Some (Ended x.lane x.reply x.moment) = sym x.ensures.value ∙ ap Some x.field-0-is in
    let e : Entry = entry.Ended x.lane x.reply x.moment in
    let pushed : c.push_reserved-in-Some-Ended.new.self.items ≡ c.self.inside.history.items ++ entry.Ended c.in-Some-Ended.lane c.in-Some-Ended.reply c.in-Some-Ended.moment ∷ []
    = subst (λ (r : Reply). push.new.self.items ≡ c.self.inside.history.items ++ entry.Ended x.lane r x.moment ∷ []) c.of.ensures push.ensures.items in
    let adds = adds_as p p.held e p.begun p.deleted c.saturating_sub-self-inside.result c.replace.new.dest None p.gift p.gift c.paid-self-inside-in-Some-Ended.result _ c.replace.ensures.after refl (c.paid-self-inside-in-Some-Ended.ensures ∙ ap (standing_paid p.standing) c.is_some-more.ensures)
    (ended_adds p x.lane x.reply x.moment c.saturating_sub-self-inside.result c.self.invariant is c.saturating_sub-self-inside.ensures) in
    (is_paid p c.args.self.now p.held e p.begun p.deleted c.saturating_sub-self-inside.result c.replace.new.dest p.gift c.paid-self-inside-in-Some-Ended.result c.self.inside.history.items push.new.self.items (vec_capacity push.new.self) p.coming
    c.self.invariant c.self.view_is adds (front_first p _ is) (rest_first p _ _ is c.replace.ensures.after) refl refl pushed (sym push.ensures.capacity) (can_first p _ c.self.invariant is).0).kept

pub invariant_of-self-in-Some-Ended-2 : goal.invariant_of-self-in-Some-Ended-2
invariant_of-self-in-Some-Ended-2 c =
    let p = parts_of c.self.inside in
    let x = c.in-Some-Ended in
    let push = c.push_reserved-in-Some-Ended in
    let is : p.first ≡ Some (Ended x.lane x.reply x.moment) = sym x.ensures.value ∙ ap Some x.field-0-is in
    let e : Entry = entry.Ended x.lane x.reply x.moment in
    let pushed : c.push_reserved-in-Some-Ended.new.self.items ≡ c.self.inside.history.items ++ entry.Ended c.in-Some-Ended.lane c.in-Some-Ended.reply c.in-Some-Ended.moment ∷ []
    = subst (λ (r : Reply). push.new.self.items ≡ c.self.inside.history.items ++ entry.Ended x.lane r x.moment ∷ []) c.of.ensures push.ensures.items in
    let adds = adds_as p p.held e p.begun p.deleted c.saturating_sub-self-inside.result c.replace.new.dest None p.gift p.gift c.paid-self-inside-in-Some-Ended.result _ c.replace.ensures.after refl (c.paid-self-inside-in-Some-Ended.ensures ∙ ap (standing_paid p.standing) c.is_some-more.ensures)
    (ended_adds p x.lane x.reply x.moment c.saturating_sub-self-inside.result c.self.invariant is c.saturating_sub-self-inside.ensures) in
    (is_paid p c.args.self.now p.held e p.begun p.deleted c.saturating_sub-self-inside.result c.replace.new.dest p.gift c.paid-self-inside-in-Some-Ended.result c.self.inside.history.items push.new.self.items (vec_capacity push.new.self) p.coming
    c.self.invariant c.self.view_is adds (front_first p _ is) (rest_first p _ _ is c.replace.ensures.after) refl refl pushed (sym push.ensures.capacity) (can_first p _ c.self.invariant is).0).kept

pub invariant_of-self-in-Some-Ended-3 : goal.invariant_of-self-in-Some-Ended-3
invariant_of-self-in-Some-Ended-3 c =
    let p = parts_of c.self.inside in
    let x = c.in-Some-Ended in
    let push = c.push_reserved-in-Some-Ended in
    let is : p.first ≡ Some (Ended x.lane x.reply x.moment) = sym x.ensures.value ∙ ap Some x.field-0-is in
    let e : Entry = entry.Ended x.lane x.reply x.moment in
    let pushed : c.push_reserved-in-Some-Ended.new.self.items ≡ c.self.inside.history.items ++ entry.Ended c.in-Some-Ended.lane c.in-Some-Ended.reply c.in-Some-Ended.moment ∷ []
    = subst (λ (r : Reply). push.new.self.items ≡ c.self.inside.history.items ++ entry.Ended x.lane r x.moment ∷ []) c.of.ensures push.ensures.items in
    let adds = adds_as p p.held e p.begun p.deleted c.saturating_sub-self-inside.result c.replace.new.dest None p.gift p.gift c.paid-self-inside-in-Some-Ended.result _ c.replace.ensures.after refl (c.paid-self-inside-in-Some-Ended.ensures ∙ ap (standing_paid p.standing) c.is_some-more.ensures)
    (ended_adds p x.lane x.reply x.moment c.saturating_sub-self-inside.result c.self.invariant is c.saturating_sub-self-inside.ensures) in
    (is_paid p c.args.self.now p.held e p.begun p.deleted c.saturating_sub-self-inside.result c.replace.new.dest p.gift c.paid-self-inside-in-Some-Ended.result c.self.inside.history.items push.new.self.items (vec_capacity push.new.self) p.coming
    c.self.invariant c.self.view_is adds (front_first p _ is) (rest_first p _ _ is c.replace.ensures.after) refl refl pushed (sym push.ensures.capacity) (can_first p _ c.self.invariant is).0).kept

pub invariant_of-self-in-Some-Began : goal.invariant_of-self-in-Some-Began
invariant_of-self-in-Some-Began c =
    let p = parts_of c.self.inside in
    let x = c.in-Some-Began in
    let push = c.push_reserved-in-Some-Began in
    let is : p.first ≡ Some (Began x.lane x.places x.moment) = sym x.ensures.value ∙ ap Some x.field-0-is in
    let e : Entry = entry.Began x.lane x.places None x.moment in
    let adds = adds_as p c.hide.new.self e (p.begun + 1) p.deleted c.saturating_add-self-inside.result c.replace.new.dest None p.gift p.gift c.paid-self-inside-in-Some-Began.result _ c.replace.ensures.after refl (c.paid-self-inside-in-Some-Began.ensures ∙ ap (standing_paid p.standing) c.is_some-more.ensures)
    (began_adds p c.hide.new.self x.lane x.places x.moment (p.begun + 1) c.saturating_add-self-inside.result c.self.invariant is (began_state p c.hide.new.self x.lane x.places x.moment c.self.invariant is (c.hide.ensures.state ∙ ap (λ (ps : List ℕ). after_receipt (capped_moment x.moment) ps p.held.state) c.as_slice.ensures)) refl c.saturating_add-self-inside.ensures) in
    (is_paid p c.args.self.now c.hide.new.self e (p.begun + 1) p.deleted c.saturating_add-self-inside.result c.replace.new.dest p.gift c.paid-self-inside-in-Some-Began.result c.self.inside.history.items push.new.self.items (vec_capacity push.new.self) p.coming
    c.self.invariant c.self.view_is adds (front_first p _ is) (rest_first p _ _ is c.replace.ensures.after) refl refl push.ensures.items (sym push.ensures.capacity) (can_first p _ c.self.invariant is).0).kept

pub returns-in-Some-Began : goal.returns-in-Some-Began
returns-in-Some-Began c =
    let p = parts_of c.self.inside in
    let x = c.in-Some-Began in
    let push = c.push_reserved-in-Some-Began in
    let is : p.first ≡ Some (Began x.lane x.places x.moment) = sym x.ensures.value ∙ ap Some x.field-0-is in
    let e : Entry = entry.Began x.lane x.places None x.moment in
    let adds = adds_as p c.hide.new.self e (p.begun + 1) p.deleted c.saturating_add-self-inside.result c.replace.new.dest None p.gift p.gift c.paid-self-inside-in-Some-Began.result _ c.replace.ensures.after refl (c.paid-self-inside-in-Some-Began.ensures ∙ ap (standing_paid p.standing) c.is_some-more.ensures)
    (began_adds p c.hide.new.self x.lane x.places x.moment (p.begun + 1) c.saturating_add-self-inside.result c.self.invariant is (began_state p c.hide.new.self x.lane x.places x.moment c.self.invariant is (c.hide.ensures.state ∙ ap (λ (ps : List ℕ). after_receipt (capped_moment x.moment) ps p.held.state) c.as_slice.ensures)) refl c.saturating_add-self-inside.ensures) in
    (is_paid p c.args.self.now c.hide.new.self e (p.begun + 1) p.deleted c.saturating_add-self-inside.result c.replace.new.dest p.gift c.paid-self-inside-in-Some-Began.result c.self.inside.history.items push.new.self.items (vec_capacity push.new.self) p.coming
    c.self.invariant c.self.view_is adds (front_first p _ is) (rest_first p _ _ is c.replace.ensures.after) refl refl push.ensures.items (sym push.ensures.capacity) (can_first p _ c.self.invariant is).0).seen

pub invariant_of-self-in-Some : goal.invariant_of-self-in-Some
invariant_of-self-in-Some c =
    let p = parts_of c.self.inside in
    let k : IsKept p = c.self.invariant in
    let x = c.in-Some in
    let push = c.push_reserved-in-Some in
    let held = c.delete_all.new.queue in
    let none : p.first ≡ None = sym c.in-None.ensures.value in
    let is : p.gift ≡ Some x.gift = sym x.ensures.value in
    let state = c.delete_all.ensures.state ∙ ap (λ (ps : List ℕ). after_deletion ps p.held.state) c.as_slice-in-Some.ensures in
    let counted = sym (c.delete_all.ensures.deleted ∙ ap (λ (n : ℕ). n + c.delete_all.result) (sym k.deleted)) in
    let adds = adds_as p held (gift_entry x.gift) p.begun (p.deleted + c.delete_all.result) p.running c.replace.new.dest None c.replace-in-None.new.dest None c.paid-self-inside-in-Some.result _ c.replace.ensures.after x.ensures.after c.paid-self-inside-in-Some.ensures
    (gave_adds p held x.gift (p.deleted + c.delete_all.result) k none is state counted) in
    (is_paid p c.args.self.now held (gift_entry x.gift) p.begun (p.deleted + c.delete_all.result) p.running c.replace.new.dest c.replace-in-None.new.dest c.paid-self-inside-in-Some.result c.self.inside.history.items push.new.self.items (vec_capacity push.new.self) p.coming
    k c.self.view_is adds (ap₂ (λ (o : Option First) (h : Option Gift). take 1 (owed_entries o h)) none is) (ap₂ (λ (o : Option First) (h : Option Gift). drop 1 (owed_entries o h)) none is ∙ ap₂ owed_entries (sym c.replace.ensures.after) (sym x.ensures.after)) refl refl push.ensures.items (sym push.ensures.capacity) (none_coming p k none)).kept

pub returns-in-Some : goal.returns-in-Some
returns-in-Some c =
    let p = parts_of c.self.inside in
    let k : IsKept p = c.self.invariant in
    let x = c.in-Some in
    let push = c.push_reserved-in-Some in
    let held = c.delete_all.new.queue in
    let none : p.first ≡ None = sym c.in-None.ensures.value in
    let is : p.gift ≡ Some x.gift = sym x.ensures.value in
    let state = c.delete_all.ensures.state ∙ ap (λ (ps : List ℕ). after_deletion ps p.held.state) c.as_slice-in-Some.ensures in
    let counted = sym (c.delete_all.ensures.deleted ∙ ap (λ (n : ℕ). n + c.delete_all.result) (sym k.deleted)) in
    let adds = adds_as p held (gift_entry x.gift) p.begun (p.deleted + c.delete_all.result) p.running c.replace.new.dest None c.replace-in-None.new.dest None c.paid-self-inside-in-Some.result _ c.replace.ensures.after x.ensures.after c.paid-self-inside-in-Some.ensures
    (gave_adds p held x.gift (p.deleted + c.delete_all.result) k none is state counted) in
    (is_paid p c.args.self.now held (gift_entry x.gift) p.begun (p.deleted + c.delete_all.result) p.running c.replace.new.dest c.replace-in-None.new.dest c.paid-self-inside-in-Some.result c.self.inside.history.items push.new.self.items (vec_capacity push.new.self) p.coming
    k c.self.view_is adds (ap₂ (λ (o : Option First) (h : Option Gift). take 1 (owed_entries o h)) none is) (ap₂ (λ (o : Option First) (h : Option Gift). drop 1 (owed_entries o h)) none is ∙ ap₂ owed_entries (sym c.replace.ensures.after) (sym x.ensures.after)) refl refl push.ensures.items (sym push.ensures.capacity) (none_coming p k none)).seen

pub overflow_add-self : goal.overflow_add-self
overflow_add-self c =
    let p = parts_of c.self.inside in
    let k : IsKept p = c.self.invariant in
    let x = c.in-Some-Came in
    let held = c.bring.new.queue in
    let moved : c.replace-coming.result.items ≡ p.coming = ap (λ v. v.items) c.replace-coming.ensures.value in
    let state : held.state ≡ with_coming (full p) x.moment p.held.state p.coming = c.bring.ensures.state (full p) refl ∙ ap (λ (xs : List Message). with_coming (full p) x.moment p.held.state xs) moved in
    let counted = sym (c.bring.ensures.deleted ∙ ap (λ (n : ℕ). n + c.bring.result) (sym k.deleted)) in
    let messages = ap messages_stored state ∙ messages_came (full p) p.held.state x.moment (length p.held.state.messages) p.coming in
    let within = deleted_within p held k messages in
    omega (arith, within, counted)

pub invariant_of-self : goal.invariant_of-self
invariant_of-self c =
    let p = parts_of c.self.inside in
    let k : IsKept p = c.self.invariant in
    let x = c.in-Some-Came in
    let held = c.bring.new.queue in
    let moved : c.replace-coming.result.items ≡ p.coming = ap (λ v. v.items) c.replace-coming.ensures.value in
    let state : held.state ≡ with_coming (full p) x.moment p.held.state p.coming = c.bring.ensures.state (full p) refl ∙ ap (λ (xs : List Message). with_coming (full p) x.moment p.held.state xs) moved in
    let counted = sym (c.bring.ensures.deleted ∙ ap (λ (n : ℕ). n + c.bring.result) (sym k.deleted)) in
    let push = c.push_reserved in
    let is : p.first ≡ Some (Came x.from x.count x.moment) = sym x.ensures.value ∙ ap Some x.field-0-is in
    let e : Entry = entry.Came 0 x.from x.count x.moment in
    let none : c.replace-coming.new.dest.items ≡ [] = ap (λ v. v.items) c.replace-coming.ensures.after ∙ c.new.ensures.items in
    let adds = adds_as p held e p.begun (p.deleted + c.bring.result) p.running c.replace.new.dest None p.gift p.gift c.paid-self-inside.result _ c.replace.ensures.after refl (c.paid-self-inside.ensures ∙ ap (standing_paid p.standing) c.is_some-more.ensures)
    (came_adds p held x.from x.count x.moment (p.deleted + c.bring.result) k is state counted) in
    (is_paid p c.args.self.now held e p.begun (p.deleted + c.bring.result) p.running c.replace.new.dest p.gift c.paid-self-inside.result c.self.inside.history.items push.new.self.items (vec_capacity push.new.self) c.replace-coming.new.dest.items
    k c.self.view_is adds (front_first p _ is) (rest_first p _ _ is c.replace.ensures.after) refl refl push.ensures.items (sym push.ensures.capacity) none).kept

pub returns-in-Some-Came : goal.returns-in-Some-Came
returns-in-Some-Came c =
    let p = parts_of c.self.inside in
    let k : IsKept p = c.self.invariant in
    let x = c.in-Some-Came in
    let held = c.bring.new.queue in
    let moved : c.replace-coming.result.items ≡ p.coming = ap (λ v. v.items) c.replace-coming.ensures.value in
    let state : held.state ≡ with_coming (full p) x.moment p.held.state p.coming = c.bring.ensures.state (full p) refl ∙ ap (λ (xs : List Message). with_coming (full p) x.moment p.held.state xs) moved in
    let counted = sym (c.bring.ensures.deleted ∙ ap (λ (n : ℕ). n + c.bring.result) (sym k.deleted)) in
    let push = c.push_reserved in
    let is : p.first ≡ Some (Came x.from x.count x.moment) = sym x.ensures.value ∙ ap Some x.field-0-is in
    let e : Entry = entry.Came 0 x.from x.count x.moment in
    let none : c.replace-coming.new.dest.items ≡ [] = ap (λ v. v.items) c.replace-coming.ensures.after ∙ c.new.ensures.items in
    let adds = adds_as p held e p.begun (p.deleted + c.bring.result) p.running c.replace.new.dest None p.gift p.gift c.paid-self-inside.result _ c.replace.ensures.after refl (c.paid-self-inside.ensures ∙ ap (standing_paid p.standing) c.is_some-more.ensures)
    (came_adds p held x.from x.count x.moment (p.deleted + c.bring.result) k is state counted) in
    (is_paid p c.args.self.now held e p.begun (p.deleted + c.bring.result) p.running c.replace.new.dest p.gift c.paid-self-inside.result c.self.inside.history.items push.new.self.items (vec_capacity push.new.self) c.replace-coming.new.dest.items
    k c.self.view_is adds (front_first p _ is) (rest_first p _ _ is c.replace.ensures.after) refl refl push.ensures.items (sym push.ensures.capacity) none).seen

pub overflow_add-self-in-Some : goal.overflow_add-self-in-Some
overflow_add-self-in-Some c =
    let p = parts_of c.self.inside in
    let k : IsKept p = c.self.invariant in
    let x = c.in-Some in
    let held = c.delete_all.new.queue in
    let none : p.first ≡ None = sym c.in-None.ensures.value in
    let state = c.delete_all.ensures.state ∙ ap (λ (ps : List ℕ). after_deletion ps p.held.state) c.as_slice-in-Some.ensures in
    let counted = sym (c.delete_all.ensures.deleted ∙ ap (λ (n : ℕ). n + c.delete_all.result) (sym k.deleted)) in
    let messages = ap messages_stored state ∙ (messages_deleted p.held.state x.gift.places ∙ all_own p (none_coming p k none)) in
    let within = deleted_within p held k messages in
    omega (arith, within, counted)
