use Rattle.std.proofs.Common.{◌≡◌, ◌∙◌, ◌+◌, ◌<◌, ◌++◌, ◌∷◌, [], List, ℕ, Some, None, true, false, refl, sym, ap, ap₂, subst, arith, length, reverse}
use Rattle.std.specs.List.{All}
use Rattle.std.specs.Vec.{vec_capacity}
use Rattle.std.proofs.lemmas.List.{length-map, length-reverse}
use Rattle.std.proofs.lemmas.List.Elements.{All-head}
use Rattle.esm_model.specs.declared.item.Message.{Message}
use Rattle.esm_model.specs.declared.entry.Reply.{Reply}
use Rattle.esm_model.specs.declared.entry.Entry.{Entry}
use Rattle.esm_model.specs.declared.entry.Entry.TheVariants as entry
use Rattle.esm_model.specs.Moment.{capped_moment}
use Rattle.esm_queue_model.specs.declared.stored.Stored.{Stored}
use Rattle.esm_queue_model.specs.Queue.{after_receipt, after_deletion}
use Rattle.esm_queue_core.specs.declared.owed.First.TheVariants.{Came, Began, Ended}
use Rattle.esm_queue_core.proofs.Bringing.{with_coming}
use Rattle.esm_redrive_core.specs.declared.owed.Gift.{Gift}
use Rattle.esm_redrive_core.specs.Kept.{Parts, IsKept, IsGiftOf, all_of, gift_entry}
use Rattle.esm_redrive_core.specs.Inside.{parts_of}
use Rattle.esm_redrive_core.proofs.Lines.{first_of}
use Rattle.esm_redrive_core.proofs.Keeping.{all_own, is_paid, owed_first, owed_gift, can_first, none_coming, came_adds, began_adds, ended_adds, gave_adds}
use Rattle.esm_redrive_core.proofs.Room.{begun_few, deleted_within}
use Rattle.esm_redrive_core.proofs.redrive_core.RedriveCore.pay.Goals as goal

gift_within : (p : Parts) (g : Gift) (rest : List Gift) → IsKept p → p.first ≡ None → p.gifts ≡ g ∷ rest → All (λ i. i < length p.limited.state.messages) g.places
gift_within p g rest k none is =
    let gifts : All (IsGiftOf (all_of p)) (g ∷ rest) = subst (All (IsGiftOf (all_of p))) is k.gifts in
    let within = (All-head (IsGiftOf (all_of p)) g rest gifts).within in
    let sized : length (all_of p) ≡ length p.limited.state.messages = ap (λ (ms : List Message). length ms) (sym (all_own p (none_coming p k none))) ∙ length-map p.limited.state.messages (λ (x : Stored). x.message) in
    subst (λ (n : ℕ). All (λ i. i < n) g.places) sized within

pub delete_all-requires-clause-within : goal.delete_all-requires-clause-within
delete_all-requires-clause-within c =
    let p = parts_of c.self.inside in
    let g = c.in-Some.gift in
    let rest : List Gift = reverse c.pop.new.self.items in
    let none : p.first ≡ None = sym c.in-None.ensures.value in
    let is : p.gifts ≡ g ∷ rest = first_of c.self.inside.gifts.items c.pop.new.self.items g c.in-Some.ensures.items in
    subst (All (λ i. i < length p.limited.state.messages)) (sym c.as_slice-in-Some.ensures) (gift_within p g rest c.self.invariant none is)

pub overflow_add-self-in-Some-Began : goal.overflow_add-self-in-Some-Began
overflow_add-self-in-Some-Began c =
    let p = parts_of c.self.inside in
    let few = begun_few p c.self.invariant (length-reverse c.self.inside.history.items) in
    omega (arith, few)

pub overflow_add-self : goal.overflow_add-self
overflow_add-self c =
    let p = parts_of c.self.inside in
    let k : IsKept p = c.self.invariant in
    let x = c.in-Some-Came in
    let q = c.bring.new.queue in
    let moved : c.replace-coming.result.items ≡ p.coming = ap (λ v. v.items) c.replace-coming.ensures.value in
    let is : p.first ≡ Some (Came x.from x.count x.moment) = sym x.ensures.value ∙ ap Some x.field-0-is in
    let counted = sym (c.bring.ensures.deleted ∙ ap (λ (n : ℕ). n + c.bring.result) (sym k.deleted)) in
    let adds = came_adds p q x.from x.count x.moment (p.deleted + c.bring.result) k is (λ s same. c.bring.ensures.state s same ∙ ap (λ (xs : List Message). with_coming s x.moment p.limited.state xs) moved) c.bring.ensures.limit counted in
    let few = deleted_within p q k adds.messages in
    omega (arith, few, counted)

pub overflow_add-self-in-Some : goal.overflow_add-self-in-Some
overflow_add-self-in-Some c =
    let p = parts_of c.self.inside in
    let k : IsKept p = c.self.invariant in
    let g = c.in-Some.gift in
    let rest : List Gift = reverse c.pop.new.self.items in
    let q = c.delete_all.new.queue in
    let none : p.first ≡ None = sym c.in-None.ensures.value in
    let is : p.gifts ≡ g ∷ rest = first_of c.self.inside.gifts.items c.pop.new.self.items g c.in-Some.ensures.items in
    let state : q.state ≡ after_deletion g.places p.limited.state = c.delete_all.ensures.state ∙ ap (λ (ps : List ℕ). after_deletion ps p.limited.state) c.as_slice-in-Some.ensures in
    let counted = sym (c.delete_all.ensures.deleted ∙ ap (λ (n : ℕ). n + c.delete_all.result) (sym k.deleted)) in
    let adds = gave_adds p q g rest (p.deleted + c.delete_all.result) k none is state c.delete_all.ensures.limit counted in
    let few = deleted_within p q k adds.messages in
    omega (arith, few, counted)

pub invariant_of-self : goal.invariant_of-self
invariant_of-self c =
    let p = parts_of c.self.inside in
    let k : IsKept p = c.self.invariant in
    let x = c.in-Some-Came in
    let q = c.bring.new.queue in
    let push = c.push_reserved in
    let moved : c.replace-coming.result.items ≡ p.coming = ap (λ v. v.items) c.replace-coming.ensures.value in
    let is : p.first ≡ Some (Came x.from x.count x.moment) = sym x.ensures.value ∙ ap Some x.field-0-is in
    let counted = sym (c.bring.ensures.deleted ∙ ap (λ (n : ℕ). n + c.bring.result) (sym k.deleted)) in
    let none : c.replace-coming.new.dest.items ≡ [] = ap (λ v. v.items) c.replace-coming.ensures.after ∙ c.new.ensures.items in
    let adds = came_adds p q x.from x.count x.moment (p.deleted + c.bring.result) k is (λ s same. c.bring.ensures.state s same ∙ ap (λ (xs : List Message). with_coming s x.moment p.limited.state xs) moved) c.bring.ensures.limit counted in
    let done = is_paid p c.args.self.now q (entry.Came 0 x.from x.count x.moment) p.begun (p.deleted + c.bring.result) p.running p.gifts c.self.inside.history.items push.new.self.items (vec_capacity push.new.self) c.replace-coming.new.dest.items p.gifts c.replace.new.dest
    k c.self.view_is adds (owed_first p (Came x.from x.count x.moment) is) refl refl push.ensures.items (sym push.ensures.capacity) none refl c.replace.ensures.after in
    done.kept

pub returns-in-Some-Came : goal.returns-in-Some-Came
returns-in-Some-Came c =
    let p = parts_of c.self.inside in
    let k : IsKept p = c.self.invariant in
    let x = c.in-Some-Came in
    let q = c.bring.new.queue in
    let push = c.push_reserved in
    let moved : c.replace-coming.result.items ≡ p.coming = ap (λ v. v.items) c.replace-coming.ensures.value in
    let is : p.first ≡ Some (Came x.from x.count x.moment) = sym x.ensures.value ∙ ap Some x.field-0-is in
    let counted = sym (c.bring.ensures.deleted ∙ ap (λ (n : ℕ). n + c.bring.result) (sym k.deleted)) in
    let none : c.replace-coming.new.dest.items ≡ [] = ap (λ v. v.items) c.replace-coming.ensures.after ∙ c.new.ensures.items in
    let adds = came_adds p q x.from x.count x.moment (p.deleted + c.bring.result) k is (λ s same. c.bring.ensures.state s same ∙ ap (λ (xs : List Message). with_coming s x.moment p.limited.state xs) moved) c.bring.ensures.limit counted in
    let done = is_paid p c.args.self.now q (entry.Came 0 x.from x.count x.moment) p.begun (p.deleted + c.bring.result) p.running p.gifts c.self.inside.history.items push.new.self.items (vec_capacity push.new.self) c.replace-coming.new.dest.items p.gifts c.replace.new.dest
    k c.self.view_is adds (owed_first p (Came x.from x.count x.moment) is) refl refl push.ensures.items (sym push.ensures.capacity) none refl c.replace.ensures.after in
    done.seen

pub invariant_of-self-in-Some-Began : goal.invariant_of-self-in-Some-Began
invariant_of-self-in-Some-Began c =
    let p = parts_of c.self.inside in
    let k : IsKept p = c.self.invariant in
    let x = c.in-Some-Began in
    let q = c.hide.new.self in
    let push = c.push_reserved-in-Some-Began in
    let is : p.first ≡ Some (Began x.lane x.places x.moment) = sym x.ensures.value ∙ ap Some x.field-0-is in
    let can = can_first p (Began x.lane x.places x.moment) k is in
    let within = can.2.in_time in
    let capped : capped_moment x.moment ≡ x.moment = omega (arith, within) in
    let state : q.state ≡ after_receipt x.moment x.places p.limited.state = c.hide.ensures.state ∙ ap₂ (λ (m : ℕ) (ps : List ℕ). after_receipt m ps p.limited.state) capped c.as_slice.ensures in
    let adds = began_adds p q x.lane x.places x.moment (p.begun + 1) k is state c.hide.ensures.limit refl in
    let done = is_paid p c.args.self.now q (entry.Began x.lane x.places None x.moment) (p.begun + 1) p.deleted true p.gifts c.self.inside.history.items push.new.self.items (vec_capacity push.new.self) p.coming p.gifts c.replace.new.dest
    k c.self.view_is adds (owed_first p (Began x.lane x.places x.moment) is) refl refl push.ensures.items (sym push.ensures.capacity) can.0 refl c.replace.ensures.after in
    done.kept

pub returns-in-Some-Began : goal.returns-in-Some-Began
returns-in-Some-Began c =
    let p = parts_of c.self.inside in
    let k : IsKept p = c.self.invariant in
    let x = c.in-Some-Began in
    let q = c.hide.new.self in
    let push = c.push_reserved-in-Some-Began in
    let is : p.first ≡ Some (Began x.lane x.places x.moment) = sym x.ensures.value ∙ ap Some x.field-0-is in
    let can = can_first p (Began x.lane x.places x.moment) k is in
    let within = can.2.in_time in
    let capped : capped_moment x.moment ≡ x.moment = omega (arith, within) in
    let state : q.state ≡ after_receipt x.moment x.places p.limited.state = c.hide.ensures.state ∙ ap₂ (λ (m : ℕ) (ps : List ℕ). after_receipt m ps p.limited.state) capped c.as_slice.ensures in
    let adds = began_adds p q x.lane x.places x.moment (p.begun + 1) k is state c.hide.ensures.limit refl in
    let done = is_paid p c.args.self.now q (entry.Began x.lane x.places None x.moment) (p.begun + 1) p.deleted true p.gifts c.self.inside.history.items push.new.self.items (vec_capacity push.new.self) p.coming p.gifts c.replace.new.dest
    k c.self.view_is adds (owed_first p (Began x.lane x.places x.moment) is) refl refl push.ensures.items (sym push.ensures.capacity) can.0 refl c.replace.ensures.after in
    done.seen

pub invariant_of-self-in-Some-Ended : goal.invariant_of-self-in-Some-Ended
invariant_of-self-in-Some-Ended c =
    let p = parts_of c.self.inside in
    let k : IsKept p = c.self.invariant in
    let x = c.in-Some-Ended in
    let push = c.push_reserved-in-Some-Ended in
    let is : p.first ≡ Some (Ended x.lane x.reply x.moment) = sym x.ensures.value ∙ ap Some x.field-0-is in
    let can = can_first p (Ended x.lane x.reply x.moment) k is in
    let e : Entry = entry.Ended x.lane x.reply x.moment in
    let pushed : push.new.self.items ≡ c.self.inside.history.items ++ e ∷ [] = subst (λ (r : Reply). push.new.self.items ≡ c.self.inside.history.items ++ entry.Ended x.lane r x.moment ∷ []) c.past_of.ensures push.ensures.items in
    let adds = ended_adds p x.lane x.reply x.moment k is in
    let done = is_paid p c.args.self.now p.limited e p.begun p.deleted false p.gifts c.self.inside.history.items push.new.self.items (vec_capacity push.new.self) p.coming p.gifts c.replace.new.dest
    k c.self.view_is adds (owed_first p (Ended x.lane x.reply x.moment) is) refl refl pushed (sym push.ensures.capacity) can.0 refl c.replace.ensures.after in
    done.kept

pub returns-in-Some-Ended : goal.returns-in-Some-Ended
returns-in-Some-Ended c =
    let p = parts_of c.self.inside in
    let k : IsKept p = c.self.invariant in
    let x = c.in-Some-Ended in
    let push = c.push_reserved-in-Some-Ended in
    let is : p.first ≡ Some (Ended x.lane x.reply x.moment) = sym x.ensures.value ∙ ap Some x.field-0-is in
    let can = can_first p (Ended x.lane x.reply x.moment) k is in
    let e : Entry = entry.Ended x.lane x.reply x.moment in
    let pushed : push.new.self.items ≡ c.self.inside.history.items ++ e ∷ [] = subst (λ (r : Reply). push.new.self.items ≡ c.self.inside.history.items ++ entry.Ended x.lane r x.moment ∷ []) c.past_of.ensures push.ensures.items in
    let adds = ended_adds p x.lane x.reply x.moment k is in
    let done = is_paid p c.args.self.now p.limited e p.begun p.deleted false p.gifts c.self.inside.history.items push.new.self.items (vec_capacity push.new.self) p.coming p.gifts c.replace.new.dest
    k c.self.view_is adds (owed_first p (Ended x.lane x.reply x.moment) is) refl refl pushed (sym push.ensures.capacity) can.0 refl c.replace.ensures.after in
    done.seen

pub invariant_of-self-in-Some : goal.invariant_of-self-in-Some
invariant_of-self-in-Some c =
    let p = parts_of c.self.inside in
    let k : IsKept p = c.self.invariant in
    let g = c.in-Some.gift in
    let rest : List Gift = reverse c.pop.new.self.items in
    let q = c.delete_all.new.queue in
    let push = c.push_reserved-in-Some in
    let none : p.first ≡ None = sym c.in-None.ensures.value in
    let is : p.gifts ≡ g ∷ rest = first_of c.self.inside.gifts.items c.pop.new.self.items g c.in-Some.ensures.items in
    let state : q.state ≡ after_deletion g.places p.limited.state = c.delete_all.ensures.state ∙ ap (λ (ps : List ℕ). after_deletion ps p.limited.state) c.as_slice-in-Some.ensures in
    let counted = sym (c.delete_all.ensures.deleted ∙ ap (λ (n : ℕ). n + c.delete_all.result) (sym k.deleted)) in
    let adds = gave_adds p q g rest (p.deleted + c.delete_all.result) k none is state c.delete_all.ensures.limit counted in
    let done = is_paid p c.args.self.now q (gift_entry g) p.begun (p.deleted + c.delete_all.result) p.running rest c.self.inside.history.items push.new.self.items (vec_capacity push.new.self) p.coming rest c.replace.new.dest
    k c.self.view_is adds (owed_gift p g rest none is) refl refl push.ensures.items (sym push.ensures.capacity) (none_coming p k none) refl c.replace.ensures.after in
    done.kept

pub returns-in-Some : goal.returns-in-Some
returns-in-Some c =
    let p = parts_of c.self.inside in
    let k : IsKept p = c.self.invariant in
    let g = c.in-Some.gift in
    let rest : List Gift = reverse c.pop.new.self.items in
    let q = c.delete_all.new.queue in
    let push = c.push_reserved-in-Some in
    let none : p.first ≡ None = sym c.in-None.ensures.value in
    let is : p.gifts ≡ g ∷ rest = first_of c.self.inside.gifts.items c.pop.new.self.items g c.in-Some.ensures.items in
    let state : q.state ≡ after_deletion g.places p.limited.state = c.delete_all.ensures.state ∙ ap (λ (ps : List ℕ). after_deletion ps p.limited.state) c.as_slice-in-Some.ensures in
    let counted = sym (c.delete_all.ensures.deleted ∙ ap (λ (n : ℕ). n + c.delete_all.result) (sym k.deleted)) in
    let adds = gave_adds p q g rest (p.deleted + c.delete_all.result) k none is state c.delete_all.ensures.limit counted in
    let done = is_paid p c.args.self.now q (gift_entry g) p.begun (p.deleted + c.delete_all.result) p.running rest c.self.inside.history.items push.new.self.items (vec_capacity push.new.self) p.coming rest c.replace.new.dest
    k c.self.view_is adds (owed_gift p g rest none is) refl refl push.ensures.items (sym push.ensures.capacity) (none_coming p k none) refl c.replace.ensures.after in
    done.seen
