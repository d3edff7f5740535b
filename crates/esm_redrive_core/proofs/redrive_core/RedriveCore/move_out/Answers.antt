use Rattle.std.proofs.Common.{◌≡◌, ◌∙◌, ◌<◌, ◌++◌, ◌∷◌, [], List, arith, length, refl, sym, ap, subst}
use Rattle.std.specs.List.{All}
use Rattle.std.specs.Vec.{vec_capacity}
use Rattle.std.proofs.lemmas.List.{length-map}
use Rattle.esm_model.specs.declared.config.Kind.{Kind}
use Rattle.esm_model.specs.declared.entry.Fate.TheVariants.{Exhausted}
use Rattle.esm_model.specs.Items.{queue_kind}
use Rattle.esm_model.specs.ValidMessage.{IsValidMessage}
use Rattle.esm_queue_model.specs.QueueSetting.{is_fifo}
use Rattle.esm_queue_model.specs.declared.stored.Stored.{Stored}
use Rattle.esm_queue_model.specs.Queue.{QueueState}
use Rattle.esm_queue_core.specs.Kept.{MayBeGiven, messages_stored}
use Rattle.esm_redrive_core.specs.declared.owed.Gift.{Gift}
use Rattle.esm_redrive_core.specs.RedriveView.{RedriveView}
use Rattle.esm_redrive_core.specs.Kept.{owed_entries}
use Rattle.esm_redrive_core.specs.Inside.{parts_of}
use Rattle.esm_redrive_core.proofs.Keeping.{own_valid}
use Rattle.esm_redrive_core.proofs.Owing.{owed_none}
use Rattle.esm_redrive_core.proofs.Telling.{kind_is}
use Rattle.esm_redrive_core.proofs.Deciding.{moved_given, moved_decided, kept_grown}
use Rattle.esm_redrive_core.proofs.Due.{short_by}
use Rattle.esm_redrive_core.proofs.redrive_core.RedriveCore.move_out.Goals as goal

pub move_of-requires-clause-within : goal.move_of-requires-clause-within
move_of-requires-clause-within c =
    let p = parts_of c.self.inside in
    let low : c.args.place < length (messages_stored p.limited.state) = subst (λ (w : RedriveView). c.args.place < length w.setting.queue.messages) (sym c.self.view_is) c.requires.within in
    let long = length-map p.limited.state.messages (λ (x : Stored). x.message) in
    subst (λ (q : QueueState). c.args.place < length q.messages) (sym c.queue.ensures.state) (omega (arith, low, long))

pub move_of-requires-clause-valid : goal.move_of-requires-clause-valid
move_of-requires-clause-valid c =
    let p = parts_of c.self.inside in
    let fifo = is_fifo p.config.kind in
    let kind = kind_is p.config.kind c.self.invariant.config.kind in (
      fifo,
      subst (λ (q : QueueState). All (IsValidMessage (queue_kind fifo)) (messages_stored q)) (sym c.queue.ensures.state)
          (subst (λ (k : Kind). All (IsValidMessage k) (messages_stored p.limited.state)) (sym kind) (own_valid p c.self.invariant)),
    )

pub move_of-requires-clause-may : goal.move_of-requires-clause-may
move_of-requires-clause-may c =
    let p = parts_of c.self.inside in
    let low : c.args.place < length (messages_stored p.limited.state) = subst (λ (w : RedriveView). c.args.place < length w.setting.queue.messages) (sym c.self.view_is) c.requires.within in
    let long = length-map p.limited.state.messages (λ (x : Stored). x.message) in
    subst (λ (q : QueueState). MayBeGiven (messages_stored q ++ []) (c.args.place ∷ []) Exhausted c.args.now) (sym c.queue.ensures.state)
    (moved_given p c.args.place c.args.now c.self.invariant (omega (arith, low, long)) c.requires.in_time)

pub invariant_of-self : goal.invariant_of-self
invariant_of-self c =
    let p = parts_of c.self.inside in
    let owed : owed_entries p.first p.gifts ≡ [] = ap (λ (v : RedriveView). v.owed) c.self.view_is ∙ c.requires.settled in
    kept_grown p p.limited (vec_capacity c.make_room.new.history) c.self.inside.history.items c.make_room.new.history.items c.self.invariant owed refl refl c.make_room.ensures.capacity refl refl c.make_room.ensures.items

pub invariant_of-self-2 : goal.invariant_of-self-2
invariant_of-self-2 c =
    let p = parts_of c.self.inside in
    let v = c.args.self.now in
    let owed : owed_entries p.first p.gifts ≡ [] = ap (λ (w : RedriveView). w.owed) c.self.view_is ∙ c.requires.settled in
    let none = owed_none p.first p.gifts owed in
    let pushed : c.push.new.self.items ≡ [] ++ c.in_ok-gift.gift ∷ [] = c.in_ok-push.ensures.items ∙ ap (λ (gs : List Gift). gs ++ c.in_ok-gift.gift ∷ []) c.new-gifts.ensures.items in
    let short = short_by p v c.self.inside.history.items c.self.view_is refl refl c.requires.short in
    let done = moved_decided p v (vec_capacity c.make_room.new.history) c.self.inside.history.items c.make_room.new.history.items c.in_ok-gift.gift c.push.new.self.items c.queue.result.now.state c.args.place c.args.now c.self.invariant c.self.view_is none.0 c.queue.ensures.state pushed c.in_ok-gift.ensures.written c.in_ok-gift.ensures.line c.in_ok-gift.ensures.entry (omega (arith, c.in_ok-make_room.ensures.ok)) short refl refl c.make_room.ensures.items in
    done.kept

pub returns-clause-owes : goal.returns-clause-owes
returns-clause-owes c =
    let p = parts_of c.self.inside in
    let v = c.args.self.now in
    let owed : owed_entries p.first p.gifts ≡ [] = ap (λ (w : RedriveView). w.owed) c.self.view_is ∙ c.requires.settled in
    let none = owed_none p.first p.gifts owed in
    let pushed : c.push.new.self.items ≡ [] ++ c.in_ok-gift.gift ∷ [] = c.in_ok-push.ensures.items ∙ ap (λ (gs : List Gift). gs ++ c.in_ok-gift.gift ∷ []) c.new-gifts.ensures.items in
    let short = short_by p v c.self.inside.history.items c.self.view_is refl refl c.requires.short in
    let done = moved_decided p v (vec_capacity c.make_room.new.history) c.self.inside.history.items c.make_room.new.history.items c.in_ok-gift.gift c.push.new.self.items c.queue.result.now.state c.args.place c.args.now c.self.invariant c.self.view_is none.0 c.queue.ensures.state pushed c.in_ok-gift.ensures.written c.in_ok-gift.ensures.line c.in_ok-gift.ensures.entry (omega (arith, c.in_ok-make_room.ensures.ok)) short refl refl c.make_room.ensures.items in
    done.owes
