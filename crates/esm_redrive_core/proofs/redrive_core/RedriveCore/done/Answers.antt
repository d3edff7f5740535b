use Rattle.std.proofs.Common.{◌≡◌, ◌∙◌, ◌+◌, ◌<◌, ◌≤◌, ◌++◌, [], List, ℕ, not, rules, arith, length, vec_len, reverse, refl, sym, ap, ap₂, subst}
use Rattle.std.specs.Prelude.{All, filter}
use Rattle.std.specs.Vec.{vec_capacity}
use Rattle.std.proofs.lemmas.List.{length-reverse}
use Rattle.std.proofs.lemmas.List.Elements.{All-nil}
use Rattle.esm_model.specs.declared.entry.Fate.TheVariants.{Succeeded}
use Rattle.esm_model.specs.declared.limits.TheConstants.{MAX_BATCH}
use Rattle.esm_model.specs.QueueReading.{queue_reading}
use Rattle.esm_journal_record.specs.EntryPayload.{ids_at}
use Rattle.esm_queue_model.specs.Queue.{QueueState, is_deleted_at}
use Rattle.esm_queue_model.specs.QueueStep.{succeeded_by}
use Rattle.esm_queue_core.specs.Kept.{HasRisingFailed, MayBeGiven, messages_stored}
use Rattle.esm_queue_core.proofs.Ends.{rising_reading}
use Rattle.esm_redrive_core.specs.RedriveView.{RedriveView}
use Rattle.esm_redrive_core.specs.Sound.{ended_places}
use Rattle.esm_redrive_core.specs.Kept.{IsGiftOf, setting_of, owed_entries}
use Rattle.esm_redrive_core.specs.declared.owed.Gift.{Gift}
use Rattle.esm_redrive_core.specs.Inside.{parts_of}
use Rattle.esm_redrive_core.proofs.Owing.{owed_none}
use Rattle.esm_redrive_core.proofs.Deciding.{batch_within, ids_few, succeeded_is, success_given, count_answers, ended_decided, kept_grown}
use Rattle.esm_redrive_core.proofs.redrive_core.RedriveCore.done.Goals as goal

pub ids_at-requires : goal.ids_at-requires
ids_at-requires c =
    let p = parts_of c.self.inside in
    subst (λ (r : QueueState). All (λ i. i < length r.messages + 0) c.as_slice.result.now) (sym c.queue-queue.ensures.state)
    (subst (All (λ i. i < length p.limited.state.messages + 0)) (sym c.as_slice.ensures) (batch_within p c.args.self.now c.args.job c.args.job.places [] c.self.invariant c.self.view_is c.requires.runs refl refl))

pub read_queue-requires : goal.read_queue-requires
read_queue-requires c =
    let p = parts_of c.self.inside in
    let ids : c.in_ok-ids.ids.items ≡ ids_at (messages_stored p.limited.state ++ []) c.args.job.places = c.in_ok-ids.ensures ∙ (ap (λ (r : QueueState). ids_at (messages_stored r ++ []) c.as_slice.result.now) c.queue-queue.ensures.state ∙ ap (λ (ps : List ℕ). ids_at (messages_stored p.limited.state ++ []) ps) c.as_slice.ensures) in
    subst (λ (xs : List (List ℕ)). length xs ≤ MAX_BATCH) (sym c.as_slice-2.ensures.value) (ids_few p c.args.self.now c.args.job c.args.job.places [] c.self.invariant c.self.view_is c.requires.runs refl refl c.in_ok-ids.ids.items ids)

pub succeeded-requires : goal.succeeded-requires
succeeded-requires c =
    subst HasRisingFailed (sym c.in_ok-reading.ensures) (rising_reading c.self.inside.config c.as_slice-2.result.now c.args.reply)

pub overflow_cast-count : goal.overflow_cast-count
overflow_cast-count c =
    let p = parts_of c.self.inside in
    let v = c.args.self.now in
    let owed : owed_entries p.first p.gifts ≡ [] = ap (λ (w : RedriveView). w.owed) c.self.view_is ∙ c.requires.settled in
    let none = owed_none p.first p.gifts owed in
    let all : vec_len c.self.inside.history ≡ length c.self.inside.history.items = search rules in
    let ids : c.in_ok-ids.ids.items ≡ ids_at (messages_stored p.limited.state ++ []) c.args.job.places = c.in_ok-ids.ensures ∙ (ap (λ (r : QueueState). ids_at (messages_stored r ++ []) c.as_slice.result.now) c.queue-queue.ensures.state ∙ ap (λ (ps : List ℕ). ids_at (messages_stored p.limited.state ++ []) ps) c.as_slice.ensures) in
    let reading : c.in_ok-reading.reading ≡ queue_reading p.config c.in_ok-ids.ids.items c.args.reply = c.in_ok-reading.ensures ∙ ap (λ (xs : List (List ℕ)). queue_reading p.config xs c.args.reply) c.as_slice-2.ensures.value in
    let places_are : c.in_ok-places.places.items ≡ filter (λ i. not (is_deleted_at p.limited.state i)) (succeeded_by c.in_ok-reading.reading c.args.job.places) = c.in_ok-places.ensures ∙ ap₂ (λ (r : QueueState) (ps : List ℕ). filter (λ i. not (is_deleted_at r i)) (succeeded_by c.in_ok-reading.reading ps)) c.queue-queue.ensures.state c.as_slice-3.ensures in
    let is : c.in_ok-places.places.items ≡ ended_places (setting_of p) p.past c.args.reply c.raised_to-now.result = succeeded_is p v c.args.job c.args.job.places [] c.self.invariant c.self.view_is c.requires.runs refl refl c.in_ok-ids.ids.items c.args.reply c.in_ok-reading.reading c.in_ok-places.places.items c.raised_to-now.result ids reading places_are in
    let given = success_given p v c.args.job c.args.job.places [] c.self.invariant c.self.view_is c.requires.runs refl refl c.in_ok-reading.reading c.in_ok-places.places.items c.raised_to-now.result c.raised_to-now.ensures.in_time places_are in
    let few = given.few in
    omega (arith, c.len-count.ensures, c.in_ok-places.places.ok, few)

pub owe_first-requires-clause-may : goal.owe_first-requires-clause-may
owe_first-requires-clause-may c =
    let p = parts_of c.self.inside in
    let v = c.args.self.now in
    let owed : owed_entries p.first p.gifts ≡ [] = ap (λ (w : RedriveView). w.owed) c.self.view_is ∙ c.requires.settled in
    let none = owed_none p.first p.gifts owed in
    let all : vec_len c.self.inside.history ≡ length c.self.inside.history.items = search rules in
    let ids : c.in_ok-ids.ids.items ≡ ids_at (messages_stored p.limited.state ++ []) c.args.job.places = c.in_ok-ids.ensures ∙ (ap (λ (r : QueueState). ids_at (messages_stored r ++ []) c.as_slice.result.now) c.queue-queue.ensures.state ∙ ap (λ (ps : List ℕ). ids_at (messages_stored p.limited.state ++ []) ps) c.as_slice.ensures) in
    let reading : c.in_ok-reading.reading ≡ queue_reading p.config c.in_ok-ids.ids.items c.args.reply = c.in_ok-reading.ensures ∙ ap (λ (xs : List (List ℕ)). queue_reading p.config xs c.args.reply) c.as_slice-2.ensures.value in
    let places_are : c.in_ok-places.places.items ≡ filter (λ i. not (is_deleted_at p.limited.state i)) (succeeded_by c.in_ok-reading.reading c.args.job.places) = c.in_ok-places.ensures ∙ ap₂ (λ (r : QueueState) (ps : List ℕ). filter (λ i. not (is_deleted_at r i)) (succeeded_by c.in_ok-reading.reading ps)) c.queue-queue.ensures.state c.as_slice-3.ensures in
    let is : c.in_ok-places.places.items ≡ ended_places (setting_of p) p.past c.args.reply c.raised_to-now.result = succeeded_is p v c.args.job c.args.job.places [] c.self.invariant c.self.view_is c.requires.runs refl refl c.in_ok-ids.ids.items c.args.reply c.in_ok-reading.reading c.in_ok-places.places.items c.raised_to-now.result ids reading places_are in
    subst (λ (r : QueueState). MayBeGiven (messages_stored r ++ []) c.in_ok-places.places.items Succeeded c.raised_to-now.result) (sym c.queue-queue.ensures.state)
    (success_given p v c.args.job c.args.job.places [] c.self.invariant c.self.view_is c.requires.runs refl refl c.in_ok-reading.reading c.in_ok-places.places.items c.raised_to-now.result c.raised_to-now.ensures.in_time places_are)

pub owe_first-requires-clause-all : goal.owe_first-requires-clause-all
owe_first-requires-clause-all c =
    subst (λ (gs : List Gift). All (IsGiftOf (messages_stored c.queue-queue.result.now.state ++ [])) (reverse gs)) (sym c.new-gifts.ensures.items) (All-nil (IsGiftOf (messages_stored c.queue-queue.result.now.state ++ [])))

pub invariant_of-self : goal.invariant_of-self
invariant_of-self c =
    let p = parts_of c.self.inside in
    let owed : owed_entries p.first p.gifts ≡ [] = ap (λ (v : RedriveView). v.owed) c.self.view_is ∙ c.requires.settled in
    kept_grown p p.limited (vec_capacity c.make_room.new.history) c.self.inside.history.items c.make_room.new.history.items c.self.invariant owed refl refl c.make_room.ensures.capacity refl refl c.make_room.ensures.items

pub invariant_of-self-2 : goal.invariant_of-self-2
invariant_of-self-2 c =
    let p = parts_of c.self.inside in
    let v = c.args.self.now in
    let owed : owed_entries p.first p.gifts ≡ [] = ap (λ (w : RedriveView). w.owed) c.self.view_is ∙ c.requires.settled in
    let none = owed_none p.first p.gifts owed in
    let all : vec_len c.self.inside.history ≡ length c.self.inside.history.items = search rules in
    let ids : c.in_ok-ids.ids.items ≡ ids_at (messages_stored p.limited.state ++ []) c.args.job.places = c.in_ok-ids.ensures ∙ (ap (λ (r : QueueState). ids_at (messages_stored r ++ []) c.as_slice.result.now) c.queue-queue.ensures.state ∙ ap (λ (ps : List ℕ). ids_at (messages_stored p.limited.state ++ []) ps) c.as_slice.ensures) in
    let reading : c.in_ok-reading.reading ≡ queue_reading p.config c.in_ok-ids.ids.items c.args.reply = c.in_ok-reading.ensures ∙ ap (λ (xs : List (List ℕ)). queue_reading p.config xs c.args.reply) c.as_slice-2.ensures.value in
    let places_are : c.in_ok-places.places.items ≡ filter (λ i. not (is_deleted_at p.limited.state i)) (succeeded_by c.in_ok-reading.reading c.args.job.places) = c.in_ok-places.ensures ∙ ap₂ (λ (r : QueueState) (ps : List ℕ). filter (λ i. not (is_deleted_at r i)) (succeeded_by c.in_ok-reading.reading ps)) c.queue-queue.ensures.state c.as_slice-3.ensures in
    let is : c.in_ok-places.places.items ≡ ended_places (setting_of p) p.past c.args.reply c.raised_to-now.result = succeeded_is p v c.args.job c.args.job.places [] c.self.invariant c.self.view_is c.requires.runs refl refl c.in_ok-ids.ids.items c.args.reply c.in_ok-reading.reading c.in_ok-places.places.items c.raised_to-now.result ids reading places_are in
    let done = ended_decided p v c.args.job c.args.job.places [] c.self.invariant c.self.view_is c.requires.runs refl refl (vec_capacity c.make_room.new.history) c.self.inside.history.items c.make_room.new.history.items c.args.reply c.in_ok-places.places.items c.owe_first.new.gifts.items c.new-gifts.result.items c.queue-queue.result.now.state c.raised_to-now.result c.args.moment none.0 c.queue-queue.ensures.state c.raised_to-now.ensures.value is c.new-gifts.ensures.items
    c.in_ok-owe_first.ensures.entries c.in_ok-owe_first.ensures.all c.in_ok-owe_first.ensures.lines c.in_ok-owe_first.ensures.few (length-reverse c.owe_first.new.gifts.items) (omega (arith, c.in_ok-make_room.ensures.ok)) (omega (arith, all, c.len.ensures, c.may_decide.ensures c.if-not-may_decide.false)) refl refl c.make_room.ensures.items in
    done.kept

pub returns-clause-owes : goal.returns-clause-owes
returns-clause-owes c =
    let p = parts_of c.self.inside in
    let v = c.args.self.now in
    let owed : owed_entries p.first p.gifts ≡ [] = ap (λ (w : RedriveView). w.owed) c.self.view_is ∙ c.requires.settled in
    let none = owed_none p.first p.gifts owed in
    let all : vec_len c.self.inside.history ≡ length c.self.inside.history.items = search rules in
    let ids : c.in_ok-ids.ids.items ≡ ids_at (messages_stored p.limited.state ++ []) c.args.job.places = c.in_ok-ids.ensures ∙ (ap (λ (r : QueueState). ids_at (messages_stored r ++ []) c.as_slice.result.now) c.queue-queue.ensures.state ∙ ap (λ (ps : List ℕ). ids_at (messages_stored p.limited.state ++ []) ps) c.as_slice.ensures) in
    let reading : c.in_ok-reading.reading ≡ queue_reading p.config c.in_ok-ids.ids.items c.args.reply = c.in_ok-reading.ensures ∙ ap (λ (xs : List (List ℕ)). queue_reading p.config xs c.args.reply) c.as_slice-2.ensures.value in
    let places_are : c.in_ok-places.places.items ≡ filter (λ i. not (is_deleted_at p.limited.state i)) (succeeded_by c.in_ok-reading.reading c.args.job.places) = c.in_ok-places.ensures ∙ ap₂ (λ (r : QueueState) (ps : List ℕ). filter (λ i. not (is_deleted_at r i)) (succeeded_by c.in_ok-reading.reading ps)) c.queue-queue.ensures.state c.as_slice-3.ensures in
    let is : c.in_ok-places.places.items ≡ ended_places (setting_of p) p.past c.args.reply c.raised_to-now.result = succeeded_is p v c.args.job c.args.job.places [] c.self.invariant c.self.view_is c.requires.runs refl refl c.in_ok-ids.ids.items c.args.reply c.in_ok-reading.reading c.in_ok-places.places.items c.raised_to-now.result ids reading places_are in
    let done = ended_decided p v c.args.job c.args.job.places [] c.self.invariant c.self.view_is c.requires.runs refl refl (vec_capacity c.make_room.new.history) c.self.inside.history.items c.make_room.new.history.items c.args.reply c.in_ok-places.places.items c.owe_first.new.gifts.items c.new-gifts.result.items c.queue-queue.result.now.state c.raised_to-now.result c.args.moment none.0 c.queue-queue.ensures.state c.raised_to-now.ensures.value is c.new-gifts.ensures.items
    c.in_ok-owe_first.ensures.entries c.in_ok-owe_first.ensures.all c.in_ok-owe_first.ensures.lines c.in_ok-owe_first.ensures.few (length-reverse c.owe_first.new.gifts.items) (omega (arith, c.in_ok-make_room.ensures.ok)) (omega (arith, all, c.len.ensures, c.may_decide.ensures c.if-not-may_decide.false)) refl refl c.make_room.ensures.items in
    done.owes

pub returns-clause-answer : goal.returns-clause-answer
returns-clause-answer c =
    let p = parts_of c.self.inside in
    let v = c.args.self.now in
    let owed : owed_entries p.first p.gifts ≡ [] = ap (λ (w : RedriveView). w.owed) c.self.view_is ∙ c.requires.settled in
    let none = owed_none p.first p.gifts owed in
    let all : vec_len c.self.inside.history ≡ length c.self.inside.history.items = search rules in
    let ids : c.in_ok-ids.ids.items ≡ ids_at (messages_stored p.limited.state ++ []) c.args.job.places = c.in_ok-ids.ensures ∙ (ap (λ (r : QueueState). ids_at (messages_stored r ++ []) c.as_slice.result.now) c.queue-queue.ensures.state ∙ ap (λ (ps : List ℕ). ids_at (messages_stored p.limited.state ++ []) ps) c.as_slice.ensures) in
    let reading : c.in_ok-reading.reading ≡ queue_reading p.config c.in_ok-ids.ids.items c.args.reply = c.in_ok-reading.ensures ∙ ap (λ (xs : List (List ℕ)). queue_reading p.config xs c.args.reply) c.as_slice-2.ensures.value in
    let places_are : c.in_ok-places.places.items ≡ filter (λ i. not (is_deleted_at p.limited.state i)) (succeeded_by c.in_ok-reading.reading c.args.job.places) = c.in_ok-places.ensures ∙ ap₂ (λ (r : QueueState) (ps : List ℕ). filter (λ i. not (is_deleted_at r i)) (succeeded_by c.in_ok-reading.reading ps)) c.queue-queue.ensures.state c.as_slice-3.ensures in
    let is : c.in_ok-places.places.items ≡ ended_places (setting_of p) p.past c.args.reply c.raised_to-now.result = succeeded_is p v c.args.job c.args.job.places [] c.self.invariant c.self.view_is c.requires.runs refl refl c.in_ok-ids.ids.items c.args.reply c.in_ok-reading.reading c.in_ok-places.places.items c.raised_to-now.result ids reading places_are in
    let count : c.len-count.result ≡ length c.in_ok-places.places.items = omega (arith, c.len-count.ensures, c.in_ok-places.places.ok) in
    count_answers p v c.args.job c.args.job.places [] c.self.invariant c.self.view_is c.requires.runs refl refl c.args.reply c.in_ok-places.places.items c.len-count.result c.raised_to-now.result c.args.moment count is c.raised_to-now.ensures.value
