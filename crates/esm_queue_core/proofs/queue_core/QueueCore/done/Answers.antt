use Rattle.std.proofs.Common.{◌≡◌, ◌∙◌, ◌+◌, ◌<◌, ◌≤◌, ◌++◌, [], List, ℕ, not, rules, arith, length, vec_len, refl, sym, ap, subst}
use Rattle.std.specs.Prelude.{All, filter}
use Rattle.std.specs.Vec.{vec_capacity}
use Rattle.esm_model.specs.declared.limits.TheConstants.{MAX_BATCH}
use Rattle.esm_model.specs.QueueReading.{queue_reading}
use Rattle.esm_journal_record.specs.EntryPayload.{ids_at}
use Rattle.esm_queue_model.specs.Queue.{is_deleted_at}
use Rattle.esm_queue_model.specs.QueueStep.{succeeded_by}
use Rattle.esm_queue_core.specs.declared.standing.Standing.TheVariants.{Whole}
use Rattle.esm_queue_core.specs.CoreView.{CoreView}
use Rattle.esm_queue_core.specs.Ending.{ended_places}
use Rattle.esm_queue_core.specs.Kept.{HasRisingFailed, own, messages_stored, owed_entries}
use Rattle.esm_queue_core.specs.Inside.{parts_of}
use Rattle.esm_queue_core.proofs.Keeping.{owed_none}
use Rattle.esm_queue_core.proofs.Ends.{rising_reading, batch_within, ids_few, succeeded_is, success_given, count_answers, ended_decided}
use Rattle.esm_queue_core.proofs.queue_core.QueueCore.done.Goals as goal

pub ids_at-requires : goal.ids_at-requires
ids_at-requires c =
    let p = parts_of c.self.inside in
    let whole : c.self.inside.standing ≡ Whole = c.may_decide.ensures.whole c.if-not-may_decide.false in
    subst (All (λ i. i < length p.held.state.messages + 0)) (sym c.as_slice.ensures) (batch_within p c.args.self.now c.args.job c.args.job.places [] c.self.invariant whole c.self.view_is c.requires.runs refl refl)

pub read_queue-requires : goal.read_queue-requires
read_queue-requires c =
    let p = parts_of c.self.inside in
    let whole : c.self.inside.standing ≡ Whole = c.may_decide.ensures.whole c.if-not-may_decide.false in
    let ids : c.in_ok-ids.ids.items ≡ ids_at (messages_stored p.held.state ++ []) c.args.job.places = c.in_ok-ids.ensures ∙ ap (λ (ps : List ℕ). ids_at (messages_stored p.held.state ++ []) ps) c.as_slice.ensures in
    subst (λ (xs : List (List ℕ)). length xs ≤ MAX_BATCH) (sym c.as_slice-2.ensures.value) (ids_few p c.args.self.now c.args.job c.args.job.places [] c.self.invariant whole c.self.view_is c.requires.runs refl refl c.in_ok-ids.ids.items ids)

pub succeeded-requires : goal.succeeded-requires
succeeded-requires c =
    subst HasRisingFailed (sym c.in_ok-reading.ensures) (rising_reading c.self.inside.config c.as_slice-2.result.now c.args.reply)

pub overflow_cast-count : goal.overflow_cast-count
overflow_cast-count c =
    let p = parts_of c.self.inside in
    let whole : c.self.inside.standing ≡ Whole = c.may_decide.ensures.whole c.if-not-may_decide.false in
    let ids : c.in_ok-ids.ids.items ≡ ids_at (messages_stored p.held.state ++ []) c.args.job.places = c.in_ok-ids.ensures ∙ ap (λ (ps : List ℕ). ids_at (messages_stored p.held.state ++ []) ps) c.as_slice.ensures in
    let reading : c.in_ok-reading.reading ≡ queue_reading p.config c.in_ok-ids.ids.items c.args.reply = c.in_ok-reading.ensures ∙ ap (λ (xs : List (List ℕ)). queue_reading p.config xs c.args.reply) c.as_slice-2.ensures.value in
    let is : c.in_ok-places.places.items ≡ ended_places (own p) p.past c.args.job.lane c.args.reply c.raised_to-now.result = succeeded_is p c.args.self.now c.args.job c.args.job.places [] c.self.invariant whole c.self.view_is c.requires.runs refl refl c.in_ok-ids.ids.items c.args.reply c.in_ok-reading.reading c.in_ok-places.places.items c.raised_to-now.result ids reading
    (c.in_ok-places.ensures ∙ ap (λ (ps : List ℕ). filter (λ i. not (is_deleted_at p.held.state i)) (succeeded_by c.in_ok-reading.reading ps)) c.as_slice-3.ensures) in
    let given = success_given p c.args.self.now c.args.job c.args.job.places [] c.self.invariant whole c.self.view_is c.requires.runs refl refl c.args.reply c.in_ok-places.places.items c.raised_to-now.result c.raised_to-now.ensures.in_time is in
    let few = given.few in
    omega (arith, c.len-count.ensures, c.in_ok-places.places.ok, few)

pub gift_of-requires : goal.gift_of-requires
gift_of-requires c =
    let p = parts_of c.self.inside in
    let whole : c.self.inside.standing ≡ Whole = c.may_decide.ensures.whole c.if-not-may_decide.false in
    let ids : c.in_ok-ids.ids.items ≡ ids_at (messages_stored p.held.state ++ []) c.args.job.places = c.in_ok-ids.ensures ∙ ap (λ (ps : List ℕ). ids_at (messages_stored p.held.state ++ []) ps) c.as_slice.ensures in
    let reading : c.in_ok-reading.reading ≡ queue_reading p.config c.in_ok-ids.ids.items c.args.reply = c.in_ok-reading.ensures ∙ ap (λ (xs : List (List ℕ)). queue_reading p.config xs c.args.reply) c.as_slice-2.ensures.value in
    let is : c.in_ok-places.places.items ≡ ended_places (own p) p.past c.args.job.lane c.args.reply c.raised_to-now.result = succeeded_is p c.args.self.now c.args.job c.args.job.places [] c.self.invariant whole c.self.view_is c.requires.runs refl refl c.in_ok-ids.ids.items c.args.reply c.in_ok-reading.reading c.in_ok-places.places.items c.raised_to-now.result ids reading
    (c.in_ok-places.ensures ∙ ap (λ (ps : List ℕ). filter (λ i. not (is_deleted_at p.held.state i)) (succeeded_by c.in_ok-reading.reading ps)) c.as_slice-3.ensures) in
    success_given p c.args.self.now c.args.job c.args.job.places [] c.self.invariant whole c.self.view_is c.requires.runs refl refl c.args.reply c.in_ok-places.places.items c.raised_to-now.result c.raised_to-now.ensures.in_time is

pub invariant_of-self-2 : goal.invariant_of-self-2
invariant_of-self-2 c =
    let p = parts_of c.self.inside in
    let whole : c.self.inside.standing ≡ Whole = c.may_decide.ensures.whole c.if-not-may_decide.false in
    let ids : c.in_ok-ids.ids.items ≡ ids_at (messages_stored p.held.state ++ []) c.args.job.places = c.in_ok-ids.ensures ∙ ap (λ (ps : List ℕ). ids_at (messages_stored p.held.state ++ []) ps) c.as_slice.ensures in
    let reading : c.in_ok-reading.reading ≡ queue_reading p.config c.in_ok-ids.ids.items c.args.reply = c.in_ok-reading.ensures ∙ ap (λ (xs : List (List ℕ)). queue_reading p.config xs c.args.reply) c.as_slice-2.ensures.value in
    let is : c.in_ok-places.places.items ≡ ended_places (own p) p.past c.args.job.lane c.args.reply c.raised_to-now.result = succeeded_is p c.args.self.now c.args.job c.args.job.places [] c.self.invariant whole c.self.view_is c.requires.runs refl refl c.in_ok-ids.ids.items c.args.reply c.in_ok-reading.reading c.in_ok-places.places.items c.raised_to-now.result ids reading
    (c.in_ok-places.ensures ∙ ap (λ (ps : List ℕ). filter (λ i. not (is_deleted_at p.held.state i)) (succeeded_by c.in_ok-reading.reading ps)) c.as_slice-3.ensures) in
    let owed : owed_entries p.first p.gift ≡ [] = ap (λ (v : CoreView). v.owed) c.self.view_is ∙ c.requires.settled in
    let all : vec_len c.self.inside.history ≡ length c.self.inside.history.items = search rules in
    let done = ended_decided p c.args.self.now c.args.job c.args.job.places [] c.self.invariant whole c.self.view_is c.requires.runs refl refl c.self.inside.queue (vec_capacity c.make_room.new.history) c.self.inside.history.items c.make_room.new.history.items c.args.reply c.in_ok-places.places.items c.in_ok-gift.gift c.raised_to-now.result c.args.moment (owed_none p.first p.gift owed).0 refl c.raised_to-now.ensures.value
    is c.in_ok-gift.ensures.entry c.in_ok-gift.ensures.written c.in_ok-make_room.ensures.ok (omega (arith, all, c.len.ensures, c.may_decide.ensures.short c.if-not-may_decide.false)) refl refl c.make_room.ensures.items in
    done.kept

pub returns-clause-owes : goal.returns-clause-owes
returns-clause-owes c =
    let p = parts_of c.self.inside in
    let whole : c.self.inside.standing ≡ Whole = c.may_decide.ensures.whole c.if-not-may_decide.false in
    let ids : c.in_ok-ids.ids.items ≡ ids_at (messages_stored p.held.state ++ []) c.args.job.places = c.in_ok-ids.ensures ∙ ap (λ (ps : List ℕ). ids_at (messages_stored p.held.state ++ []) ps) c.as_slice.ensures in
    let reading : c.in_ok-reading.reading ≡ queue_reading p.config c.in_ok-ids.ids.items c.args.reply = c.in_ok-reading.ensures ∙ ap (λ (xs : List (List ℕ)). queue_reading p.config xs c.args.reply) c.as_slice-2.ensures.value in
    let is : c.in_ok-places.places.items ≡ ended_places (own p) p.past c.args.job.lane c.args.reply c.raised_to-now.result = succeeded_is p c.args.self.now c.args.job c.args.job.places [] c.self.invariant whole c.self.view_is c.requires.runs refl refl c.in_ok-ids.ids.items c.args.reply c.in_ok-reading.reading c.in_ok-places.places.items c.raised_to-now.result ids reading
    (c.in_ok-places.ensures ∙ ap (λ (ps : List ℕ). filter (λ i. not (is_deleted_at p.held.state i)) (succeeded_by c.in_ok-reading.reading ps)) c.as_slice-3.ensures) in
    let owed : owed_entries p.first p.gift ≡ [] = ap (λ (v : CoreView). v.owed) c.self.view_is ∙ c.requires.settled in
    let all : vec_len c.self.inside.history ≡ length c.self.inside.history.items = search rules in
    let done = ended_decided p c.args.self.now c.args.job c.args.job.places [] c.self.invariant whole c.self.view_is c.requires.runs refl refl c.self.inside.queue (vec_capacity c.make_room.new.history) c.self.inside.history.items c.make_room.new.history.items c.args.reply c.in_ok-places.places.items c.in_ok-gift.gift c.raised_to-now.result c.args.moment (owed_none p.first p.gift owed).0 refl c.raised_to-now.ensures.value
    is c.in_ok-gift.ensures.entry c.in_ok-gift.ensures.written c.in_ok-make_room.ensures.ok (omega (arith, all, c.len.ensures, c.may_decide.ensures.short c.if-not-may_decide.false)) refl refl c.make_room.ensures.items in
    done.owes

pub returns-clause-answer : goal.returns-clause-answer
returns-clause-answer c =
    let p = parts_of c.self.inside in
    let whole : c.self.inside.standing ≡ Whole = c.may_decide.ensures.whole c.if-not-may_decide.false in
    let ids : c.in_ok-ids.ids.items ≡ ids_at (messages_stored p.held.state ++ []) c.args.job.places = c.in_ok-ids.ensures ∙ ap (λ (ps : List ℕ). ids_at (messages_stored p.held.state ++ []) ps) c.as_slice.ensures in
    let reading : c.in_ok-reading.reading ≡ queue_reading p.config c.in_ok-ids.ids.items c.args.reply = c.in_ok-reading.ensures ∙ ap (λ (xs : List (List ℕ)). queue_reading p.config xs c.args.reply) c.as_slice-2.ensures.value in
    let is : c.in_ok-places.places.items ≡ ended_places (own p) p.past c.args.job.lane c.args.reply c.raised_to-now.result = succeeded_is p c.args.self.now c.args.job c.args.job.places [] c.self.invariant whole c.self.view_is c.requires.runs refl refl c.in_ok-ids.ids.items c.args.reply c.in_ok-reading.reading c.in_ok-places.places.items c.raised_to-now.result ids reading
    (c.in_ok-places.ensures ∙ ap (λ (ps : List ℕ). filter (λ i. not (is_deleted_at p.held.state i)) (succeeded_by c.in_ok-reading.reading ps)) c.as_slice-3.ensures) in
    let count : c.len-count.result ≡ length c.in_ok-places.places.items = omega (arith, c.len-count.ensures, c.in_ok-places.places.ok) in
    count_answers p c.args.self.now c.args.job c.args.job.places [] c.self.invariant whole c.self.view_is c.requires.runs refl refl c.args.reply c.in_ok-places.places.items c.len-count.result c.raised_to-now.result c.args.moment count is c.raised_to-now.ensures.value

pub returns-clause-legal : goal.returns-clause-legal
returns-clause-legal c =
    let p = parts_of c.self.inside in
    let whole : c.self.inside.standing ≡ Whole = c.may_decide.ensures.whole c.if-not-may_decide.false in
    let ids : c.in_ok-ids.ids.items ≡ ids_at (messages_stored p.held.state ++ []) c.args.job.places = c.in_ok-ids.ensures ∙ ap (λ (ps : List ℕ). ids_at (messages_stored p.held.state ++ []) ps) c.as_slice.ensures in
    let reading : c.in_ok-reading.reading ≡ queue_reading p.config c.in_ok-ids.ids.items c.args.reply = c.in_ok-reading.ensures ∙ ap (λ (xs : List (List ℕ)). queue_reading p.config xs c.args.reply) c.as_slice-2.ensures.value in
    let is : c.in_ok-places.places.items ≡ ended_places (own p) p.past c.args.job.lane c.args.reply c.raised_to-now.result = succeeded_is p c.args.self.now c.args.job c.args.job.places [] c.self.invariant whole c.self.view_is c.requires.runs refl refl c.in_ok-ids.ids.items c.args.reply c.in_ok-reading.reading c.in_ok-places.places.items c.raised_to-now.result ids reading
    (c.in_ok-places.ensures ∙ ap (λ (ps : List ℕ). filter (λ i. not (is_deleted_at p.held.state i)) (succeeded_by c.in_ok-reading.reading ps)) c.as_slice-3.ensures) in
    let owed : owed_entries p.first p.gift ≡ [] = ap (λ (v : CoreView). v.owed) c.self.view_is ∙ c.requires.settled in
    let all : vec_len c.self.inside.history ≡ length c.self.inside.history.items = search rules in
    let done = ended_decided p c.args.self.now c.args.job c.args.job.places [] c.self.invariant whole c.self.view_is c.requires.runs refl refl c.self.inside.queue (vec_capacity c.make_room.new.history) c.self.inside.history.items c.make_room.new.history.items c.args.reply c.in_ok-places.places.items c.in_ok-gift.gift c.raised_to-now.result c.args.moment (owed_none p.first p.gift owed).0 refl c.raised_to-now.ensures.value
    is c.in_ok-gift.ensures.entry c.in_ok-gift.ensures.written c.in_ok-make_room.ensures.ok (omega (arith, all, c.len.ensures, c.may_decide.ensures.short c.if-not-may_decide.false)) refl refl c.make_room.ensures.items in
    done.legal

pub returns-clause-settled : goal.returns-clause-settled
returns-clause-settled c =
    let p = parts_of c.self.inside in
    let whole : c.self.inside.standing ≡ Whole = c.may_decide.ensures.whole c.if-not-may_decide.false in
    let ids : c.in_ok-ids.ids.items ≡ ids_at (messages_stored p.held.state ++ []) c.args.job.places = c.in_ok-ids.ensures ∙ ap (λ (ps : List ℕ). ids_at (messages_stored p.held.state ++ []) ps) c.as_slice.ensures in
    let reading : c.in_ok-reading.reading ≡ queue_reading p.config c.in_ok-ids.ids.items c.args.reply = c.in_ok-reading.ensures ∙ ap (λ (xs : List (List ℕ)). queue_reading p.config xs c.args.reply) c.as_slice-2.ensures.value in
    let is : c.in_ok-places.places.items ≡ ended_places (own p) p.past c.args.job.lane c.args.reply c.raised_to-now.result = succeeded_is p c.args.self.now c.args.job c.args.job.places [] c.self.invariant whole c.self.view_is c.requires.runs refl refl c.in_ok-ids.ids.items c.args.reply c.in_ok-reading.reading c.in_ok-places.places.items c.raised_to-now.result ids reading
    (c.in_ok-places.ensures ∙ ap (λ (ps : List ℕ). filter (λ i. not (is_deleted_at p.held.state i)) (succeeded_by c.in_ok-reading.reading ps)) c.as_slice-3.ensures) in
    let owed : owed_entries p.first p.gift ≡ [] = ap (λ (v : CoreView). v.owed) c.self.view_is ∙ c.requires.settled in
    let all : vec_len c.self.inside.history ≡ length c.self.inside.history.items = search rules in
    let done = ended_decided p c.args.self.now c.args.job c.args.job.places [] c.self.invariant whole c.self.view_is c.requires.runs refl refl c.self.inside.queue (vec_capacity c.make_room.new.history) c.self.inside.history.items c.make_room.new.history.items c.args.reply c.in_ok-places.places.items c.in_ok-gift.gift c.raised_to-now.result c.args.moment (owed_none p.first p.gift owed).0 refl c.raised_to-now.ensures.value
    is c.in_ok-gift.ensures.entry c.in_ok-gift.ensures.written c.in_ok-make_room.ensures.ok (omega (arith, all, c.len.ensures, c.may_decide.ensures.short c.if-not-may_decide.false)) refl refl c.make_room.ensures.items in
    done.settled
