-- How the end of a call is read, and what is promised of the core where it is decided.
use Rattle.std.proofs.Common.{◌≡◌, ℕ, ◌+◌, ◌<◌, ◌≤◌, ◌^◌, not, List, [], ◌∷◌, ◌++◌, length, max, min, reverse, sym, ap, ap₂, ◌∙◌, subst, inl, inr, arith, Option, Some, None}
use Rattle.std.specs.Prelude.{◌==◌, filter}
use Rattle.std.specs.List.{All}
use Rattle.std.proofs.lemmas.Bool.{cases_Bool}
use Rattle.std.proofs.lemmas.List.{append-nil, length-append, length-map}
use Rattle.serde_json.specs.Data.{Data, null, boolean, number, string, array, object}
use Rattle.serde_json.specs.Find.{get_member}
use Rattle.std.specs.Prelude.{codes}
use Rattle.esm_model.specs.Json.{read_json}
use Rattle.esm_model.specs.Reading.{all_reported}
use Rattle.esm_model.specs.Entries.{holds, last_call, batch_of, is_running}
use Rattle.esm_model.specs.QueueReading.{reported_reading, queue_failures_reading, queue_body_reading, queue_item_reading, queue_reading}
use Rattle.esm_model.specs.declared.limits.TheConstants.{MAX_BATCH}
use Rattle.esm_model.specs.declared.moment.TheConstants.{MAX_MOMENT}
use Rattle.esm_model.specs.declared.config.Config.{Config}
use Rattle.esm_model.specs.declared.item.Message.{Message}
use Rattle.esm_model.specs.declared.book.Job.{Job}
use Rattle.esm_model.specs.declared.entry.Reply.{Reply}
use Rattle.esm_model.specs.declared.entry.Reply.TheVariants.{Answered, Garbled, Lost}
use Rattle.esm_model.specs.declared.entry.Fate.TheVariants.{Succeeded}
use Rattle.esm_model.specs.declared.entry.Entry.{Entry}
use Rattle.esm_model.specs.declared.verdict.QueueReading.{QueueReading}
use Rattle.esm_journal_record.specs.EntryPayload.{ids_at}
use Rattle.esm_queue.specs.Held.{Held}
use Rattle.esm_queue_model.specs.declared.stored.Stored.{Stored}
use Rattle.esm_queue_model.specs.Queue.{QueueState, is_deleted_at}
use Rattle.esm_queue_model.specs.QueueSetting as settings
use Rattle.esm_queue_model.specs.QueueEntries.{queue_count, is_deleted}
use Rattle.esm_queue_model.specs.QueueStep.{succeeded_by}
use Rattle.esm_queue_model.proofs.MoreMessages.{stored_count, batch_came}
use Rattle.esm_queue_core.specs.declared.owed.First.TheVariants.{Ended}
use Rattle.esm_queue_core.specs.declared.owed.Gift.{Gift}
use Rattle.esm_queue_core.specs.declared.standing.Standing.TheVariants.{Whole}
use Rattle.esm_queue_core.specs.CoreView.{CoreView, IsRunningJob, moment_for}
use Rattle.esm_queue_core.specs.Coming.{gave_entries}
use Rattle.esm_queue_core.specs.Ending.{ended_places, ended_entries}
use Rattle.esm_queue_core.specs.Kept.{Parts, IsKept, IsGift, HasRisingFailed, MayBeGiven, gift_entries, own, messages_stored, seen_of}
use Rattle.esm_queue_core.proofs.Named.{rising-below, batch_few, ids_long}
use Rattle.esm_queue_core.proofs.Choosing.{queue_size}
use Rattle.esm_queue_core.proofs.Settling.{ended_is}
use Rattle.esm_queue_core.proofs.Giving.{all_in, ended_given}
use Rattle.esm_queue_core.proofs.Comes.{front_valid}
use Rattle.esm_queue_core.proofs.Keeping.{Ends, ends_decides, ended_owed, own_sound, nothing_coming, moment_is}
use Rattle.esm_queue_core.proofs.Deciding.{IsDecided, left_with, is_decided}

-- the failed positions of an answer rise

rising_reported : (ids : List (List ℕ)) (reported : Option (List ℕ)) → HasRisingFailed (reported_reading ids reported)
rising_reported ids None = tt
rising_reported ids (Some reported) = rising-below (holds reported) (length ids)

rising_failures : (ids : List (List ℕ)) (d : Option Data) → HasRisingFailed (queue_failures_reading ids d)
rising_failures ids None = tt
rising_failures ids (Some null) = tt
rising_failures ids (Some (boolean b)) = tt
rising_failures ids (Some (number n)) = tt
rising_failures ids (Some (string s)) = tt
rising_failures ids (Some (array ds)) = rising_reported ids (all_reported ids ds)
rising_failures ids (Some (object ms)) = tt

rising_body : (ids : List (List ℕ)) (d : Option Data) → HasRisingFailed (queue_body_reading ids d)
rising_body ids None = tt
rising_body ids (Some null) = tt
rising_body ids (Some (boolean b)) = tt
rising_body ids (Some (number n)) = tt
rising_body ids (Some (string s)) = tt
rising_body ids (Some (array ds)) = tt
rising_body ids (Some (object ms)) = rising_failures ids (get_member (codes "batchItemFailures") ms)

rising_items : (ids : List (List ℕ)) (body : List ℕ) → HasRisingFailed (queue_item_reading ids body)
unfolding queue_item_reading
rising_items ids [] = tt
rising_items ids (x ∷ xs) = rising_body ids (read_json (x ∷ xs))

pub rising_reading : (c : Config) (ids : List (List ℕ)) (reply : Reply) → HasRisingFailed (queue_reading c ids reply)
rising_reading c ids Lost = tt
rising_reading c ids (Garbled bytes) = tt
rising_reading c ids (Answered status error body) =
    elim (cases_Bool (not (status == 200))) [
      | inl other ↦ rw other tt
      | inr well ↦ elim (cases_Bool error) [
        | inl failed ↦ rw (well, failed) tt
        | inr ran ↦ elim (cases_Bool c.item_failures) [ inl each ↦ rw (well, ran, each) (rising_items ids body) | inr whole ↦ rw (well, ran, whole) tt ]
      ]
    ]

-- the batch of the job

module _ (p : Parts) (v : CoreView) (job : Job) (slice : List ℕ) (none : List Message) (k : IsKept p) (whole : p.standing ≡ Whole) (seen : seen_of p ≡ v) (runs : IsRunningJob v.past job) (same : slice ≡ job.places) (nothing : none ≡ []) where
  abbrev batch : List ℕ
  batch = batch_of (last_call p.past job.lane)

  batch_is : slice ≡ batch
  batch_is = same ∙ (runs.places ∙ ap (λ (w : CoreView). batch_of (last_call w.past job.lane)) (sym seen))

  stored_is : messages_stored p.held.state ++ none ≡ messages_stored p.held.state
  stored_is = ap (λ (ms : List Message). messages_stored p.held.state ++ ms) nothing ∙ append-nil (messages_stored p.held.state)

  -- its messages came
  pub batch_within : All (λ i. i < length p.held.state.messages + length none) slice
  batch_within =
      let legal = (own_sound p k whole).legal in
      let long : length p.held.state.messages ≡ queue_count p.past = ap (λ (q : QueueState). length q.messages) k.queue ∙ stored_count (own p) p.past legal in
      subst (All (λ i. i < length p.held.state.messages + length none)) (sym batch_is)
      (all_in batch (length p.held.state.messages + length none) (λ i member. (let low = batch_came (own p) p.past job.lane legal i member in omega arith)))

  -- and are few
  pub ids_few : (ids : List (List ℕ)) → ids ≡ ids_at (messages_stored p.held.state ++ none) slice → length ids ≤ MAX_BATCH
  ids_few ids is =
      let all = messages_stored p.held.state ++ none in
      let long : length all ≡ length p.held.state.messages + length none = length-append (messages_stored p.held.state) none ∙ ap (λ (n : ℕ). n + length none) (length-map p.held.state.messages (λ (x : Stored). x.message)) in
      let within : All (λ i. i < length all) slice = subst (λ (n : ℕ). All (λ i. i < n) slice) (sym long) batch_within in
      let count : length ids ≡ length batch = ap (λ (xs : List (List ℕ)). length xs) is ∙ (ids_long all slice within ∙ ap (λ (ps : List ℕ). length ps) batch_is) in
      let few = batch_few (own p) p.past job.lane (own_sound p k whole).legal in
      let size = queue_size p.config k.config in
      omega arith

  -- what succeeded
  pub succeeded_is : (ids : List (List ℕ)) (reply : Reply) (reading : QueueReading) (places : List ℕ) (m : ℕ) → ids ≡ ids_at (messages_stored p.held.state ++ none) slice → reading ≡ queue_reading p.config ids reply
      → places ≡ filter (λ i. not (is_deleted_at p.held.state i)) (succeeded_by reading slice) → places ≡ ended_places (own p) p.past job.lane reply m
  succeeded_is ids reply reading places m ids_are reading_is is =
      let own_ids : ids ≡ settings.ids_at (own p) batch = ids_are ∙ (ap (λ (ms : List Message). ids_at ms slice) stored_is ∙ ap (λ (ps : List ℕ). ids_at (messages_stored p.held.state) ps) batch_is) in
      let read : reading ≡ queue_reading p.config (settings.ids_at (own p) batch) reply = reading_is ∙ ap (λ (xs : List (List ℕ)). queue_reading p.config xs reply) own_ids in
      is
      ∙ (ap₂ (λ (q : QueueState) (r : QueueReading). filter (λ i. not (is_deleted_at q i)) (succeeded_by r slice)) k.queue read
      ∙ (ap (λ (ps : List ℕ). filter (λ i. not (is_deleted (own p) p.past i)) (succeeded_by (queue_reading p.config (settings.ids_at (own p) batch) reply) ps)) batch_is
      ∙ sym (ended_is (own p) p.past job.lane reply m)))

  -- may be deleted
  pub success_given : (reply : Reply) (places : List ℕ) (m : ℕ) → m ≤ MAX_MOMENT → places ≡ ended_places (own p) p.past job.lane reply m → MayBeGiven (messages_stored p.held.state ++ none) places Succeeded m
  success_given reply places m within is =
      let few : length (messages_stored p.held.state) < 2 ^ 32 = (let f = k.few in omega (arith, length-append (messages_stored p.held.state) p.coming)) in
      let size : p.config.batch_size ≤ MAX_BATCH = (let q = queue_size p.config k.config in omega arith) in
      subst (λ (ms : List Message). MayBeGiven ms places Succeeded m) (sym stored_is)
      (subst (λ (ps : List ℕ). MayBeGiven (messages_stored p.held.state) ps Succeeded m) (sym is)
      (ended_given (own p) p.past job.lane reply m (own_sound p k whole).legal (ap messages_stored k.queue) (front_valid p k) few size within))

  -- the answer
  pub count_answers : (reply : Reply) (places : List ℕ) (count m moment : ℕ) → count ≡ length places → places ≡ ended_places (own p) p.past job.lane reply m → m ≡ min (max moment p.last) MAX_MOMENT → count ≡ length (ended_places v.setting v.past job.lane reply (moment_for v.past moment))
  count_answers reply places count m moment count_is is now =
      count_is
      ∙ (ap (λ (ps : List ℕ). length ps) is
      ∙ (ap (λ (n : ℕ). length (ended_places (own p) p.past job.lane reply n)) (moment_is p m moment k now)
      ∙ ap (λ (w : CoreView). length (ended_places w.setting w.past job.lane reply (moment_for w.past moment))) seen))

  -- what is promised of the core
  pub ended_decided : (held : Held) (capacity : ℕ) (old new : List Entry) (reply : Reply) (places : List ℕ) (gift : Option Gift) (m moment : ℕ) → p.first ≡ None → held.state ≡ p.held.state → m ≡ min (max moment p.last) MAX_MOMENT
      → places ≡ ended_places (own p) p.past job.lane reply m → gift_entries gift ≡ gave_entries (Some job.lane) places Succeeded m → IsGift (messages_stored p.held.state ++ none) gift
      → p.number + p.running + 3 ≤ capacity → p.number + p.running + 3 ≤ 2 ^ 40 → p.past ≡ reverse old → p.number ≡ length old → new ≡ old
      → IsDecided (left_with p held capacity new p.coming (Some (Ended job.lane reply m)) gift) v [] (ended_entries v.setting v.past job.lane reply (moment_for v.past moment))
  ended_decided held capacity old new reply places gift m moment first_none held_is now is gift_is written room short past_is number_is new_is =
      let ends : Ends p held capacity job.lane reply gift m moment = record {
        runs = ap (λ (w : CoreView). is_running w.past job.lane) seen ∙ runs.runs;
        same = held_is;
        now = now;
        gift_is = gift_is ∙ ap (λ (ps : List ℕ). gave_entries (Some job.lane) ps Succeeded m) is;
        written = subst (λ (ms : List Message). IsGift (messages_stored p.held.state ++ ms) gift) nothing written;
        room = room;
        short = short;
      } in
      let es = ended_entries v.setting v.past job.lane reply (moment_for v.past moment) in
      let owed = ended_owed p held capacity job.lane reply gift m moment k ends ∙ ap (λ (w : CoreView). ended_entries w.setting w.past job.lane reply (moment_for w.past moment)) seen in
      subst (λ (ms : List Message). IsDecided (left_with p held capacity new ms (Some (Ended job.lane reply m)) gift) v [] es) (sym (nothing_coming p k first_none))
      (is_decided p v held capacity old new [] (Some (Ended job.lane reply m)) gift es k whole first_none seen
      (ends_decides p held capacity job.lane reply gift m moment k whole ends) owed past_is number_is new_is)
