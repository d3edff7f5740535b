-- Where nothing is called for after a queue's history, nothing is over any list of messages that goes on from its own.
use Rattle.std.proofs.Common.{◌≡◌, ◌∙◌, ℕ, zero, suc, ◌<◌, Bool, false, not, cond, ◌&&◌, List, [], ◌∷◌, length, map, Option, ap, ap₂, arith, refl, sym}
use Rattle.std.specs.Prelude.{filter, filter_map, option_map, slice_get, unwrap_or}
use Rattle.std.specs.List.{cons_option}
use Rattle.std.proofs.lemmas.List.{take_all}
use Rattle.std.proofs.lemmas.Option.{none-some}
use Rattle.esm_model.specs.declared.entry.Entry.{Entry}
use Rattle.esm_model.specs.declared.entry.Entry.TheVariants.{Came, Began, Ended, Gave, Tried, Closed, Replayed, Shut}
use Rattle.esm_model.specs.declared.entry.Reply.{Reply}
use Rattle.esm_model.specs.declared.item.Message.{Message}
use Rattle.esm_model.specs.declared.lane.LaneId.{LaneId}
use Rattle.esm_model.specs.Entries.{batch_of, last_call}
use Rattle.esm_model.specs.Fates.{below}
use Rattle.esm_model.specs.Lane.{same_lane}
use Rattle.esm_model.specs.QueueReading.{queue_reading}
use Rattle.esm_queue_model.specs.Queue.{QueueState, is_deleted_at}
use Rattle.esm_queue_model.specs.QueueEntries.{queue_count, queue_of}
use Rattle.esm_queue_model.specs.QueueSetting.{ExtendsMessages, QueueSetting, message_at, over_messages}
use Rattle.esm_queue_model.specs.QueueStep.{LegalQueue, SettledQueue, is_refused_message, is_unsorted_message, owed_places, succeeded_by, succeeded_in, succeeded_places, unsorted_messages}
use Rattle.esm_queue_model.proofs.MoreMessages.{Alike, batch_came, count_within, extends_front, same_queue}
use Rattle.esm_queue_model.proofs.Places.{In, In-below, In-here, In-there}

-- what two tests, or two readings, let through of places at which they agree

filter_alike : (p q : ℕ → Bool) (xs : List ℕ) → ((i : ℕ) → In xs i → p i ≡ q i) → filter p xs ≡ filter q xs
filter_alike p q [] same = refl
filter_alike p q (x ∷ xs) same =
    ap₂ (λ (b : Bool) (ys : List ℕ). cond b (x ∷ ys) ys) (same x (In-here x xs x refl)) (filter_alike p q xs (λ i h. same i (In-there x xs i h)))

read_alike : (f g : ℕ → Option Message) (xs : List ℕ) → ((i : ℕ) → In xs i → f i ≡ g i) → filter_map f xs ≡ filter_map g xs
read_alike f g [] same = refl
read_alike f g (x ∷ xs) same =
    ap₂ (λ (o : Option Message) (ys : List Message). cons_option o ys) (same x (In-here x xs x refl)) (read_alike f g xs (λ i h. same i (In-there x xs i h)))

-- a message of the one list stands in the other
stands : (before after : List Message) (i : ℕ) → ExtendsMessages before after → i < length before → slice_get after i ≡ slice_get before i
stands [] after i goes low = absurd (omega arith)
stands (x ∷ before) [] i goes low = absurd (none-some x (goes 0 x refl))
stands (x ∷ before) (y ∷ after) zero goes low = goes 0 x refl
stands (x ∷ before) (y ∷ after) (suc i) goes low = stands before after i (λ k m at. goes (suc k) m at) (omega arith)

module _ (s : QueueSetting) (after : List Message) (goes : ExtendsMessages s.messages after) where
  came_alike : (h : List Entry) (i : ℕ) → LegalQueue s h → i < queue_count h → message_at (over_messages s after) i ≡ message_at s i
  came_alike h i legal low = let within = count_within s h legal in stands s.messages after i goes (omega arith)

  queue_alike : (h : List Entry) → LegalQueue s h → queue_of (over_messages s after) h ≡ queue_of s h
  queue_alike h legal =
      let n = length s.messages in
      let front = extends_front s.messages after goes in
      let alike : Alike s after n = record { front = take_all n s.messages (omega arith) ∙ sym front.0; enough = front.1 } in
      same_queue s after n h alike (count_within s h legal) legal

  unsorted_alike : (h : List Entry) → LegalQueue s h → unsorted_messages (over_messages s after) h ≡ unsorted_messages s h
  unsorted_alike h legal =
      filter_alike (is_unsorted_message (over_messages s after) h) (is_unsorted_message s h) (below (queue_count h))
      (λ i member. ap₂ (λ (q : QueueState) (o : Option Message). not (is_deleted_at q i) && unwrap_or (option_map (is_refused_message s) o) false) (queue_alike h legal) (came_alike h i legal (In-below (queue_count h) i member)))

  answered_alike : (h : List Entry) (lane : LaneId) (reply : Reply) → LegalQueue s h → succeeded_in (over_messages s after) h lane reply ≡ succeeded_in s h lane reply
  answered_alike h lane reply legal =
      let places = batch_of (last_call h lane) in
      let messages = read_alike (message_at (over_messages s after)) (message_at s) places (λ i member. came_alike h i legal (batch_came s h lane legal i member)) in
      ap (λ (ms : List Message). succeeded_by (queue_reading s.config (map (λ (m : Message). m.id) ms) reply) places) messages

  succeeded_alike : (h : List Entry) (lane : LaneId) → LegalQueue s h → succeeded_places (over_messages s after) h lane ≡ succeeded_places s h lane
  succeeded_alike [] lane legal = refl
  succeeded_alike (Ended at reply m ∷ h) lane legal = ap₂ (λ (xs ys : List ℕ). cond (same_lane at lane) xs ys) (answered_alike h lane reply legal.0) (succeeded_alike h lane legal.0)
  succeeded_alike (Began at places closing m ∷ h) lane legal = ap (λ (xs : List ℕ). cond (same_lane at lane) [] xs) (succeeded_alike h lane legal.0)
  succeeded_alike (Came shard first count m ∷ h) lane legal = succeeded_alike h lane legal.0
  succeeded_alike (Gave by shard places f line state m ∷ h) lane legal = succeeded_alike h lane legal.0
  succeeded_alike (Tried at places closing tries m ∷ h) lane legal = succeeded_alike h lane legal.0
  succeeded_alike (Closed at window m ∷ h) lane legal = succeeded_alike h lane legal.0
  succeeded_alike (Replayed shard places m ∷ h) lane legal = succeeded_alike h lane legal.0
  succeeded_alike (Shut m ∷ h) lane legal = succeeded_alike h lane legal.0

  owed_alike : (h : List Entry) (lane : LaneId) → LegalQueue s h → owed_places (over_messages s after) h lane ≡ owed_places s h lane
  owed_alike h lane legal = ap₂ (λ (q : QueueState) (places : List ℕ). filter (λ i. not (is_deleted_at q i)) places) (queue_alike h legal) (succeeded_alike h lane legal)

  pub settled_over : (h : List Entry) → LegalQueue s h → SettledQueue s h → SettledQueue (over_messages s after) h
  settled_over h legal settled = record {
    sorted = unsorted_alike h legal ∙ settled.sorted;
    paid = λ lane. owed_alike h lane legal ∙ settled.paid lane;
  }
