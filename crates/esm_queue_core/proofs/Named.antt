-- The places of a batch and of a deletion rise, are few, and name messages that came.
use Rattle.std.proofs.Common.{◌≡◌, ℕ, zero, suc, ◌+◌, ◌*◌, ◌<◌, ◌≤◌, ◌^◌, Bool, true, false, ◌&&◌, List, [], ◌∷◌, ◌++◌, length, take, map, refl, sym, ap, ◌∙◌, subst, inl, inr, arith, Option, Some, None}
use Rattle.std.specs.Prelude.{filter, filter_map, slice_get, nat_le}
use Rattle.std.specs.List.{list_all, cons_option, All}
use Rattle.std.proofs.lemmas.List.{length-append}
use Rattle.std.proofs.lemmas.Bool.{cases_Bool, and_parts, and_from, le-leb, lt-ltb, leb-true}
use Rattle.std.proofs.lemmas.Option.{none-some, same_Some}
use Rattle.std.proofs.lemmas.List.Elements.{All-head, All-tail}
use Rattle.esm_model.specs.declared.limits.TheConstants.{MAX_BATCH, MAX_EVENT, MAX_PAYLOAD}
use Rattle.esm_model.specs.declared.moment.TheConstants.{MAX_MOMENT}
use Rattle.esm_model.specs.declared.config.Kind.{Kind}
use Rattle.esm_model.specs.declared.item.Message.{Message}
use Rattle.esm_model.specs.declared.lane.LaneId.{LaneId}
use Rattle.esm_model.specs.declared.entry.Fate.{Fate}
use Rattle.esm_model.specs.declared.entry.Entry.{Entry}
use Rattle.esm_model.specs.declared.entry.Entry.TheVariants.{Came, Began, Ended, Gave, Tried, Closed, Replayed, Shut}
use Rattle.esm_model.specs.declared.verdict.QueueReading.{QueueReading}
use Rattle.esm_model.specs.declared.verdict.QueueReading.TheVariants.{NotRun, Failed, Done}
use Rattle.esm_model.specs.Lane.{same_lane}
use Rattle.esm_model.specs.Entries.{holds, last_call, batch_of}
use Rattle.esm_model.specs.Fates.{below}
use Rattle.esm_model.specs.Batches.{longest}
use Rattle.esm_model.specs.ValidMessage.{IsValidMessage, is_message_id}
use Rattle.esm_journal_record.specs.declared.said.Said.TheVariants.{Deleted}
use Rattle.esm_journal_record.specs.Payload.{eight, four, name_bytes, names_bytes, named_bytes, payload_of, rises_from, is_place, is_deletion, IsSaid}
use Rattle.esm_journal_record.specs.EntryPayload.{ids_at}
use Rattle.esm_queue.proofs.Fronts.{Rises, Rises-take, Rises-filter_below}
use Rattle.esm_queue_model.specs.Queue.{eligible, is_eligible}
use Rattle.esm_queue_model.specs.QueueSetting.{QueueSetting}
use Rattle.esm_queue_model.specs.QueueEntries.{queue_of}
use Rattle.esm_queue_model.specs.QueueBatch.{queue_event, queue_fits, eligible_after}
use Rattle.esm_queue_model.specs.QueueStep.{not_failed, succeeded_by, QueueMayFollow, LegalQueue}
use Rattle.esm_queue_model.proofs.QueueHistories.{called_exactly}
use Rattle.esm_queue_core.specs.declared.owed.Gift.{Gift}
use Rattle.esm_queue_core.specs.Kept.{IsRisingFrom, MayBeGiven, IsGiftOf}

-- rising lists

pub rising_lower : (a b : ℕ) (xs : List ℕ) → a ≤ b → IsRisingFrom b xs → IsRisingFrom a xs
rising_lower a b [] le rising = tt
rising_lower a b (x ∷ xs) le rising = (let l = rising.0 in omega arith, rising.1)

pub rising-filter : (p : ℕ → Bool) (low : ℕ) (xs : List ℕ) → IsRisingFrom low xs → IsRisingFrom low (filter p xs)
rising-filter p low [] rising = tt
rising-filter p low (x ∷ xs) rising =
    elim (cases_Bool (p x)) [
      | inl is ↦ rw is (rising.0, rising-filter p (x + 1) xs rising.1)
      | inr fails ↦ rw fails (rising_lower low (x + 1) (filter p xs) (let l = rising.0 in omega arith) (rising-filter p (x + 1) xs rising.1))
    ]

pub rising_of : (low high : ℕ) (xs : List ℕ) → Rises low high xs → IsRisingFrom low xs
rising_of low high [] h = tt
rising_of low high (x ∷ xs) h = (h.0, rising_of (x + 1) high xs h.1)

pub rising-below : (p : ℕ → Bool) (n : ℕ) → IsRisingFrom 0 (filter p (below n))
rising-below p n = rising_of 0 n (filter p (below n)) (Rises-filter_below p n)

pub rising-not_failed : (failed : List ℕ) (k low : ℕ) (xs : List ℕ) → IsRisingFrom low xs → IsRisingFrom low (not_failed failed k xs)
rising-not_failed failed k low [] rising = tt
rising-not_failed failed k low (x ∷ xs) rising =
    elim (cases_Bool (holds failed k)) [
      | inl is ↦ rw is (rising_lower low (x + 1) (not_failed failed (k + 1) xs) (let l = rising.0 in omega arith) (rising-not_failed failed (k + 1) (x + 1) xs rising.1))
      | inr fails ↦ rw fails (rising.0, rising-not_failed failed (k + 1) (x + 1) xs rising.1)
    ]

pub rising-succeeded : (r : QueueReading) (xs : List ℕ) → IsRisingFrom 0 xs → IsRisingFrom 0 (succeeded_by r xs)
rising-succeeded NotRun xs rising = tt
rising-succeeded Failed xs rising = tt
rising-succeeded (Done failed) xs rising = rising-not_failed failed 0 0 xs rising

pub few-not_failed : (failed : List ℕ) (k : ℕ) (xs : List ℕ) → length (not_failed failed k xs) ≤ length xs
few-not_failed failed k [] = omega arith
few-not_failed failed k (x ∷ xs) =
    let rest = few-not_failed failed (k + 1) xs in
    elim (cases_Bool (holds failed k)) [ inl is ↦ rw is (omega arith) | inr fails ↦ rw fails (omega arith) ]

pub few-succeeded : (r : QueueReading) (xs : List ℕ) → length (succeeded_by r xs) ≤ length xs
few-succeeded NotRun xs = omega arith
few-succeeded Failed xs = omega arith
few-succeeded (Done failed) xs = few-not_failed failed 0 xs

pub few-filter : (p : ℕ → Bool) (xs : List ℕ) → length (filter p xs) ≤ length xs
few-filter p [] = omega arith
few-filter p (x ∷ xs) = let rest = few-filter p xs in elim (cases_Bool (p x)) [ inl is ↦ rw is (omega arith) | inr fails ↦ rw fails (omega arith) ]

-- the batch of a lane's last call

pub batch_rising : (s : QueueSetting) (h : List Entry) (lane : LaneId) → LegalQueue s h → IsRisingFrom 0 (batch_of (last_call h lane))
batch_rising s [] lane legal = tt
batch_rising s (Began at places closing m ∷ h) lane legal =
    elim (cases_Bool (same_lane at lane)) [
      | inl same ↦ rw same (let q = queue_of s h in
          let front = called_exactly s h at places closing m legal.1.1 in
          subst (IsRisingFrom 0) (sym front.1) (rising_of 0 (length q.messages) (take front.0 (eligible q m)) (Rises-take 0 (length q.messages) front.0 (eligible q m) (Rises-filter_below (is_eligible q m) (length q.messages)))))
      | inr other ↦ rw other (batch_rising s h lane legal.0)
    ]
batch_rising s (Came shard first count m ∷ h) lane legal = batch_rising s h lane legal.0
batch_rising s (Ended at reply m ∷ h) lane legal = batch_rising s h lane legal.0
batch_rising s (Gave by shard places f line state m ∷ h) lane legal = batch_rising s h lane legal.0
batch_rising s (Tried at places closing t m ∷ h) lane legal = batch_rising s h lane legal.0
batch_rising s (Closed at w m ∷ h) lane legal = batch_rising s h lane legal.0
batch_rising s (Replayed shard places m ∷ h) lane legal = batch_rising s h lane legal.0
batch_rising s (Shut m ∷ h) lane legal = batch_rising s h lane legal.0

pub longest_few : (p : List ℕ → Bool) (n : ℕ) (seen xs : List ℕ) → ((ys : List ℕ) → p ys ≡ true → length ys ≤ n) → length seen ≤ n → length (longest p seen xs) ≤ n
longest_few p n seen [] bound few = few
longest_few p n seen (x ∷ xs) bound few =
    elim (cases_Bool (p (seen ++ x ∷ []))) [
      | inl passes ↦ rw passes (longest_few p n (seen ++ x ∷ []) xs bound (bound (seen ++ x ∷ []) passes))
      | inr fails ↦ rw fails few
    ]

begun_few : (s : QueueSetting) (h : List Entry) (lane : LaneId) (places : List ℕ) (closing : Option ℕ) (m : ℕ) → QueueMayFollow s h (Began lane places closing m) → length places ≤ s.config.batch_size
begun_few s h lane places None m may =
    let few = longest_few (queue_fits s h m) s.config.batch_size [] (eligible_after s h m)
    (λ ys passes. leb-true (length ys) s.config.batch_size (and_parts (nat_le (length ys) s.config.batch_size) (nat_le (length (queue_event s (queue_of s h) m ys)) MAX_EVENT) passes).0) (omega arith) in
    subst (λ (ps : List ℕ). length ps ≤ s.config.batch_size) (sym may.exact) few
begun_few s h lane places (Some window) m may = absurd may

pub batch_few : (s : QueueSetting) (h : List Entry) (lane : LaneId) → LegalQueue s h → length (batch_of (last_call h lane)) ≤ s.config.batch_size
batch_few s [] lane legal = omega arith
batch_few s (Began at places closing m ∷ h) lane legal =
    elim (cases_Bool (same_lane at lane)) [
      | inl same ↦ rw same (begun_few s h at places closing m legal.1.1)
      | inr other ↦ rw other (batch_few s h lane legal.0)
    ]
batch_few s (Came shard first count m ∷ h) lane legal = batch_few s h lane legal.0
batch_few s (Ended at reply m ∷ h) lane legal = batch_few s h lane legal.0
batch_few s (Gave by shard places f line state m ∷ h) lane legal = batch_few s h lane legal.0
batch_few s (Tried at places closing t m ∷ h) lane legal = batch_few s h lane legal.0
batch_few s (Closed at w m ∷ h) lane legal = batch_few s h lane legal.0
batch_few s (Replayed shard places m ∷ h) lane legal = batch_few s h lane legal.0
batch_few s (Shut m ∷ h) lane legal = batch_few s h lane legal.0

-- what is told of a deletion

rises_is : (low : ℕ) (xs : List ℕ) → IsRisingFrom low xs → rises_from low xs ≡ true
rises_is low [] rising = refl
rises_is low (x ∷ xs) rising =
    let e : x + 1 ≡ suc x = omega arith in
    and_from (nat_le low x) (rises_from (suc x) xs) (le-leb low x rising.0) (subst (λ n. rises_from n xs ≡ true) e (rises_is (x + 1) xs rising.1))

all_places : (n : ℕ) (xs : List ℕ) → n ≤ 2 ^ 32 → All (λ i. i < n) xs → list_all is_place xs ≡ true
all_places n [] few within = refl
all_places n (x ∷ xs) few within =
    let l : x < n = All-head (λ i. i < n) x xs within in
    and_from (is_place x) (list_all is_place xs) (lt-ltb x (2 ^ 32) (omega arith)) (all_places n xs few (All-tail (λ i. i < n) x xs within))

-- the message at a place within
pub within_at : (messages : List Message) (i : ℕ) → i < length messages → (m : Message) × (slice_get messages i ≡ Some m)
within_at [] i l = absurd (omega arith)
within_at (x ∷ xs) zero l = (x, refl)
within_at (x ∷ xs) (suc i) l = within_at xs i (omega arith)

valid_at : (kind : Kind) (messages : List Message) (i : ℕ) (m : Message) → All (IsValidMessage kind) messages → slice_get messages i ≡ Some m → IsValidMessage kind m
valid_at kind [] i m valid at = absurd (none-some m at)
valid_at kind (x ∷ xs) zero m valid at = subst (IsValidMessage kind) (same_Some x m at) (All-head (IsValidMessage kind) x xs valid)
valid_at kind (x ∷ xs) (suc i) m valid at = valid_at kind xs i m (All-tail (IsValidMessage kind) x xs valid) at

abbrev ids_of : List Message → List (List ℕ)
ids_of ms = map (λ (m : Message). m.id) ms

one_id : (messages : List Message) (i : ℕ) (is : List ℕ) (m : Message) → slice_get messages i ≡ Some m → ids_at messages (i ∷ is) ≡ m.id ∷ ids_at messages is
one_id messages i is m at = ap (λ (o : Option Message). ids_of (cons_option o (filter_map (slice_get messages) is))) at

pub ids_long : (messages : List Message) (places : List ℕ) → All (λ i. i < length messages) places → length (ids_at messages places) ≡ length places
ids_long messages [] within = refl
ids_long messages (i ∷ is) within =
    let found = within_at messages i (All-head (λ j. j < length messages) i is within) in
    ap (λ (ids : List (List ℕ)). length ids) (one_id messages i is found.0 found.1) ∙ ap suc (ids_long messages is (All-tail (λ j. j < length messages) i is within))

ids_spelled : (kind : Kind) (messages : List Message) (places : List ℕ) → All (IsValidMessage kind) messages → All (λ i. i < length messages) places → list_all is_message_id (ids_at messages places) ≡ true
ids_spelled kind messages [] valid within = refl
ids_spelled kind messages (i ∷ is) valid within =
    let found = within_at messages i (All-head (λ j. j < length messages) i is within) in
    let ok = valid_at kind messages i found.0 valid found.1 in
    ap (list_all is_message_id) (one_id messages i is found.0 found.1)
    ∙ and_from (is_message_id found.0.id) (list_all is_message_id (ids_at messages is)) ok.id (ids_spelled kind messages is valid (All-tail (λ j. j < length messages) i is within))

-- places that rise, are few and name valid messages may be told as deleted
pub may_be_given : (kind : Kind) (messages : List Message) (places : List ℕ) (fate : Fate) (m : ℕ) → All (IsValidMessage kind) messages → length messages < 2 ^ 32 → All (λ i. i < length messages) places → IsRisingFrom 0 places → length places ≤ MAX_BATCH → is_deletion fate ≡ true → m ≤ MAX_MOMENT → MayBeGiven messages places fate m
may_be_given kind messages places fate m valid short within rising few deletes in_time = record {
  within = within;
  few = few;
  said = λ some. (
    deletes,
    in_time,
    record {
      some = some;
      few = omega arith;
      small = all_places (length messages) places (omega arith) within;
      rising = rises_is 0 places rising;
      same = ids_long messages places within;
      spelled = ids_spelled kind messages places valid within;
    },
  );
  in_time = in_time;
}

-- the payload is short

four_size : (n : ℕ) → length (four n) ≡ 4
unfolding four
four_size n = refl

eight_size : (n : ℕ) → length (eight n) ≡ 8
unfolding eight
eight_size n = refl

inner_of : (a b c : Bool) → ((a && b) && c) ≡ true → b ≡ true
inner_of a true c is = refl
inner_of true false c is = is
inner_of false false c is = is

id_size : (text : List ℕ) → is_message_id text ≡ true → length text ≤ 100
id_size text is = leb-true (length text) 100 (inner_of _ _ _ is)

names_size : (places : List ℕ) (texts : List (List ℕ)) → list_all is_message_id texts ≡ true → length (names_bytes places texts) ≤ length places * 105
names_size [] texts all = omega arith
names_size (place ∷ places) [] all = omega arith
names_size (place ∷ places) (text ∷ texts) all =
    let parts = and_parts (is_message_id text) (list_all is_message_id texts) all in
    omega (arith, length-append (name_bytes place text) (names_bytes places texts), length-append (four place) (length text ∷ text), four_size place, id_size text parts.0, names_size places texts parts.1)

pub deletion_short : (fate : Fate) (m : ℕ) (places : List ℕ) (texts : List (List ℕ)) → IsSaid (Deleted fate m places texts) → length places ≤ MAX_BATCH → length (payload_of (Deleted fate m places texts)) ≤ MAX_PAYLOAD
unfolding named_bytes
deletion_short fate m places texts is few =
    omega (arith, length-append (eight m) (named_bytes places texts), eight_size m, length-append (four (length places)) (names_bytes places texts), four_size (length places), names_size places texts is.2.spelled, few)

-- a deletion with its payload
pub gift_from : (messages : List Message) (ps : List ℕ) (gift : Gift) → MayBeGiven messages ps gift.fate gift.moment → 1 ≤ length ps → gift.places ≡ ps → gift.payload.items ≡ payload_of (Deleted gift.fate gift.moment ps (ids_at messages ps)) → IsGiftOf messages gift
gift_from messages ps gift may some places_are payload_is = record {
  within = subst (All (λ i. i < length messages)) (sym places_are) may.within;
  payload = ap (λ (xs : List ℕ). Some (payload_of (Deleted gift.fate gift.moment xs (ids_at messages xs)))) places_are ∙ ap Some (sym payload_is);
  short = subst (λ (bytes : List ℕ). length bytes ≤ MAX_PAYLOAD) (sym payload_is) (deletion_short gift.fate gift.moment ps (ids_at messages ps) (may.said some) may.few);
  in_time = may.in_time;
}
