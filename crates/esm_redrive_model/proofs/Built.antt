-- What the messages of a history are, where each `Came` brings the next ones, each `Began` receives eligible ones, and
-- each `Gave` deletes messages that came and wait.
use Rattle.std.proofs.Common.{◌≡◌, ℕ, suc, ◌+◌, ◌<◌, ◌≤◌, false, List, [], ◌∷◌, ◌++◌, length, take, drop, refl, ap, ◌∙◌, subst, inl, inr, arith, length-append}
use Rattle.std.proofs.lemmas.List.{length-take, length-drop}
use Rattle.std.proofs.lemmas.Bool.{cases_Bool}
use Rattle.esm_model.specs.declared.item.Message.{Message}
use Rattle.esm_model.specs.declared.lane.LaneId.{LaneId}
use Rattle.esm_model.specs.declared.entry.Entry.{Entry}
use Rattle.esm_model.specs.declared.entry.Entry.TheVariants.{Came, Began, Ended, Gave, Tried, Closed, Replayed, Shut}
use Rattle.esm_model.specs.declared.verdict.QueueReading.{QueueReading}
use Rattle.esm_model.specs.declared.verdict.QueueReading.TheVariants.{NotRun, Failed, Done}
use Rattle.esm_model.specs.Lane.{same_lane}
use Rattle.esm_model.specs.Entries.{holds, last_call, batch_of}
use Rattle.esm_model.specs.Fates.{below}
use Rattle.esm_model.specs.QueueReading.{queue_reading}
use Rattle.esm_queue_model.specs.declared.stored.Stored.{Stored}
use Rattle.esm_queue_model.specs.Queue.{changed_from, received_once, deleted_once, is_eligible, eligible}
use Rattle.esm_queue_model.specs.QueueSetting.{QueueSetting, ids_at}
use Rattle.esm_queue_model.specs.QueueEntries.{coming_from, queue_of, queue_count, is_deleted}
use Rattle.esm_queue_model.specs.QueueStep.{not_failed, succeeded_by, succeeded_places, MayComeQueue}
use Rattle.esm_queue_model.proofs.Places.{In, In-here, In-there, In-cases, In-none, In-filter, In-take, In-below}
use Rattle.esm_queue_model.proofs.MoreMessages.{count_grows}

-- the messages that an entry names came, and wait
pub record NamesWaiting (s : QueueSetting) (h : List Entry) (shard : ℕ) (places : List ℕ) : Type 0 where
  pub queue : shard ≡ 0
  pub came : (i : ℕ) → In places i → i < queue_count h
  pub wait : (i : ℕ) → In places i → is_deleted s h i ≡ false

-- the places are of eligible messages
abbrev pub AreEligible : QueueSetting → List Entry → List ℕ → ℕ → Type 0
AreEligible s h places m = (k : ℕ) × (places ≡ take k (eligible (queue_of s h) m))

abbrev pub Builds : QueueSetting → List Entry → Entry → Type 0
Builds s h (Came shard first count m) = MayComeQueue s h shard first count
Builds s h (Began lane places closing m) = AreEligible s h places m
Builds s h (Gave by shard places f line state m) = NamesWaiting s h shard places
Builds s h _ = Unit {0}

abbrev pub Built : QueueSetting → List Entry → Type 0
Built s [] = Unit {0}
Built s (e ∷ h) = Built s h × Builds s h e

-- numbers

pub number_came : (s : QueueSetting) (h : List Entry) (shard first count m : ℕ) → MayComeQueue s h shard first count → queue_count (Came shard first count m ∷ h) ≡ first + count
number_came s h shard first count m may = rw may.queue (omega (arith, may.next))

pub count_within : (s : QueueSetting) (h : List Entry) → Built s h → queue_count h ≤ length s.messages
count_within s [] built = omega arith
count_within s (Came shard first count m ∷ h) built = let n = number_came s h shard first count m built.1 in let w = built.1.within in omega arith
count_within s (Began lane places closing m ∷ h) built = count_within s h built.0
count_within s (Ended lane reply m ∷ h) built = count_within s h built.0
count_within s (Gave by shard places f line state m ∷ h) built = count_within s h built.0
count_within s (Tried lane places closing tries m ∷ h) built = count_within s h built.0
count_within s (Closed lane window m ∷ h) built = count_within s h built.0
count_within s (Replayed shard places m ∷ h) built = count_within s h built.0
count_within s (Shut m ∷ h) built = count_within s h built.0

pub length-changed : (f : Stored → Stored) (places : List ℕ) (k : ℕ) (xs : List Stored) → length (changed_from f places k xs) ≡ length xs
length-changed f places k [] = refl
length-changed f places k (x ∷ xs) = ap suc (length-changed f places (k + 1) xs)

length-coming : (s : QueueSetting) (m k : ℕ) (xs : List Message) → length (coming_from s m k xs) ≡ length xs
length-coming s m k [] = refl
length-coming s m k (x ∷ xs) = ap suc (length-coming s m (k + 1) xs)

-- as many messages stand in the queue as came
pub stored_count : (s : QueueSetting) (h : List Entry) → Built s h → length (queue_of s h).messages ≡ queue_count h
stored_count s [] built = refl
stored_count s (Came shard first count m ∷ h) built =
    let covered = take count (drop first s.messages) in
    let before : length (queue_of s h).messages ≡ queue_count h = stored_count s h built.0 in
    let all : length ((queue_of s h).messages ++ coming_from s m first covered) ≡ length (queue_of s h).messages + length (coming_from s m first covered) = length-append (queue_of s h).messages (coming_from s m first covered) in
    let new : length (coming_from s m first covered) ≡ length covered = length-coming s m first covered in
    let cut = length-take count (drop first s.messages) in
    let left = length-drop first s.messages in
    let number = number_came s h shard first count m built.1 in
    let within = built.1.within in
    let next = built.1.next in
    omega (arith, all, new, cut, left, number, within, next, before)
stored_count s (Began lane places closing m ∷ h) built = length-changed (received_once m) places 0 (queue_of s h).messages ∙ stored_count s h built.0
stored_count s (Ended lane reply m ∷ h) built = stored_count s h built.0
stored_count s (Gave by shard places f line state m ∷ h) built = length-changed deleted_once places 0 (queue_of s h).messages ∙ stored_count s h built.0
stored_count s (Tried lane places closing tries m ∷ h) built = stored_count s h built.0
stored_count s (Closed lane window m ∷ h) built = stored_count s h built.0
stored_count s (Replayed shard places m ∷ h) built = stored_count s h built.0
stored_count s (Shut m ∷ h) built = stored_count s h built.0

-- the messages of a call came

pub eligible_came : (s : QueueSetting) (h : List Entry) (m i : ℕ) → Built s h → In (eligible (queue_of s h) m) i → i < queue_count h
eligible_came s h m i built member =
    let q = queue_of s h in
    let low : i < length q.messages = In-below (length q.messages) i (In-filter (is_eligible q m) (below (length q.messages)) i member).0 in
    let n = stored_count s h built in
    omega arith

pub called_came : (s : QueueSetting) (h : List Entry) (places : List ℕ) (m i : ℕ) → Built s h → AreEligible s h places m → In places i → i < queue_count h
called_came s h places m i built are member =
    eligible_came s h m i built (In-take are.0 (eligible (queue_of s h) m) i (subst (λ ps. In ps i) are.1 member))

pub batch_came : (s : QueueSetting) (h : List Entry) (lane : LaneId) → Built s h → (i : ℕ) → In (batch_of (last_call h lane)) i → i < queue_count h
batch_came s [] lane built i member = absurd (In-none i member)
batch_came s (Began at places closing m ∷ h) lane built i member =
    elim (cases_Bool (same_lane at lane)) [
      | inl same ↦ (let here : In places i = rw same at member in called_came s h places m i built.0 built.1 here)
      | inr other ↦ (let before : In (batch_of (last_call h lane)) i = rw other at member in batch_came s h lane built.0 i before)
    ]
batch_came s (Came shard first count m ∷ h) lane built i member = let low = batch_came s h lane built.0 i member in let grows = count_grows h (Came shard first count m) in omega arith
batch_came s (Ended at reply m ∷ h) lane built i member = batch_came s h lane built.0 i member
batch_came s (Gave by shard places f line state m ∷ h) lane built i member = batch_came s h lane built.0 i member
batch_came s (Tried at places closing tries m ∷ h) lane built i member = batch_came s h lane built.0 i member
batch_came s (Closed at window m ∷ h) lane built i member = batch_came s h lane built.0 i member
batch_came s (Replayed shard places m ∷ h) lane built i member = batch_came s h lane built.0 i member
batch_came s (Shut m ∷ h) lane built i member = batch_came s h lane built.0 i member

not_failed_In : (failed : List ℕ) (k : ℕ) (places : List ℕ) (i : ℕ) → In (not_failed failed k places) i → In places i
not_failed_In failed k [] i member = member
not_failed_In failed k (x ∷ places) i member =
    elim (cases_Bool (holds failed k)) [
      | inl is ↦ In-there x places i (not_failed_In failed (k + 1) places i (rw is at member))
      | inr not' ↦ elim (In-cases x (not_failed failed (k + 1) places) i (rw not' at member)) [
        | inl e ↦ In-here x places i e
        | inr rest ↦ In-there x places i (not_failed_In failed (k + 1) places i rest)
      ]
    ]

pub succeeded_In : (r : QueueReading) (places : List ℕ) (i : ℕ) → In (succeeded_by r places) i → In places i
succeeded_In NotRun places i member = absurd (In-none i member)
succeeded_In Failed places i member = absurd (In-none i member)
succeeded_In (Done failed) places i member = not_failed_In failed 0 places i member

-- those that succeeded came
pub succeeded_came : (s : QueueSetting) (h : List Entry) (lane : LaneId) → Built s h → (i : ℕ) → In (succeeded_places s h lane) i → i < queue_count h
succeeded_came s [] lane built i member = absurd (In-none i member)
succeeded_came s (Ended at reply m ∷ h) lane built i member =
    elim (cases_Bool (same_lane at lane)) [
      | inl same ↦ (let places = batch_of (last_call h lane) in batch_came s h lane built.0 i (succeeded_In (queue_reading s.config (ids_at s places) reply) places i (rw same at member)))
      | inr other ↦ succeeded_came s h lane built.0 i (rw other at member)
    ]
succeeded_came s (Began at places closing m ∷ h) lane built i member =
    elim (cases_Bool (same_lane at lane)) [ inl same ↦ absurd (In-none i (rw same at member)) | inr other ↦ succeeded_came s h lane built.0 i (rw other at member) ]
succeeded_came s (Came shard first count m ∷ h) lane built i member = let low = succeeded_came s h lane built.0 i member in let grows = count_grows h (Came shard first count m) in omega arith
succeeded_came s (Gave by shard places f line state m ∷ h) lane built i member = succeeded_came s h lane built.0 i member
succeeded_came s (Tried at places closing tries m ∷ h) lane built i member = succeeded_came s h lane built.0 i member
succeeded_came s (Closed at window m ∷ h) lane built i member = succeeded_came s h lane built.0 i member
succeeded_came s (Replayed shard places m ∷ h) lane built i member = succeeded_came s h lane built.0 i member
succeeded_came s (Shut m ∷ h) lane built i member = succeeded_came s h lane built.0 i member
