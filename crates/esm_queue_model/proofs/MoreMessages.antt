-- Histories of queues over two lists of messages that begin alike.
use Rattle.std.proofs.Common.{◌≡◌, ℕ, zero, suc, ◌+◌, ◌<◌, ◌≤◌, Bool, false, not, cond, ◌&&◌, List, [], ◌∷◌, ◌++◌, length, take, drop, map, refl, sym, ap, ap₂, ◌∙◌, subst, inl, inr, arith, Option, Some, None}
use Rattle.std.specs.Prelude.{◌==◌, filter, filter_map, slice_get, nat_le, option_map, unwrap_or}
use Rattle.std.specs.List.{cons_option}
use Rattle.std.proofs.lemmas.List.{length-map, length-take, drop-take, take_all}
use Rattle.std.proofs.lemmas.Bool.{cases_Bool}
use Rattle.std.proofs.lemmas.Option.{none-some, same_Some}
use Rattle.esm_model.specs.declared.limits.TheConstants.{MAX_EVENT}
use Rattle.esm_model.specs.declared.item.Message.{Message}
use Rattle.esm_model.specs.declared.lane.LaneId.{LaneId}
use Rattle.esm_model.specs.declared.entry.Fate.{Fate}
use Rattle.esm_model.specs.declared.entry.Fate.TheVariants.{Succeeded, Filtered, Expired, Exhausted}
use Rattle.esm_model.specs.declared.entry.Reply.{Reply}
use Rattle.esm_model.specs.declared.entry.WindowState.{WindowState}
use Rattle.esm_model.specs.declared.entry.Entry.{Entry}
use Rattle.esm_model.specs.declared.entry.Entry.TheVariants.{Came, Began, Ended, Gave, Tried, Closed, Replayed, Shut}
use Rattle.esm_model.specs.Lane.{same_lane}
use Rattle.esm_model.specs.Entries.{last_call, batch_of}
use Rattle.esm_model.specs.Fates.{below}
use Rattle.esm_model.specs.Batches.{longest}
use Rattle.esm_model.specs.QueueReading.{queue_reading}
use Rattle.esm_queue_model.specs.declared.stored.Stored.{Stored}
use Rattle.esm_queue_model.specs.Queue.{QueueState, eligible, is_eligible, after_receipt, after_deletion, is_deleted_at}
use Rattle.esm_queue_model.specs.QueueSetting.{QueueSetting, message_at, is_found, over_messages, ExtendsMessages}
use Rattle.esm_queue_model.specs.QueueEntries.{coming_from, queue_of, queue_count}
use Rattle.esm_queue_model.specs.QueueBatch.{queue_event, queue_batch, is_batch_ready, is_queue_ready}
use Rattle.esm_queue_model.specs.QueueStep.{is_refused_message, is_unsorted_message, unsorted_messages, succeeded_by, succeeded_in, succeeded_places, owed_places, SettledQueue, MayComeQueue, MayGiveQueue, QueueMayFollow, LegalQueue}
use Rattle.esm_queue_model.proofs.Places.{In, In-here, In-there, In-none, In-filter, In-take, In-below}
use Rattle.esm_queue_model.proofs.QueueHistories.{message_of, messages_are, called_exactly}

-- lists that begin alike

take_shorter : {A : Type 0} (k n : ℕ) (xs : List A) → k ≤ n → take k (take n xs) ≡ take k xs
take_shorter zero n xs le = refl
take_shorter (suc k) zero xs le = absurd (omega arith)
take_shorter (suc k) (suc n) [] le = refl
take_shorter (suc k) (suc n) (x ∷ xs) le = ap (λ ys. x ∷ ys) (take_shorter k n xs (omega arith))

get_front : {A : Type 0} (n : ℕ) (xs : List A) (i : ℕ) → i < n → slice_get (take n xs) i ≡ slice_get xs i
get_front zero xs i l = absurd (omega arith)
get_front (suc n) [] i l = refl
get_front (suc n) (x ∷ xs) zero l = refl
get_front (suc n) (x ∷ xs) (suc i) l = get_front n xs i (omega arith)

same_take : {A : Type 0} (k n : ℕ) (xs ys : List A) → k ≤ n → take n xs ≡ take n ys → take k xs ≡ take k ys
same_take k n xs ys le e = sym (take_shorter k n xs le) ∙ (ap (take k) e ∙ take_shorter k n ys le)

same_at : {A : Type 0} (i n : ℕ) (xs ys : List A) → i < n → take n xs ≡ take n ys → slice_get xs i ≡ slice_get ys i
same_at i n xs ys l e = sym (get_front n xs i l) ∙ (ap (λ zs. slice_get zs i) e ∙ get_front n ys i l)

same_part : {A : Type 0} (first count n : ℕ) (xs ys : List A) → first + count ≤ n → take n xs ≡ take n ys → take count (drop first xs) ≡ take count (drop first ys)
same_part first count n xs ys le e = sym (drop-take first count xs) ∙ (ap (drop first) (same_take (first + count) n xs ys le e) ∙ drop-take first count ys)

filter_same : (p q : ℕ → Bool) (xs : List ℕ) → ((i : ℕ) → In xs i → p i ≡ q i) → filter p xs ≡ filter q xs
filter_same p q [] same = refl
filter_same p q (x ∷ xs) same =
    ap₂ (λ (b : Bool) (ys : List ℕ). cond b (x ∷ ys) ys) (same x (In-here x xs x refl)) (filter_same p q xs (λ i h. same i (In-there x xs i h)))

filter_map_same : {B : Type 0} (f g : ℕ → Option B) (xs : List ℕ) → ((i : ℕ) → In xs i → f i ≡ g i) → filter_map f xs ≡ filter_map g xs
filter_map_same f g [] same = refl
filter_map_same {B} f g (x ∷ xs) same =
    ap₂ (λ (o : Option B) (ys : List B). cons_option o ys) (same x (In-here x xs x refl)) (filter_map_same f g xs (λ i h. same i (In-there x xs i h)))

-- counts

number_came : (s : QueueSetting) (h : List Entry) (shard first count m : ℕ) → MayComeQueue s h shard first count → queue_count (Came shard first count m ∷ h) ≡ first + count
number_came s h shard first count m may = rw may.queue (omega (arith, may.next))

pub count_grows : (h : List Entry) (e : Entry) → queue_count h ≤ queue_count (e ∷ h)
count_grows h (Came shard first count m) = elim (cases_Bool (shard == 0)) [ inl is ↦ rw is (omega arith) | inr other ↦ rw other (omega arith) ]
count_grows h (Began lane places closing m) = omega arith
count_grows h (Ended lane reply m) = omega arith
count_grows h (Gave by shard places f line state m) = omega arith
count_grows h (Tried lane places closing tries m) = omega arith
count_grows h (Closed lane window m) = omega arith
count_grows h (Replayed shard places m) = omega arith
count_grows h (Shut m) = omega arith

pub count_within : (s : QueueSetting) (h : List Entry) → LegalQueue s h → queue_count h ≤ length s.messages
count_within s [] legal = omega arith
count_within s (Came shard first count m ∷ h) legal = let n = number_came s h shard first count m legal.1.1 in let w = legal.1.1.within in omega arith
count_within s (Began lane places closing m ∷ h) legal = count_within s h legal.0
count_within s (Ended lane reply m ∷ h) legal = count_within s h legal.0
count_within s (Gave by shard places f line state m ∷ h) legal = count_within s h legal.0
count_within s (Tried lane places closing tries m ∷ h) legal = count_within s h legal.0
count_within s (Closed lane window m ∷ h) legal = count_within s h legal.0
count_within s (Replayed shard places m ∷ h) legal = count_within s h legal.0
count_within s (Shut m ∷ h) legal = count_within s h legal.0

pub stored_count : (s : QueueSetting) (h : List Entry) → LegalQueue s h → length (queue_of s h).messages ≡ queue_count h
stored_count s h legal =
    let all = sym (length-map (queue_of s h).messages message_of) ∙ (ap length (messages_are s h legal) ∙ length-take (queue_count h) s.messages) in
    let low = count_within s h legal in
    omega arith

-- the messages of a call came

pub called_came : (s : QueueSetting) (h : List Entry) (lane : LaneId) (places : List ℕ) (closing : Option ℕ) (m i : ℕ) → LegalQueue s h → QueueMayFollow s h (Began lane places closing m) → In places i → i < queue_count h
called_came s h lane places closing m i legal may member =
    let q = queue_of s h in
    let front = called_exactly s h lane places closing m may in
    let here : In (take front.0 (eligible q m)) i = subst (λ ps. In ps i) front.1 member in
    let low : i < length q.messages = In-below (length q.messages) i (In-filter (is_eligible q m) (below (length q.messages)) i (In-take front.0 (eligible q m) i here)).0 in
    let n = stored_count s h legal in
    omega arith

pub batch_came : (s : QueueSetting) (h : List Entry) (lane : LaneId) → LegalQueue s h → (i : ℕ) → In (batch_of (last_call h lane)) i → i < queue_count h
batch_came s [] lane legal i member = absurd (In-none i member)
batch_came s (Began at places closing m ∷ h) lane legal i member =
    elim (cases_Bool (same_lane at lane)) [
      | inl same ↦ (let here : In places i = rw same at member in called_came s h at places closing m i legal.0 legal.1.1 here)
      | inr other ↦ (let before : In (batch_of (last_call h lane)) i = rw other at member in batch_came s h lane legal.0 i before)
    ]
batch_came s (Came shard first count m ∷ h) lane legal i member = let low = batch_came s h lane legal.0 i member in let grows = count_grows h (Came shard first count m) in omega arith
batch_came s (Ended at reply m ∷ h) lane legal i member = batch_came s h lane legal.0 i member
batch_came s (Gave by shard places f line state m ∷ h) lane legal i member = batch_came s h lane legal.0 i member
batch_came s (Tried at places closing tries m ∷ h) lane legal i member = batch_came s h lane legal.0 i member
batch_came s (Closed at window m ∷ h) lane legal i member = batch_came s h lane legal.0 i member
batch_came s (Replayed shard places m ∷ h) lane legal i member = batch_came s h lane legal.0 i member
batch_came s (Shut m ∷ h) lane legal i member = batch_came s h lane legal.0 i member

-- over another list

coming_same : (s : QueueSetting) (after : List Message) (m k : ℕ) (xs : List Message) → coming_from (over_messages s after) m k xs ≡ coming_from s m k xs
coming_same s after m k [] = refl
coming_same s after m k (x ∷ xs) = ap (λ (ys : List Stored). record { message = x; came = m; first = None; last = None; count = 0; deleted = is_found s k } ∷ ys) (coming_same s after m (k + 1) xs)

-- the other list begins as the setting's, as far as messages came
pub record Alike (s : QueueSetting) (after : List Message) (n : ℕ) : Type 0 where
  pub front : take n s.messages ≡ take n after
  pub enough : n ≤ length after

pub same_queue : (s : QueueSetting) (after : List Message) (n : ℕ) (h : List Entry) → Alike s after n → queue_count h ≤ n → LegalQueue s h → queue_of (over_messages s after) h ≡ queue_of s h
same_queue s after n [] alike low legal = refl
same_queue s after n (Came shard first count m ∷ h) alike low legal =
    let number = number_came s h shard first count m legal.1.1 in
    let grows = count_grows h (Came shard first count m) in
    let before = same_queue s after n h alike (omega arith) legal.0 in
    let part = coming_same s after m first (take count (drop first after)) ∙ ap (coming_from s m first) (sym (same_part first count n s.messages after (omega arith) alike.front)) in
    ap₂ (λ (q : QueueState) (xs : List Stored). record { fifo = q.fifo; visibility = q.visibility; messages = q.messages ++ xs }) before part
same_queue s after n (Began lane places closing m ∷ h) alike low legal = ap (after_receipt m places) (same_queue s after n h alike low legal.0)
same_queue s after n (Gave by shard places f line state m ∷ h) alike low legal = ap (after_deletion places) (same_queue s after n h alike low legal.0)
same_queue s after n (Ended lane reply m ∷ h) alike low legal = same_queue s after n h alike low legal.0
same_queue s after n (Tried lane places closing tries m ∷ h) alike low legal = same_queue s after n h alike low legal.0
same_queue s after n (Closed lane window m ∷ h) alike low legal = same_queue s after n h alike low legal.0
same_queue s after n (Replayed shard places m ∷ h) alike low legal = same_queue s after n h alike low legal.0
same_queue s after n (Shut m ∷ h) alike low legal = same_queue s after n h alike low legal.0

same_unsorted : (s : QueueSetting) (after : List Message) (n : ℕ) (h : List Entry) → Alike s after n → queue_count h ≤ n → LegalQueue s h → unsorted_messages (over_messages s after) h ≡ unsorted_messages s h
same_unsorted s after n h alike low legal =
    let q = same_queue s after n h alike low legal in
    filter_same (is_unsorted_message (over_messages s after) h) (is_unsorted_message s h) (below (queue_count h))
    (λ i member.
    let l = In-below (queue_count h) i member in
    let came : i < n = omega arith in
    ap₂ (λ (state : QueueState) (o : Option Message). not (is_deleted_at state i) && unwrap_or (option_map (is_refused_message s) o) false) q (sym (same_at i n s.messages after came alike.front)))

same_succeeded_in : (s : QueueSetting) (after : List Message) (n : ℕ) (h : List Entry) (lane : LaneId) (reply : Reply) → Alike s after n → queue_count h ≤ n → LegalQueue s h → succeeded_in (over_messages s after) h lane reply ≡ succeeded_in s h lane reply
same_succeeded_in s after n h lane reply alike low legal =
    let places = batch_of (last_call h lane) in
    let messages = filter_map_same (message_at (over_messages s after)) (message_at s) places (λ i member.
    let l = batch_came s h lane legal i member in
    let came : i < n = omega arith in
    sym (same_at i n s.messages after came alike.front)) in
    ap (λ (ms : List Message). succeeded_by (queue_reading s.config (map (λ (m : Message). m.id) ms) reply) places) messages

same_succeeded : (s : QueueSetting) (after : List Message) (n : ℕ) (h : List Entry) (lane : LaneId) → Alike s after n → queue_count h ≤ n → LegalQueue s h → succeeded_places (over_messages s after) h lane ≡ succeeded_places s h lane
same_succeeded s after n [] lane alike low legal = refl
same_succeeded s after n (Ended at reply m ∷ h) lane alike low legal =
    ap₂ (λ (xs ys : List ℕ). cond (same_lane at lane) xs ys) (same_succeeded_in s after n h lane reply alike low legal.0) (same_succeeded s after n h lane alike low legal.0)
same_succeeded s after n (Began at places closing m ∷ h) lane alike low legal = ap (λ (xs : List ℕ). cond (same_lane at lane) [] xs) (same_succeeded s after n h lane alike low legal.0)
same_succeeded s after n (Came shard first count m ∷ h) lane alike low legal = let grows = count_grows h (Came shard first count m) in same_succeeded s after n h lane alike (omega arith) legal.0
same_succeeded s after n (Gave by shard places f line state m ∷ h) lane alike low legal = same_succeeded s after n h lane alike low legal.0
same_succeeded s after n (Tried at places closing tries m ∷ h) lane alike low legal = same_succeeded s after n h lane alike low legal.0
same_succeeded s after n (Closed at window m ∷ h) lane alike low legal = same_succeeded s after n h lane alike low legal.0
same_succeeded s after n (Replayed shard places m ∷ h) lane alike low legal = same_succeeded s after n h lane alike low legal.0
same_succeeded s after n (Shut m ∷ h) lane alike low legal = same_succeeded s after n h lane alike low legal.0

same_owed : (s : QueueSetting) (after : List Message) (n : ℕ) (h : List Entry) (lane : LaneId) → Alike s after n → queue_count h ≤ n → LegalQueue s h → owed_places (over_messages s after) h lane ≡ owed_places s h lane
same_owed s after n h lane alike low legal =
    ap₂ (λ (q : QueueState) (places : List ℕ). filter (λ i. not (is_deleted_at q i)) places) (same_queue s after n h alike low legal) (same_succeeded s after n h lane alike low legal)

same_batch : (s : QueueSetting) (after : List Message) (n m : ℕ) (h : List Entry) → Alike s after n → queue_count h ≤ n → LegalQueue s h → queue_batch (over_messages s after) h m ≡ queue_batch s h m
same_batch s after n m h alike low legal =
    ap (λ (q : QueueState). longest (λ places. nat_le (length places) s.config.batch_size && nat_le (length (queue_event s q m places)) MAX_EVENT) [] (eligible q m)) (same_queue s after n h alike low legal)

same_ready : (s : QueueSetting) (after : List Message) (n m : ℕ) (h : List Entry) → Alike s after n → queue_count h ≤ n → LegalQueue s h → is_queue_ready (over_messages s after) h m ≡ is_queue_ready s h m
same_ready s after n m h alike low legal =
    ap₂ (λ (all batch : List ℕ). is_batch_ready s h m all batch) (ap (λ (q : QueueState). eligible q m) (same_queue s after n h alike low legal)) (same_batch s after n m h alike low legal)

settled_over : (s : QueueSetting) (after : List Message) (n : ℕ) (h : List Entry) → Alike s after n → queue_count h ≤ n → LegalQueue s h → SettledQueue s h → SettledQueue (over_messages s after) h
settled_over s after n h alike low legal settled = record {
  sorted = same_unsorted s after n h alike low legal ∙ settled.sorted;
  paid = λ lane. same_owed s after n h lane alike low legal ∙ settled.paid lane;
}

give_over : (s : QueueSetting) (after : List Message) (n : ℕ) (h : List Entry) (by : Option LaneId) (shard : ℕ) (places : List ℕ) (f : Fate) (line : Option (List ℕ)) (state : Option WindowState) (m : ℕ) → Alike s after n → queue_count h ≤ n → LegalQueue s h → MayGiveQueue s h by shard places f line state m → MayGiveQueue (over_messages s after) h by shard places f line state m
give_over s after n h None shard places Filtered line state m alike low legal may = record {
  queue = may.queue;
  exact = may.exact ∙ sym (same_unsorted s after n h alike low legal);
  some = may.some;
  no_line = may.no_line;
  no_state = may.no_state;
  same_moment = may.same_moment;
}
give_over s after n h (Some lane) shard places Succeeded line state m alike low legal may = record {
  queue = may.queue;
  exact = may.exact ∙ sym (same_owed s after n h lane alike low legal);
  some = may.some;
  no_line = may.no_line;
  no_state = may.no_state;
  same_moment = may.same_moment;
}
give_over s after n h None shard places Succeeded line state m alike low legal may = absurd may
give_over s after n h None shard places Expired line state m alike low legal may = absurd may
give_over s after n h None shard places Exhausted line state m alike low legal may = absurd may
give_over s after n h (Some lane) shard places Filtered line state m alike low legal may = absurd may
give_over s after n h (Some lane) shard places Expired line state m alike low legal may = absurd may
give_over s after n h (Some lane) shard places Exhausted line state m alike low legal may = absurd may

pub follows_over : (s : QueueSetting) (after : List Message) (n : ℕ) (h : List Entry) (e : Entry) → Alike s after n → queue_count (e ∷ h) ≤ n → LegalQueue s h → QueueMayFollow s h e → QueueMayFollow (over_messages s after) h e
follows_over s after n h (Came shard first count m) alike low legal may =
    let number = number_came s h shard first count m may in
    let enough = alike.enough in
    record {
      not_shut = may.not_shut;
      queue = may.queue;
      next = may.next;
      some = may.some;
      within = omega arith;
      kept = λ i f r from below at is. (let came : i < n = omega arith in may.kept i f r from below (same_at i n s.messages after came alike.front ∙ at) is);
    }
follows_over s after n h (Began lane places None m) alike low legal may = record {
  settled = settled_over s after n h alike low legal may.settled;
  queue = may.queue;
  rests = may.rests;
  calls_left = may.calls_left;
  exact = may.exact ∙ sym (same_batch s after n m h alike low legal);
  some = may.some;
  ready = same_ready s after n m h alike low legal ∙ may.ready;
}
follows_over s after n h (Began lane places (Some window) m) alike low legal may = absurd may
follows_over s after n h (Ended lane reply m) alike low legal may = may
follows_over s after n h (Gave by shard places f line state m) alike low legal may = give_over s after n h by shard places f line state m alike low legal may
follows_over s after n h (Tried lane places closing tries m) alike low legal may = absurd may
follows_over s after n h (Closed lane window m) alike low legal may = absurd may
follows_over s after n h (Replayed shard places m) alike low legal may = absurd may
follows_over s after n h (Shut m) alike low legal may = (settled_over s after n h alike low legal may.0, may.1)

pub legal_over : (s : QueueSetting) (after : List Message) (n : ℕ) (h : List Entry) → Alike s after n → queue_count h ≤ n → LegalQueue s h → LegalQueue (over_messages s after) h
legal_over s after n [] alike low legal = tt
legal_over s after n (e ∷ h) alike low legal =
    let grows = count_grows h e in
    (legal_over s after n h alike (omega arith) legal.0, (legal.1.0, follows_over s after n h e alike low legal.0 legal.1.1))

-- a list that goes on from another begins as it does

pub extends_front : (before after : List Message) → ExtendsMessages before after → (take (length before) after ≡ before) × (length before ≤ length after)
extends_front [] after goes = (refl, omega arith)
extends_front (x ∷ before) [] goes = absurd (none-some x (goes 0 x refl))
extends_front (x ∷ before) (y ∷ after) goes =
    let rest = extends_front before after (λ i m at. goes (suc i) m at) in
    let first : y ≡ x = same_Some y x (goes 0 x refl) in
    (ap₂ (λ (m : Message) (ms : List Message). m ∷ ms) first rest.0, (let l = rest.1 in omega arith))

pub legal_over_more_in : (s : QueueSetting) (h : List Entry) (after : List Message) → ExtendsMessages s.messages after → LegalQueue s h → LegalQueue (over_messages s after) h
legal_over_more_in s h after goes legal =
    let front = extends_front s.messages after goes in
    let n = length s.messages in
    let alike : Alike s after n = record { front = take_all n s.messages (omega arith) ∙ sym front.0; enough = front.1 } in
    legal_over s after n h alike (count_within s h legal) legal
