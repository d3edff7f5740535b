-- Histories of redrives over two lists of messages that begin alike.
use Rattle.std.proofs.Common.{◌≡◌, ℕ, zero, suc, ◌+◌, ◌<◌, ◌≤◌, Bool, false, not, cond, ◌&&◌, List, [], ◌∷◌, ◌++◌, length, take, drop, map, refl, sym, ap, ap₂, ◌∙◌, arith, Option, Some, None}
use Rattle.std.specs.Prelude.{filter, filter_map, slice_get, nat_le, option_map, unwrap_or}
use Rattle.std.specs.List.{cons_option}
use Rattle.std.proofs.lemmas.List.{drop-take, take_all}
use Rattle.esm_model.specs.declared.limits.TheConstants.{MAX_EVENT}
use Rattle.esm_model.specs.declared.item.Message.{Message}
use Rattle.esm_model.specs.declared.lane.LaneId.{LaneId}
use Rattle.esm_model.specs.declared.entry.Fate.{Fate}
use Rattle.esm_model.specs.declared.entry.Fate.TheVariants.{Succeeded, Filtered, Expired, Exhausted}
use Rattle.esm_model.specs.declared.entry.Reply.{Reply}
use Rattle.esm_model.specs.declared.entry.WindowState.{WindowState}
use Rattle.esm_model.specs.declared.entry.Entry.{Entry}
use Rattle.esm_model.specs.declared.entry.Entry.TheVariants.{Came, Began, Ended, Gave, Tried, Closed, Replayed, Shut}
use Rattle.esm_model.specs.Lane.{same_lane}
use Rattle.esm_model.specs.Entries.{last_call, batch_of}
use Rattle.esm_model.specs.Fates.{below}
use Rattle.esm_model.specs.Batches.{longest}
use Rattle.esm_model.specs.QueueReading.{queue_reading}
use Rattle.esm_model.proofs.Records.{filter_same}
use Rattle.esm_queue_model.specs.declared.stored.Stored.{Stored}
use Rattle.esm_queue_model.specs.Queue.{QueueState, eligible, after_receipt, after_deletion, is_deleted_at}
use Rattle.esm_queue_model.specs.QueueSetting.{QueueSetting, message_at, is_found, over_messages, ExtendsMessages}
use Rattle.esm_queue_model.specs.QueueEntries.{coming_from, queue_lane, queue_of, queue_count}
use Rattle.esm_queue_model.specs.QueueBatch.{queue_event, queue_batch, is_batch_ready, is_queue_ready}
use Rattle.esm_queue_model.specs.QueueStep.{is_refused_message, unsorted_messages, succeeded_by, succeeded_in, succeeded_places, owed_places}
use Rattle.esm_queue_model.proofs.Places.{In, In-here, In-there, In-below}
use Rattle.esm_queue_model.proofs.MoreMessages.{Alike, count_grows, extends_front}
use Rattle.esm_redrive_model.specs.RedriveSetting.{RedriveSetting, has_dead_id, redrive_over}
use Rattle.esm_redrive_model.specs.Due.{is_at_limit, due, known}
use Rattle.esm_redrive_model.specs.RedriveStep.{SettledRedrive, MayGiveRedrive, RedriveMayFollow, LegalRedrive}
use Rattle.esm_redrive_model.proofs.Built.{Built, number_came, count_within, eligible_came, batch_came}
use Rattle.esm_redrive_model.proofs.Named.{moved_eligible, built_of}

-- lists that begin alike

take_shorter : {A : Type 0} (k n : ℕ) (xs : List A) → k ≤ n → take k (take n xs) ≡ take k xs
take_shorter zero n xs le = refl
take_shorter (suc k) zero xs le = absurd (omega arith)
take_shorter (suc k) (suc n) [] le = refl
take_shorter (suc k) (suc n) (x ∷ xs) le = ap (λ ys. x ∷ ys) (take_shorter k n xs (omega arith))

get_front : {A : Type 0} (n : ℕ) (xs : List A) (i : ℕ) → i < n → slice_get (take n xs) i ≡ slice_get xs i
get_front zero xs i l = absurd (omega arith)
get_front (suc n) [] i l = refl
get_front (suc n) (x ∷ xs) zero l = refl
get_front (suc n) (x ∷ xs) (suc i) l = get_front n xs i (omega arith)

same_take : {A : Type 0} (k n : ℕ) (xs ys : List A) → k ≤ n → take n xs ≡ take n ys → take k xs ≡ take k ys
same_take k n xs ys le e = sym (take_shorter k n xs le) ∙ (ap (take k) e ∙ take_shorter k n ys le)

same_at : {A : Type 0} (i n : ℕ) (xs ys : List A) → i < n → take n xs ≡ take n ys → slice_get xs i ≡ slice_get ys i
same_at i n xs ys l e = sym (get_front n xs i l) ∙ (ap (λ zs. slice_get zs i) e ∙ get_front n ys i l)

same_part : {A : Type 0} (first count n : ℕ) (xs ys : List A) → first + count ≤ n → take n xs ≡ take n ys → take count (drop first xs) ≡ take count (drop first ys)
same_part first count n xs ys le e = sym (drop-take first count xs) ∙ (ap (drop first) (same_take (first + count) n xs ys le e) ∙ drop-take first count ys)

filter_map_same : {B : Type 0} (f g : ℕ → Option B) (xs : List ℕ) → ((i : ℕ) → In xs i → f i ≡ g i) → filter_map f xs ≡ filter_map g xs
filter_map_same f g [] same = refl
filter_map_same {B} f g (x ∷ xs) same =
    ap₂ (λ (o : Option B) (ys : List B). cons_option o ys) (same x (In-here x xs x refl)) (filter_map_same f g xs (λ i h. same i (In-there x xs i h)))

-- the queue

coming_same : (s : QueueSetting) (after : List Message) (m k : ℕ) (xs : List Message) → coming_from (over_messages s after) m k xs ≡ coming_from s m k xs
coming_same s after m k [] = refl
coming_same s after m k (x ∷ xs) = ap (λ (ys : List Stored). record { message = x; came = m; first = None; last = None; count = 0; deleted = is_found s k } ∷ ys) (coming_same s after m (k + 1) xs)

same_queue : (s : QueueSetting) (after : List Message) (n : ℕ) (h : List Entry) → Alike s after n → queue_count h ≤ n → Built s h → queue_of (over_messages s after) h ≡ queue_of s h
same_queue s after n [] alike low built = refl
same_queue s after n (Came shard first count m ∷ h) alike low built =
    let number = number_came s h shard first count m built.1 in
    let grows = count_grows h (Came shard first count m) in
    let before = same_queue s after n h alike (omega arith) built.0 in
    let part = coming_same s after m first (take count (drop first after)) ∙ ap (coming_from s m first) (sym (same_part first count n s.messages after (omega arith) alike.front)) in
    ap₂ (λ (q : QueueState) (xs : List Stored). record { fifo = q.fifo; visibility = q.visibility; messages = q.messages ++ xs }) before part
same_queue s after n (Began lane places closing m ∷ h) alike low built = ap (after_receipt m places) (same_queue s after n h alike low built.0)
same_queue s after n (Gave by shard places f line state m ∷ h) alike low built = ap (after_deletion places) (same_queue s after n h alike low built.0)
same_queue s after n (Ended lane reply m ∷ h) alike low built = same_queue s after n h alike low built.0
same_queue s after n (Tried lane places closing tries m ∷ h) alike low built = same_queue s after n h alike low built.0
same_queue s after n (Closed lane window m ∷ h) alike low built = same_queue s after n h alike low built.0
same_queue s after n (Replayed shard places m ∷ h) alike low built = same_queue s after n h alike low built.0
same_queue s after n (Shut m ∷ h) alike low built = same_queue s after n h alike low built.0

-- what waits, by a test of the messages
same_waiting : (s : QueueSetting) (after : List Message) (n : ℕ) (h : List Entry) (p : Message → Bool) → Alike s after n → queue_count h ≤ n → Built s h
    → filter (λ i. not (is_deleted_at (queue_of (over_messages s after) h) i) && unwrap_or (option_map p (slice_get after i)) false) (below (queue_count h))
    ≡ filter (λ i. not (is_deleted_at (queue_of s h) i) && unwrap_or (option_map p (slice_get s.messages i)) false) (below (queue_count h))
same_waiting s after n h p alike low built =
    let q = same_queue s after n h alike low built in
    filter_same
    (λ i. not (is_deleted_at (queue_of (over_messages s after) h) i) && unwrap_or (option_map p (slice_get after i)) false)
    (λ i. not (is_deleted_at (queue_of s h) i) && unwrap_or (option_map p (slice_get s.messages i)) false)
    (below (queue_count h))
    (λ i member.
    let l = In-below (queue_count h) i member in
    let came : i < n = omega arith in
    ap₂ (λ (state : QueueState) (o : Option Message). not (is_deleted_at state i) && unwrap_or (option_map p o) false) q (sym (same_at i n s.messages after came alike.front)))

same_unsorted : (s : RedriveSetting) (after : List Message) (n : ℕ) (h : List Entry) → Alike s.queue after n → queue_count h ≤ n → Built s.queue h → unsorted_messages (over_messages s.queue after) h ≡ unsorted_messages s.queue h
same_unsorted s after n h alike low built = same_waiting s.queue after n h (is_refused_message s.queue) alike low built

same_known : (s : RedriveSetting) (after : List Message) (n : ℕ) (h : List Entry) → Alike s.queue after n → queue_count h ≤ n → Built s.queue h → known (redrive_over s after) h ≡ known s h
same_known s after n h alike low built = same_waiting s.queue after n h (has_dead_id s) alike low built

same_due : (s : RedriveSetting) (after : List Message) (n : ℕ) (h : List Entry) (m : ℕ) → Alike s.queue after n → queue_count h ≤ n → Built s.queue h → due (redrive_over s after) h m ≡ due s h m
same_due s after n h m alike low built = ap (λ (q : QueueState). filter (is_at_limit s h) (eligible q m)) (same_queue s.queue after n h alike low built)

-- what is owed

same_succeeded_in : (s : QueueSetting) (after : List Message) (n : ℕ) (h : List Entry) (lane : LaneId) (reply : Reply) → Alike s after n → queue_count h ≤ n → Built s h → succeeded_in (over_messages s after) h lane reply ≡ succeeded_in s h lane reply
same_succeeded_in s after n h lane reply alike low built =
    let places = batch_of (last_call h lane) in
    let messages = filter_map_same (message_at (over_messages s after)) (message_at s) places (λ i member.
    let l = batch_came s h lane built i member in
    let came : i < n = omega arith in
    sym (same_at i n s.messages after came alike.front)) in
    ap (λ (ms : List Message). succeeded_by (queue_reading s.config (map (λ (m : Message). m.id) ms) reply) places) messages

same_succeeded : (s : QueueSetting) (after : List Message) (n : ℕ) (h : List Entry) (lane : LaneId) → Alike s after n → queue_count h ≤ n → Built s h → succeeded_places (over_messages s after) h lane ≡ succeeded_places s h lane
same_succeeded s after n [] lane alike low built = refl
same_succeeded s after n (Ended at reply m ∷ h) lane alike low built =
    ap₂ (λ (xs ys : List ℕ). cond (same_lane at lane) xs ys) (same_succeeded_in s after n h lane reply alike low built.0) (same_succeeded s after n h lane alike low built.0)
same_succeeded s after n (Began at places closing m ∷ h) lane alike low built = ap (λ (xs : List ℕ). cond (same_lane at lane) [] xs) (same_succeeded s after n h lane alike low built.0)
same_succeeded s after n (Came shard first count m ∷ h) lane alike low built = let grows = count_grows h (Came shard first count m) in same_succeeded s after n h lane alike (omega arith) built.0
same_succeeded s after n (Gave by shard places f line state m ∷ h) lane alike low built = same_succeeded s after n h lane alike low built.0
same_succeeded s after n (Tried at places closing tries m ∷ h) lane alike low built = same_succeeded s after n h lane alike low built.0
same_succeeded s after n (Closed at window m ∷ h) lane alike low built = same_succeeded s after n h lane alike low built.0
same_succeeded s after n (Replayed shard places m ∷ h) lane alike low built = same_succeeded s after n h lane alike low built.0
same_succeeded s after n (Shut m ∷ h) lane alike low built = same_succeeded s after n h lane alike low built.0

same_owed : (s : QueueSetting) (after : List Message) (n : ℕ) (h : List Entry) (lane : LaneId) → Alike s after n → queue_count h ≤ n → Built s h → owed_places (over_messages s after) h lane ≡ owed_places s h lane
same_owed s after n h lane alike low built =
    ap₂ (λ (q : QueueState) (places : List ℕ). filter (λ i. not (is_deleted_at q i)) places) (same_queue s after n h alike low built) (same_succeeded s after n h lane alike low built)

-- calls

same_batch : (s : QueueSetting) (after : List Message) (n m : ℕ) (h : List Entry) → Alike s after n → queue_count h ≤ n → Built s h → queue_batch (over_messages s after) h m ≡ queue_batch s h m
same_batch s after n m h alike low built =
    ap (λ (q : QueueState). longest (λ places. nat_le (length places) s.config.batch_size && nat_le (length (queue_event s q m places)) MAX_EVENT) [] (eligible q m)) (same_queue s after n h alike low built)

same_ready : (s : QueueSetting) (after : List Message) (n m : ℕ) (h : List Entry) → Alike s after n → queue_count h ≤ n → Built s h → is_queue_ready (over_messages s after) h m ≡ is_queue_ready s h m
same_ready s after n m h alike low built =
    ap₂ (λ (all batch : List ℕ). is_batch_ready s h m all batch) (ap (λ (q : QueueState). eligible q m) (same_queue s after n h alike low built)) (same_batch s after n m h alike low built)

-- the rows

settled_over : (s : RedriveSetting) (after : List Message) (n : ℕ) (h : List Entry) → Alike s.queue after n → queue_count h ≤ n → Built s.queue h → SettledRedrive s h → SettledRedrive (redrive_over s after) h
settled_over s after n h alike low built settled = record {
  recorded = same_known s after n h alike low built ∙ settled.recorded;
  sorted = same_unsorted s after n h alike low built ∙ settled.sorted;
  paid = same_owed s.queue after n h (queue_lane 0) alike low built ∙ settled.paid;
}

give_over : (s : RedriveSetting) (after : List Message) (n : ℕ) (h : List Entry) (by : Option LaneId) (shard : ℕ) (places : List ℕ) (f : Fate) (line : Option (List ℕ)) (state : Option WindowState) (m : ℕ) → Alike s.queue after n → queue_count h ≤ n → Built s.queue h → MayGiveRedrive s h by shard places f line state m → MayGiveRedrive (redrive_over s after) h by shard places f line state m
give_over s after n h None shard places Exhausted line state m alike low built may = record {
  queue = may.queue;
  exact = may.exact ∙ sym (same_known s after n h alike low built);
  some = may.some;
  no_line = may.no_line;
  no_state = may.no_state;
  same_moment = may.same_moment;
}
give_over s after n h None shard places Filtered line state m alike low built may = record {
  recorded = same_known s after n h alike low built ∙ may.recorded;
  filters = record {
    queue = may.filters.queue;
    exact = may.filters.exact ∙ sym (same_unsorted s after n h alike low built);
    some = may.filters.some;
    no_line = may.filters.no_line;
    no_state = may.filters.no_state;
    same_moment = may.filters.same_moment;
  };
}
give_over s after n h (Some lane) shard places Exhausted line state m alike low built may =
    let came : may.place < queue_count h = eligible_came s.queue h m may.place built (moved_eligible s h lane shard places line state m may) in
    let within : may.place < n = omega (arith, came, low) in
    record {
      settled = settled_over s after n h alike low built may.settled;
      batcher = may.batcher;
      rests = may.rests;
      queue = may.queue;
      place = may.place;
      first = ap (take 1) (same_due s after n h m alike low built) ∙ may.first;
      exact = may.exact;
      message = may.message;
      is_there = sym (same_at may.place n s.queue.messages after within alike.front) ∙ may.is_there;
      line_is = may.line_is;
      no_state = may.no_state;
    }
give_over s after n h (Some lane) shard places Succeeded line state m alike low built may = record {
  batcher = may.batcher;
  deletes = record {
    queue = may.deletes.queue;
    exact = may.deletes.exact ∙ sym (same_owed s.queue after n h (queue_lane 0) alike low built);
    some = may.deletes.some;
    no_line = may.deletes.no_line;
    no_state = may.deletes.no_state;
    same_moment = may.deletes.same_moment;
  };
}
give_over s after n h None shard places Succeeded line state m alike low built may = absurd may
give_over s after n h None shard places Expired line state m alike low built may = absurd may
give_over s after n h (Some lane) shard places Filtered line state m alike low built may = absurd may
give_over s after n h (Some lane) shard places Expired line state m alike low built may = absurd may

pub follows_over : (s : RedriveSetting) (after : List Message) (n : ℕ) (h : List Entry) (e : Entry) → Alike s.queue after n → queue_count (e ∷ h) ≤ n → Built s.queue h → RedriveMayFollow s h e → RedriveMayFollow (redrive_over s after) h e
follows_over s after n h (Came shard first count m) alike low built may =
    let comes = may.comes in
    let number = number_came s.queue h shard first count m comes in
    let grows = count_grows h (Came shard first count m) in
    let enough = alike.enough in
    record {
      recorded = same_known s after n h alike (omega arith) built ∙ may.recorded;
      comes = record {
        not_shut = comes.not_shut;
        queue = comes.queue;
        next = comes.next;
        some = comes.some;
        within = omega arith;
        kept = λ i f r from below at is. (let came : i < n = omega arith in comes.kept i f r from below (same_at i n s.queue.messages after came alike.front ∙ at) is);
      };
    }
follows_over s after n h (Began lane places None m) alike low built may = record {
  settled = settled_over s after n h alike low built may.settled;
  batcher = may.batcher;
  rests = may.rests;
  calls_left = may.calls_left;
  none_due = same_due s after n h m alike low built ∙ may.none_due;
  exact = may.exact ∙ sym (same_batch s.queue after n m h alike low built);
  some = may.some;
  ready = same_ready s.queue after n m h alike low built ∙ may.ready;
}
follows_over s after n h (Began lane places (Some window) m) alike low built may = absurd may
follows_over s after n h (Ended lane reply m) alike low built may = may
follows_over s after n h (Gave by shard places f line state m) alike low built may = give_over s after n h by shard places f line state m alike low built may
follows_over s after n h (Tried lane places closing tries m) alike low built may = absurd may
follows_over s after n h (Closed lane window m) alike low built may = absurd may
follows_over s after n h (Replayed shard places m) alike low built may = absurd may
follows_over s after n h (Shut m) alike low built may = (settled_over s after n h alike low built may.0, may.1)

legal_over : (s : RedriveSetting) (after : List Message) (n : ℕ) (h : List Entry) → Alike s.queue after n → queue_count h ≤ n → LegalRedrive s h → LegalRedrive (redrive_over s after) h
legal_over s after n [] alike low legal = tt
legal_over s after n (e ∷ h) alike low legal =
    let grows = count_grows h e in
    (legal_over s after n h alike (omega arith) legal.0, (legal.1.0, follows_over s after n h e alike low (built_of s h legal.0) legal.1.1))

pub redrive_over_more_in : (s : RedriveSetting) (h : List Entry) (after : List Message) → ExtendsMessages s.queue.messages after → LegalRedrive s h → LegalRedrive (redrive_over s after) h
redrive_over_more_in s h after goes legal =
    let front = extends_front s.queue.messages after goes in
    let n = length s.queue.messages in
    let alike : Alike s.queue after n = record { front = take_all n s.queue.messages (omega arith) ∙ sym front.0; enough = front.1 } in
    legal_over s after n h alike (count_within s.queue h (built_of s h legal)) legal

-- what calls for nothing over a list of messages does not over each list that goes on from it
pub settled_over_more : (s : RedriveSetting) (h : List Entry) (after : List Message) → ExtendsMessages s.queue.messages after → LegalRedrive s h → SettledRedrive s h → SettledRedrive (redrive_over s after) h
settled_over_more s h after goes legal settled =
    let front = extends_front s.queue.messages after goes in
    let n = length s.queue.messages in
    let alike : Alike s.queue after n = record { front = take_all n s.queue.messages (omega arith) ∙ sym front.0; enough = front.1 } in
    let built = built_of s h legal in
    settled_over s after n h alike (count_within s.queue h built) built settled
