-- What is settled over a list of messages is settled over each list that goes on from it.
use Rattle.std.proofs.Common.{◌≡◌, ℕ, zero, suc, ◌<◌, ◌≤◌, Bool, false, not, cond, ◌&&◌, List, [], ◌∷◌, ◌++◌, length, take, map, refl, sym, ap, ap₂, ◌∙◌, arith, Option}
use Rattle.std.specs.Prelude.{filter, filter_map, slice_get, option_map, unwrap_or}
use Rattle.std.specs.List.{cons_option}
use Rattle.std.proofs.lemmas.List.{take_all}
use Rattle.esm_model.specs.declared.item.Message.{Message}
use Rattle.esm_model.specs.declared.lane.LaneId.{LaneId}
use Rattle.esm_model.specs.declared.entry.Reply.{Reply}
use Rattle.esm_model.specs.declared.entry.Entry.{Entry}
use Rattle.esm_model.specs.declared.entry.Entry.TheVariants.{Came, Began, Ended, Gave, Tried, Closed, Replayed, Shut}
use Rattle.esm_model.specs.Lane.{same_lane}
use Rattle.esm_model.specs.Entries.{last_call, batch_of}
use Rattle.esm_model.specs.Fates.{below}
use Rattle.esm_model.specs.QueueReading.{queue_reading}
use Rattle.esm_queue_model.specs.Queue.{QueueState, is_deleted_at}
use Rattle.esm_queue_model.specs.QueueSetting.{QueueSetting, message_at, over_messages, ExtendsMessages}
use Rattle.esm_queue_model.specs.QueueEntries.{queue_of, queue_count}
use Rattle.esm_queue_model.specs.QueueStep.{is_refused_message, is_unsorted_message, unsorted_messages, succeeded_by, succeeded_in, succeeded_places, owed_places, LegalQueue}
use Rattle.esm_queue_model.proofs.Places.{In, In-here, In-there, In-below}
use Rattle.esm_queue_model.proofs.MoreMessages.{Alike, count_grows, count_within, batch_came, same_queue, extends_front, legal_over_more_in}
use Rattle.esm_queue_core.specs.Sound.{Sound}

get_front : {A : Type 0} (n : ℕ) (xs : List A) (i : ℕ) → i < n → slice_get (take n xs) i ≡ slice_get xs i
get_front zero xs i l = absurd (omega arith)
get_front (suc n) [] i l = refl
get_front (suc n) (x ∷ xs) zero l = refl
get_front (suc n) (x ∷ xs) (suc i) l = get_front n xs i (omega arith)

same_at : {A : Type 0} (i n : ℕ) (xs ys : List A) → i < n → take n xs ≡ take n ys → slice_get xs i ≡ slice_get ys i
same_at i n xs ys l e = sym (get_front n xs i l) ∙ (ap (λ zs. slice_get zs i) e ∙ get_front n ys i l)

pub filter_same : (p q : ℕ → Bool) (xs : List ℕ) → ((i : ℕ) → In xs i → p i ≡ q i) → filter p xs ≡ filter q xs
filter_same p q [] same = refl
filter_same p q (x ∷ xs) same =
    ap₂ (λ (b : Bool) (ys : List ℕ). cond b (x ∷ ys) ys) (same x (In-here x xs x refl)) (filter_same p q xs (λ i h. same i (In-there x xs i h)))

pub filter_map_same : {B : Type 0} (f g : ℕ → Option B) (xs : List ℕ) → ((i : ℕ) → In xs i → f i ≡ g i) → filter_map f xs ≡ filter_map g xs
filter_map_same f g [] same = refl
filter_map_same {B} f g (x ∷ xs) same =
    ap₂ (λ (o : Option B) (ys : List B). cons_option o ys) (same x (In-here x xs x refl)) (filter_map_same f g xs (λ i h. same i (In-there x xs i h)))

same_unsorted : (s : QueueSetting) (after : List Message) (n : ℕ) (h : List Entry) → Alike s after n → queue_count h ≤ n → LegalQueue s h → unsorted_messages (over_messages s after) h ≡ unsorted_messages s h
same_unsorted s after n h alike low legal =
    let q = same_queue s after n h alike low legal in
    filter_same (is_unsorted_message (over_messages s after) h) (is_unsorted_message s h) (below (queue_count h))
    (λ i member.
    let l = In-below (queue_count h) i member in
    let came : i < n = omega arith in
    ap₂ (λ (state : QueueState) (o : Option Message). not (is_deleted_at state i) && unwrap_or (option_map (is_refused_message s) o) false) q (sym (same_at i n s.messages after came alike.front)))

same_succeeded_in : (s : QueueSetting) (after : List Message) (n : ℕ) (h : List Entry) (lane : LaneId) (reply : Reply) → Alike s after n → queue_count h ≤ n → LegalQueue s h → succeeded_in (over_messages s after) h lane reply ≡ succeeded_in s h lane reply
same_succeeded_in s after n h lane reply alike low legal =
    let places = batch_of (last_call h lane) in
    let messages = filter_map_same (message_at (over_messages s after)) (message_at s) places (λ i member.
    let l = batch_came s h lane legal i member in
    let came : i < n = omega arith in
    sym (same_at i n s.messages after came alike.front)) in
    ap (λ (ms : List Message). succeeded_by (queue_reading s.config (map (λ (m : Message). m.id) ms) reply) places) messages

same_succeeded : (s : QueueSetting) (after : List Message) (n : ℕ) (h : List Entry) (lane : LaneId) → Alike s after n → queue_count h ≤ n → LegalQueue s h → succeeded_places (over_messages s after) h lane ≡ succeeded_places s h lane
same_succeeded s after n [] lane alike low legal = refl
same_succeeded s after n (Ended at reply m ∷ h) lane alike low legal =
    ap₂ (λ (xs ys : List ℕ). cond (same_lane at lane) xs ys) (same_succeeded_in s after n h lane reply alike low legal.0) (same_succeeded s after n h lane alike low legal.0)
same_succeeded s after n (Began at places closing m ∷ h) lane alike low legal = ap (λ (xs : List ℕ). cond (same_lane at lane) [] xs) (same_succeeded s after n h lane alike low legal.0)
same_succeeded s after n (Came shard first count m ∷ h) lane alike low legal = let grows = count_grows h (Came shard first count m) in same_succeeded s after n h lane alike (omega arith) legal.0
same_succeeded s after n (Gave by shard places f line state m ∷ h) lane alike low legal = same_succeeded s after n h lane alike low legal.0
same_succeeded s after n (Tried at places closing tries m ∷ h) lane alike low legal = same_succeeded s after n h lane alike low legal.0
same_succeeded s after n (Closed at window m ∷ h) lane alike low legal = same_succeeded s after n h lane alike low legal.0
same_succeeded s after n (Replayed shard places m ∷ h) lane alike low legal = same_succeeded s after n h lane alike low legal.0
same_succeeded s after n (Shut m ∷ h) lane alike low legal = same_succeeded s after n h lane alike low legal.0

same_owed : (s : QueueSetting) (after : List Message) (n : ℕ) (h : List Entry) (lane : LaneId) → Alike s after n → queue_count h ≤ n → LegalQueue s h → owed_places (over_messages s after) h lane ≡ owed_places s h lane
same_owed s after n h lane alike low legal =
    ap₂ (λ (q : QueueState) (places : List ℕ). filter (λ i. not (is_deleted_at q i)) places) (same_queue s after n h alike low legal) (same_succeeded s after n h lane alike low legal)

pub alike_over : (s : QueueSetting) (after : List Message) → ExtendsMessages s.messages after → Alike s after (length s.messages)
alike_over s after goes =
    let front = extends_front s.messages after goes in
    record { front = take_all (length s.messages) s.messages (omega arith) ∙ sym front.0; enough = front.1 }

-- what is sound over a list is sound over each that goes on from it
pub sound_over : (s : QueueSetting) (after : List Message) (h : List Entry) → ExtendsMessages s.messages after → Sound s h → Sound (over_messages s after) h
sound_over s after h goes sound =
    let n = length s.messages in
    let alike = alike_over s after goes in
    let low = count_within s h sound.legal in
    record {
      legal = legal_over_more_in s h after goes sound.legal;
      settled = record {
        sorted = same_unsorted s after n h alike low sound.legal ∙ sound.settled.sorted;
        paid = λ lane. same_owed s after n h lane alike low sound.legal ∙ sound.settled.paid lane;
      };
    }

-- and the queue is the same over it
pub queue_over : (s : QueueSetting) (after : List Message) (h : List Entry) → ExtendsMessages s.messages after → LegalQueue s h → queue_of (over_messages s after) h ≡ queue_of s h
queue_over s after h goes legal = same_queue s after (length s.messages) h (alike_over s after goes) (count_within s h legal) legal

pub extends_append : (xs ys : List Message) → ExtendsMessages xs (xs ++ ys)
extends_append [] ys i m at = absurd (cc)
extends_append (x ∷ xs) ys zero m at = at
extends_append (x ∷ xs) ys (suc i) m at = extends_append xs ys i m at
