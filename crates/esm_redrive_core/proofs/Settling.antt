-- What each entry leaves of a sound history of a redrive.
use Rattle.std.proofs.Common.{◌≡◌, ℕ, zero, suc, ◌+◌, ◌<◌, ◌≤◌, Bool, true, false, not, cond, ◌&&◌, ◌||◌, List, [], ◌∷◌, ◌++◌, length, take, drop, refl, sym, ap, ap₂, ◌∙◌, subst, inl, inr, arith, append_assoc, Option, Some, None}
use Rattle.std.specs.Prelude.{◌==◌, filter, slice_get, option_map, unwrap_or}
use Rattle.std.proofs.lemmas.List.{append-nil, length-append, take_all}
use Rattle.std.proofs.lemmas.List.Elements.{filter-append}
use Rattle.std.proofs.lemmas.Option.{none-some, same_Some, slice_get_within}
use Rattle.std.proofs.lemmas.Bool.{cases_Bool, and_parts, and_from, or_parts, or_left, both_ways, not-true, not_from_false, false_from_ne_true, eq-eqb, ne_eqb}
use Rattle.esm_model.specs.declared.moment.TheConstants.{MAX_MOMENT}
use Rattle.esm_model.specs.declared.item.Message.{Message}
use Rattle.esm_model.specs.declared.lane.LaneId.{LaneId}
use Rattle.esm_model.specs.declared.entry.Fate.{Fate}
use Rattle.esm_model.specs.declared.entry.Fate.TheVariants.{Succeeded, Filtered, Exhausted}
use Rattle.esm_model.specs.declared.entry.Reply.{Reply}
use Rattle.esm_model.specs.declared.entry.WindowState.{WindowState}
use Rattle.esm_model.specs.declared.entry.Entry.{Entry}
use Rattle.esm_model.specs.declared.entry.Entry.TheVariants.{Came, Began, Ended, Gave, Shut}
use Rattle.esm_model.specs.Lane.{same_lane}
use Rattle.esm_model.specs.Entries.{holds, last_moment, is_shut, is_running}
use Rattle.esm_model.specs.Fates.{below}
use Rattle.esm_model.specs.Step.{IsLater}
use Rattle.esm_queue_model.specs.declared.stored.Stored.{Stored}
use Rattle.esm_queue_model.specs.Queue.{changed_from, received_once, deleted_once}
use Rattle.esm_queue_model.specs.QueueSetting.{QueueSetting, message_at, is_found, ExtendsMessages}
use Rattle.esm_queue_model.specs.QueueEntries.{queue_lane, queue_of, queue_count, is_deleted, coming_from}
use Rattle.esm_queue_model.specs.QueueStep.{is_refused_message, unsorted_messages, succeeded_places, owed_places}
use Rattle.esm_queue_model.proofs.Places.{In, filter-In, In-below}
use Rattle.esm_redrive_model.specs.RedriveSetting.{RedriveSetting, has_dead_id, redrive_over}
use Rattle.esm_redrive_model.specs.Due.{known}
use Rattle.esm_redrive_model.specs.RedriveStep.{MayMove, MayBeginRedrive, LegalRedrive}
use Rattle.esm_queue_core.proofs.Settling.{filter_none, none_of}
use Rattle.esm_redrive_model.proofs.Built.{Built, stored_count, succeeded_came}
use Rattle.esm_redrive_model.proofs.Named.{built_of}
use Rattle.esm_redrive_model.proofs.Ends.{gone_in, gone_right, gone_same, gone_more}
use Rattle.esm_redrive_model.proofs.MoreRedrive.{redrive_over_more_in, settled_over_more}
use Rattle.esm_redrive_core.specs.Coming.{places_from, is_known_at, is_dropped_at, known_from, dropped_from}
use Rattle.esm_redrive_core.specs.Sound.{Sound, Brings, gave_on, recorded_on, ended_places}

-- other messages

pub sound_over : (s : RedriveSetting) (h : List Entry) (after : List Message) → ExtendsMessages s.queue.messages after → Sound s h → Sound (redrive_over s after) h
sound_over s h after goes sound = record {
  legal = redrive_over_more_in s h after goes sound.legal;
  settled = settled_over_more s h after goes sound.legal sound.settled;
}

-- deleted messages stay deleted

marked_stays : (b : Bool) (x : Stored) → x.deleted ≡ true → (cond b (deleted_once x) x).deleted ≡ true
marked_stays true x is = refl
marked_stays false x is = is

stays_marked : (places : List ℕ) (k : ℕ) (xs : List Stored) (i : ℕ) → gone_in xs i ≡ true → gone_in (changed_from deleted_once places k xs) i ≡ true
stays_marked places k [] i is = is
stays_marked places k (x ∷ xs) zero is = marked_stays (holds places k) x is
stays_marked places k (x ∷ xs) (suc i) is = stays_marked places (k + 1) xs i is

stays_appended : (xs ys : List Stored) (i : ℕ) → gone_in xs i ≡ true → gone_in (xs ++ ys) i ≡ true
stays_appended [] ys i is = absurd (both_ways false refl is)
stays_appended (x ∷ xs) ys zero is = is
stays_appended (x ∷ xs) ys (suc i) is = stays_appended xs ys i is

-- what stays deleted from the one history to the other, which has as many messages
record Goes (s : QueueSetting) (h h' : List Entry) : Type 0 where
  count : queue_count h' ≡ queue_count h
  stays : (i : ℕ) → is_deleted s h i ≡ true → is_deleted s h' i ≡ true

gave_goes : (s : QueueSetting) (h : List Entry) (by : Option LaneId) (shard : ℕ) (places : List ℕ) (f : Fate) (line : Option (List ℕ)) (state : Option WindowState) (m : ℕ) → Goes s h (Gave by shard places f line state m ∷ h)
gave_goes s h by shard places f line state m = record { count = refl; stays = λ i is. stays_marked places 0 (queue_of s h).messages i is }

gave_on_goes : (s : QueueSetting) (h : List Entry) (by : Option LaneId) (places : List ℕ) (f : Fate) (m : ℕ) → Goes s h (gave_on by places f m h)
gave_on_goes s h by [] f m = record { count = refl; stays = λ i is. is }
gave_on_goes s h by (i ∷ places) f m = gave_goes s h by 0 (i ∷ places) f None None m

began_goes : (s : QueueSetting) (h : List Entry) (lane : LaneId) (places : List ℕ) (m : ℕ) → Goes s h (Began lane places None m ∷ h)
began_goes s h lane places m = record { count = refl; stays = λ i is. gone_same (received_once m) (λ x. refl) places 0 (queue_of s h).messages i ∙ is }

-- messages that wait and pass a test

abbrev waits_with : QueueSetting → List Entry → (Message → Bool) → ℕ → Bool
waits_with s h p i = not (is_deleted s h i) && unwrap_or (option_map p (message_at s i)) false

abbrev all_with : QueueSetting → List Entry → (Message → Bool) → List ℕ
all_with s h p = filter (waits_with s h p) (below (queue_count h))

open_before : (s : QueueSetting) (h h' : List Entry) (i : ℕ) → (is_deleted s h i ≡ true → is_deleted s h' i ≡ true) → is_deleted s h' i ≡ false → is_deleted s h i ≡ false
open_before s h h' i stays open' = false_from_ne_true (is_deleted s h i) (λ is. both_ways (is_deleted s h' i) open' (stays is))

waits_before : (s : QueueSetting) (h h' : List Entry) (p : Message → Bool) (i : ℕ) → (is_deleted s h i ≡ true → is_deleted s h' i ≡ true) → waits_with s h' p i ≡ true → waits_with s h p i ≡ true
waits_before s h h' p i stays passes =
    let fits = unwrap_or (option_map p (message_at s i)) false in
    let parts = and_parts (not (is_deleted s h' i)) fits passes in
    and_from (not (is_deleted s h i)) fits (not_from_false (is_deleted s h i) (open_before s h h' i stays (not-true (is_deleted s h' i) parts.0))) parts.1

stays_none : (s : QueueSetting) (h h' : List Entry) (p : Message → Bool) → Goes s h h' → all_with s h p ≡ [] → all_with s h' p ≡ []
stays_none s h h' p goes none =
    filter_none (waits_with s h' p) (below (queue_count h')) (λ i member passes.
    none_of (waits_with s h p) (below (queue_count h)) i none (subst (λ n. In (below n) i) goes.count member) (waits_before s h h' p i (goes.stays i) passes))

-- what is owed

owed_none : (s : QueueSetting) (h h' : List Entry) (xs : List ℕ) → ((i : ℕ) → is_deleted s h i ≡ true → is_deleted s h' i ≡ true) → filter (λ i. not (is_deleted s h i)) xs ≡ [] → filter (λ i. not (is_deleted s h' i)) xs ≡ []
owed_none s h h' xs stays none =
    filter_none (λ i. not (is_deleted s h' i)) xs (λ i member passes.
    none_of (λ i. not (is_deleted s h i)) xs i none member (not_from_false (is_deleted s h i) (open_before s h h' i (stays i) (not-true (is_deleted s h' i) passes))))

gave_on_succeeded : (s : QueueSetting) (h : List Entry) (by : Option LaneId) (places : List ℕ) (f : Fate) (m : ℕ) (lane : LaneId) → succeeded_places s (gave_on by places f m h) lane ≡ succeeded_places s h lane
gave_on_succeeded s h by [] f m lane = refl
gave_on_succeeded s h by (i ∷ places) f m lane = refl

gave_on_paid : (s : QueueSetting) (h : List Entry) (by : Option LaneId) (places : List ℕ) (f : Fate) (m : ℕ) (lane : LaneId) → owed_places s h lane ≡ [] → owed_places s (gave_on by places f m h) lane ≡ []
gave_on_paid s h by places f m lane none =
    let goes = gave_on_goes s h by places f m in
    ap (filter (λ i. not (is_deleted s (gave_on by places f m h) i))) (gave_on_succeeded s h by places f m lane)
    ∙ owed_none s h (gave_on by places f m h) (succeeded_places s h lane) goes.stays none

-- a deletion

or_none : (a : Bool) → a ≡ (a || false)
or_none true = refl
or_none false = refl

gave_on_deleted : (s : QueueSetting) (h : List Entry) (by : Option LaneId) (places : List ℕ) (f : Fate) (m i : ℕ) → i < length (queue_of s h).messages → is_deleted s (gave_on by places f m h) i ≡ (is_deleted s h i || holds places i)
gave_on_deleted s h by [] f m i low = or_none (is_deleted s h i)
gave_on_deleted s h by (p ∷ places) f m i low =
    let e : 0 + i ≡ i = omega arith in
    gone_more (p ∷ places) 0 (queue_of s h).messages i low ∙ ap (λ (k : ℕ). is_deleted s h i || holds (p ∷ places) k) e

-- the deletion of all that waits and passes leaves none that does
cleared : (s : QueueSetting) (h : List Entry) (p : Message → Bool) (by : Option LaneId) (places : List ℕ) (f : Fate) (m : ℕ) → Built s h → places ≡ all_with s h p → all_with s (gave_on by places f m h) p ≡ []
cleared s h p by places f m built is =
    let h' = gave_on by places f m h in
    let goes = gave_on_goes s h by places f m in
    filter_none (waits_with s h' p) (below (queue_count h')) (λ i member passes.
    let here : In (below (queue_count h)) i = subst (λ n. In (below n) i) goes.count member in
    let low : i < queue_count h = In-below (queue_count h) i here in
    let sized = stored_count s h built in
    let named : In places i = subst (λ ps. In ps i) (sym is) (filter-In (waits_with s h p) (below (queue_count h)) i here (waits_before s h h' p i (goes.stays i) passes)) in
    let open' : is_deleted s h' i ≡ false = not-true (is_deleted s h' i) (and_parts (not (is_deleted s h' i)) (unwrap_or (option_map p (message_at s i)) false) passes).0 in
    both_ways (holds places i) (or_parts (is_deleted s h i) (holds places i) (sym (gave_on_deleted s h by places f m i (omega (arith, sized, low))) ∙ open')).1 named)

-- the end of the input

pub shut_sound : (s : RedriveSetting) (h : List Entry) (m : ℕ) → Sound s h → is_shut h ≡ false → IsLater h m → Sound s (Shut m ∷ h)
shut_sound s h m sound going later = record {
  legal = (sound.legal, (later, (sound.settled, going)));
  settled = record { recorded = sound.settled.recorded; sorted = sound.settled.sorted; paid = sound.settled.paid };
}

-- a message is moved

pub moved_sound : (s : RedriveSetting) (h : List Entry) (lane : LaneId) (shard : ℕ) (places : List ℕ) (line : Option (List ℕ)) (state : Option WindowState) (m : ℕ) → Sound s h → IsLater h m → MayMove s h lane shard places line state m → Sound s (Gave (Some lane) shard places Exhausted line state m ∷ h)
moved_sound s h lane shard places line state m sound later may =
    let h' = Gave (Some lane) shard places Exhausted line state m ∷ h in
    let goes = gave_goes s.queue h (Some lane) shard places Exhausted line state m in
    record {
      legal = (sound.legal, (later, may));
      settled = record {
        recorded = stays_none s.queue h h' (has_dead_id s) goes sound.settled.recorded;
        sorted = stays_none s.queue h h' (is_refused_message s.queue) goes sound.settled.sorted;
        paid = owed_none s.queue h h' (succeeded_places s.queue h (queue_lane 0)) goes.stays sound.settled.paid;
      };
    }

-- a call begins

began_paid : (s : QueueSetting) (h : List Entry) (at lane : LaneId) (places : List ℕ) (m : ℕ) → owed_places s h lane ≡ [] → owed_places s (Began at places None m ∷ h) lane ≡ []
began_paid s h at lane places m none =
    let h' = Began at places None m ∷ h in
    elim (cases_Bool (same_lane at lane)) [
      | inl same ↦ ap (λ b. filter (λ i. not (is_deleted s h' i)) (cond b [] (succeeded_places s h lane))) same
      | inr other ↦ ap (λ b. filter (λ i. not (is_deleted s h' i)) (cond b [] (succeeded_places s h lane))) other
          ∙ owed_none s h h' (succeeded_places s h lane) (began_goes s h at places m).stays none
    ]

pub began_sound : (s : RedriveSetting) (h : List Entry) (lane : LaneId) (places : List ℕ) (m : ℕ) → Sound s h → IsLater h m → MayBeginRedrive s h lane places m → Sound s (Began lane places None m ∷ h)
began_sound s h lane places m sound later may =
    let h' = Began lane places None m ∷ h in
    let goes = began_goes s.queue h lane places m in
    record {
      legal = (sound.legal, (later, may));
      settled = record {
        recorded = stays_none s.queue h h' (has_dead_id s) goes sound.settled.recorded;
        sorted = stays_none s.queue h h' (is_refused_message s.queue) goes sound.settled.sorted;
        paid = began_paid s.queue h lane (queue_lane 0) places m sound.settled.paid;
      };
    }

-- the call ends

deleted_legal : (s : RedriveSetting) (h : List Entry) (places : List ℕ) (m : ℕ) → LegalRedrive s h → last_moment h ≡ m → m ≤ MAX_MOMENT → places ≡ owed_places s.queue h (queue_lane 0) → LegalRedrive s (gave_on (Some (queue_lane 0)) places Succeeded m h)
deleted_legal s h [] m legal now within is = legal
deleted_legal s h (i ∷ places) m legal now within is =
    (legal, (record { not_back = omega (arith, now); within = within }, record { batcher = refl; deletes = record { queue = refl; exact = is; some = omega arith; no_line = refl; no_state = refl; same_moment = sym now } }))

owed_cleared : (s : QueueSetting) (h : List Entry) (places : List ℕ) (m : ℕ) → Built s h → places ≡ owed_places s h (queue_lane 0) → owed_places s (gave_on (Some (queue_lane 0)) places Succeeded m h) (queue_lane 0) ≡ []
owed_cleared s h places m built is =
    let by : Option LaneId = Some (queue_lane 0) in
    let h' = gave_on by places Succeeded m h in
    let goes = gave_on_goes s h by places Succeeded m in
    let all = succeeded_places s h (queue_lane 0) in
    ap (filter (λ i. not (is_deleted s h' i))) (gave_on_succeeded s h by places Succeeded m (queue_lane 0))
    ∙ filter_none (λ i. not (is_deleted s h' i)) all (λ i member passes.
    let open' : is_deleted s h' i ≡ false = not-true (is_deleted s h' i) passes in
    let low = succeeded_came s h (queue_lane 0) built i member in
    let sized = stored_count s h built in
    let named : In places i = subst (λ ps. In ps i) (sym is) (filter-In (λ j. not (is_deleted s h j)) all i member (not_from_false (is_deleted s h i) (open_before s h h' i (goes.stays i) open'))) in
    both_ways (holds places i) (or_parts (is_deleted s h i) (holds places i) (sym (gave_on_deleted s h by places Succeeded m i (omega (arith, sized, low))) ∙ open')).1 named)

pub ended_sound : (s : RedriveSetting) (h : List Entry) (reply : Reply) (m : ℕ) → Sound s h → is_running h (queue_lane 0) ≡ true → IsLater h m → Sound s (gave_on (Some (queue_lane 0)) (ended_places s h reply m) Succeeded m (Ended (queue_lane 0) reply m ∷ h))
ended_sound s h reply m sound runs later =
    let ended = Ended (queue_lane 0) reply m ∷ h in
    let places = ended_places s h reply m in
    let goes = gave_on_goes s.queue ended (Some (queue_lane 0)) places Succeeded m in
    let legal : LegalRedrive s ended = (sound.legal, (later, record { batcher = refl; runs = runs })) in
    record {
      legal = deleted_legal s ended places m legal refl later.within refl;
      settled = record {
        recorded = stays_none s.queue ended (gave_on (Some (queue_lane 0)) places Succeeded m ended) (has_dead_id s) goes sound.settled.recorded;
        sorted = stays_none s.queue ended (gave_on (Some (queue_lane 0)) places Succeeded m ended) (is_refused_message s.queue) goes sound.settled.sorted;
        paid = owed_cleared s.queue ended places m (built_of s ended legal) refl;
      };
    }

-- places of messages that come

-- so many numbers from k on
abbrev upto : ℕ → ℕ → List ℕ
upto k zero = []
upto k (suc n) = k ∷ upto (k + 1) n

below_parts : (k n : ℕ) → below (k + n) ≡ below k ++ upto k n
below_parts k zero = (let e : k + 0 ≡ k = omega arith in ap below e) ∙ sym (append-nil (below k))
below_parts k (suc n) =
    let e : k + suc n ≡ suc k + n = omega arith in
    let f : k + 1 ≡ suc k = omega arith in
    ap below e ∙ (below_parts (suc k) n ∙ (append_assoc (below k) (k ∷ []) (upto (suc k) n) ∙ ap (λ j. below k ++ (k ∷ upto j n)) (sym f)))

get_past : {A : Type 0} (xs ys : List A) (j : ℕ) → slice_get (xs ++ ys) (length xs + j) ≡ slice_get ys j
get_past [] ys j = let e : 0 + j ≡ j = omega arith in ap (λ i. slice_get ys i) e
get_past (x ∷ xs) ys j = let e : suc (length xs) + j ≡ suc (length xs + j) = omega arith in ap (λ i. slice_get (x ∷ (xs ++ ys)) i) e ∙ get_past xs ys j

holds_later : (k i : ℕ) (places : List ℕ) → (k ≡ i → ⊥) → holds (k ∷ places) i ≡ holds places i
holds_later k i places other = ap (λ b. b || holds places i) (ne_eqb k i other)

low_none : (test : ℕ → Message → Bool) (k : ℕ) (xs : List Message) (i : ℕ) → i < k → holds (places_from test k xs) i ≡ false
low_none test k [] i low = refl
low_none test k (x ∷ xs) i low =
    let rest = low_none test (k + 1) xs i (omega arith) in
    elim (cases_Bool (test k x)) [
      | inl is ↦ rw is (holds_later k i (places_from test (k + 1) xs) (λ e. omega (arith, e)) ∙ rest)
      | inr fails ↦ rw fails rest
    ]

holds_from : (test : ℕ → Message → Bool) (k : ℕ) (xs : List Message) (j : ℕ) (x : Message) → slice_get xs j ≡ Some x → holds (places_from test k xs) (k + j) ≡ test (k + j) x
holds_from test k [] j x at = absurd (none-some x at)
holds_from test k (y ∷ xs) zero x at =
    let same : y ≡ x = same_Some y x at in
    let e : k + 0 ≡ k = omega arith in
    let next : k < k + 1 = omega arith in
    let rest = places_from test (k + 1) xs in
    let here : holds (cond (test k y) (k ∷ rest) rest) k ≡ test k y = elim (cases_Bool (test k y)) [
      | inl is ↦ rw is (or_left (k == k) (holds rest k) (eq-eqb k k refl))
      | inr fails ↦ rw fails (low_none test (k + 1) xs k next)
    ] in
    ap (holds (cond (test k y) (k ∷ rest) rest)) e ∙ (here ∙ ap₂ (λ (i : ℕ) (z : Message). test i z) (sym e) same)
holds_from test k (y ∷ xs) (suc j) x at =
    let e : k + suc j ≡ (k + 1) + j = omega arith in
    let apart : k ≡ k + suc j → ⊥ = λ same. omega (arith, same) in
    let rest = places_from test (k + 1) xs in
    let there : holds rest (k + suc j) ≡ test (k + suc j) x = ap (holds rest) e ∙ (holds_from test (k + 1) xs j x at ∙ ap (λ i. test i x) (sym e)) in
    elim (cases_Bool (test k y)) [
      | inl is ↦ rw is (holds_later k (k + suc j) rest apart ∙ there)
      | inr fails ↦ rw fails there
    ]

same_places : (p q : ℕ → Message → Bool) (k : ℕ) (xs : List Message) → ((i : ℕ) (x : Message) → p i x ≡ q i x) → places_from p k xs ≡ places_from q k xs
same_places p q k [] same = refl
same_places p q k (x ∷ xs) same = ap₂ (λ (b : Bool) (ys : List ℕ). cond b (k ∷ ys) ys) (same k x) (same_places p q (k + 1) xs same)

-- the messages from place k on that wait and pass, where it is known which are deleted
places_is : (s : QueueSetting) (h : List Entry) (p : Message → Bool) (g : ℕ → Message → Bool) (k : ℕ) (xs : List Message) → ((j : ℕ) (x : Message) → slice_get xs j ≡ Some x → is_deleted s h (k + j) ≡ g (k + j) x) → ((j : ℕ) → message_at s (k + j) ≡ slice_get xs j)
    → filter (waits_with s h p) (upto k (length xs)) ≡ places_from (λ i x. not (g i x) && p x) k xs
places_is s h p g k [] gone at = refl
places_is s h p g k (x ∷ xs) gone at =
    let e : k + 0 ≡ k = omega arith in
    let d : is_deleted s h k ≡ g k x = subst (λ i. is_deleted s h i ≡ g i x) e (gone 0 x refl) in
    let a : message_at s k ≡ Some x = subst (λ i. message_at s i ≡ Some x) e (at 0) in
    let rest = places_is s h p g (k + 1) xs
    (λ j y is. let f : k + suc j ≡ (k + 1) + j = omega arith in subst (λ i. is_deleted s h i ≡ g i y) f (gone (suc j) y is))
    (λ j. let f : k + suc j ≡ (k + 1) + j = omega arith in subst (λ i. message_at s i ≡ slice_get xs j) f (at (suc j))) in
    ap₂ (λ (b : Bool) (ys : List ℕ). cond b (k ∷ ys) ys)
    (ap₂ (λ (b : Bool) (o : Option Message). not b && unwrap_or (option_map p o) false) d a) rest

recorded_legal : (s : RedriveSetting) (h : List Entry) (places : List ℕ) (m : ℕ) → LegalRedrive s h → last_moment h ≡ m → m ≤ MAX_MOMENT → places ≡ known s h → LegalRedrive s (gave_on None places Exhausted m h)
recorded_legal s h [] m legal now within is = legal
recorded_legal s h (i ∷ places) m legal now within is =
    (legal, (record { not_back = omega (arith, now); within = within }, record { queue = refl; exact = is; some = omega arith; no_line = refl; no_state = refl; same_moment = sym now }))

filtered_legal : (s : RedriveSetting) (h : List Entry) (places : List ℕ) (m : ℕ) → LegalRedrive s h → known s h ≡ [] → last_moment h ≡ m → m ≤ MAX_MOMENT → places ≡ unsorted_messages s.queue h → LegalRedrive s (gave_on None places Filtered m h)
filtered_legal s h [] m legal none now within is = legal
filtered_legal s h (i ∷ places) m legal none now within is =
    (legal, (record { not_back = omega (arith, now); within = within }, record { recorded = none; filters = record { queue = refl; exact = is; some = omega arith; no_line = refl; no_state = refl; same_moment = sym now } }))

gave_on_moment : (by : Option LaneId) (places : List ℕ) (f : Fate) (m : ℕ) (h : List Entry) → last_moment h ≡ m → last_moment (gave_on by places f m h) ≡ m
gave_on_moment by [] f m h now = now
gave_on_moment by (i ∷ places) f m h now = refl

-- a message is dropped where it is neither found deleted nor known, and fails
dropped_is : (f d r : Bool) → (not (f || (not f && d)) && r) ≡ (not f && (not d && r))
dropped_is true d r = refl
dropped_is false true r = refl
dropped_is false false r = refl

module _ (s : RedriveSetting) (h : List Entry) (old xs : List Message) (m : ℕ) (b : Brings s h old xs m) (sound : Sound s h) where
  abbrev came : List Entry
  came = Came 0 (length old) (length xs) m ∷ h

  came_legal : LegalRedrive s came
  came_legal = (
    sound.legal,
    (
      b.later,
      record {
        recorded = sound.settled.recorded;
        comes = record {
          not_shut = b.going;
          queue = refl;
          next = sym b.number;
          some = b.some;
          within = let l = ap length b.all ∙ length-append old xs in omega arith;
          kept = b.kept;
        };
      },
    ),
  )

  part_is : take (length xs) (drop (length old) s.queue.messages) ≡ xs
  part_is = ap (λ ms. take (length xs) (drop (length old) ms)) b.all ∙ part_of old xs
    where
      part_of : (old xs : List Message) → take (length xs) (drop (length old) (old ++ xs)) ≡ xs
      part_of [] xs = take_all (length xs) xs (omega arith)
      part_of (x ∷ old) xs = part_of old xs

  came_deleted : (j : ℕ) (x : Message) → slice_get xs j ≡ Some x → is_deleted s.queue came (length old + j) ≡ is_found s.queue (length old + j)
  came_deleted j x at =
      let before = (queue_of s.queue h).messages in
      let n = stored_count s.queue h (built_of s h sound.legal) ∙ b.number in
      ap (λ ys. gone_in (before ++ coming_from s.queue m (length old) ys) (length old + j)) part_is
      ∙ (ap (λ k. gone_in (before ++ coming_from s.queue m (length old) xs) (k + j)) (sym n)
      ∙ (gone_right before (coming_from s.queue m (length old) xs) j ∙ gone_coming_at s.queue m (length old) xs j x at))
    where
      gone_coming_at : (q : QueueSetting) (m k : ℕ) (xs : List Message) (j : ℕ) (x : Message) → slice_get xs j ≡ Some x → gone_in (coming_from q m k xs) j ≡ is_found q (k + j)
      gone_coming_at q m k [] j x at = absurd (none-some x at)
      gone_coming_at q m k (y ∷ xs) zero x at = let e : k ≡ k + 0 = omega arith in ap (is_found q) e
      gone_coming_at q m k (y ∷ xs) (suc j) x at = let e : (k + 1) + j ≡ k + suc j = omega arith in gone_coming_at q m (k + 1) xs j x at ∙ ap (is_found q) e

  message_there : (j : ℕ) → message_at s.queue (length old + j) ≡ slice_get xs j
  message_there j = ap (λ ms. slice_get ms (length old + j)) b.all ∙ get_past old xs j

  count_is : queue_count came ≡ length old + length xs
  count_is = let n = b.number in omega (arith, n)

  came_stays : (i : ℕ) → is_deleted s.queue h i ≡ true → is_deleted s.queue came i ≡ true
  came_stays i is = stays_appended (queue_of s.queue h).messages (coming_from s.queue m (length old) (take (length xs) (drop (length old) s.queue.messages))) i is

  -- what waits and passes after more deletions, where nothing that came before did
  waiting_is : (h' : List Entry) (p : Message → Bool) (g : ℕ → Message → Bool) → all_with s.queue h p ≡ [] → Goes s.queue came h'
      → ((j : ℕ) (x : Message) → slice_get xs j ≡ Some x → is_deleted s.queue h' (length old + j) ≡ g (length old + j) x)
      → all_with s.queue h' p ≡ places_from (λ i x. not (g i x) && p x) (length old) xs
  waiting_is h' p g none goes gone =
      let front : filter (waits_with s.queue h' p) (below (length old)) ≡ [] = filter_none (waits_with s.queue h' p) (below (length old)) (λ i member passes.
      none_of (waits_with s.queue h p) (below (queue_count h)) i none (subst (λ n. In (below n) i) (sym b.number) member)
      (waits_before s.queue h h' p i (λ is. goes.stays i (came_stays i is)) passes)) in
      ap (λ n. filter (waits_with s.queue h' p) (below n)) (goes.count ∙ count_is)
      ∙ (ap (filter (waits_with s.queue h' p)) (below_parts (length old) (length xs))
      ∙ (filter-append (waits_with s.queue h' p) (below (length old)) (upto (length old) (length xs))
      ∙ ap₂ (λ (ys zs : List ℕ). ys ++ zs) front (places_is s.queue h' p g (length old) xs gone message_there)))

  known_is : known s came ≡ known_from s (length old) xs
  known_is = waiting_is came (has_dead_id s) (λ i x. is_found s.queue i) sound.settled.recorded (record { count = refl; stays = λ i is. is }) came_deleted

  abbrev recorded : List Entry
  recorded = recorded_on s old xs m h

  built : Built s.queue came
  built = built_of s came came_legal

  recorded_deleted : (j : ℕ) (x : Message) → slice_get xs j ≡ Some x → is_deleted s.queue recorded (length old + j) ≡ (is_found s.queue (length old + j) || is_known_at s (length old + j) x)
  recorded_deleted j x at =
      let sized = stored_count s.queue came built in
      let inside : j < length xs = slice_get_within xs j x at in
      let n = count_is in
      gave_on_deleted s.queue came None (known_from s (length old) xs) Exhausted m (length old + j) (omega (arith, sized, inside, n))
      ∙ ap₂ (λ (a c : Bool). a || c) (came_deleted j x at) (holds_from (is_known_at s) (length old) xs j x at)

  unsorted_is : unsorted_messages s.queue recorded ≡ dropped_from s (length old) xs
  unsorted_is =
      waiting_is recorded (is_refused_message s.queue) (λ i x. is_found s.queue i || is_known_at s i x) sound.settled.sorted (gave_on_goes s.queue came None (known_from s (length old) xs) Exhausted m) recorded_deleted
      ∙ same_places (λ i x. not (is_found s.queue i || is_known_at s i x) && is_refused_message s.queue x) (is_dropped_at s) (length old) xs
      (λ i x. dropped_is (is_found s.queue i) (has_dead_id s x) (is_refused_message s.queue x))

  recorded_is_legal : LegalRedrive s recorded
  recorded_is_legal = recorded_legal s came (known_from s (length old) xs) m came_legal refl b.later.within (sym known_is)

  none_known : known s recorded ≡ []
  none_known = cleared s.queue came (has_dead_id s) None (known_from s (length old) xs) Exhausted m built (sym known_is)

  pub came_sound : Sound s (gave_on None (dropped_from s (length old) xs) Filtered m recorded)
  came_sound =
      let places = dropped_from s (length old) xs in
      let goes = gave_on_goes s.queue recorded None places Filtered m in
      let now : last_moment recorded ≡ m = gave_on_moment None (known_from s (length old) xs) Exhausted m came refl in
      record {
        legal = filtered_legal s recorded places m recorded_is_legal none_known now b.later.within (sym unsorted_is);
        settled = record {
          recorded = stays_none s.queue recorded (gave_on None places Filtered m recorded) (has_dead_id s) goes none_known;
          sorted = cleared s.queue recorded (is_refused_message s.queue) None places Filtered m (built_of s recorded recorded_is_legal) (sym unsorted_is);
          paid = gave_on_paid s.queue recorded None places Filtered m (queue_lane 0)
              (gave_on_paid s.queue came None (known_from s (length old) xs) Exhausted m (queue_lane 0)
              (owed_none s.queue h came (succeeded_places s.queue h (queue_lane 0)) came_stays sound.settled.paid));
        };
      }
