-- What each entry leaves of a sound history.
use Rattle.std.proofs.Common.{◌≡◌, ℕ, zero, suc, ◌+◌, ◌<◌, Bool, true, false, not, cond, ◌&&◌, List, [], ◌∷◌, ◌++◌, length, take, drop, refl, sym, ap, ap₂, ◌∙◌, subst, inl, inr, arith, append_assoc, Option, Some, None}
use Rattle.std.specs.Prelude.{◌==◌, IsTrue, filter, slice_get, option_map, unwrap_or}
use Rattle.std.proofs.lemmas.List.{append-nil, length-append, take_all}
use Rattle.std.proofs.lemmas.List.Elements.{filter-append}
use Rattle.std.proofs.lemmas.Bool.{cases_Bool, and_parts, and_from, both_ways, not-true, not_from_false, false_from_ne_true, eqb-true}
use Rattle.esm_model.specs.declared.item.Message.{Message}
use Rattle.esm_model.specs.declared.lane.LaneId.{LaneId}
use Rattle.esm_model.specs.declared.entry.Fate.TheVariants.{Succeeded, Filtered}
use Rattle.esm_model.specs.declared.entry.Reply.{Reply}
use Rattle.esm_model.specs.declared.entry.Entry.{Entry}
use Rattle.esm_model.specs.declared.entry.Entry.TheVariants.{Came, Began, Ended, Gave, Shut}
use Rattle.esm_model.specs.declared.verdict.QueueReading.{QueueReading}
use Rattle.esm_model.specs.declared.verdict.QueueReading.TheVariants.{NotRun, Failed, Done}
use Rattle.esm_model.specs.Lane.{same_lane}
use Rattle.esm_model.specs.Entries.{holds, is_shut, is_running, last_call, batch_of}
use Rattle.esm_model.specs.Fates.{below}
use Rattle.esm_model.specs.QueueReading.{queue_reading}
use Rattle.esm_model.specs.Step.{IsLater}
use Rattle.esm_queue_model.specs.declared.stored.Stored.{Stored}
use Rattle.esm_queue_model.specs.Queue.{QueueState, is_deleted_at, changed_from, received_once, deleted_once, after_deletion}
use Rattle.esm_queue_model.specs.QueueSetting.{QueueSetting, message_at, ids_at, is_found}
use Rattle.esm_queue_model.specs.QueueEntries.{queue_of, queue_count, is_deleted, coming_from}
use Rattle.esm_queue_model.specs.QueueStep.{is_refused_message, is_unsorted_message, unsorted_messages, not_failed, succeeded_by, succeeded_in, succeeded_places, owed_places, SettledQueue, MayBeginQueue, LegalQueue}
use Rattle.esm_queue_model.proofs.Places.{In, In-here, In-there, In-cases, In-none, In-filter, filter-In, In-below}
use Rattle.esm_queue_model.proofs.MoreMessages.{stored_count, batch_came}
use Rattle.esm_queue.proofs.Changing.{slice_get-changed_from}
use Rattle.esm_queue_core.specs.Sound.{Sound, Brings, gave_on}
use Rattle.esm_queue_core.specs.Coming.{refused_from}
use Rattle.esm_queue_core.specs.Ending.{ended_places}

-- deletions

abbrev deleted_in : Option Stored → Bool
deleted_in o = unwrap_or (option_map (λ (x : Stored). x.deleted) o) false

-- a message that is there and deleted stays so where it is changed by what leaves deleted messages deleted
changed_stays : (f : Stored → Stored) → ((x : Stored) → x.deleted ≡ true → (f x).deleted ≡ true) → (b : Bool) (o : Option Stored) → deleted_in o ≡ true → deleted_in (option_map (λ (x : Stored). cond b (f x) x) o) ≡ true
changed_stays f stays b None is = is
changed_stays f stays true (Some x) is = stays x is
changed_stays f stays false (Some x) is = is

stays_changed : (f : Stored → Stored) → ((x : Stored) → x.deleted ≡ true → (f x).deleted ≡ true) → (places : List ℕ) (xs : List Stored) (i : ℕ) → deleted_in (slice_get xs i) ≡ true → deleted_in (slice_get (changed_from f places 0 xs) i) ≡ true
stays_changed f stays places xs i is =
    ap deleted_in (slice_get-changed_from f places 0 xs i) ∙ changed_stays f stays (holds places (0 + i)) (slice_get xs i) is

stays_appended : (xs ys : List Stored) (i : ℕ) → deleted_in (slice_get xs i) ≡ true → deleted_in (slice_get (xs ++ ys) i) ≡ true
stays_appended [] ys i is = absurd (both_ways false refl is)
stays_appended (x ∷ xs) ys zero is = is
stays_appended (x ∷ xs) ys (suc i) is = stays_appended xs ys i is

pub came_stays : (s : QueueSetting) (h : List Entry) (shard first count m i : ℕ) → is_deleted s h i ≡ true → is_deleted s (Came shard first count m ∷ h) i ≡ true
came_stays s h shard first count m i is = stays_appended (queue_of s h).messages (coming_from s m first (take count (drop first s.messages))) i is

pub gave_stays : (s : QueueSetting) (h : List Entry) (e : Entry) (places : List ℕ) (i : ℕ) → queue_of s (e ∷ h) ≡ after_deletion places (queue_of s h) → is_deleted s h i ≡ true → is_deleted s (e ∷ h) i ≡ true
gave_stays s h e places i after is = ap (λ (q : QueueState). is_deleted_at q i) after ∙ stays_changed deleted_once (λ x _. refl) places (queue_of s h).messages i is

pub began_stays : (s : QueueSetting) (h : List Entry) (lane : LaneId) (places : List ℕ) (closing : Option ℕ) (m i : ℕ) → is_deleted s h i ≡ true → is_deleted s (Began lane places closing m ∷ h) i ≡ true
began_stays s h lane places closing m i is = stays_changed (received_once m) (λ x d. d) places (queue_of s h).messages i is

-- a message that is there and named is deleted
named_deleted : (b : Bool) (xs : List Stored) (i : ℕ) → b ≡ true → i < length xs → deleted_in (option_map (λ (x : Stored). cond b (deleted_once x) x) (slice_get xs i)) ≡ true
named_deleted b [] i is l = absurd (omega arith)
named_deleted b (x ∷ xs) zero is l = rw is refl
named_deleted b (x ∷ xs) (suc i) is l = named_deleted b xs i is (omega arith)

pub gave_deletes : (q : QueueState) (places : List ℕ) (i : ℕ) → In places i → i < length q.messages → is_deleted_at (after_deletion places q) i ≡ true
gave_deletes q places i named l =
    let e : 0 + i ≡ i = omega arith in
    ap deleted_in (slice_get-changed_from deleted_once places 0 q.messages i) ∙ named_deleted (holds places (0 + i)) q.messages i (ap (holds places) e ∙ named) l

-- filters

pub filter_none : (p : ℕ → Bool) (xs : List ℕ) → ((i : ℕ) → In xs i → p i ≡ true → ⊥) → filter p xs ≡ []
filter_none p [] none = refl
filter_none p (x ∷ xs) none =
    elim (cases_Bool (p x)) [
      | inl is ↦ absurd (none x (In-here x xs x refl) is)
      | inr fails ↦ rw fails (filter_none p xs (λ i member passes. none i (In-there x xs i member) passes))
    ]

pub none_of : (p : ℕ → Bool) (xs : List ℕ) (i : ℕ) → filter p xs ≡ [] → In xs i → p i ≡ true → ⊥
none_of p xs i none member passes = In-none i (subst (λ ys. In ys i) none (filter-In p xs i member passes))

-- what is left where deleted messages stay deleted

-- no message is unsorted after an entry that brings none
unsorted_stays : (s : QueueSetting) (h h' : List Entry) → queue_count h' ≡ queue_count h → ((i : ℕ) → is_deleted s h i ≡ true → is_deleted s h' i ≡ true) → unsorted_messages s h ≡ [] → unsorted_messages s h' ≡ []
unsorted_stays s h h' same stays none =
    filter_none (is_unsorted_message s h') (below (queue_count h')) (λ i member passes.
    let parts = and_parts (not (is_deleted s h' i)) (unwrap_or (option_map (is_refused_message s) (message_at s i)) false) passes in
    let open' : is_deleted s h i ≡ false = false_from_ne_true (is_deleted s h i) (λ is. both_ways (is_deleted s h' i) (not-true (is_deleted s h' i) parts.0) (stays i is)) in
    none_of (is_unsorted_message s h) (below (queue_count h)) i none (subst (λ n. In (below n) i) same member)
    (and_from (not (is_deleted s h i)) (unwrap_or (option_map (is_refused_message s) (message_at s i)) false) (not_from_false (is_deleted s h i) open') parts.1))

-- of the places nothing is owed that was not owed before
owed_stays : (p p' : ℕ → Bool) (xs : List ℕ) → ((i : ℕ) → p i ≡ true → p' i ≡ true) → filter (λ i. not (p i)) xs ≡ [] → filter (λ i. not (p' i)) xs ≡ []
owed_stays p p' xs stays none =
    filter_none (λ i. not (p' i)) xs (λ i member passes.
    none_of (λ i. not (p i)) xs i none member
    (not_from_false (p i) (false_from_ne_true (p i) (λ is. both_ways (p' i) (not-true (p' i) passes) (stays i is)))))

-- the end of the input

pub shut_sound : (s : QueueSetting) (h : List Entry) (m : ℕ) → Sound s h → is_shut h ≡ false → IsLater h m → Sound s (Shut m ∷ h)
shut_sound s h m sound going later = record {
  legal = (sound.legal, (later, (sound.settled, going)));
  settled = record { sorted = sound.settled.sorted; paid = sound.settled.paid };
}

-- a call begins

began_paid : (s : QueueSetting) (h : List Entry) (at lane : LaneId) (places : List ℕ) (m : ℕ) → SettledQueue s h → owed_places s (Began at places None m ∷ h) lane ≡ []
began_paid s h at lane places m settled =
    elim (cases_Bool (same_lane at lane)) [
      | inl same ↦ ap (λ b. filter (λ i. not (is_deleted s (Began at places None m ∷ h) i)) (cond b [] (succeeded_places s h lane))) same
      | inr other ↦ ap (λ b. filter (λ i. not (is_deleted s (Began at places None m ∷ h) i)) (cond b [] (succeeded_places s h lane))) other
          ∙ owed_stays (is_deleted s h) (is_deleted s (Began at places None m ∷ h)) (succeeded_places s h lane) (λ i is. began_stays s h at places None m i is) (settled.paid lane)
    ]

pub began_sound : (s : QueueSetting) (h : List Entry) (lane : LaneId) (places : List ℕ) (m : ℕ) → Sound s h → IsLater h m → MayBeginQueue s h lane places m → Sound s (Began lane places None m ∷ h)
began_sound s h lane places m sound later may = record {
  legal = (sound.legal, (later, may));
  settled = record {
    sorted = unsorted_stays s h (Began lane places None m ∷ h) refl (λ i is. began_stays s h lane places None m i is) sound.settled.sorted;
    paid = λ at. began_paid s h lane at places m sound.settled;
  };
}

-- a call ends

In-not_failed : (failed : List ℕ) (k : ℕ) (places : List ℕ) (i : ℕ) → In (not_failed failed k places) i → In places i
In-not_failed failed k [] i member = member
In-not_failed failed k (x ∷ places) i member =
    elim (cases_Bool (holds failed k)) [
      | inl is ↦ In-there x places i (In-not_failed failed (k + 1) places i (rw is at member))
      | inr fails ↦ elim (In-cases x (not_failed failed (k + 1) places) i (rw fails at member)) [
        | inl e ↦ In-here x places i e
        | inr rest ↦ In-there x places i (In-not_failed failed (k + 1) places i rest)
      ]
    ]

pub In-succeeded : (r : QueueReading) (places : List ℕ) (i : ℕ) → In (succeeded_by r places) i → In places i
In-succeeded NotRun places i member = absurd (In-none i member)
In-succeeded Failed places i member = absurd (In-none i member)
In-succeeded (Done failed) places i member = In-not_failed failed 0 places i member

same_lane-refl : (lane : LaneId) → same_lane lane lane ≡ true
same_lane-refl lane = grind arith

-- what a lane's end calls for, and that no other lane is owed anything
pub ended_is : (s : QueueSetting) (h : List Entry) (lane : LaneId) (reply : Reply) (m : ℕ) → ended_places s h lane reply m ≡ filter (λ i. not (is_deleted s h i)) (succeeded_in s h lane reply)
ended_is s h lane reply m = ap (λ b. filter (λ i. not (is_deleted s h i)) (cond b (succeeded_in s h lane reply) (succeeded_places s h lane))) (same_lane-refl lane)

pub ended_came : (s : QueueSetting) (h : List Entry) (lane : LaneId) (reply : Reply) (m i : ℕ) → LegalQueue s h → In (ended_places s h lane reply m) i → i < length (queue_of s h).messages
ended_came s h lane reply m i legal member =
    let inside = In-filter (λ i. not (is_deleted s h i)) (succeeded_in s h lane reply) i (subst (λ ps. In ps i) (ended_is s h lane reply m) member) in
    let low = batch_came s h lane legal i (In-succeeded (queue_reading s.config (ids_at s (batch_of (last_call h lane))) reply) (batch_of (last_call h lane)) i inside.0) in
    let n = stored_count s h legal in
    omega arith

same_lane-true : (a b : LaneId) → same_lane a b ≡ true → a ≡ b
same_lane-true a b same =
    let parts = and_parts (a.shard == b.shard) (a.lane == b.lane) same in
    ap₂ (λ (n k : ℕ). record { shard = n; lane = k }) (eqb-true a.shard b.shard parts.0) (eqb-true a.lane b.lane parts.1)

abbrev after_end : List Entry → LaneId → Reply → ℕ → List Entry
after_end h lane reply m = Ended lane reply m ∷ h

-- where nothing is owed
ended_paid : (s : QueueSetting) (h : List Entry) (lane : LaneId) (reply : Reply) (m : ℕ) → SettledQueue s h → ended_places s h lane reply m ≡ [] → (at : LaneId) → owed_places s (after_end h lane reply m) at ≡ []
ended_paid s h lane reply m settled none at =
    elim (cases_Bool (same_lane lane at)) [
      | inl same ↦ subst (λ (l : LaneId). owed_places s (after_end h lane reply m) l ≡ []) (same_lane-true lane at same) none
      | inr other ↦ ap (λ b. filter (λ i. not (is_deleted s h i)) (cond b (succeeded_in s h at reply) (succeeded_places s h at))) other ∙ settled.paid at
    ]

-- a lane's deletion pays it, and leaves the others
module _ (s : QueueSetting) (h : List Entry) (lane : LaneId) (reply : Reply) (m : ℕ) (ps : List ℕ) where
  abbrev deleted_by : List Entry
  deleted_by = Gave (Some lane) 0 ps Succeeded None None m ∷ after_end h lane reply m

  paid_here : LegalQueue s h → ps ≡ ended_places s h lane reply m → owed_places s deleted_by lane ≡ []
  paid_here legal is =
      filter_none (λ i. not (is_deleted s deleted_by i)) (succeeded_places s (after_end h lane reply m) lane) (λ i member passes.
      let gone = not-true (is_deleted s deleted_by i) passes in
      let open' : is_deleted s h i ≡ false = false_from_ne_true (is_deleted s h i) (λ d. both_ways (is_deleted s deleted_by i) gone (gave_stays s (after_end h lane reply m) (Gave (Some lane) 0 ps Succeeded None None m) ps i refl d)) in
      let owed : In (ended_places s h lane reply m) i = filter-In (λ j. not (is_deleted s h j)) (succeeded_places s (after_end h lane reply m) lane) i member (not_from_false (is_deleted s h i) open') in
      let low = ended_came s h lane reply m i legal owed in
      both_ways (is_deleted s deleted_by i) gone (gave_deletes (queue_of s h) ps i (subst (λ xs. In xs i) (sym is) owed) low))

  paid_other : SettledQueue s h → (at : LaneId) → same_lane lane at ≡ false → owed_places s deleted_by at ≡ []
  paid_other settled at other =
      owed_stays (is_deleted s h) (is_deleted s deleted_by) (succeeded_places s (after_end h lane reply m) at)
      (λ i d. gave_stays s (after_end h lane reply m) (Gave (Some lane) 0 ps Succeeded None None m) ps i refl d)
      (ap (λ b. filter (λ i. not (is_deleted s h i)) (cond b (succeeded_in s h at reply) (succeeded_places s h at))) other ∙ settled.paid at)

  paid_all : LegalQueue s h → SettledQueue s h → ps ≡ ended_places s h lane reply m → (at : LaneId) → owed_places s deleted_by at ≡ []
  paid_all legal settled is at =
      elim (cases_Bool (same_lane lane at)) [
        | inl same ↦ subst (λ (l : LaneId). owed_places s deleted_by l ≡ []) (same_lane-true lane at same) (paid_here legal is)
        | inr other ↦ paid_other settled at other
      ]

pub ended_sound : (s : QueueSetting) (h : List Entry) (lane : LaneId) (reply : Reply) (m : ℕ) (ps : List ℕ) → Sound s h → IsTrue (is_running h lane) → IsLater h m → ps ≡ ended_places s h lane reply m
    → Sound s (gave_on (Some lane) ps Succeeded m (Ended lane reply m ∷ h))
ended_sound s h lane reply m [] sound runs later is = record {
  legal = (sound.legal, (later, runs));
  settled = record { sorted = sound.settled.sorted; paid = ended_paid s h lane reply m sound.settled (sym is) };
}
ended_sound s h lane reply m (i ∷ ps) sound runs later is = record {
  legal = (
    (sound.legal, (later, runs)),
    (
      record { not_back = omega arith; within = later.within },
      record {
        queue = refl;
        exact = is;
        some = omega arith;
        no_line = refl;
        no_state = refl;
        same_moment = refl;
      },
    ),
  );
  settled = record {
    sorted = unsorted_stays s (after_end h lane reply m) (Gave (Some lane) 0 (i ∷ ps) Succeeded None None m ∷ after_end h lane reply m) refl
        (λ j d. gave_stays s (after_end h lane reply m) (Gave (Some lane) 0 (i ∷ ps) Succeeded None None m) (i ∷ ps) j refl d) sound.settled.sorted;
    paid = paid_all s h lane reply m (i ∷ ps) sound.legal sound.settled is;
  };
}

-- messages come

-- so many numbers from k on
abbrev pub upto : ℕ → ℕ → List ℕ
upto k zero = []
upto k (suc n) = k ∷ upto (k + 1) n

below_parts : (k n : ℕ) → below (k + n) ≡ below k ++ upto k n
below_parts k zero = (let e : k + 0 ≡ k = omega arith in ap below e) ∙ sym (append-nil (below k))
below_parts k (suc n) =
    let e : k + suc n ≡ suc k + n = omega arith in
    let f : k + 1 ≡ suc k = omega arith in
    ap below e ∙ (below_parts (suc k) n ∙ (append_assoc (below k) (k ∷ []) (upto (suc k) n) ∙ ap (λ j. below k ++ (k ∷ upto j n)) (sym f)))

get_past : {A : Type 0} (xs ys : List A) (j : ℕ) → slice_get (xs ++ ys) (length xs + j) ≡ slice_get ys j
get_past [] ys j = let e : 0 + j ≡ j = omega arith in ap (λ i. slice_get ys i) e
get_past (x ∷ xs) ys j = let e : suc (length xs) + j ≡ suc (length xs + j) = omega arith in ap (λ i. slice_get (x ∷ (xs ++ ys)) i) e ∙ get_past xs ys j

-- a message that comes is deleted where it was found so
coming_deleted : (s : QueueSetting) (m k : ℕ) (xs : List Message) (j : ℕ) → j < length xs → deleted_in (slice_get (coming_from s m k xs) j) ≡ is_found s (k + j)
coming_deleted s m k [] j l = absurd (omega arith)
coming_deleted s m k (x ∷ xs) zero l = let e : k ≡ k + 0 = omega arith in ap (is_found s) e
coming_deleted s m k (x ∷ xs) (suc j) l = let e : (k + 1) + j ≡ k + suc j = omega arith in coming_deleted s m (k + 1) xs j (omega arith) ∙ ap (is_found s) e

-- of messages that come those are unsorted that are refused
refused_is : (s : QueueSetting) (h : List Entry) (k : ℕ) (xs : List Message) → ((j : ℕ) → j < length xs → is_deleted s h (k + j) ≡ is_found s (k + j)) → ((j : ℕ) → message_at s (k + j) ≡ slice_get xs j)
    → filter (is_unsorted_message s h) (upto k (length xs)) ≡ refused_from s k xs
refused_is s h k [] found at = refl
refused_is s h k (x ∷ xs) found at =
    let e : k + 0 ≡ k = omega arith in
    let d : is_deleted s h k ≡ is_found s k = subst (λ i. is_deleted s h i ≡ is_found s i) e (found 0 (omega arith)) in
    let a : message_at s k ≡ Some x = subst (λ i. message_at s i ≡ Some x) e (at 0) in
    let rest = refused_is s h (k + 1) xs
    (λ j l. let g : k + suc j ≡ (k + 1) + j = omega arith in subst (λ i. is_deleted s h i ≡ is_found s i) g (found (suc j) (omega arith)))
    (λ j. let g : k + suc j ≡ (k + 1) + j = omega arith in subst (λ i. message_at s i ≡ slice_get xs j) g (at (suc j))) in
    ap₂ (λ (b : Bool) (ys : List ℕ). cond b (k ∷ ys) ys)
    (ap₂ (λ (b : Bool) (o : Option Message). not b && unwrap_or (option_map (is_refused_message s) o) false) d a) rest

abbrev after_come : List Entry → ℕ → ℕ → ℕ → List Entry
after_come h n count m = Came 0 n count m ∷ h

module _ (s : QueueSetting) (h : List Entry) (old xs : List Message) (m : ℕ) (b : Brings s h old xs m) (sound : Sound s h) where
  brought : LegalQueue s (after_come h (length old) (length xs) m)
  brought = (
    sound.legal,
    (
      b.later,
      record {
        not_shut = b.going;
        queue = refl;
        next = sym b.number;
        some = b.some;
        within = let l = ap length b.all ∙ length-append old xs in omega arith;
        kept = b.kept;
      },
    ),
  )

  part_is : take (length xs) (drop (length old) s.messages) ≡ xs
  part_is = ap (λ ms. take (length xs) (drop (length old) ms)) b.all ∙ part_of old xs
    where
      part_of : (old xs : List Message) → take (length xs) (drop (length old) (old ++ xs)) ≡ xs
      part_of [] xs = take_all (length xs) xs (omega arith)
      part_of (x ∷ old) xs = part_of old xs

  stored_there : (j : ℕ) → j < length xs → is_deleted s (after_come h (length old) (length xs) m) (length old + j) ≡ is_found s (length old + j)
  stored_there j l =
      let q = queue_of s h in
      let n = stored_count s h sound.legal ∙ b.number in
      ap (λ ys. deleted_in (slice_get (q.messages ++ coming_from s m (length old) ys) (length old + j))) part_is
      ∙ (ap (λ k. deleted_in (slice_get (q.messages ++ coming_from s m (length old) xs) (k + j))) (sym n)
      ∙ (ap deleted_in (get_past q.messages (coming_from s m (length old) xs) j) ∙ coming_deleted s m (length old) xs j l))

  message_there : (j : ℕ) → message_at s (length old + j) ≡ slice_get xs j
  message_there j = ap (λ ms. slice_get ms (length old + j)) b.all ∙ get_past old xs j

  -- the messages that came before stay sorted
  before_sorted : filter (is_unsorted_message s (after_come h (length old) (length xs) m)) (below (length old)) ≡ []
  before_sorted =
      filter_none (is_unsorted_message s (after_come h (length old) (length xs) m)) (below (length old)) (λ i member passes.
      let now = is_deleted s (after_come h (length old) (length xs) m) i in
      let fails = unwrap_or (option_map (is_refused_message s) (message_at s i)) false in
      let parts = and_parts (not now) fails passes in
      let open' : is_deleted s h i ≡ false = false_from_ne_true (is_deleted s h i) (λ is. both_ways now (not-true now parts.0) (came_stays s h 0 (length old) (length xs) m i is)) in
      none_of (is_unsorted_message s h) (below (queue_count h)) i sound.settled.sorted (subst (λ n. In (below n) i) (sym b.number) member)
      (and_from (not (is_deleted s h i)) fails (not_from_false (is_deleted s h i) open') parts.1))

  pub unsorted_is : unsorted_messages s (after_come h (length old) (length xs) m) ≡ refused_from s (length old) xs
  unsorted_is =
      let number : length xs + queue_count h ≡ length old + length xs = omega (arith, b.number) in
      ap (λ n. filter (is_unsorted_message s (after_come h (length old) (length xs) m)) (below n)) number
      ∙ (ap (filter (is_unsorted_message s (after_come h (length old) (length xs) m))) (below_parts (length old) (length xs))
      ∙ (filter-append (is_unsorted_message s (after_come h (length old) (length xs) m)) (below (length old)) (upto (length old) (length xs))
      ∙ ap₂ (λ (ys zs : List ℕ). ys ++ zs) before_sorted (refused_is s (after_come h (length old) (length xs) m) (length old) xs stored_there message_there)))

  still_paid : (lane : LaneId) → owed_places s (after_come h (length old) (length xs) m) lane ≡ []
  still_paid lane =
      owed_stays (is_deleted s h) (is_deleted s (after_come h (length old) (length xs) m)) (succeeded_places s h lane)
      (λ i is. came_stays s h 0 (length old) (length xs) m i is) (sound.settled.paid lane)

-- the deletion of all that is unsorted sorts
sorted_by : (s : QueueSetting) (h : List Entry) (ps : List ℕ) (m : ℕ) → LegalQueue s h → ps ≡ unsorted_messages s h → unsorted_messages s (Gave None 0 ps Filtered None None m ∷ h) ≡ []
sorted_by s h ps m legal is =
    filter_none (is_unsorted_message s (Gave None 0 ps Filtered None None m ∷ h)) (below (queue_count h)) (λ i member passes.
    let now = is_deleted s (Gave None 0 ps Filtered None None m ∷ h) i in
    let fails = unwrap_or (option_map (is_refused_message s) (message_at s i)) false in
    let parts = and_parts (not now) fails passes in
    let gone = not-true now parts.0 in
    let open' : is_deleted s h i ≡ false = false_from_ne_true (is_deleted s h i) (λ d. both_ways now gone (gave_stays s h (Gave None 0 ps Filtered None None m) ps i refl d)) in
    let named : In (unsorted_messages s h) i = filter-In (is_unsorted_message s h) (below (queue_count h)) i member (and_from (not (is_deleted s h i)) fails (not_from_false (is_deleted s h i) open') parts.1) in
    let l = In-below (queue_count h) i member in
    let n = stored_count s h legal in
    let low : i < length (queue_of s h).messages = omega arith in
    both_ways now gone (gave_deletes (queue_of s h) ps i (subst (λ xs. In xs i) (sym is) named) low))

pub came_sound : (s : QueueSetting) (h : List Entry) (old xs : List Message) (m : ℕ) (ps : List ℕ) → Brings s h old xs m → Sound s h → ps ≡ refused_from s (length old) xs
    → Sound s (gave_on None ps Filtered m (Came 0 (length old) (length xs) m ∷ h))
came_sound s h old xs m [] b sound is = record {
  legal = brought s h old xs m b sound;
  settled = record { sorted = unsorted_is s h old xs m b sound ∙ sym is; paid = still_paid s h old xs m b sound };
}
came_sound s h old xs m (i ∷ ps) b sound is = record {
  legal = (
    brought s h old xs m b sound,
    (
      record { not_back = omega arith; within = b.later.within },
      record {
        queue = refl;
        exact = is ∙ sym (unsorted_is s h old xs m b sound);
        some = omega arith;
        no_line = refl;
        no_state = refl;
        same_moment = refl;
      },
    ),
  );
  settled = record {
    sorted = sorted_by s (after_come h (length old) (length xs) m) (i ∷ ps) m (brought s h old xs m b sound) (is ∙ sym (unsorted_is s h old xs m b sound));
    paid = λ lane. owed_stays (is_deleted s (after_come h (length old) (length xs) m)) (is_deleted s (Gave None 0 (i ∷ ps) Filtered None None m ∷ after_come h (length old) (length xs) m)) (succeeded_places s h lane)
        (λ j d. gave_stays s (after_come h (length old) (length xs) m) (Gave None 0 (i ∷ ps) Filtered None None m) (i ∷ ps) j refl d) (still_paid s h old xs m b sound lane);
  };
}
