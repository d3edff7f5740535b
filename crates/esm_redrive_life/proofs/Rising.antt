-- The places of each deletion of a legal history rise, a redrive's or an ordinary run's, and name messages that came and wait.
use Rattle.std.proofs.Common.{◌≡◌, ℕ, suc, ◌+◌, ◌<◌, ◌≤◌, Bool, true, false, cond, not, List, [], ◌∷◌, length, take, Option, Some, None, arith, inl, inr, refl, subst, sym}
use Rattle.std.specs.Prelude.{◌==◌, ◌&&◌, filter, nat_le, option_map, unwrap_or}
use Rattle.std.specs.Option.{option_or}
use Rattle.std.proofs.lemmas.Bool.{and_from, and_parts, cases_Bool, le-leb, not-true}
use Rattle.esm_model.specs.declared.entry.Entry.{Entry}
use Rattle.esm_model.specs.declared.entry.Entry.TheVariants.{Came, Began, Ended, Gave, Tried, Closed, Replayed, Shut}
use Rattle.esm_model.specs.declared.entry.Fate.{Fate}
use Rattle.esm_model.specs.declared.entry.Fate.TheVariants.{Succeeded, Filtered, Expired, Exhausted}
use Rattle.esm_model.specs.declared.entry.WindowState.{WindowState}
use Rattle.esm_model.specs.declared.lane.LaneId.{LaneId}
use Rattle.esm_model.specs.declared.verdict.QueueReading.{QueueReading}
use Rattle.esm_model.specs.declared.verdict.QueueReading.TheVariants.{NotRun, Failed, Done}
use Rattle.esm_model.specs.declared.moment.TheConstants.{MAX_MOMENT}
use Rattle.esm_model.specs.Entries.{batch_of, came_count, holds, last_call}
use Rattle.esm_model.specs.Fates.{below, given}
use Rattle.esm_model.specs.Lane.{same_lane}
use Rattle.esm_model.specs.QueueReading.{queue_reading}
use Rattle.esm_journal_record.specs.Payload.{is_deletion, rises_from}
use Rattle.esm_queue.specs.Receiving.{IsRising}
use Rattle.esm_queue.proofs.Fronts.{Rises_rising, Rises-filter_below, Rises-take}
use Rattle.esm_queue_model.specs.Queue.{eligible, is_eligible}
use Rattle.esm_queue_model.specs.QueueEntries.{is_deleted, queue_count, queue_lane, queue_of}
use Rattle.esm_queue_model.specs.QueueSetting.{QueueSetting, ids_at, message_at}
use Rattle.esm_queue_model.specs.QueueStep.{LegalQueue, MayGiveQueue, is_refused_message, is_unsorted_message, not_failed, succeeded_by, succeeded_places}
use Rattle.esm_queue_model.proofs.Places.{In, In-below, In-filter}
use Rattle.esm_queue_model.proofs.QueueBookLaws.{named_came}
use Rattle.esm_queue_model.proofs.QueueHistories.{called_exactly}
use Rattle.esm_redrive_model.specs.Due.{is_known}
use Rattle.esm_redrive_model.specs.RedriveSetting.{RedriveSetting}
use Rattle.esm_redrive_model.specs.RedriveStep.{LegalRedrive, MayGiveRedrive}
use Rattle.esm_redrive_model.proofs.Built.{AreEligible, Built, NamesWaiting}
use Rattle.esm_redrive_model.proofs.Named.{built_of}

-- rising lists

lower : (a b : ℕ) (xs : List ℕ) → a ≤ b → IsRising b xs → IsRising a xs
lower a b [] low rising = tt
lower a b (x ∷ xs) low rising = (let first = rising.0 in omega (arith, first, low), rising.1)

step : (a x : ℕ) (xs : List ℕ) → a ≤ x → IsRising (x + 1) xs → IsRising a xs
step a x xs low rising = lower a (x + 1) xs (omega (arith, low)) rising

rising_filter : (p : ℕ → Bool) (low : ℕ) (xs : List ℕ) → IsRising low xs → IsRising low (filter p xs)
rising_filter p low [] rising = tt
rising_filter p low (x ∷ xs) rising =
    elim (cases_Bool (p x)) [
      | inl is ↦ rw is (rising.0, rising_filter p (x + 1) xs rising.1)
      | inr fails ↦ rw fails (step low x (filter p xs) rising.0 (rising_filter p (x + 1) xs rising.1))
    ]

rising_not_failed : (failed : List ℕ) (k low : ℕ) (xs : List ℕ) → IsRising low xs → IsRising low (not_failed failed k xs)
rising_not_failed failed k low [] rising = tt
rising_not_failed failed k low (x ∷ xs) rising =
    elim (cases_Bool (holds failed k)) [
      | inl is ↦ rw is (step low x (not_failed failed (k + 1) xs) rising.0 (rising_not_failed failed (k + 1) (x + 1) xs rising.1))
      | inr fails ↦ rw fails (rising.0, rising_not_failed failed (k + 1) (x + 1) xs rising.1)
    ]

rising_succeeded : (r : QueueReading) (xs : List ℕ) → IsRising 0 xs → IsRising 0 (succeeded_by r xs)
rising_succeeded NotRun xs rising = tt
rising_succeeded Failed xs rising = tt
rising_succeeded (Done failed) xs rising = rising_not_failed failed 0 0 xs rising

pub rises_is : (low : ℕ) (xs : List ℕ) → IsRising low xs → rises_from low xs ≡ true
rises_is low [] rising = refl
rises_is low (x ∷ xs) rising =
    let e : x + 1 ≡ suc x = omega arith in
    and_from (nat_le low x) (rises_from (suc x) xs) (le-leb low x rising.0) (subst (λ n. rises_from n xs ≡ true) e (rises_is (x + 1) xs rising.1))

-- those that pass a test, of the first ones
rising_below : (p : ℕ → Bool) (n : ℕ) → IsRising 0 (filter p (below n))
rising_below p n = Rises_rising 0 n (filter p (below n)) (Rises-filter_below p n)

-- calls

batch_rises : (s : QueueSetting) (h : List Entry) (places : List ℕ) (m : ℕ) → AreEligible s h places m → IsRising 0 places
batch_rises s h places m are =
    let q = queue_of s h in
    subst (IsRising 0) (sym are.1)
    (Rises_rising 0 (length q.messages) (take are.0 (eligible q m)) (Rises-take 0 (length q.messages) are.0 (eligible q m) (Rises-filter_below (is_eligible q m) (length q.messages))))

call_rises : (s : QueueSetting) (h : List Entry) (lane : LaneId) → Built s h → IsRising 0 (batch_of (last_call h lane))
call_rises s [] lane built = tt
call_rises s (Began at places closing m ∷ h) lane built =
    elim (cases_Bool (same_lane at lane)) [ inl same ↦ rw same (batch_rises s h places m built.1) | inr other ↦ rw other (call_rises s h lane built.0) ]
call_rises s (Came shard first count m ∷ h) lane built = call_rises s h lane built.0
call_rises s (Ended at reply m ∷ h) lane built = call_rises s h lane built.0
call_rises s (Gave by shard places f line state m ∷ h) lane built = call_rises s h lane built.0
call_rises s (Tried at places closing tries m ∷ h) lane built = call_rises s h lane built.0
call_rises s (Closed at window m ∷ h) lane built = call_rises s h lane built.0
call_rises s (Replayed shard places m ∷ h) lane built = call_rises s h lane built.0
call_rises s (Shut m ∷ h) lane built = call_rises s h lane built.0

succeeded_rises : (s : QueueSetting) (h : List Entry) (lane : LaneId) → Built s h → IsRising 0 (succeeded_places s h lane)
succeeded_rises s [] lane built = tt
succeeded_rises s (Began at places closing m ∷ h) lane built =
    elim (cases_Bool (same_lane at lane)) [ inl same ↦ rw same tt | inr other ↦ rw other (succeeded_rises s h lane built.0) ]
succeeded_rises s (Ended at reply m ∷ h) lane built =
    elim (cases_Bool (same_lane at lane)) [
      | inl same ↦ rw same (let batch = batch_of (last_call h lane) in rising_succeeded (queue_reading s.config (ids_at s batch) reply) batch (call_rises s h lane built.0))
      | inr other ↦ rw other (succeeded_rises s h lane built.0)
    ]
succeeded_rises s (Came shard first count m ∷ h) lane built = succeeded_rises s h lane built.0
succeeded_rises s (Gave by shard places f line state m ∷ h) lane built = succeeded_rises s h lane built.0
succeeded_rises s (Tried at places closing tries m ∷ h) lane built = succeeded_rises s h lane built.0
succeeded_rises s (Closed at window m ∷ h) lane built = succeeded_rises s h lane built.0
succeeded_rises s (Replayed shard places m ∷ h) lane built = succeeded_rises s h lane built.0
succeeded_rises s (Shut m ∷ h) lane built = succeeded_rises s h lane built.0

-- deletions

-- the places of a deletion rise, there is one at least, and no message expires
pub record IsDeletion (places : List ℕ) (f : Fate) : Type 0 where
  pub rising : IsRising 0 places
  pub some : 1 ≤ length places
  pub deletes : is_deletion f ≡ true

-- so it is of each deletion of a history, and its moment may be told
abbrev pub Deletes : Entry → Type 0
Deletes (Gave by shard places f line state m) = IsDeletion places f × (m ≤ MAX_MOMENT)
Deletes _ = Unit {0}

abbrev pub AllDelete : List Entry → Type 0
AllDelete [] = Unit {0}
AllDelete (e ∷ h) = AllDelete h × Deletes e

-- and it names messages that came and wait
abbrev pub IsTellable : QueueSetting → List Entry → Type 0
IsTellable s h = Built s h × AllDelete h

-- a redrive

gives : (s : RedriveSetting) (h : List Entry) (by : Option LaneId) (shard : ℕ) (places : List ℕ) (f : Fate) (line : Option (List ℕ)) (state : Option WindowState) (m : ℕ) → LegalRedrive s h → MayGiveRedrive s h by shard places f line state m → IsDeletion places f
gives s h None shard places Exhausted line state m legal may = record { rising = subst (IsRising 0) (sym may.exact) (rising_below (is_known s h) (queue_count h)); some = may.some; deletes = refl }
gives s h None shard places Filtered line state m legal may = record {
  rising = subst (IsRising 0) (sym may.filters.exact) (rising_below (is_unsorted_message s.queue h) (queue_count h));
  some = may.filters.some;
  deletes = refl;
}
gives s h (Some lane) shard places Exhausted line state m legal may = record {
  rising = subst (IsRising 0) (sym may.exact) (omega arith, tt);
  some = subst (λ (ps : List ℕ). 1 ≤ length ps) (sym may.exact) (omega arith);
  deletes = refl;
}
gives s h (Some lane) shard places Succeeded line state m legal may = record {
  rising = subst (IsRising 0) (sym may.deletes.exact) (rising_filter (λ i. not (is_deleted s.queue h i)) 0 (succeeded_places s.queue h (queue_lane 0)) (succeeded_rises s.queue h (queue_lane 0) (built_of s h legal)));
  some = may.deletes.some;
  deletes = refl;
}
gives s h None shard places Succeeded line state m legal may = absurd may
gives s h None shard places Expired line state m legal may = absurd may
gives s h (Some lane) shard places Filtered line state m legal may = absurd may
gives s h (Some lane) shard places Expired line state m legal may = absurd may

redrive_deletes : (s : RedriveSetting) (h : List Entry) → LegalRedrive s h → AllDelete h
redrive_deletes s [] legal = tt
redrive_deletes s (Gave by shard places f line state m ∷ h) legal = (redrive_deletes s h legal.0, (gives s h by shard places f line state m legal.0 legal.1.1, legal.1.0.within))
redrive_deletes s (Came shard first count m ∷ h) legal = (redrive_deletes s h legal.0, tt)
redrive_deletes s (Began lane places closing m ∷ h) legal = (redrive_deletes s h legal.0, tt)
redrive_deletes s (Ended lane reply m ∷ h) legal = (redrive_deletes s h legal.0, tt)
redrive_deletes s (Tried lane places closing tries m ∷ h) legal = (redrive_deletes s h legal.0, tt)
redrive_deletes s (Closed lane window m ∷ h) legal = (redrive_deletes s h legal.0, tt)
redrive_deletes s (Replayed shard places m ∷ h) legal = (redrive_deletes s h legal.0, tt)
redrive_deletes s (Shut m ∷ h) legal = (redrive_deletes s h legal.0, tt)

pub redrive_tells : (s : RedriveSetting) (h : List Entry) → LegalRedrive s h → IsTellable s.queue h
redrive_tells s h legal = (built_of s h legal, redrive_deletes s h legal)

-- an ordinary run

queue_names : (s : QueueSetting) (h : List Entry) (by : Option LaneId) (shard : ℕ) (places : List ℕ) (f : Fate) (line : Option (List ℕ)) (state : Option WindowState) (m : ℕ) → LegalQueue s (Gave by shard places f line state m ∷ h) → MayGiveQueue s h by shard places f line state m
    → NamesWaiting s h shard places
queue_names s h None shard places Filtered line state m legal may = record {
  queue = may.queue;
  came = λ i member. In-below (queue_count h) i (In-filter (is_unsorted_message s h) (below (queue_count h)) i (subst (λ (ps : List ℕ). In ps i) may.exact member)).0;
  wait = λ i member. not-true (is_deleted s h i) (and_parts (not (is_deleted s h i)) (unwrap_or (option_map (is_refused_message s) (message_at s i)) false) (In-filter (is_unsorted_message s h) (below (queue_count h)) i (subst (λ (ps : List ℕ). In ps i) may.exact member)).1).0;
}
queue_names s h (Some lane) shard places Succeeded line state m legal may = record {
  queue = may.queue;
  came = λ i member. subst (λ n. i < came_count h n) may.queue (named_came s h (Gave (Some lane) shard places Succeeded line state m) legal i member);
  wait = λ i member. not-true (is_deleted s h i) (In-filter (λ j. not (is_deleted s h j)) (succeeded_places s h lane) i (subst (λ (ps : List ℕ). In ps i) may.exact member)).1;
}
queue_names s h None shard places Succeeded line state m legal may = absurd may
queue_names s h None shard places Expired line state m legal may = absurd may
queue_names s h None shard places Exhausted line state m legal may = absurd may
queue_names s h (Some lane) shard places Filtered line state m legal may = absurd may
queue_names s h (Some lane) shard places Expired line state m legal may = absurd may
queue_names s h (Some lane) shard places Exhausted line state m legal may = absurd may

queue_built : (s : QueueSetting) (h : List Entry) → LegalQueue s h → Built s h
queue_built s [] legal = tt
queue_built s (Came shard first count m ∷ h) legal = (queue_built s h legal.0, legal.1.1)
queue_built s (Began lane places closing m ∷ h) legal = (queue_built s h legal.0, called_exactly s h lane places closing m legal.1.1)
queue_built s (Gave by shard places f line state m ∷ h) legal = (queue_built s h legal.0, queue_names s h by shard places f line state m legal legal.1.1)
queue_built s (Ended lane reply m ∷ h) legal = (queue_built s h legal.0, tt)
queue_built s (Tried lane places closing tries m ∷ h) legal = (queue_built s h legal.0, tt)
queue_built s (Closed lane window m ∷ h) legal = (queue_built s h legal.0, tt)
queue_built s (Replayed shard places m ∷ h) legal = (queue_built s h legal.0, tt)
queue_built s (Shut m ∷ h) legal = (queue_built s h legal.0, tt)

queue_gives : (s : QueueSetting) (h : List Entry) (by : Option LaneId) (shard : ℕ) (places : List ℕ) (f : Fate) (line : Option (List ℕ)) (state : Option WindowState) (m : ℕ) → LegalQueue s h → MayGiveQueue s h by shard places f line state m → IsDeletion places f
queue_gives s h None shard places Filtered line state m legal may = record { rising = subst (IsRising 0) (sym may.exact) (rising_below (is_unsorted_message s h) (queue_count h)); some = may.some; deletes = refl }
queue_gives s h (Some lane) shard places Succeeded line state m legal may = record {
  rising = subst (IsRising 0) (sym may.exact) (rising_filter (λ i. not (is_deleted s h i)) 0 (succeeded_places s h lane) (succeeded_rises s h lane (queue_built s h legal)));
  some = may.some;
  deletes = refl;
}
queue_gives s h None shard places Succeeded line state m legal may = absurd may
queue_gives s h None shard places Expired line state m legal may = absurd may
queue_gives s h None shard places Exhausted line state m legal may = absurd may
queue_gives s h (Some lane) shard places Filtered line state m legal may = absurd may
queue_gives s h (Some lane) shard places Expired line state m legal may = absurd may
queue_gives s h (Some lane) shard places Exhausted line state m legal may = absurd may

queue_deletes : (s : QueueSetting) (h : List Entry) → LegalQueue s h → AllDelete h
queue_deletes s [] legal = tt
queue_deletes s (Gave by shard places f line state m ∷ h) legal = (queue_deletes s h legal.0, (queue_gives s h by shard places f line state m legal.0 legal.1.1, legal.1.0.within))
queue_deletes s (Came shard first count m ∷ h) legal = (queue_deletes s h legal.0, tt)
queue_deletes s (Began lane places closing m ∷ h) legal = (queue_deletes s h legal.0, tt)
queue_deletes s (Ended lane reply m ∷ h) legal = (queue_deletes s h legal.0, tt)
queue_deletes s (Tried lane places closing tries m ∷ h) legal = (queue_deletes s h legal.0, tt)
queue_deletes s (Closed lane window m ∷ h) legal = (queue_deletes s h legal.0, tt)
queue_deletes s (Replayed shard places m ∷ h) legal = (queue_deletes s h legal.0, tt)
queue_deletes s (Shut m ∷ h) legal = (queue_deletes s h legal.0, tt)

pub queue_tells : (s : QueueSetting) (h : List Entry) → LegalQueue s h → IsTellable s h
queue_tells s h legal = (queue_built s h legal, queue_deletes s h legal)

-- it gives no message the fate of a move

abbrev pub IsOrdinary : Option Fate → Type 0
IsOrdinary None = Unit {0}
IsOrdinary (Some Succeeded) = Unit {0}
IsOrdinary (Some Filtered) = Unit {0}
IsOrdinary (Some Expired) = ⊥
IsOrdinary (Some Exhausted) = ⊥

gives_ordinary : (s : QueueSetting) (h : List Entry) (by : Option LaneId) (shard : ℕ) (places : List ℕ) (f : Fate) (line : Option (List ℕ)) (state : Option WindowState) (m : ℕ) → MayGiveQueue s h by shard places f line state m → IsOrdinary (Some f)
gives_ordinary s h None shard places Filtered line state m may = tt
gives_ordinary s h (Some lane) shard places Succeeded line state m may = tt
gives_ordinary s h None shard places Succeeded line state m may = absurd may
gives_ordinary s h None shard places Expired line state m may = absurd may
gives_ordinary s h None shard places Exhausted line state m may = absurd may
gives_ordinary s h (Some lane) shard places Filtered line state m may = absurd may
gives_ordinary s h (Some lane) shard places Expired line state m may = absurd may
gives_ordinary s h (Some lane) shard places Exhausted line state m may = absurd may

either_ordinary : (g : Option Fate) (b : Bool) (f : Fate) → IsOrdinary g → IsOrdinary (Some f) → IsOrdinary (option_or g (cond b (Some f) None))
either_ordinary (Some x) b f is own = is
either_ordinary None true f is own = own
either_ordinary None false f is own = tt

pub given_ordinary : (s : QueueSetting) (h : List Entry) → LegalQueue s h → (i : ℕ) → IsOrdinary (given h 0 i)
given_ordinary s [] legal i = tt
given_ordinary s (Gave by shard places f line state m ∷ h) legal i = either_ordinary (given h 0 i) ((shard == 0) && holds places i) f (given_ordinary s h legal.0 i) (gives_ordinary s h by shard places f line state m legal.1.1)
given_ordinary s (Came shard first count m ∷ h) legal i = given_ordinary s h legal.0 i
given_ordinary s (Began lane places closing m ∷ h) legal i = given_ordinary s h legal.0 i
given_ordinary s (Ended lane reply m ∷ h) legal i = given_ordinary s h legal.0 i
given_ordinary s (Tried lane places closing tries m ∷ h) legal i = given_ordinary s h legal.0 i
given_ordinary s (Closed lane window m ∷ h) legal i = given_ordinary s h legal.0 i
given_ordinary s (Replayed shard places m ∷ h) legal i = given_ordinary s h legal.0 i
given_ordinary s (Shut m ∷ h) legal i = given_ordinary s h legal.0 i
