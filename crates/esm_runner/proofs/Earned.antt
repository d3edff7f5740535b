-- A message is deleted exactly where that is earned.
use Rattle.std.proofs.Common.{◌≡◌, ◌∙◌, ◌⊎◌, ℕ, ◌<◌, true, false, not, List, [], ◌∷◌, ◌++◌, Option, Some, None, ap, arith, inl, inr, refl, subst, sym}
use Rattle.std.specs.Prelude.{option_map, unwrap_or}
use Rattle.std.proofs.lemmas.Bool.{and_from, and_parts, both_ways, cases_Bool, not-true, not_from_false}
use Rattle.esm_model.specs.declared.entry.Entry.{Entry}
use Rattle.esm_model.specs.declared.entry.Entry.TheVariants.{Came, Began, Ended, Gave, Tried, Closed, Replayed, Shut}
use Rattle.esm_model.specs.declared.entry.Fate.{Fate}
use Rattle.esm_model.specs.declared.entry.Fate.TheVariants.{Succeeded, Filtered, Expired, Exhausted}
use Rattle.esm_model.specs.declared.entry.Reply.{Reply}
use Rattle.esm_model.specs.declared.entry.WindowState.{WindowState}
use Rattle.esm_model.specs.declared.item.Message.{Message}
use Rattle.esm_model.specs.declared.lane.LaneId.{LaneId}
use Rattle.esm_model.specs.Entries.{is_running}
use Rattle.esm_model.specs.Fates.{below}
use Rattle.esm_model.specs.Filter.{passes_message}
use Rattle.esm_model.specs.Lane.{same_lane}
use Rattle.esm_model.proofs.Steps.{same_lane-refl}
use Rattle.esm_queue_model.specs.QueueEntries.{is_deleted, queue_count}
use Rattle.esm_queue_model.specs.QueueSetting.{QueueSetting, is_found, message_at}
use Rattle.esm_queue_model.specs.QueueStep.{LegalQueue, MayGiveQueue, SettledQueue, is_refused_message, is_unsorted_message, succeeded_in, succeeded_places}
use Rattle.esm_queue_model.proofs.Places.{In, In-filter, In-none, below-In}
use Rattle.esm_queue_model.proofs.QueueTests.{same_lane-true}
use Rattle.esm_queue_core.proofs.Settling.{none_of}
use Rattle.esm_runner.specs.Earned.{DeletedAllEarned, DeletedOnlyEarned, FailsFilter, HasSucceeded, IsEarned}
use Rattle.esm_runner.proofs.Deletions.{come_found, come_or_was, given_or_was, received_was, stays_deleted}

-- one more entry leaves what is earned

succeeded_more : (s : QueueSetting) (h : List Entry) (e : Entry) (i : ℕ) → HasSucceeded s h i → HasSucceeded s (e ∷ h) i
succeeded_more s h e i has = record {
  later = e ∷ has.later;
  before = has.before;
  lane = has.lane;
  reply = has.reply;
  moment = has.moment;
  split = ap (λ (es : List Entry). e ∷ es) has.split;
  counted = has.counted;
}

earned_more : (s : QueueSetting) (h : List Entry) (e : Entry) (i : ℕ) → IsEarned s h i → IsEarned s (e ∷ h) i
earned_more s h e i (inl found) = inl found
earned_more s h e i (inr (inl has)) = inr (inl (succeeded_more s h e i has))
earned_more s h e i (inr (inr fails)) = inr (inr fails)

-- only what is earned is deleted

-- a place that succeeded in a lane's last call
succeeded_there : (s : QueueSetting) (h : List Entry) (lane : LaneId) (i : ℕ) → In (succeeded_places s h lane) i → HasSucceeded s h i
succeeded_there s [] lane i member = absurd (In-none i member)
succeeded_there s (Began at places closing m ∷ h) lane i member =
    elim (cases_Bool (same_lane at lane)) [
      | inl same ↦ absurd (In-none i (rw same at member))
      | inr other ↦ succeeded_more s h (Began at places closing m) i (succeeded_there s h lane i (rw other at member))
    ]
succeeded_there s (Ended at reply m ∷ h) lane i member =
    elim (cases_Bool (same_lane at lane)) [
      | inl same ↦ record {
        later = [];
        before = h;
        lane = lane;
        reply = reply;
        moment = m;
        split = ap (λ (l : LaneId). Ended l reply m ∷ h) (same_lane-true at lane same);
        counted = rw same at member;
      }
      | inr other ↦ succeeded_more s h (Ended at reply m) i (succeeded_there s h lane i (rw other at member))
    ]
succeeded_there s (Came shard first count m ∷ h) lane i member = succeeded_more s h (Came shard first count m) i (succeeded_there s h lane i member)
succeeded_there s (Gave by shard places f line state m ∷ h) lane i member = succeeded_more s h (Gave by shard places f line state m) i (succeeded_there s h lane i member)
succeeded_there s (Tried at places closing tries m ∷ h) lane i member = succeeded_more s h (Tried at places closing tries m) i (succeeded_there s h lane i member)
succeeded_there s (Closed at window m ∷ h) lane i member = succeeded_more s h (Closed at window m) i (succeeded_there s h lane i member)
succeeded_there s (Replayed shard places m ∷ h) lane i member = succeeded_more s h (Replayed shard places m) i (succeeded_there s h lane i member)
succeeded_there s (Shut m ∷ h) lane i member = succeeded_more s h (Shut m) i (succeeded_there s h lane i member)

fails_filter : (s : QueueSetting) (i : ℕ) (o : Option Message) → message_at s i ≡ o → unwrap_or (option_map (is_refused_message s) o) false ≡ true → FailsFilter s i
fails_filter s i None at fails = absurd (both_ways false refl fails)
fails_filter s i (Some x) at fails = record { message = x; at = at; fails = not-true (passes_message s.config.filters x) fails }

given_earned : (s : QueueSetting) (h : List Entry) (by : Option LaneId) (shard : ℕ) (places : List ℕ) (f : Fate) (line : Option (List ℕ)) (state : Option WindowState) (m i : ℕ) → MayGiveQueue s h by shard places f line state m → In places i → IsEarned s h i
given_earned s h None shard places Filtered line state m i may member =
    let passes : is_unsorted_message s h i ≡ true = (In-filter (is_unsorted_message s h) (below (queue_count h)) i (subst (λ ps. In ps i) may.exact member)).1 in
    inr (inr (fails_filter s i (message_at s i) refl (and_parts (not (is_deleted s h i)) (unwrap_or (option_map (is_refused_message s) (message_at s i)) false) passes).1))
given_earned s h (Some lane) shard places Succeeded line state m i may member =
    inr (inl (succeeded_there s h lane i (In-filter (λ j. not (is_deleted s h j)) (succeeded_places s h lane) i (subst (λ ps. In ps i) may.exact member)).0))
given_earned s h None shard places Succeeded line state m i may member = absurd may
given_earned s h None shard places Expired line state m i may member = absurd may
given_earned s h None shard places Exhausted line state m i may member = absurd may
given_earned s h (Some lane) shard places Filtered line state m i may member = absurd may
given_earned s h (Some lane) shard places Expired line state m i may member = absurd may
given_earned s h (Some lane) shard places Exhausted line state m i may member = absurd may

deleted_earned : (s : QueueSetting) (h : List Entry) → LegalQueue s h → (i : ℕ) → is_deleted s h i ≡ true → IsEarned s h i
deleted_earned s [] legal i is = absurd (both_ways false refl is)
deleted_earned s (Came shard first count m ∷ h) legal i is =
    elim (come_or_was s h shard first count m legal.0 legal.1.1 i is) [
      | inl before ↦ earned_more s h (Came shard first count m) i (deleted_earned s h legal.0 i before)
      | inr found ↦ inl found
    ]
deleted_earned s (Began lane places closing m ∷ h) legal i is = earned_more s h (Began lane places closing m) i (deleted_earned s h legal.0 i (received_was s h places m i is))
deleted_earned s (Gave by shard places f line state m ∷ h) legal i is =
    elim (given_or_was s h places i is) [
      | inl before ↦ earned_more s h (Gave by shard places f line state m) i (deleted_earned s h legal.0 i before)
      | inr named ↦ earned_more s h (Gave by shard places f line state m) i (given_earned s h by shard places f line state m i legal.1.1 named)
    ]
deleted_earned s (Ended lane reply m ∷ h) legal i is = earned_more s h (Ended lane reply m) i (deleted_earned s h legal.0 i is)
deleted_earned s (Tried lane places closing tries m ∷ h) legal i is = earned_more s h (Tried lane places closing tries m) i (deleted_earned s h legal.0 i is)
deleted_earned s (Closed lane window m ∷ h) legal i is = earned_more s h (Closed lane window m) i (deleted_earned s h legal.0 i is)
deleted_earned s (Replayed shard places m ∷ h) legal i is = earned_more s h (Replayed shard places m) i (deleted_earned s h legal.0 i is)
deleted_earned s (Shut m ∷ h) legal i is = earned_more s h (Shut m) i (deleted_earned s h legal.0 i is)

pub only_earned : (s : QueueSetting) (h : List Entry) → LegalQueue s h → DeletedOnlyEarned s h
only_earned s h legal i low is = deleted_earned s h legal i is

-- all that is earned is deleted, where nothing is called for

-- what was found deleted is deleted once it came
pub found_deleted : (s : QueueSetting) (h : List Entry) → LegalQueue s h → (i : ℕ) → i < queue_count h → is_found s i ≡ true → is_deleted s h i ≡ true
found_deleted s [] legal i low found = absurd (omega arith)
found_deleted s (Came shard first count m ∷ h) legal i low found = come_found s h shard first count m legal.0 legal.1.1 i low found (λ before. found_deleted s h legal.0 i before found)
found_deleted s (Began lane places closing m ∷ h) legal i low found = stays_deleted s h (Began lane places closing m) i (found_deleted s h legal.0 i low found)
found_deleted s (Ended lane reply m ∷ h) legal i low found = found_deleted s h legal.0 i low found
found_deleted s (Gave by shard places f line state m ∷ h) legal i low found = stays_deleted s h (Gave by shard places f line state m) i (found_deleted s h legal.0 i low found)
found_deleted s (Tried lane places closing tries m ∷ h) legal i low found = found_deleted s h legal.0 i low found
found_deleted s (Closed lane window m ∷ h) legal i low found = found_deleted s h legal.0 i low found
found_deleted s (Replayed shard places m ∷ h) legal i low found = found_deleted s h legal.0 i low found
found_deleted s (Shut m ∷ h) legal i low found = found_deleted s h legal.0 i low found

-- while a lane runs nothing of its last call has succeeded
running_none : (s : QueueSetting) (h : List Entry) (lane : LaneId) → is_running h lane ≡ true → succeeded_places s h lane ≡ []
running_none s [] lane runs = absurd (both_ways false refl runs)
running_none s (Began at places closing m ∷ h) lane runs =
    elim (cases_Bool (same_lane at lane)) [
      | inl same ↦ rw same refl
      | inr other ↦ rw other (running_none s h lane (rw other at runs))
    ]
running_none s (Ended at reply m ∷ h) lane runs =
    elim (cases_Bool (same_lane at lane)) [
      | inl same ↦ absurd (both_ways false refl (rw same at runs))
      | inr other ↦ rw other (running_none s h lane (rw other at runs))
    ]
running_none s (Came shard first count m ∷ h) lane runs = running_none s h lane runs
running_none s (Gave by shard places f line state m ∷ h) lane runs = running_none s h lane runs
running_none s (Tried at places closing tries m ∷ h) lane runs = running_none s h lane runs
running_none s (Closed at window m ∷ h) lane runs = running_none s h lane runs
running_none s (Replayed shard places m ∷ h) lane runs = running_none s h lane runs
running_none s (Shut m ∷ h) lane runs = running_none s h lane runs

-- what a lane is paid is deleted
paid_deleted : (s : QueueSetting) (h : List Entry) (lane : LaneId) (i : ℕ) → SettledQueue s h → In (succeeded_places s h lane) i → is_deleted s h i ≡ true
paid_deleted s h lane i settled member =
    elim (cases_Bool (is_deleted s h i)) [
      | inl is ↦ is
      | inr waits ↦ absurd (none_of (λ j. not (is_deleted s h j)) (succeeded_places s h lane) i (settled.paid lane) member (not_from_false (is_deleted s h i) waits))
    ]

-- a place that succeeded in a call is deleted, or stands in what its lane's last call succeeded with
abbrev IsPaidOrOwed : QueueSetting → List Entry → LaneId → ℕ → Type 0
IsPaidOrOwed s h lane i = (is_deleted s h i ≡ true) ⊎ In (succeeded_places s h lane) i

began_after : (s : QueueSetting) (h : List Entry) (at lane : LaneId) (places : List ℕ) (closing : Option ℕ) (m i : ℕ) → LegalQueue s (Began at places closing m ∷ h) → IsPaidOrOwed s h lane i → IsPaidOrOwed s (Began at places closing m ∷ h) lane i
began_after s h at lane places closing m i legal (inl is) = inl (stays_deleted s h (Began at places closing m) i is)
began_after s h at lane places (Some window) m i legal (inr member) = absurd legal.1.1
began_after s h at lane places None m i legal (inr member) =
    elim (cases_Bool (same_lane at lane)) [
      | inl same ↦ inl (stays_deleted s h (Began at places None m) i (paid_deleted s h lane i legal.1.1.settled member))
      | inr other ↦ inr (rw other member)
    ]

ended_after : (s : QueueSetting) (h : List Entry) (at lane : LaneId) (reply : Reply) (m i : ℕ) → LegalQueue s (Ended at reply m ∷ h) → IsPaidOrOwed s h lane i → IsPaidOrOwed s (Ended at reply m ∷ h) lane i
ended_after s h at lane reply m i legal (inl is) = inl is
ended_after s h at lane reply m i legal (inr member) =
    elim (cases_Bool (same_lane at lane)) [
      | inl same ↦ absurd (
          let runs : is_running h lane ≡ true = subst (λ (l : LaneId). is_running h l ≡ true) (same_lane-true at lane same) legal.1.1 in
          In-none i (subst (λ (ps : List ℕ). In ps i) (running_none s h lane runs) member))
      | inr other ↦ inr (rw other member)
    ]

stays_after : (s : QueueSetting) (h : List Entry) (e : Entry) (lane : LaneId) (i : ℕ) → succeeded_places s (e ∷ h) lane ≡ succeeded_places s h lane → IsPaidOrOwed s h lane i → IsPaidOrOwed s (e ∷ h) lane i
stays_after s h e lane i same (inl is) = inl (stays_deleted s h e i is)
stays_after s h e lane i same (inr member) = inr (subst (λ (ps : List ℕ). In ps i) (sym same) member)

paid_or_owed : (s : QueueSetting) (later before : List Entry) (lane : LaneId) (reply : Reply) (m i : ℕ) → LegalQueue s (later ++ Ended lane reply m ∷ before) → In (succeeded_in s before lane reply) i → IsPaidOrOwed s (later ++ Ended lane reply m ∷ before) lane i
paid_or_owed s [] before lane reply m i legal member = inr (rw (same_lane-refl lane) member)
paid_or_owed s (Began at places closing t ∷ later) before lane reply m i legal member = began_after s (later ++ Ended lane reply m ∷ before) at lane places closing t i legal (paid_or_owed s later before lane reply m i legal.0 member)
paid_or_owed s (Ended at other t ∷ later) before lane reply m i legal member = ended_after s (later ++ Ended lane reply m ∷ before) at lane other t i legal (paid_or_owed s later before lane reply m i legal.0 member)
paid_or_owed s (Came shard first count t ∷ later) before lane reply m i legal member = stays_after s (later ++ Ended lane reply m ∷ before) (Came shard first count t) lane i refl (paid_or_owed s later before lane reply m i legal.0 member)
paid_or_owed s (Gave by shard places f line state t ∷ later) before lane reply m i legal member = stays_after s (later ++ Ended lane reply m ∷ before) (Gave by shard places f line state t) lane i refl (paid_or_owed s later before lane reply m i legal.0 member)
paid_or_owed s (Tried at places closing tries t ∷ later) before lane reply m i legal member = stays_after s (later ++ Ended lane reply m ∷ before) (Tried at places closing tries t) lane i refl (paid_or_owed s later before lane reply m i legal.0 member)
paid_or_owed s (Closed at window t ∷ later) before lane reply m i legal member = stays_after s (later ++ Ended lane reply m ∷ before) (Closed at window t) lane i refl (paid_or_owed s later before lane reply m i legal.0 member)
paid_or_owed s (Replayed shard places t ∷ later) before lane reply m i legal member = stays_after s (later ++ Ended lane reply m ∷ before) (Replayed shard places t) lane i refl (paid_or_owed s later before lane reply m i legal.0 member)
paid_or_owed s (Shut t ∷ later) before lane reply m i legal member = stays_after s (later ++ Ended lane reply m ∷ before) (Shut t) lane i refl (paid_or_owed s later before lane reply m i legal.0 member)

settled_deleted : (s : QueueSetting) (h : List Entry) (lane : LaneId) (i : ℕ) → SettledQueue s h → IsPaidOrOwed s h lane i → is_deleted s h i ≡ true
settled_deleted s h lane i settled (inl is) = is
settled_deleted s h lane i settled (inr member) = paid_deleted s h lane i settled member

succeeded_deleted : (s : QueueSetting) (h : List Entry) (i : ℕ) → LegalQueue s h → SettledQueue s h → HasSucceeded s h i → is_deleted s h i ≡ true
succeeded_deleted s h i legal settled has =
    let owed : IsPaidOrOwed s (has.later ++ Ended has.lane has.reply has.moment ∷ has.before) has.lane i =
    paid_or_owed s has.later has.before has.lane has.reply has.moment i (subst (LegalQueue s) has.split legal) has.counted in
    settled_deleted s h has.lane i settled (subst (λ (es : List Entry). IsPaidOrOwed s es has.lane i) (sym has.split) owed)

-- what does not pass the filter is deleted once it came
filtered_deleted : (s : QueueSetting) (h : List Entry) (i : ℕ) → SettledQueue s h → i < queue_count h → FailsFilter s i → is_deleted s h i ≡ true
filtered_deleted s h i settled low fails =
    elim (cases_Bool (is_deleted s h i)) [
      | inl is ↦ is
      | inr waits ↦ absurd (
          let refused : unwrap_or (option_map (is_refused_message s) (message_at s i)) false ≡ true =
          ap (λ (o : Option Message). unwrap_or (option_map (is_refused_message s) o) false) fails.at ∙ not_from_false (passes_message s.config.filters fails.message) fails.fails in
          none_of (is_unsorted_message s h) (below (queue_count h)) i settled.sorted (below-In (queue_count h) i low)
          (and_from (not (is_deleted s h i)) (unwrap_or (option_map (is_refused_message s) (message_at s i)) false) (not_from_false (is_deleted s h i) waits) refused))
    ]

pub all_earned : (s : QueueSetting) (h : List Entry) → LegalQueue s h → SettledQueue s h → DeletedAllEarned s h
all_earned s h legal settled i low (inl found) = found_deleted s h legal i low found
all_earned s h legal settled i low (inr (inl has)) = succeeded_deleted s h i legal settled has
all_earned s h legal settled i low (inr (inr fails)) = filtered_deleted s h i settled low fails
