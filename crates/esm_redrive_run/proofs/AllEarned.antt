-- Where a redrive has called for nothing more, each message whose deletion is earned is deleted, but those that wait to be moved.
use Rattle.std.proofs.Common.{◌≡◌, ◌∙◌, ◌⊎◌, ℕ, ◌<◌, true, false, not, List, [], ◌∷◌, ◌++◌, Option, Some, None, ap, inl, inr, refl, subst, sym}
use Rattle.std.specs.Prelude.{is_some, option_map, unwrap_or}
use Rattle.std.specs.Option.{option_or}
use Rattle.std.proofs.lemmas.Bool.{and_from, both_ways, cases_Bool, not_from_false}
use Rattle.esm_model.specs.declared.entry.Entry.{Entry}
use Rattle.esm_model.specs.declared.entry.Entry.TheVariants.{Came, Began, Ended, Gave, Tried, Closed, Replayed, Shut}
use Rattle.esm_model.specs.declared.entry.Fate.{Fate}
use Rattle.esm_model.specs.declared.entry.Reply.{Reply}
use Rattle.esm_model.specs.declared.item.Message.{Message}
use Rattle.esm_model.specs.declared.lane.LaneId.{LaneId}
use Rattle.esm_model.specs.declared.setup.FoundDeletion.{FoundDeletion}
use Rattle.esm_model.specs.Entries.{is_running}
use Rattle.esm_model.specs.Fates.{below, given}
use Rattle.esm_model.specs.Filter.{passes_message}
use Rattle.esm_model.specs.Lane.{same_lane}
use Rattle.esm_model.proofs.Steps.{same_lane-refl}
use Rattle.esm_queue_model.specs.QueueEntries.{is_deleted, queue_count, queue_lane}
use Rattle.esm_queue_model.specs.QueueSetting.{QueueSetting, found_deletion, is_found, message_at}
use Rattle.esm_queue_model.specs.QueueStep.{is_refused_message, is_unsorted_message, owed_places, succeeded_in, succeeded_places}
use Rattle.esm_queue_model.proofs.Places.{In, In-none, below-In}
use Rattle.esm_queue_core.proofs.Settling.{none_of}
use Rattle.esm_redrive_model.specs.RedriveSetting.{RedriveSetting}
use Rattle.esm_redrive_model.specs.RedriveStep.{LegalRedrive, SettledRedrive}
use Rattle.esm_redrive_model.proofs.Ends.{deleted_is}
use Rattle.esm_redrive_model.proofs.Lined.{not_known}
use Rattle.esm_redrive_model.proofs.Named.{built_of, follows_at}
use Rattle.esm_runner.specs.Earned.{FailsFilter, HasSucceeded}
use Rattle.esm_runner.proofs.Deletions.{stays_deleted}
use Rattle.esm_redrive_run.specs.Earned.{DeletedAllEarned, HasLine}

-- while a lane runs nothing of its last call has succeeded
running_none : (s : QueueSetting) (h : List Entry) (lane : LaneId) → is_running h lane ≡ true → succeeded_places s h lane ≡ []
running_none s [] lane runs = absurd (both_ways false refl runs)
running_none s (Began at places closing m ∷ h) lane runs =
    elim (cases_Bool (same_lane at lane)) [
      | inl same ↦ rw same refl
      | inr other ↦ rw other (running_none s h lane (rw other at runs))
    ]
running_none s (Ended at reply m ∷ h) lane runs =
    elim (cases_Bool (same_lane at lane)) [
      | inl same ↦ absurd (both_ways false refl (rw same at runs))
      | inr other ↦ rw other (running_none s h lane (rw other at runs))
    ]
running_none s (Came shard first count m ∷ h) lane runs = running_none s h lane runs
running_none s (Gave by shard places f line state m ∷ h) lane runs = running_none s h lane runs
running_none s (Tried at places closing tries m ∷ h) lane runs = running_none s h lane runs
running_none s (Closed at window m ∷ h) lane runs = running_none s h lane runs
running_none s (Replayed shard places m ∷ h) lane runs = running_none s h lane runs
running_none s (Shut m ∷ h) lane runs = running_none s h lane runs

-- what a lane is paid is deleted
paid_deleted : (s : QueueSetting) (h : List Entry) (lane : LaneId) (i : ℕ) → owed_places s h lane ≡ [] → In (succeeded_places s h lane) i → is_deleted s h i ≡ true
paid_deleted s h lane i paid member =
    elim (cases_Bool (is_deleted s h i)) [
      | inl is ↦ is
      | inr waits ↦ absurd (none_of (λ j. not (is_deleted s h j)) (succeeded_places s h lane) i paid member (not_from_false (is_deleted s h i) waits))
    ]

-- a place that succeeded in a call is deleted, or stands in what the lane's last call succeeded with
abbrev IsPaidOrOwed : QueueSetting → List Entry → LaneId → ℕ → Type 0
IsPaidOrOwed s h lane i = (is_deleted s h i ≡ true) ⊎ In (succeeded_places s h lane) i

stays_after : (s : QueueSetting) (h : List Entry) (e : Entry) (lane : LaneId) (i : ℕ) → succeeded_places s (e ∷ h) lane ≡ succeeded_places s h lane → IsPaidOrOwed s h lane i → IsPaidOrOwed s (e ∷ h) lane i
stays_after s h e lane i same (inl is) = inl (stays_deleted s h e i is)
stays_after s h e lane i same (inr member) = inr (subst (λ (ps : List ℕ). In ps i) (sym same) member)

-- a redrive has one lane
module _ (s : RedriveSetting) (lane : LaneId) (own : lane ≡ queue_lane 0) where
  began_after : (h : List Entry) (at : LaneId) (places : List ℕ) (closing : Option ℕ) (m i : ℕ) → LegalRedrive s (Began at places closing m ∷ h) → IsPaidOrOwed s.queue h lane i → IsPaidOrOwed s.queue (Began at places closing m ∷ h) lane i
  began_after h at places (Some window) m i legal before = absurd legal.1.1
  began_after h at places None m i legal (inl is) = inl (stays_deleted s.queue h (Began at places None m) i is)
  began_after h at places None m i legal (inr member) =
      inl (stays_deleted s.queue h (Began at places None m) i (paid_deleted s.queue h lane i (subst (λ (l : LaneId). owed_places s.queue h l ≡ []) (sym own) legal.1.1.settled.paid) member))

  ended_after : (h : List Entry) (at : LaneId) (reply : Reply) (m i : ℕ) → LegalRedrive s (Ended at reply m ∷ h) → IsPaidOrOwed s.queue h lane i → IsPaidOrOwed s.queue (Ended at reply m ∷ h) lane i
  ended_after h at reply m i legal (inl is) = inl is
  ended_after h at reply m i legal (inr member) =
      absurd (
      let runs : is_running h lane ≡ true = subst (λ (l : LaneId). is_running h l ≡ true) (sym own) legal.1.1.runs in
      In-none i (subst (λ (ps : List ℕ). In ps i) (running_none s.queue h lane runs) member))

  paid_or_owed : (later before : List Entry) (reply : Reply) (m i : ℕ) → LegalRedrive s (later ++ Ended lane reply m ∷ before) → In (succeeded_in s.queue before lane reply) i → IsPaidOrOwed s.queue (later ++ Ended lane reply m ∷ before) lane i
  paid_or_owed [] before reply m i legal member = inr (rw (same_lane-refl lane) member)
  paid_or_owed (Began at places closing t ∷ later) before reply m i legal member = began_after (later ++ Ended lane reply m ∷ before) at places closing t i legal (paid_or_owed later before reply m i legal.0 member)
  paid_or_owed (Ended at other t ∷ later) before reply m i legal member = ended_after (later ++ Ended lane reply m ∷ before) at other t i legal (paid_or_owed later before reply m i legal.0 member)
  paid_or_owed (Came shard first count t ∷ later) before reply m i legal member = stays_after s.queue (later ++ Ended lane reply m ∷ before) (Came shard first count t) lane i refl (paid_or_owed later before reply m i legal.0 member)
  paid_or_owed (Gave by shard places f line state t ∷ later) before reply m i legal member = stays_after s.queue (later ++ Ended lane reply m ∷ before) (Gave by shard places f line state t) lane i refl (paid_or_owed later before reply m i legal.0 member)
  paid_or_owed (Tried at places closing tries t ∷ later) before reply m i legal member = absurd legal.1.1
  paid_or_owed (Closed at window t ∷ later) before reply m i legal member = absurd legal.1.1
  paid_or_owed (Replayed shard places t ∷ later) before reply m i legal member = absurd legal.1.1
  paid_or_owed (Shut t ∷ later) before reply m i legal member = stays_after s.queue (later ++ Ended lane reply m ∷ before) (Shut t) lane i refl (paid_or_owed later before reply m i legal.0 member)

  settled_deleted : (h : List Entry) (i : ℕ) → SettledRedrive s h → IsPaidOrOwed s.queue h lane i → is_deleted s.queue h i ≡ true
  settled_deleted h i settled (inl is) = is
  settled_deleted h i settled (inr member) = paid_deleted s.queue h lane i (subst (λ (l : LaneId). owed_places s.queue h l ≡ []) (sym own) settled.paid) member

succeeded_deleted : (s : RedriveSetting) (h : List Entry) (i : ℕ) → LegalRedrive s h → SettledRedrive s h → HasSucceeded s.queue h i → is_deleted s.queue h i ≡ true
succeeded_deleted s h i legal settled has =
    let split : LegalRedrive s (has.later ++ Ended has.lane has.reply has.moment ∷ has.before) = subst (LegalRedrive s) has.split legal in
    let own : has.lane ≡ queue_lane 0 = (follows_at s has.later has.before (Ended has.lane has.reply has.moment) split).batcher in
    settled_deleted s has.lane own h i settled
    (subst (λ (es : List Entry). IsPaidOrOwed s.queue es has.lane i) (sym has.split) (paid_or_owed s has.lane own has.later has.before has.reply has.moment i split has.counted))

-- what does not pass the filter
filtered_deleted : (s : RedriveSetting) (h : List Entry) (i : ℕ) → SettledRedrive s h → i < queue_count h → FailsFilter s.queue i → is_deleted s.queue h i ≡ true
filtered_deleted s h i settled low fails =
    elim (cases_Bool (is_deleted s.queue h i)) [
      | inl is ↦ is
      | inr waits ↦ absurd (
          let refused : unwrap_or (option_map (is_refused_message s.queue) (message_at s.queue i)) false ≡ true =
          ap (λ (o : Option Message). unwrap_or (option_map (is_refused_message s.queue) o) false) fails.at ∙ not_from_false (passes_message s.queue.config.filters fails.message) fails.fails in
          none_of (is_unsorted_message s.queue h) (below (queue_count h)) i settled.sorted (below-In (queue_count h) i low)
          (and_from (not (is_deleted s.queue h i)) (unwrap_or (option_map (is_refused_message s.queue) (message_at s.queue i)) false) (not_from_false (is_deleted s.queue h i) waits) refused))
    ]

-- what was found deleted
found_fated : (o : Option FoundDeletion) (g : Option Fate) → is_some o ≡ true → is_some (option_or (option_map (λ (f : FoundDeletion). f.fate) o) g) ≡ true
found_fated (Some f) g found = refl
found_fated None g found = absurd (both_ways false refl found)

found_deleted : (s : RedriveSetting) (h : List Entry) (i : ℕ) → LegalRedrive s h → i < queue_count h → is_found s.queue i ≡ true → is_deleted s.queue h i ≡ true
found_deleted s h i legal low found = deleted_is s.queue h (built_of s h legal) i low ∙ found_fated (found_deletion s.queue i) (given h 0 i) found

-- a message whose line was found
lined_deleted : (s : RedriveSetting) (h : List Entry) (i : ℕ) → SettledRedrive s h → i < queue_count h → HasLine s i → is_deleted s.queue h i ≡ true
lined_deleted s h i settled low line =
    elim (cases_Bool (is_deleted s.queue h i)) [
      | inl is ↦ is
      | inr waits ↦ absurd (not_known s h i line.message line.at line.stands low waits settled.recorded)
    ]

pub all_earned : (s : RedriveSetting) (h : List Entry) → LegalRedrive s h → SettledRedrive s h → DeletedAllEarned s h
all_earned s h legal settled i low (inl (inl found)) = found_deleted s h i legal low found
all_earned s h legal settled i low (inl (inr (inl has))) = succeeded_deleted s h i legal settled has
all_earned s h legal settled i low (inl (inr (inr fails))) = filtered_deleted s h i settled low fails
all_earned s h legal settled i low (inr line) = lined_deleted s h i settled low line
