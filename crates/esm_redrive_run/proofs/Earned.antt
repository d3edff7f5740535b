-- A message of a redrive has a fate only where that is earned.
use Rattle.std.proofs.Common.{◌≡◌, ◌≤◌, ℕ, suc, Bool, true, false, not, cond, List, [], ◌∷◌, Option, Some, None, ap, arith, inl, inr, refl, subst}
use Rattle.std.specs.Prelude.{◌⊎◌, ◌==◌, ◌&&◌, option_map, unwrap_or}
use Rattle.std.specs.Option.{option_or}
use Rattle.std.proofs.lemmas.Bool.{and_parts, both_ways, cases_Bool, not-true}
use Rattle.std.proofs.lemmas.Option.{none-some, same_Some}
use Rattle.esm_model.specs.declared.entry.Entry.{Entry}
use Rattle.esm_model.specs.declared.entry.Entry.TheVariants.{Came, Began, Ended, Gave, Tried, Closed, Replayed, Shut}
use Rattle.esm_model.specs.declared.entry.Fate.{Fate}
use Rattle.esm_model.specs.declared.entry.Fate.TheVariants.{Succeeded, Filtered, Expired, Exhausted}
use Rattle.esm_model.specs.declared.entry.WindowState.{WindowState}
use Rattle.esm_model.specs.declared.item.Message.{Message}
use Rattle.esm_model.specs.declared.lane.LaneId.{LaneId}
use Rattle.esm_model.specs.declared.setup.FoundDeletion.{FoundDeletion}
use Rattle.esm_model.specs.Entries.{holds}
use Rattle.esm_model.specs.Fates.{below, given}
use Rattle.esm_model.specs.Filter.{passes_message}
use Rattle.esm_model.specs.Lane.{same_lane}
use Rattle.esm_queue_model.specs.QueueEntries.{is_deleted, queue_count, queue_lane}
use Rattle.esm_queue_model.specs.QueueSetting.{QueueSetting, found_deletion, message_at}
use Rattle.esm_queue_model.specs.QueueStep.{is_refused_message, is_unsorted_message, succeeded_places}
use Rattle.esm_queue_model.proofs.Places.{In, In-filter, In-none}
use Rattle.esm_queue_model.proofs.QueueTests.{same_lane-true}
use Rattle.esm_redrive_model.specs.Due.{is_known, receives}
use Rattle.esm_redrive_model.specs.RedriveSetting.{RedriveSetting, has_dead_id}
use Rattle.esm_redrive_model.specs.RedriveStep.{LegalRedrive}
use Rattle.esm_redrive_model.proofs.Moves.{moved_after_receives_in}
use Rattle.esm_runner.specs.Earned.{FailsFilter, HasSucceeded}
use Rattle.esm_redrive_run.specs.Earned.{DeletedOnlyEarned, EarnsIt, HasLine, IsEarnedAs}

-- one more entry leaves what is earned

succeeded_more : (s : QueueSetting) (h : List Entry) (e : Entry) (i : ℕ) → HasSucceeded s h i → HasSucceeded s (e ∷ h) i
succeeded_more s h e i has = record {
  later = e ∷ has.later;
  before = has.before;
  lane = has.lane;
  reply = has.reply;
  moment = has.moment;
  split = ap (λ (es : List Entry). e ∷ es) has.split;
  counted = has.counted;
}

one_or_same : (b : Bool) (n : ℕ) → n ≤ cond b (suc n) n
one_or_same true n = omega arith
one_or_same false n = omega arith

received_more : (h : List Entry) (e : Entry) (i : ℕ) → receives h i ≤ receives (e ∷ h) i
received_more h (Began lane places closing m) i = one_or_same (holds places i) (receives h i)
received_more h (Came shard first count m) i = one_or_same false (receives h i)
received_more h (Ended lane reply m) i = one_or_same false (receives h i)
received_more h (Gave by shard places f line state m) i = one_or_same false (receives h i)
received_more h (Tried lane places closing tries m) i = one_or_same false (receives h i)
received_more h (Closed lane window m) i = one_or_same false (receives h i)
received_more h (Replayed shard places m) i = one_or_same false (receives h i)
received_more h (Shut m) i = one_or_same false (receives h i)

earned_more : (s : RedriveSetting) (h : List Entry) (e : Entry) (i : ℕ) (fate : Fate) → EarnsIt s h i fate → EarnsIt s (e ∷ h) i fate
earned_more s h e i Succeeded has = succeeded_more s.queue h e i has
earned_more s h e i Filtered fails = fails
earned_more s h e i Exhausted (inl line) = inl line
earned_more s h e i Exhausted (inr full) = inr (let more = received_more h e i in omega (arith, full, more))
earned_more s h e i Expired never = never

-- what a deletion names is earned

succeeded_there : (s : QueueSetting) (h : List Entry) (lane : LaneId) (i : ℕ) → In (succeeded_places s h lane) i → HasSucceeded s h i
succeeded_there s [] lane i member = absurd (In-none i member)
succeeded_there s (Began at places closing m ∷ h) lane i member =
    elim (cases_Bool (same_lane at lane)) [
      | inl same ↦ absurd (In-none i (rw same at member))
      | inr other ↦ succeeded_more s h (Began at places closing m) i (succeeded_there s h lane i (rw other at member))
    ]
succeeded_there s (Ended at reply m ∷ h) lane i member =
    elim (cases_Bool (same_lane at lane)) [
      | inl same ↦ record {
        later = [];
        before = h;
        lane = lane;
        reply = reply;
        moment = m;
        split = ap (λ (l : LaneId). Ended l reply m ∷ h) (same_lane-true at lane same);
        counted = rw same at member;
      }
      | inr other ↦ succeeded_more s h (Ended at reply m) i (succeeded_there s h lane i (rw other at member))
    ]
succeeded_there s (Came shard first count m ∷ h) lane i member = succeeded_more s h (Came shard first count m) i (succeeded_there s h lane i member)
succeeded_there s (Gave by shard places f line state m ∷ h) lane i member = succeeded_more s h (Gave by shard places f line state m) i (succeeded_there s h lane i member)
succeeded_there s (Tried at places closing tries m ∷ h) lane i member = succeeded_more s h (Tried at places closing tries m) i (succeeded_there s h lane i member)
succeeded_there s (Closed at window m ∷ h) lane i member = succeeded_more s h (Closed at window m) i (succeeded_there s h lane i member)
succeeded_there s (Replayed shard places m ∷ h) lane i member = succeeded_more s h (Replayed shard places m) i (succeeded_there s h lane i member)
succeeded_there s (Shut m ∷ h) lane i member = succeeded_more s h (Shut m) i (succeeded_there s h lane i member)

fails_filter : (s : QueueSetting) (i : ℕ) (o : Option Message) → message_at s i ≡ o → unwrap_or (option_map (is_refused_message s) o) false ≡ true → FailsFilter s i
fails_filter s i None at fails = absurd (both_ways false refl fails)
fails_filter s i (Some x) at fails = record { message = x; at = at; fails = not-true (passes_message s.config.filters x) fails }

has_line : (s : RedriveSetting) (i : ℕ) (o : Option Message) → message_at s.queue i ≡ o → unwrap_or (option_map (has_dead_id s) o) false ≡ true → HasLine s i
has_line s i None at stands = absurd (both_ways false refl stands)
has_line s i (Some x) at stands = record { message = x; at = at; stands = stands }

given_here : (s : RedriveSetting) (h : List Entry) (by : Option LaneId) (shard : ℕ) (places : List ℕ) (f : Fate) (line : Option (List ℕ)) (state : Option WindowState) (m i : ℕ) → LegalRedrive s (Gave by shard places f line state m ∷ h) → In places i → EarnsIt s h i f
given_here s h None shard places Exhausted line state m i legal member =
    let passes : is_known s h i ≡ true = (In-filter (is_known s h) (below (queue_count h)) i (subst (λ (ps : List ℕ). In ps i) legal.1.1.exact member)).1 in
    inl (has_line s i (message_at s.queue i) refl (and_parts (not (is_deleted s.queue h i)) (unwrap_or (option_map (has_dead_id s) (message_at s.queue i)) false) passes).1)
given_here s h None shard places Filtered line state m i legal member =
    let passes : is_unsorted_message s.queue h i ≡ true = (In-filter (is_unsorted_message s.queue h) (below (queue_count h)) i (subst (λ (ps : List ℕ). In ps i) legal.1.1.filters.exact member)).1 in
    fails_filter s.queue i (message_at s.queue i) refl (and_parts (not (is_deleted s.queue h i)) (unwrap_or (option_map (is_refused_message s.queue) (message_at s.queue i)) false) passes).1
given_here s h (Some lane) shard places Exhausted line state m i legal member =
    inr (moved_after_receives_in s (Gave (Some lane) shard places Exhausted line state m ∷ h) legal [] h lane shard places line state m refl i member)
given_here s h (Some lane) shard places Succeeded line state m i legal member =
    succeeded_there s.queue h (queue_lane 0) i (In-filter (λ j. not (is_deleted s.queue h j)) (succeeded_places s.queue h (queue_lane 0)) i (subst (λ (ps : List ℕ). In ps i) legal.1.1.deletes.exact member)).0
given_here s h None shard places Succeeded line state m i legal member = absurd legal.1.1
given_here s h None shard places Expired line state m i legal member = absurd legal.1.1
given_here s h (Some lane) shard places Filtered line state m i legal member = absurd legal.1.1
given_here s h (Some lane) shard places Expired line state m i legal member = absurd legal.1.1

before_or_here : (g : Option Fate) (b : Bool) (f fate : Fate) → option_or g (cond b (Some f) None) ≡ Some fate → (g ≡ Some fate) ⊎ ((b ≡ true) × (f ≡ fate))
before_or_here (Some x) b f fate is = inl is
before_or_here None true f fate is = inr (refl, same_Some f fate is)
before_or_here None false f fate is = absurd (none-some fate is)

given_earned : (s : RedriveSetting) (h : List Entry) → LegalRedrive s h → (i : ℕ) (fate : Fate) → given h 0 i ≡ Some fate → EarnsIt s h i fate
given_earned s [] legal i fate is = absurd (none-some fate is)
given_earned s (Gave by shard places f line state m ∷ h) legal i fate is =
    elim (before_or_here (given h 0 i) ((shard == 0) && holds places i) f fate is) [
      | inl before ↦ earned_more s h (Gave by shard places f line state m) i fate (given_earned s h legal.0 i fate before)
      | inr named ↦ earned_more s h (Gave by shard places f line state m) i fate
          (subst (EarnsIt s h i) named.1 (given_here s h by shard places f line state m i legal (and_parts (shard == 0) (holds places i) named.0).1))
    ]
given_earned s (Came shard first count m ∷ h) legal i fate is = earned_more s h (Came shard first count m) i fate (given_earned s h legal.0 i fate is)
given_earned s (Began lane places closing m ∷ h) legal i fate is = earned_more s h (Began lane places closing m) i fate (given_earned s h legal.0 i fate is)
given_earned s (Ended lane reply m ∷ h) legal i fate is = earned_more s h (Ended lane reply m) i fate (given_earned s h legal.0 i fate is)
given_earned s (Tried lane places closing tries m ∷ h) legal i fate is = earned_more s h (Tried lane places closing tries m) i fate (given_earned s h legal.0 i fate is)
given_earned s (Closed lane window m ∷ h) legal i fate is = earned_more s h (Closed lane window m) i fate (given_earned s h legal.0 i fate is)
given_earned s (Replayed shard places m ∷ h) legal i fate is = earned_more s h (Replayed shard places m) i fate (given_earned s h legal.0 i fate is)
given_earned s (Shut m ∷ h) legal i fate is = earned_more s h (Shut m) i fate (given_earned s h legal.0 i fate is)

found_or_given : (s : RedriveSetting) (h : List Entry) (i : ℕ) (fate : Fate) (o : Option FoundDeletion) → LegalRedrive s h → found_deletion s.queue i ≡ o → option_or (option_map (λ (f : FoundDeletion). f.fate) o) (given h 0 i) ≡ Some fate → IsEarnedAs s h i fate
found_or_given s h i fate None legal at is = inr (given_earned s h legal i fate is)
found_or_given s h i fate (Some f) legal at is = inl (record { found = f; deletion = at; fate_is = same_Some f.fate fate is })

pub only_earned : (s : RedriveSetting) (h : List Entry) → LegalRedrive s h → DeletedOnlyEarned s h
only_earned s h legal i fate is = found_or_given s h i fate (found_deletion s.queue i) legal refl is
