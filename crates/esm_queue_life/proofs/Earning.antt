-- Each deletion of a run is earned by the rule of its fate.
use Rattle.std.proofs.Common.{◌≡◌, ◌∙◌, ℕ, Bool, true, false, cond, not, List, [], ◌∷◌, ◌++◌, Option, Some, None, ap, inl, inr, refl, subst, sym}
use Rattle.std.specs.Prelude.{◌==◌, ◌&&◌, option_map, unwrap_or}
use Rattle.std.specs.Option.{option_or}
use Rattle.std.proofs.lemmas.Bool.{and_parts, both_ways, cases_Bool, eqb-true, not-true}
use Rattle.std.proofs.lemmas.Option.{same_Some}
use Rattle.esm_model.specs.declared.entry.Entry.{Entry}
use Rattle.esm_model.specs.declared.entry.Entry.TheVariants.{Came, Began, Ended, Gave, Tried, Closed, Replayed, Shut}
use Rattle.esm_model.specs.declared.entry.Fate.{Fate}
use Rattle.esm_model.specs.declared.entry.Fate.TheVariants.{Succeeded, Filtered, Expired, Exhausted}
use Rattle.esm_model.specs.declared.entry.WindowState.{WindowState}
use Rattle.esm_model.specs.declared.item.Message.{Message}
use Rattle.esm_model.specs.declared.lane.LaneId.{LaneId}
use Rattle.esm_model.specs.Entries.{holds}
use Rattle.esm_model.specs.Fates.{below, given}
use Rattle.esm_model.specs.Filter.{passes_message}
use Rattle.esm_model.specs.Lane.{same_lane}
use Rattle.esm_queue_model.specs.QueueEntries.{is_deleted, queue_count}
use Rattle.esm_queue_model.specs.QueueSetting.{QueueSetting, message_at}
use Rattle.esm_queue_model.specs.QueueStep.{LegalQueue, MayGiveQueue, is_refused_message, is_unsorted_message, succeeded_places}
use Rattle.esm_queue_model.proofs.Places.{In, In-filter, In-none}
use Rattle.esm_queue_model.proofs.QueueHistories.{follows_at}
use Rattle.esm_queue_model.proofs.QueueTests.{same_lane-true}
use Rattle.esm_queue_life.specs.History.{EachGiftIsEarned, IsAnswered, IsEarned, IsRefused}

answered_more : (s : QueueSetting) (h : List Entry) (e : Entry) (lane : LaneId) (i : ℕ) → IsAnswered s h lane i → IsAnswered s (e ∷ h) lane i
answered_more s h e lane i has = record { later = e ∷ has.later; before = has.before; reply = has.reply; moment = has.moment; ended = ap (λ (es : List Entry). e ∷ es) has.ended; counted = has.counted }

-- what succeeded in a lane's last call has its reply
pub answered : (s : QueueSetting) (h : List Entry) (lane : LaneId) (i : ℕ) → In (succeeded_places s h lane) i → IsAnswered s h lane i
answered s [] lane i member = absurd (In-none i member)
answered s (Began at places closing m ∷ h) lane i member =
    elim (cases_Bool (same_lane at lane)) [
      | inl same ↦ absurd (In-none i (rw same at member))
      | inr other ↦ answered_more s h (Began at places closing m) lane i (answered s h lane i (rw other at member))
    ]
answered s (Ended at reply m ∷ h) lane i member =
    elim (cases_Bool (same_lane at lane)) [
      | inl same ↦ record {
        later = [];
        before = h;
        reply = reply;
        moment = m;
        ended = ap (λ (l : LaneId). Ended l reply m ∷ h) (same_lane-true at lane same);
        counted = rw same at member;
      }
      | inr other ↦ answered_more s h (Ended at reply m) lane i (answered s h lane i (rw other at member))
    ]
answered s (Came shard first count m ∷ h) lane i member = answered_more s h (Came shard first count m) lane i (answered s h lane i member)
answered s (Gave by shard places f line state m ∷ h) lane i member = answered_more s h (Gave by shard places f line state m) lane i (answered s h lane i member)
answered s (Tried at places closing tries m ∷ h) lane i member = answered_more s h (Tried at places closing tries m) lane i (answered s h lane i member)
answered s (Closed at window m ∷ h) lane i member = answered_more s h (Closed at window m) lane i (answered s h lane i member)
answered s (Replayed shard places m ∷ h) lane i member = answered_more s h (Replayed shard places m) lane i (answered s h lane i member)
answered s (Shut m ∷ h) lane i member = answered_more s h (Shut m) lane i (answered s h lane i member)

pub refused : (s : QueueSetting) (i : ℕ) (o : Option Message) → message_at s i ≡ o → unwrap_or (option_map (is_refused_message s) o) false ≡ true → IsRefused s i
refused s i None at fails = absurd (both_ways false refl fails)
refused s i (Some x) at fails = record { message = x; at = at; fails = not-true (passes_message s.config.filters x) fails }

gift_earned : (s : QueueSetting) (h : List Entry) (by : Option LaneId) (shard : ℕ) (places : List ℕ) (f : Fate) (line : Option (List ℕ)) (state : Option WindowState) (m i : ℕ) → MayGiveQueue s h by shard places f line state m → In places i → IsEarned s h by i f
gift_earned s h None shard places Filtered line state m i may member =
    let passes : is_unsorted_message s h i ≡ true = (In-filter (is_unsorted_message s h) (below (queue_count h)) i (subst (λ (ps : List ℕ). In ps i) may.exact member)).1 in
    refused s i (message_at s i) refl (and_parts (not (is_deleted s h i)) (unwrap_or (option_map (is_refused_message s) (message_at s i)) false) passes).1
gift_earned s h (Some lane) shard places Succeeded line state m i may member =
    answered s h lane i (In-filter (λ j. not (is_deleted s h j)) (succeeded_places s h lane) i (subst (λ (ps : List ℕ). In ps i) may.exact member)).0
gift_earned s h None shard places Succeeded line state m i may member = absurd may
gift_earned s h None shard places Expired line state m i may member = absurd may
gift_earned s h None shard places Exhausted line state m i may member = absurd may
gift_earned s h (Some lane) shard places Filtered line state m i may member = absurd may
gift_earned s h (Some lane) shard places Expired line state m i may member = absurd may
gift_earned s h (Some lane) shard places Exhausted line state m i may member = absurd may

pub each_earned : (s : QueueSetting) (h : List Entry) → LegalQueue s h → EachGiftIsEarned s h
each_earned s h legal later before by shard places f line state m split i member =
    gift_earned s before by shard places f line state m i (follows_at s later before (Gave by shard places f line state m) (subst (LegalQueue s) split legal)) member

-- where the history gave the place the fate

pub record GaveIt (h : List Entry) (i : ℕ) (f : Fate) : Type 0 where
  pub later : List Entry
  pub before : List Entry
  pub by : Option LaneId
  pub places : List ℕ
  pub line : Option (List ℕ)
  pub state : Option WindowState
  pub moment : ℕ
  pub is : h ≡ later ++ Gave by 0 places f line state moment ∷ before
  pub named : holds places i ≡ true

more_given : (e : Entry) (h : List Entry) (i : ℕ) (f : Fate) → GaveIt h i f → GaveIt (e ∷ h) i f
more_given e h i f was = record { later = e ∷ was.later; before = was.before; by = was.by; places = was.places; line = was.line; state = was.state; moment = was.moment; is = ap (λ (es : List Entry). e ∷ es) was.is; named = was.named }

pub gave_it : (h : List Entry) (i : ℕ) (f : Fate) → given h 0 i ≡ Some f → GaveIt h i f
gave_it [] i f is = cc
gave_it (Gave by k places g line state m ∷ h) i f is = by_given (λ was. gave_it h i f was) (given h 0 i) refl is
  where
    newest : (b : Bool) → ((k == 0) && holds places i) ≡ b → cond b (Some g) None ≡ Some f → GaveIt (Gave by k places g line state m ∷ h) i f
    newest true named now =
        let parts = and_parts (k == 0) (holds places i) named in
        let shard : k ≡ 0 = eqb-true k 0 parts.0 in
        let same : g ≡ f = same_Some g f now in
        record { later = []; before = h; by = by; places = places; line = line; state = state; moment = m; is = ap (λ x. Gave by x places g line state m ∷ h) shard ∙ ap (λ x. Gave by 0 places x line state m ∷ h) same; named = parts.1 }
    newest false other now = cc

    by_given : (given h 0 i ≡ Some f → GaveIt h i f) → (o : Option Fate) → given h 0 i ≡ o → option_or (given h 0 i) (cond ((k == 0) && holds places i) (Some g) None) ≡ Some f → GaveIt (Gave by k places g line state m ∷ h) i f
    by_given further None was now = newest ((k == 0) && holds places i) refl (sym (ap (λ (o : Option Fate). option_or o (cond ((k == 0) && holds places i) (Some g) None)) was) ∙ now)
    by_given further (Some x) was now = more_given (Gave by k places g line state m) h i f (further (was ∙ sym (ap (λ (o : Option Fate). option_or o (cond ((k == 0) && holds places i) (Some g) None)) was) ∙ now))
gave_it (Came k first count m ∷ h) i f is = more_given (Came k first count m) h i f (gave_it h i f is)
gave_it (Began at places c m ∷ h) i f is = more_given (Began at places c m) h i f (gave_it h i f is)
gave_it (Ended at reply m ∷ h) i f is = more_given (Ended at reply m) h i f (gave_it h i f is)
gave_it (Tried at places c t m ∷ h) i f is = more_given (Tried at places c t m) h i f (gave_it h i f is)
gave_it (Closed at w m ∷ h) i f is = more_given (Closed at w m) h i f (gave_it h i f is)
gave_it (Replayed k places m ∷ h) i f is = more_given (Replayed k places m) h i f (gave_it h i f is)
gave_it (Shut m ∷ h) i f is = more_given (Shut m) h i f (gave_it h i f is)
