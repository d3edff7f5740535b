-- What a redrive has called for: nothing before a call began, and nothing more at its end where no device failed.
use Rattle.std.proofs.Common.{◌≡◌, ◌∙◌, ℕ, true, false, List, [], ◌∷◌, ◌++◌, Option, Some, None, ap, refl, sym}
use Rattle.std.specs.Prelude.{filter, not}
use Rattle.std.proofs.lemmas.Bool.{both_ways}
use Rattle.esm_model.specs.declared.book.Change.{Change}
use Rattle.esm_model.specs.declared.book.Trouble.{Trouble}
use Rattle.esm_model.specs.declared.book.Trouble.TheVariants.{Disk, Dest, Changed}
use Rattle.esm_model.specs.declared.called.Called.{Called}
use Rattle.esm_model.specs.declared.entry.Entry.{Entry}
use Rattle.esm_model.specs.declared.entry.Entry.TheVariants.{Came, Began, Ended, Gave, Tried, Closed, Replayed, Shut}
use Rattle.esm_model.specs.declared.lane.LaneId.{LaneId}
use Rattle.esm_model.specs.Entries.{calls_begun, is_running, is_shut, CallsFollowShut}
use Rattle.esm_queue_model.specs.QueueBatch.{last_queue_event}
use Rattle.esm_queue_model.specs.QueueEntries.{queue_lane, is_deleted}
use Rattle.esm_queue_model.specs.QueueSetting.{QueueSetting}
use Rattle.esm_queue_model.specs.QueueStep.{succeeded_places}
use Rattle.esm_redrive_model.specs.RedriveSetting.{RedriveSetting, with_dead_ids}
use Rattle.esm_redrive_model.specs.RedriveLaws.{IsSameOver}
use Rattle.esm_redrive_model.specs.RedriveReport.{redrive_calls}
use Rattle.esm_redrive_model.specs.RedriveStep.{LegalRedrive, SettledRedrive}
use Rattle.esm_redrive_book.specs.Keeping.{IsSorted}
use Rattle.esm_redrive_run.specs.Book.{AreArrivals}
use Rattle.esm_redrive_run.proofs.Following.{arrivals_idle, arrivals_uncalled}

-- where calls begin after the end of the input, messages came alone before it
arrivals_of : (s : RedriveSetting) (h : List Entry) → LegalRedrive s h → is_shut h ≡ false → CallsFollowShut h → AreArrivals h
arrivals_of s [] legal going later = tt
arrivals_of s (Came shard first count m ∷ h) legal going later = arrivals_of s h legal.0 going later.1
arrivals_of s (Began lane places closing m ∷ h) legal going later = absurd (let shut : is_shut h ≡ true = later.0 refl in let open_still : is_shut h ≡ false = going in cc)
arrivals_of s (Ended lane reply m ∷ h) legal going later =
    absurd (let idle : is_running h (queue_lane 0) ≡ false = arrivals_idle h (arrivals_of s h legal.0 going later.1) in let runs : is_running h (queue_lane 0) ≡ true = legal.1.1.runs in cc)
arrivals_of s (Gave by shard places f line state m ∷ h) legal going later = arrivals_of s h legal.0 going later.1
arrivals_of s (Tried lane places closing tries m ∷ h) legal going later = absurd legal.1.1
arrivals_of s (Closed lane window m ∷ h) legal going later = absurd legal.1.1
arrivals_of s (Replayed shard places m ∷ h) legal going later = absurd legal.1.1
arrivals_of s (Shut m ∷ h) legal going later = absurd (let clash : true ≡ false = going in cc)

arrivals_paid : (s : QueueSetting) (h : List Entry) → AreArrivals h → succeeded_places s h (queue_lane 0) ≡ []
arrivals_paid s [] all = refl
arrivals_paid s (Came shard first count m ∷ h) all = arrivals_paid s h all
arrivals_paid s (Gave by shard places f line state m ∷ h) all = arrivals_paid s h all
arrivals_paid s (Began lane places closing m ∷ h) all = absurd all
arrivals_paid s (Ended lane reply m ∷ h) all = absurd all
arrivals_paid s (Tried lane places closing tries m ∷ h) all = absurd all
arrivals_paid s (Closed lane window m ∷ h) all = absurd all
arrivals_paid s (Replayed shard places m ∷ h) all = absurd all
arrivals_paid s (Shut m ∷ h) all = absurd all

pub never_called : (s : RedriveSetting) (sends : List ℕ → List ℕ) (h : List Entry) → LegalRedrive s h → is_shut h ≡ false → CallsFollowShut h → redrive_calls s sends h ≡ []
never_called s sends h legal going later = arrivals_uncalled s.queue sends h (arrivals_of s h legal going later)

-- where no call runs and none ended, none began

not_empty : {A : Type 0} (xs : List A) (x : A) → xs ++ x ∷ [] ≡ [] → ⊥
not_empty [] x is = (let clash : x ∷ [] ≡ [] = is in cc)
not_empty (y ∷ ys) x is = (let clash : y ∷ (ys ++ x ∷ []) ≡ [] = is in cc)

pub none_begun : (s : RedriveSetting) (sends : List ℕ → List ℕ) (h : List Entry) → LegalRedrive s h → is_running h (queue_lane 0) ≡ false → redrive_calls s sends h ≡ [] → calls_begun h ≡ 0
none_begun s sends [] legal idle none = refl
none_begun s sends (Came shard first count m ∷ h) legal idle none = none_begun s sends h legal.0 idle none
none_begun s sends (Gave by shard places f line state m ∷ h) legal idle none = none_begun s sends h legal.0 idle none
none_begun s sends (Shut m ∷ h) legal idle none = none_begun s sends h legal.0 idle none
none_begun s sends (Began lane places None m ∷ h) legal idle none =
    absurd (let runs : is_running (Began lane places None m ∷ h) (queue_lane 0) ≡ true = ap (λ (l : LaneId). is_running (Began l places None m ∷ h) (queue_lane 0)) legal.1.1.batcher in
    both_ways (is_running (Began lane places None m ∷ h) (queue_lane 0)) idle runs)
none_begun s sends (Began lane places (Some window) m ∷ h) legal idle none = absurd legal.1.1
none_begun s sends (Ended lane reply m ∷ h) legal idle none =
    let one : Called = record { name = s.queue.config.function; event = sends (last_queue_event s.queue h (queue_lane 0)); reply = reply } in
    let ended : redrive_calls s sends (Ended lane reply m ∷ h) ≡ redrive_calls s sends h ++ one ∷ [] = ap (λ (l : LaneId). redrive_calls s sends (Ended l reply m ∷ h)) legal.1.1.batcher in
    absurd (not_empty (redrive_calls s sends h) one (sym ended ∙ none))
none_begun s sends (Tried lane places closing tries m ∷ h) legal idle none = absurd legal.1.1
none_begun s sends (Closed lane window m ∷ h) legal idle none = absurd legal.1.1
none_begun s sends (Replayed shard places m ∷ h) legal idle none = absurd legal.1.1

pub settled_why : (s : RedriveSetting) (h : List Entry) (why : Option Trouble) → (why ≡ None → SettledRedrive s h) → ((change : Change) → why ≡ Some (Changed change) → IsSorted s h) → LegalRedrive s h → CallsFollowShut h
    → (why ≡ Some Disk → ⊥) → (why ≡ Some Dest → ⊥) → SettledRedrive s h
settled_why s h None settled changed legal later disk dest = settled refl
settled_why s h (Some Disk) settled changed legal later disk dest = absurd (disk refl)
settled_why s h (Some Dest) settled changed legal later disk dest = absurd (dest refl)
settled_why s h (Some (Changed change)) settled changed legal later disk dest =
    let sorted = changed change refl in
    record {
      recorded = sorted.recorded;
      sorted = sorted.sorted;
      paid = ap (filter (λ (i : ℕ). not (is_deleted s.queue h i))) (arrivals_paid s.queue h (arrivals_of s h legal sorted.going later));
    }

-- over other ids of the same lines
pub settled_ids : (s : RedriveSetting) (ids : List (List ℕ)) (h : List Entry) → IsSameOver s ids h → SettledRedrive s h → SettledRedrive (with_dead_ids s ids) h
settled_ids s ids h same settled = record { recorded = same.same_known ∙ settled.recorded; sorted = settled.sorted; paid = settled.paid }
