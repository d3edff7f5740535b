-- Each deletion of a redrive is earned by the rule of its fate.
use Rattle.std.proofs.Common.{◌≡◌, ◌∙◌, ◌⊎◌, ℕ, Bool, true, false, not, List, ◌∷◌, Option, Some, None, ap, inl, inr, refl, subst, sym}
use Rattle.std.specs.Prelude.{option_map, unwrap_or}
use Rattle.std.proofs.lemmas.Bool.{and_parts}
use Rattle.esm_model.specs.declared.entry.Entry.{Entry}
use Rattle.esm_model.specs.declared.entry.Entry.TheVariants.{Gave}
use Rattle.esm_model.specs.declared.entry.Fate.{Fate}
use Rattle.esm_model.specs.declared.entry.Fate.TheVariants.{Succeeded, Filtered, Expired, Exhausted}
use Rattle.esm_model.specs.declared.entry.WindowState.{WindowState}
use Rattle.esm_model.specs.declared.item.Message.{Message}
use Rattle.esm_model.specs.declared.lane.LaneId.{LaneId}
use Rattle.esm_model.specs.Fates.{below}
use Rattle.esm_queue_model.specs.QueueEntries.{is_deleted, queue_count, queue_lane}
use Rattle.esm_queue_model.specs.QueueSetting.{message_at}
use Rattle.esm_queue_model.specs.QueueStep.{is_refused_message, is_unsorted_message, succeeded_places}
use Rattle.esm_queue_model.proofs.Places.{In, In-filter}
use Rattle.esm_redrive.specs.DeadFile.{dead_ids}
use Rattle.esm_redrive_life.specs.Life.{IsKept, IsLife as IsRedriveLife, MovedAfterReceives, Redrive, Redriven as OneRedrive, Stage as RedriveStage}
use Rattle.esm_redrive_life.proofs.Saying.{ReadAgain}
use Rattle.esm_redrive_model.specs.Due.{receives}
use Rattle.esm_redrive_model.specs.RedriveSetting.{stands_among}
use Rattle.esm_redrive_model.specs.RedriveStep.{LegalRedrive, MayGiveRedrive}
use Rattle.esm_redrive_model.proofs.Named.{follows_at}
use Rattle.esm_queue_life.specs.History.{IsAnswered}
use Rattle.esm_queue_life.specs.Life.{EachRedriveIsEarned, IsEarnedInRedrive, IsLife, Redriven, Stage, dead_lines}
use Rattle.esm_queue_life.specs.UnderRedrives.{under_redrives}
use Rattle.esm_queue_life.proofs.Earning.{answered, gave_it, refused}
use Rattle.esm_queue_life.proofs.Lives.{IsFrontOrMore, happened_before, new_one, redriven_run}
use Rattle.esm_queue_life.proofs.UnderRedrives.{is_one, same_lines}

abbrev IsMovedRightly : Bool → Redrive → List Stage → ℕ → Message → Type 0
IsMovedRightly fifo r life i m = (receives r.happened i ≡ r.setting.max_receives) ⊎ (stands_among (dead_ids fifo (dead_lines life)) m.id ≡ true)

by_rule : (fifo : Bool) (r : Redrive) (life : List Stage) (h : List Entry) (by : Option LaneId) (places : List ℕ) (f : Fate) (line : Option (List ℕ)) (state : Option WindowState) (m i : ℕ) (x : Message)
    → (f ≡ Exhausted → IsMovedRightly fifo r life i x) → MayGiveRedrive r.setting h by 0 places f line state m → In places i → IsEarnedInRedrive fifo r life h by i x f
by_rule fifo r life h None places Exhausted line state m i x moved may member = moved refl
by_rule fifo r life h (Some lane) places Exhausted line state m i x moved may member = moved refl
by_rule fifo r life h (Some lane) places Succeeded line state m i x moved may member =
    let s = r.setting.queue in
    subst (λ (l : LaneId). IsAnswered s h l i) (sym may.batcher)
    (answered s h (queue_lane 0) i (In-filter (λ j. not (is_deleted s h j)) (succeeded_places s h (queue_lane 0)) i (subst (λ (ps : List ℕ). In ps i) may.deletes.exact member)).0)
by_rule fifo r life h None places Filtered line state m i x moved may member =
    let s = r.setting.queue in
    let passes : is_unsorted_message s h i ≡ true = (In-filter (is_unsorted_message s h) (below (queue_count h)) i (subst (λ (ps : List ℕ). In ps i) may.filters.exact member)).1 in
    refused s i (message_at s i) refl (and_parts (not (is_deleted s h i)) (unwrap_or (option_map (is_refused_message s) (message_at s i)) false) passes).1
by_rule fifo r life h None places Succeeded line state m i x moved may member = absurd may
by_rule fifo r life h (Some lane) places Filtered line state m i x moved may member = absurd may
by_rule fifo r life h None places Expired line state m i x moved may member = absurd may
by_rule fifo r life h (Some lane) places Expired line state m i x moved may member = absurd may

front_or_more : (happened recorded : List Entry) → IsKept happened recorded → IsFrontOrMore happened recorded
front_or_more happened recorded (inl front) = inl front
front_or_more happened recorded (inr has) = inr (has.hand, has.before, has.later, has.kept_is, has.happened_is)

-- the law of moves over lists of redrives
abbrev pub MovedWhenReceived : Type 0
MovedWhenReceived = (fifo : Bool) (r : Redrive) (before : List RedriveStage) → IsRedriveLife fifo (OneRedrive r ∷ before) → MovedAfterReceives fifo r before

pub redrive_earned : ReadAgain → MovedWhenReceived → (fifo : Bool) (r : Redrive) (before : List Stage) → IsLife fifo (Redriven r ∷ before) → EachRedriveIsEarned fifo r before
redrive_earned again received fifo r before life i k none now =
    let parts = new_one again fifo (Redriven r) (redriven_run r) before life refl i k none now in
    let gave = gave_it r.recorded i k.fate parts.1 in
    let e = Gave gave.by 0 gave.places k.fate gave.line gave.state gave.moment in
    let front = happened_before r.happened r.recorded gave.later gave.before e (front_or_more r.happened r.recorded life.1.recorded) gave.is in
    let moved = received fifo r (under_redrives before) (is_one again fifo (Redriven r ∷ before) life) i parts.0 in
    record {
      later = gave.later;
      before = gave.before;
      lost = front.0;
      by = gave.by;
      places = gave.places;
      line = gave.line;
      state = gave.state;
      moment = gave.moment;
      gave = gave.is;
      named = gave.named;
      happened = front.1;
      message = parts.0;
      at = parts.2;
      id = parts.3;
      earned = by_rule fifo r before gave.before gave.by gave.places k.fate gave.line gave.state gave.moment i parts.0
          (λ exhausted. subst (λ (lines : List (List ℕ)). (receives r.happened i ≡ r.setting.max_receives) ⊎ (stands_among (dead_ids fifo lines) parts.0.id ≡ true)) (same_lines before)
          (moved (parts.1 ∙ ap Some exhausted) parts.2))
          (follows_at r.setting gave.later gave.before e (subst (LegalRedrive r.setting) gave.is life.1.legal_recorded)) gave.named;
    }
