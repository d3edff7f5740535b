-- The deletions that calls owe may be told.
use Rattle.std.proofs.Common.{◌≡◌, ℕ, ◌+◌, ◌<◌, ◌≤◌, ◌^◌, not, List, [], ◌∷◌, ◌++◌, length, refl, sym, ap, ◌∙◌, subst, inl, inr, arith}
use Rattle.std.specs.List.{All}
use Rattle.std.proofs.lemmas.List.{length-append, length-map}
use Rattle.std.proofs.lemmas.Bool.{cases_Bool}
use Rattle.std.proofs.lemmas.List.Elements.{All-nil, All-cons}
use Rattle.esm_model.specs.declared.limits.TheConstants.{MAX_BATCH}
use Rattle.esm_model.specs.declared.moment.TheConstants.{MAX_MOMENT}
use Rattle.esm_model.specs.declared.item.Message.{Message}
use Rattle.esm_model.specs.declared.lane.LaneId.{LaneId}
use Rattle.esm_model.specs.declared.entry.Entry.{Entry}
use Rattle.esm_model.specs.declared.entry.Reply.{Reply}
use Rattle.esm_model.specs.declared.entry.Fate.TheVariants.{Succeeded, Filtered}
use Rattle.esm_model.specs.Entries.{last_call, batch_of}
use Rattle.esm_model.specs.QueueReading.{queue_reading}
use Rattle.esm_model.specs.ValidMessage.{IsValidMessage}
use Rattle.esm_queue_model.specs.declared.stored.Stored.{Stored}
use Rattle.esm_queue_model.specs.QueueSetting.{QueueSetting, ids_at}
use Rattle.esm_queue_model.specs.QueueEntries.{queue_of, is_deleted}
use Rattle.esm_queue_model.specs.QueueStep.{succeeded_by, LegalQueue}
use Rattle.esm_queue_model.proofs.Places.{In, In-here, In-there}
use Rattle.esm_queue_core.specs.Coming.{is_refused_at, refused_from}
use Rattle.esm_queue_core.specs.Ending.{ended_places}
use Rattle.esm_queue_core.specs.Kept.{IsRisingFrom, MayBeGiven, messages_stored}
use Rattle.esm_queue_core.proofs.Named.{rising_lower, rising-filter, rising-succeeded, few-succeeded, few-filter, batch_rising, batch_few, may_be_given}
use Rattle.esm_queue_core.proofs.Settling.{ended_is, ended_came}

pub rising_refused : (s : QueueSetting) (k : ℕ) (xs : List Message) → IsRisingFrom k (refused_from s k xs)
rising_refused s k [] = tt
rising_refused s k (x ∷ xs) =
    elim (cases_Bool (is_refused_at s k x)) [
      | inl is ↦ rw is (omega arith, rising_refused s (k + 1) xs)
      | inr not' ↦ rw not' (rising_lower k (k + 1) (refused_from s (k + 1) xs) (omega arith) (rising_refused s (k + 1) xs))
    ]

pub few_refused : (s : QueueSetting) (k : ℕ) (xs : List Message) → length (refused_from s k xs) ≤ length xs
few_refused s k [] = omega arith
few_refused s k (x ∷ xs) =
    let rest = few_refused s (k + 1) xs in
    elim (cases_Bool (is_refused_at s k x)) [ inl is ↦ rw is (omega arith) | inr not' ↦ rw not' (omega arith) ]

pub within_refused : (s : QueueSetting) (k : ℕ) (xs : List Message) (n : ℕ) → k + length xs ≤ n → All (λ i. i < n) (refused_from s k xs)
within_refused s k [] n le = All-nil (λ i. i < n)
within_refused s k (x ∷ xs) n le =
    let low : k < n = omega arith in
    let rest = within_refused s (k + 1) xs n (omega arith) in
    elim (cases_Bool (is_refused_at s k x)) [ inl is ↦ rw is (All-cons (λ i. i < n) k (refused_from s (k + 1) xs) low rest) | inr not' ↦ rw not' rest ]

-- of messages that come
pub refused_given : (s : QueueSetting) (old xs : List Message) (places : List ℕ) (m : ℕ) → All (IsValidMessage s.config.kind) (old ++ xs) → length (old ++ xs) < 2 ^ 32 → length xs ≤ MAX_BATCH → m ≤ MAX_MOMENT → places ≡ refused_from s (length old) xs → MayBeGiven (old ++ xs) places Filtered m
refused_given s old xs places m valid few short within is =
    subst (λ (ps : List ℕ). MayBeGiven (old ++ xs) ps Filtered m) (sym is)
    (let fewer = few_refused s (length old) xs in
    may_be_given s.config.kind (old ++ xs) (refused_from s (length old) xs) Filtered m valid few
    (within_refused s (length old) xs (length (old ++ xs)) (omega (arith, length-append old xs)))
    (rising_lower 0 (length old) (refused_from s (length old) xs) (omega arith) (rising_refused s (length old) xs)) (omega arith) refl within)

pub all_in : (xs : List ℕ) (n : ℕ) → ((i : ℕ) → In xs i → i < n) → All (λ i. i < n) xs
all_in [] n each = All-nil (λ i. i < n)
all_in (x ∷ xs) n each = All-cons (λ i. i < n) x xs (each x (In-here x xs x refl)) (all_in xs n (λ i h. each i (In-there x xs i h)))

-- of messages that succeeded
pub ended_given : (s : QueueSetting) (h : List Entry) (lane : LaneId) (reply : Reply) (m : ℕ) → LegalQueue s h → s.messages ≡ messages_stored (queue_of s h) → All (IsValidMessage s.config.kind) s.messages → length s.messages < 2 ^ 32 → s.config.batch_size ≤ MAX_BATCH → m ≤ MAX_MOMENT
    → MayBeGiven s.messages (ended_places s h lane reply m) Succeeded m
ended_given s h lane reply m legal all valid few size within =
    let batch = batch_of (last_call h lane) in
    let r = queue_reading s.config (ids_at s batch) reply in
    let long : length s.messages ≡ length (queue_of s h).messages = ap (λ (ms : List Message). length ms) all ∙ length-map (queue_of s h).messages (λ (x : Stored). x.message) in
    let a = few-filter (λ i. not (is_deleted s h i)) (succeeded_by r batch) in
    let b = few-succeeded r batch in
    let c = batch_few s h lane legal in
    let is = ended_is s h lane reply m in
    may_be_given s.config.kind s.messages (ended_places s h lane reply m) Succeeded m valid few
    (all_in (ended_places s h lane reply m) (length s.messages) (λ i member. (let low = ended_came s h lane reply m i legal member in omega arith)))
    (subst (IsRisingFrom 0) (sym is) (rising-filter (λ i. not (is_deleted s h i)) 0 (succeeded_by r batch) (rising-succeeded r batch (batch_rising s h lane legal))))
    (subst (λ (ps : List ℕ). length ps ≤ MAX_BATCH) (sym is) (omega arith)) refl within
