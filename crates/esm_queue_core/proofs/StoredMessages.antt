-- In a legal history whose moments are moments and whose messages are valid, the queue keeps moments and valid messages.
use Rattle.std.proofs.Common.{ℕ, ◌+◌, ◌≤◌, cond, List, [], ◌∷◌, take, drop, inl, inr, Option, Some, None}
use Rattle.std.specs.Prelude.{All, IfSome}
use Rattle.std.specs.Option.{option_or}
use Rattle.std.proofs.lemmas.Bool.{cases_Bool}
use Rattle.std.proofs.lemmas.List.Elements.{All-nil, All-cons, All-head, All-tail, All-append, All-take, All-drop}
use Rattle.esm_model.specs.declared.moment.TheConstants.{MAX_MOMENT}
use Rattle.esm_model.specs.declared.config.Kind.{Kind}
use Rattle.esm_model.specs.declared.item.Message.{Message}
use Rattle.esm_model.specs.declared.entry.Entry.{Entry}
use Rattle.esm_model.specs.declared.entry.Entry.TheVariants.{Came, Began, Ended, Gave, Tried, Closed, Replayed, Shut}
use Rattle.esm_model.specs.Entries.{holds}
use Rattle.esm_model.specs.ValidMessage.{IsValidMessage}
use Rattle.esm_queue_model.specs.declared.stored.Stored.{Stored}
use Rattle.esm_queue_model.specs.Queue.{changed_from, received_once, deleted_once}
use Rattle.esm_queue_model.specs.QueueSetting.{QueueSetting}
use Rattle.esm_queue_model.specs.QueueEntries.{coming_from, queue_of}
use Rattle.esm_queue_model.specs.QueueStep.{LegalQueue}
use Rattle.esm_queue_core.specs.Next.{IsValidStored}

pub all_changed : (P : Stored → Type 0) (f : Stored → Stored) → ((x : Stored) → P x → P (f x)) → (places : List ℕ) (k : ℕ) (xs : List Stored) → All P xs → All P (changed_from f places k xs)
all_changed P f keeps places k [] all = All-nil P
all_changed P f keeps places k (x ∷ xs) all =
    let here : P x = All-head P x xs all in
    let rest = all_changed P f keeps places (k + 1) xs (All-tail P x xs all) in
    All-cons P (cond (holds places k) (f x) x) (changed_from f places (k + 1) xs)
    (elim (cases_Bool (holds places k)) [ inl is ↦ rw is (keeps x here) | inr not' ↦ rw not' here ]) rest

pub coming_stored : (s : QueueSetting) (kind : Kind) (m k : ℕ) → m ≤ MAX_MOMENT → (xs : List Message) → All (IsValidMessage kind) xs → All (IsValidStored kind) (coming_from s m k xs)
coming_stored s kind m k early [] all = All-nil (IsValidStored kind)
coming_stored s kind m k early (x ∷ xs) all =
    All-cons (IsValidStored kind) _ (coming_from s m (k + 1) xs)
    (record { message = All-head (IsValidMessage kind) x xs all; came = early; first = tt })
    (coming_stored s kind m (k + 1) early xs (All-tail (IsValidMessage kind) x xs all))

first_stored : (o : Option ℕ) (m : ℕ) → m ≤ MAX_MOMENT → IfSome o (λ n. n ≤ MAX_MOMENT) → IfSome (option_or o (Some m)) (λ n. n ≤ MAX_MOMENT)
first_stored None m early before = early
first_stored (Some n) m early before = before

pub received_stored : (kind : Kind) (m : ℕ) → m ≤ MAX_MOMENT → (x : Stored) → IsValidStored kind x → IsValidStored kind (received_once m x)
received_stored kind m early x is = record { message = is.message; came = is.came; first = first_stored x.first m early is.first }

pub deleted_stored : (kind : Kind) (x : Stored) → IsValidStored kind x → IsValidStored kind (deleted_once x)
deleted_stored kind x is = record { message = is.message; came = is.came; first = is.first }

-- each message that the queue keeps is valid, and the moments of its arrival and its first receipt are moments
pub all_stored : (s : QueueSetting) (h : List Entry) → LegalQueue s h → All (IsValidMessage s.config.kind) s.messages → All (IsValidStored s.config.kind) (queue_of s h).messages
all_stored s [] legal valid = All-nil (IsValidStored s.config.kind)
all_stored s (Came shard first count m ∷ h) legal valid =
    All-append (IsValidStored s.config.kind) (queue_of s h).messages (coming_from s m first (take count (drop first s.messages))) (all_stored s h legal.0 valid)
    (coming_stored s s.config.kind m first legal.1.0.within (take count (drop first s.messages)) (All-take (IsValidMessage s.config.kind) count (drop first s.messages) (All-drop (IsValidMessage s.config.kind) first s.messages valid)))
all_stored s (Began lane places closing m ∷ h) legal valid = all_changed (IsValidStored s.config.kind) (received_once m) (received_stored s.config.kind m legal.1.0.within) places 0 (queue_of s h).messages (all_stored s h legal.0 valid)
all_stored s (Gave by shard places f line state m ∷ h) legal valid = all_changed (IsValidStored s.config.kind) deleted_once (deleted_stored s.config.kind) places 0 (queue_of s h).messages (all_stored s h legal.0 valid)
all_stored s (Ended lane reply m ∷ h) legal valid = all_stored s h legal.0 valid
all_stored s (Tried lane places closing tries m ∷ h) legal valid = all_stored s h legal.0 valid
all_stored s (Closed lane window m ∷ h) legal valid = all_stored s h legal.0 valid
all_stored s (Replayed shard places m ∷ h) legal valid = all_stored s h legal.0 valid
all_stored s (Shut m ∷ h) legal valid = all_stored s h legal.0 valid
