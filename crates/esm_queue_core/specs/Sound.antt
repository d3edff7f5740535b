-- What each decision of a queue's book leaves of a history that is legal and settled. This product's own.
use Rattle.std.specs.Prelude.{◌≡◌, ℕ, ◌≤◌, false, IsTrue, List, [], ◌∷◌, ◌++◌, length, Option, Some, None}
use Rattle.esm_model.specs.declared.item.Message.{Message}
use Rattle.esm_model.specs.declared.lane.LaneId.{LaneId}
use Rattle.esm_model.specs.declared.entry.Fate.{Fate}
use Rattle.esm_model.specs.declared.entry.Fate.TheVariants.{Succeeded, Filtered}
use Rattle.esm_model.specs.declared.entry.Reply.{Reply}
use Rattle.esm_model.specs.declared.entry.Entry.{Entry}
use Rattle.esm_model.specs.declared.entry.Entry.TheVariants.{Came, Began, Ended, Gave, Shut}
use Rattle.esm_model.specs.Entries.{is_shut, is_running}
use Rattle.esm_model.specs.Step.{IsLater}
use Rattle.esm_queue_model.specs.QueueSetting.{QueueSetting}
use Rattle.esm_queue_model.specs.QueueEntries.{queue_count}
use Rattle.esm_queue_model.specs.QueueStep.{IsKeptMessage, MayBeginQueue, LegalQueue, SettledQueue}
use Rattle.esm_queue_core.specs.Coming.{refused_from}
use Rattle.esm_queue_core.specs.Ending.{ended_places}

-- legal, and nothing more is required
pub record Sound (s : QueueSetting) (h : List Entry) : Type 0 where
  pub legal : LegalQueue s h
  pub settled : SettledQueue s h

-- the history with a deletion of the places on it, if there are any
abbrev pub gave_on : Option LaneId → List ℕ → Fate → ℕ → List Entry → List Entry
gave_on by [] fate m h = h
gave_on by (i ∷ places) fate m h = Gave by 0 (i ∷ places) fate None None m ∷ h

-- these messages extend those that came, and may come at the moment
pub record Brings (s : QueueSetting) (h : List Entry) (old xs : List Message) (m : ℕ) : Type 0 where
  pub all : s.messages ≡ old ++ xs
  pub number : queue_count h ≡ length old
  pub going : is_shut h ≡ false
  pub some : 1 ≤ length xs
  pub kept : IsKeptMessage s (length old) (length xs)
  pub later : IsLater h m

abbrev pub MessagesAreSound : QueueSetting → List Entry → Type 0
MessagesAreSound s h = (old xs : List Message) (m : ℕ) → Brings s h old xs m → Sound s (gave_on None (refused_from s (length old) xs) Filtered m (Came 0 (length old) (length xs) m ∷ h))

abbrev pub CallIsSound : QueueSetting → List Entry → Type 0
CallIsSound s h = (lane : LaneId) (places : List ℕ) (m : ℕ) → IsLater h m → MayBeginQueue s h lane places m → Sound s (Began lane places None m ∷ h)

abbrev pub EndIsSound : QueueSetting → List Entry → Type 0
EndIsSound s h = (lane : LaneId) (reply : Reply) (m : ℕ) → IsTrue (is_running h lane) → IsLater h m → Sound s (gave_on (Some lane) (ended_places s h lane reply m) Succeeded m (Ended lane reply m ∷ h))

abbrev pub ShutIsSound : QueueSetting → List Entry → Type 0
ShutIsSound s h = (m : ℕ) → is_shut h ≡ false → IsLater h m → Sound s (Shut m ∷ h)
