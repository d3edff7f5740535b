-- What each decision of a redrive leaves of a history that is legal and settled. This product's own.
use Rattle.std.specs.Prelude.{◌≡◌, ℕ, ◌≤◌, true, false, List, [], ◌∷◌, ◌++◌, length, Option, Some, None}
use Rattle.esm_model.specs.declared.item.Message.{Message}
use Rattle.esm_model.specs.declared.lane.LaneId.{LaneId}
use Rattle.esm_model.specs.declared.entry.Fate.{Fate}
use Rattle.esm_model.specs.declared.entry.Fate.TheVariants.{Succeeded, Filtered, Exhausted}
use Rattle.esm_model.specs.declared.entry.Reply.{Reply}
use Rattle.esm_model.specs.declared.entry.WindowState.{WindowState}
use Rattle.esm_model.specs.declared.entry.Entry.{Entry}
use Rattle.esm_model.specs.declared.entry.Entry.TheVariants.{Came, Began, Ended, Gave, Shut}
use Rattle.esm_model.specs.Entries.{is_shut, is_running}
use Rattle.esm_model.specs.Step.{IsLater}
use Rattle.esm_queue_model.specs.QueueEntries.{queue_lane, queue_count}
use Rattle.esm_queue_model.specs.QueueStep.{IsKeptMessage, owed_places}
use Rattle.esm_redrive_model.specs.RedriveSetting.{RedriveSetting}
use Rattle.esm_redrive_model.specs.RedriveStep.{SettledRedrive, MayMove, MayBeginRedrive, LegalRedrive}
use Rattle.esm_redrive_core.specs.Coming.{known_from, dropped_from}

-- legal, and requiring nothing
pub record Sound (s : RedriveSetting) (h : List Entry) : Type 0 where
  pub legal : LegalRedrive s h
  pub settled : SettledRedrive s h

-- the history, followed by a deletion of the places if there are any
abbrev pub gave_on : Option LaneId → List ℕ → Fate → ℕ → List Entry → List Entry
gave_on by [] fate m h = h
gave_on by (i ∷ places) fate m h = Gave by 0 (i ∷ places) fate None None m ∷ h

-- these messages extend those that arrived, and may arrive at the moment
pub record Brings (s : RedriveSetting) (h : List Entry) (old xs : List Message) (m : ℕ) : Type 0 where
  pub all : s.queue.messages ≡ old ++ xs
  pub number : queue_count h ≡ length old
  pub going : is_shut h ≡ false
  pub some : 1 ≤ length xs
  pub kept : IsKeptMessage s.queue (length old) (length xs)
  pub later : IsLater h m

-- the history, followed by the arrival of these messages, and by a record that those whose line was found were moved
abbrev pub recorded_on : RedriveSetting → List Message → List Message → ℕ → List Entry → List Entry
recorded_on s old xs m h = gave_on None (known_from s (length old) xs) Exhausted m (Came 0 (length old) (length xs) m ∷ h)

abbrev pub MessagesAreSound : RedriveSetting → List Entry → Type 0
MessagesAreSound s h = (old xs : List Message) (m : ℕ) → Brings s h old xs m → Sound s (gave_on None (dropped_from s (length old) xs) Filtered m (recorded_on s old xs m h))

abbrev pub MoveIsSound : RedriveSetting → List Entry → Type 0
MoveIsSound s h = (lane : LaneId) (shard : ℕ) (places : List ℕ) (line : Option (List ℕ)) (state : Option WindowState) (m : ℕ) → IsLater h m → MayMove s h lane shard places line state m → Sound s (Gave (Some lane) shard places Exhausted line state m ∷ h)

abbrev pub CallIsSound : RedriveSetting → List Entry → Type 0
CallIsSound s h = (lane : LaneId) (places : List ℕ) (m : ℕ) → IsLater h m → MayBeginRedrive s h lane places m → Sound s (Began lane places None m ∷ h)

-- the places that the end of the call deletes: those of messages that succeeded and are not yet deleted
abbrev pub ended_places : RedriveSetting → List Entry → Reply → ℕ → List ℕ
ended_places s h reply m = owed_places s.queue (Ended (queue_lane 0) reply m ∷ h) (queue_lane 0)

abbrev pub EndIsSound : RedriveSetting → List Entry → Type 0
EndIsSound s h = (reply : Reply) (m : ℕ) → is_running h (queue_lane 0) ≡ true → IsLater h m → Sound s (gave_on (Some (queue_lane 0)) (ended_places s h reply m) Succeeded m (Ended (queue_lane 0) reply m ∷ h))

abbrev pub ShutIsSound : RedriveSetting → List Entry → Type 0
ShutIsSound s h = (m : ℕ) → is_shut h ≡ false → IsLater h m → Sound s (Shut m ∷ h)
