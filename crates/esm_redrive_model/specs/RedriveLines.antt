-- Which messages are moved, from the lines of the dead-letter file: what holds of every legal history of a redrive, which
-- has its newest entry first, and what one redrive leaves for the next. This product's own.
use Rattle.std.specs.Prelude.{◌≡◌, ℕ, ◌<◌, true, IsTrue, List, [], ◌∷◌, ◌++◌, take, Bool, Some}
use Rattle.esm_model.specs.declared.item.Message.{Message}
use Rattle.esm_model.specs.declared.entry.Fate.{Fate}
use Rattle.esm_model.specs.declared.entry.Fate.TheVariants.{Exhausted}
use Rattle.esm_model.specs.declared.entry.Entry.{Entry}
use Rattle.esm_model.specs.declared.setup.FoundDeletion.{FoundDeletion}
use Rattle.esm_model.specs.Entries.{holds, moment_of}
use Rattle.esm_model.specs.Fates.{given}
use Rattle.esm_queue_model.specs.QueueSetting.{message_at, found_deletion}
use Rattle.esm_queue_model.specs.QueueEntries.{queue_count, deletion_fate}
use Rattle.esm_redrive_model.specs.RedriveSetting.{RedriveSetting, stands_among}
use Rattle.esm_redrive_model.specs.DeadLetter.{dead_letter}
use Rattle.esm_redrive_model.specs.Due.{receives, due, moved_places, moved_ids}
use Rattle.esm_redrive_model.specs.RedriveLaws.{is_redrive_fate, EachOnce}

-- lines

-- the id is in a line of the dead-letter file after the history: in one that was found, or in one that was added
abbrev pub is_lined : RedriveSetting → List Entry → List ℕ → Bool
is_lined s h id = stands_among (s.dead_ids ++ moved_ids s h) id

-- What the found dead-letter file has to satisfy: for each message that was found moved in the journal, the id that the
-- journal kept of it is in a line.
abbrev pub FoundMovesAreLined : RedriveSetting → Type 0
FoundMovesAreLined s = (i : ℕ) (f : FoundDeletion) → found_deletion s.queue i ≡ Some f → f.fate ≡ Exhausted → stands_among s.dead_ids f.text ≡ true

-- the message at the place was not found deleted with another fate than that of a move
abbrev pub NotFoundOtherwise : RedriveSetting → ℕ → Type 0
NotFoundOtherwise s i = (f : FoundDeletion) → found_deletion s.queue i ≡ Some f → f.fate ≡ Exhausted

-- the message is moved if and only if its id is in a line and it was not found deleted with another fate
pub record IsMovedByLine (s : RedriveSetting) (h : List Entry) (i : ℕ) (m : Message) : Type 0 where
  pub lined : deletion_fate s.queue h i ≡ Some Exhausted → is_lined s h m.id ≡ true
  pub not_otherwise : deletion_fate s.queue h i ≡ Some Exhausted → NotFoundOtherwise s i
  pub moved : is_lined s h m.id ≡ true → NotFoundOtherwise s i → deletion_fate s.queue h i ≡ Some Exhausted

-- this holds of each message that arrived
abbrev pub MovedWhereLined : RedriveSetting → List Entry → Type 0
MovedWhereLined s h = (i : ℕ) (m : Message) → i < queue_count h → message_at s.queue i ≡ Some m → IsMovedByLine s h i m

-- the line of an entry that follows the history is that of the first message that is due at the entry's moment
pub record IsLineOfDue (s : RedriveSetting) (h : List Entry) (e : Entry) (line : List ℕ) : Type 0 where
  pub place : ℕ
  pub message : Message
  pub first : take 1 (due s h (moment_of e)) ≡ place ∷ []
  pub is_there : message_at s.queue place ≡ Some message
  pub line_is : line ≡ dead_letter message

-- receives

-- a message whose line the history adds was received in it exactly as often as it may be
abbrev pub LinedAfterReceives : RedriveSetting → List Entry → Type 0
LinedAfterReceives s h = (i : ℕ) → IsTrue (holds (moved_places h) i) → receives h i ≡ s.max_receives

-- what is left for the next redrive

-- The deletions of a history have the fates of a redrive, and each moved message has its line. So what the journal says
-- after it satisfies what is required of what a redrive finds.
pub record LeavesMovesLined (s : RedriveSetting) (h : List Entry) : Type 0 where
  pub reasons : (i : ℕ) (f : Fate) → given h 0 i ≡ Some f → is_redrive_fate f ≡ true
  pub lined : (i : ℕ) (m : Message) → given h 0 i ≡ Some Exhausted → message_at s.queue i ≡ Some m → is_lined s h m.id ≡ true

-- if the ids that earlier redrives added are each there once, and all were found, then together with those that the history
-- adds each is there once
abbrev pub AddsOnce : RedriveSetting → List Entry → List (List ℕ) → Type 0
AddsOnce s h earlier =
    EachOnce earlier → ((id : List ℕ) → stands_among earlier id ≡ true → stands_among s.dead_ids id ≡ true) → EachOnce (earlier ++ moved_ids s h)
