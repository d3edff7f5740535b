-- A redrive's book as its one caller uses it, and how it changes over time. This product's own.
use Rattle.std.specs.Prelude.{◌≡◌, ◌≤◌, ◌++◌, ℕ, zero, suc, Bool, true, false, List, [], ◌∷◌, length, map, None, ⊤}
use Rattle.esm_journal.specs.State.{JournalState}
use Rattle.esm_model.specs.declared.book.Change.{Change}
use Rattle.esm_model.specs.declared.book.Job.{Job}
use Rattle.esm_model.specs.declared.called.Called.{Called}
use Rattle.esm_model.specs.declared.entry.Entry.{Entry}
use Rattle.esm_model.specs.declared.entry.Entry.TheVariants.{Came, Gave}
use Rattle.esm_model.specs.declared.item.Item.{Item}
use Rattle.esm_model.specs.declared.item.Item.TheVariants as items
use Rattle.esm_model.specs.declared.item.LineKind.{LineKind}
use Rattle.esm_model.specs.declared.item.LineKind.TheVariants as kinds
use Rattle.esm_model.specs.Entries.{is_shut, is_running, calls_begun, last_call, last_moment, batch_of, CallsFollowShut}
use Rattle.esm_queue_model.specs.QueueSetting.{is_fifo}
use Rattle.esm_queue_model.specs.QueueEntries.{queue_lane, queue_count}
use Rattle.esm_queue_model.specs.QueueBatch.{last_queue_event}
use Rattle.esm_queue_book.specs.Coming.{messages_in_items}
use Rattle.esm_queue_book.specs.Left.{AllDeleted, HasWaiting}
use Rattle.esm_redrive_model.specs.RedriveSetting.{RedriveSetting, redrive_over}
use Rattle.esm_redrive_model.specs.Due.{due}
use Rattle.esm_redrive_model.specs.RedriveReport.{redrive_calls}
use Rattle.esm_redrive_model.specs.RedriveStep.{LegalRedrive}
use Rattle.esm_redrive_core.specs.Refusing.{IsFirstChange}
use Rattle.esm_redrive_book.specs.Books.{BookState}
use Rattle.esm_redrive_book.specs.Moments.{IsTimedView}
use Rattle.esm_runner.specs.Given.{AreGiven}

-- a redrive's book over a dead-letter file
abbrev pub Book : Type 0 → Type 0
Book D = BookState D (JournalState D)

-- its history is legal, and its messages are those that arrived
pub record IsLegalBook {D : Type 0} (b : Book D) : Type 0 where
  pub legal : LegalRedrive b.core.setting b.core.past
  pub came : queue_count b.core.past ≡ length b.core.setting.queue.messages

-- the book changed from `first` to `now`, and these calls of batcher 0 ended in between
pub record HasGoneOn {D : Type 0} (gave : ℕ → Bool) (sends : List ℕ → List ℕ) (first now : Book D) (calls : List Called) : Type 0 where
  -- what the book was opened with is unchanged
  pub opened : now.core.setting ≡ redrive_over first.core.setting now.core.setting.queue.messages
  pub found : now.found ≡ first.found
  pub found_dest : now.found_dest ≡ first.found_dest
  pub sound : IsLegalBook first → IsLegalBook now
  -- each moment is one that the clock gave, or that of the entry before it if it is later
  pub moments : AreGiven gave first.core.past → AreGiven gave now.core.past
  -- the clock also gave that of each owed entry: of the one in hand, and of the one whose line was being delivered
  pub timed : IsTimedView gave first.core → IsTimedView gave now.core
  pub called : redrive_calls now.core.setting sends now.core.past ≡ redrive_calls first.core.setting sends first.core.past ++ calls
  -- calls begin only after the end of the input
  pub later : CallsFollowShut first.core.past → CallsFollowShut now.core.past

-- the book is as it was opened
pub record IsFresh {D : Type 0} (b : Book D) : Type 0 where
  pub past : b.core.past ≡ []
  pub messages : b.core.setting.queue.messages ≡ []
  pub up : b.trouble ≡ None

-- messages arrived, no call began, and the input has not ended
abbrev pub AreArrivals : List Entry → Type 0
AreArrivals [] = ⊤
AreArrivals (Came shard first count moment ∷ h) = AreArrivals h
AreArrivals (Gave by shard places fate line state moment ∷ h) = AreArrivals h
AreArrivals (_ ∷ h) = ⊥

abbrev pub IsGoing : {D : Type 0} → Book D → Type 0
IsGoing b = AreArrivals b.core.past

abbrev pub IsShut : {D : Type 0} → Book D → Type 0
IsShut b = is_shut b.core.past ≡ true

-- no call is running; if the book is not down, the input has ended
pub record DoesRest {D : Type 0} (b : Book D) : Type 0 where
  pub idle : is_running b.core.past (queue_lane 0) ≡ false
  pub shut : b.trouble ≡ None → is_shut b.core.past ≡ true

-- the job is that of the running call
pub record RunsJob {D : Type 0} (b : Book D) (job : Job) : Type 0 where
  pub lane : job.lane ≡ queue_lane 0
  pub runs : is_running b.core.past (queue_lane 0) ≡ true
  pub places : job.places ≡ batch_of (last_call b.core.past (queue_lane 0))
  pub event : job.event ≡ last_queue_event b.core.setting.queue b.core.past (queue_lane 0)
  pub shut : b.trouble ≡ None → is_shut b.core.past ≡ true

-- the input has ended, and every message that arrived is deleted
pub record HasFinished {D : Type 0} (b : Book D) : Type 0 where
  pub shut : is_shut b.core.past ≡ true
  pub deleted : AllDeleted b.core.setting.queue b.core.past

-- no message is due at some moment that is not before that of the last entry
abbrev pub IsNoneDue : RedriveSetting → List Entry → Type 0
IsNoneDue s h = (m : ℕ) × (last_moment h ≤ m) × (due s h m ≡ [])

-- all calls allowed were made, and a message is not deleted, though none is due
pub record IsSpent {D : Type 0} (b : Book D) : Type 0 where
  pub calls : calls_begun b.core.past ≡ b.core.setting.queue.calls
  pub waits : HasWaiting b.core.setting.queue b.core.past
  pub none_due : IsNoneDue b.core.setting b.core.past

-- the lines of the input of a queue of this kind
abbrev pub lines_in : {D : Type 0} → Book D → LineKind
lines_in b = kinds.Queue (is_fifo b.core.setting.queue.config.kind)

-- the items of the shard that arrived, in their order; a queue is shard 0
abbrev pub items_in : {D : Type 0} → Book D → ℕ → List Item
items_in b zero = map items.Queue b.core.setting.queue.messages
items_in b (suc n) = []

-- the first of the list's messages that was found deleted with another id differs so
abbrev pub Differs : {D : Type 0} → Book D → List Item → Change → Type 0
Differs b list change = IsFirstChange b.core (messages_in_items list) change
