-- What a run of a queue's batchers leaves. This product's own.
use Rattle.std.specs.Prelude.{◌≡◌, ◌<◌, ◌≤◌, ◌⊎◌, ◌++◌, ℕ, Bool, List, [], length, slice_get, slice_index_or, Option, Some, None, IsSome}
use Rattle.esm_io.specs.Told.{Grows, TakesFront}
use Rattle.esm_model.specs.declared.item.Message.{Message}
use Rattle.esm_model.specs.declared.book.Change.{Change}
use Rattle.esm_model.specs.declared.book.Trouble.{Trouble}
use Rattle.esm_model.specs.declared.book.Trouble.TheVariants.{Changed}
use Rattle.esm_model.specs.declared.entry.Entry.{Entry}
use Rattle.esm_model.specs.declared.setup.FoundDeletion.{FoundDeletion}
use Rattle.esm_model.specs.Entries.{calls_begun}
use Rattle.esm_queue_model.specs.QueueSetting.{QueueSetting, over_messages}
use Rattle.esm_queue_model.specs.QueueBatch.{queue_calls}
pub use Rattle.esm_queue_book.specs.Left.{AllDeleted, HasWaiting}
use Rattle.esm_queue_core.specs.Coming.{NoneHasChanged}
use Rattle.esm_input.specs.declared.ending.InputEnd.{InputEnd}
use Rattle.esm_input.specs.Positions.{from_start}
use Rattle.esm_input.specs.Reading.{InputState, items_read, handed}
use Rattle.esm_queue_book.specs.Books.{BookState}
use Rattle.esm_queue_book.specs.Moments.{IsTimedView}
use Rattle.esm_runner.specs.Given.{AreGiven}
use Rattle.esm_workers.specs.Working.{Outside}
use Rattle.esm_runner.specs.Ran.{NoneRuns}
use Rattle.esm_pool.specs.declared.running.RunEnd.{RunEnd}
use Rattle.esm_pool.specs.declared.running.RunEnd.TheVariants.{Finished, Spent, Down}
use Rattle.esm_runner.specs.Number.{batchers_in}
use Rattle.esm_runner.specs.QueueComing.{messages_in_items, SomeCame, AllCame}
use Rattle.esm_runner.specs.QueueStopping.{HasLogged}

-- the run took a book with an empty history, and its callers, from `before` and `old` to `after` and `new`
pub record HasRun {D F : Type 0} (o : Outside F) (before after : BookState D) (old new : List F) : Type 0 where
  -- what the book was opened with stays
  pub opened : after.core.setting ≡ over_messages before.core.setting after.core.setting.messages
  pub found : after.found ≡ before.found
  -- each moment is one that the clock gave, or that of the entry before if that is later
  pub moments : AreGiven o.gave after.core.past
  -- and so is that of each entry that was not added because a disk failed
  pub timed : IsTimedView o.gave after.core
  -- every call has ended
  pub rests : NoneRuns after.core.past
  -- caller k's log, if it is visible, grew by the calls of batcher k
  pub as_many : length new ≡ length old
  pub calls_made : (k : ℕ) (d : F) → k < length old → Grows (o.log (slice_index_or old k d)) (o.log (slice_index_or new k d)) (queue_calls after.core.setting o.sends after.core.past k)
  -- a caller past the number of batchers is as it was, and its batcher made no call
  pub untouched : (k : ℕ) (d : F) → batchers_in before.core.setting.config ≤ k → slice_index_or new k d ≡ slice_index_or old k d
  pub no_calls : (k : ℕ) → batchers_in before.core.setting.config ≤ k → queue_calls after.core.setting o.sends after.core.past k ≡ []

-- the same, as far as the run got before memory ran out
pub record HasStopped {D F : Type 0} (o : Outside F) (before after : BookState D) (old new : List F) : Type 0 where
  pub opened : after.core.setting ≡ over_messages before.core.setting after.core.setting.messages
  pub found : after.found ≡ before.found
  pub moments : AreGiven o.gave after.core.past
  pub timed : IsTimedView o.gave after.core
  -- caller k's log, if it is visible, grew by the calls of batcher k, and perhaps by one further call of its lane, which
  -- still runs
  pub as_many : length new ≡ length old
  pub calls_made : (k : ℕ) (d : F) → k < length old → HasLogged o.sends after.core.setting after.core.past k (o.log (slice_index_or old k d)) (o.log (slice_index_or new k d))
  pub untouched : (k : ℕ) (d : F) → batchers_in before.core.setting.config ≤ k → slice_index_or new k d ≡ slice_index_or old k d
  pub no_calls : (k : ℕ) → batchers_in before.core.setting.config ≤ k → queue_calls after.core.setting o.sends after.core.past k ≡ []

-- how it ended

-- the reading of the input ended, and a message is not deleted; or the input had not ended, if it does not show its bytes
abbrev pub IsUnfinished : QueueSetting → List Entry → (reading : Option InputEnd) → (bytes_left : Option (List ℕ)) → Type 0
IsUnfinished s h reading bytes_left = (IsSome reading × HasWaiting s h) ⊎ ((reading ≡ None) × (bytes_left ≡ None))

-- `Finished`: each message that arrived is deleted; `Spent`: all calls allowed began, and a message is not deleted, or the
-- input had not ended; `Down`: the book is down
abbrev pub EndsSo : {S D : Type 0} → (left : S → Option (List ℕ)) → InputState S → BookState D → RunEnd → Type 0
EndsSo left i b Finished = (b.trouble ≡ None) × AllDeleted b.core.setting b.core.past
EndsSo left i b Spent = (b.trouble ≡ None) × (calls_begun b.core.past ≡ b.core.setting.calls) × IsUnfinished b.core.setting b.core.past i.end (left i.source)
EndsSo left i b Down = IsSome b.trouble

-- the change is of one of these messages: the one at that place, with the id that it names as given
pub record IsOfMessage (messages : List Message) (change : Change) : Type 0 where
  pub item : Message
  pub at : slice_get messages change.place ≡ Some item
  pub given : item.id ≡ change.given

-- none of these messages before the place was found deleted and has another id now
abbrev pub NoneDiffersBefore : List FoundDeletion → List Message → ℕ → Type 0
NoneDiffersBefore deletions messages place = NoneHasChanged deletions 0 messages place

abbrev pub IsDownFor : QueueSetting → List Message → Option Trouble → Type 0
IsDownFor s messages (Some (Changed change)) = IsOfMessage messages change × NoneDiffersBefore s.deletions messages change.place
IsDownFor s messages _ = Unit {0}

-- the messages of the input that arrived: all that the input returned, if it was read to an end or was left once all calls
-- allowed began; a prefix of them if the book went down
abbrev pub CameSo : {S D : Type 0} → InputState S → BookState D → RunEnd → Type 0
CameSo i b Finished = AllCame b (messages_in_items (handed i)) × IsSome i.end
CameSo i b Spent = AllCame b (messages_in_items (handed i))
CameSo i b Down = SomeCame b (messages_in_items (handed i)) × IsDownFor b.core.setting (messages_in_items (handed i)) b.trouble

-- Memory ran out: these bytes were read, the messages of their lines or a prefix of them arrived, and more bytes may have
-- been read after them.
pub record IsCutInput {S D : Type 0} (left : S → Option (List ℕ)) (i : InputState S) (b : BookState D) : Type 0 where
  pub bytes : List ℕ
  pub more : List ℕ
  pub whole : Bool
  pub taken : TakesFront (left i.found) (left i.source) (bytes ++ more)
  pub came : SomeCame b (messages_in_items (from_start i.start (items_read i.kind i.factor whole bytes).items))
