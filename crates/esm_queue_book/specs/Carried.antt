-- What each call of a queue's book decides and adds. Only this crate's proofs cite this.
use Rattle.std.specs.Prelude.{◌≡◌, List, [], ◌++◌, length, Some, Result, Ok, Err}
use Rattle.esm_io.specs.Faults.{Rose}
use Rattle.esm_io.specs.Meanings.{DiskMeaning}
use Rattle.esm_model.specs.declared.item.Message.{Message}
use Rattle.esm_model.specs.declared.book.Change.{Change}
use Rattle.esm_model.specs.declared.book.Trouble.TheVariants as trouble
use Rattle.esm_model.specs.declared.entry.Entry.{Entry}
use Rattle.esm_queue_core.specs.declared.decisions.QueueCall.{QueueCall}
use Rattle.esm_queue_core.specs.declared.decisions.QueueCall.TheVariants as call
use Rattle.esm_queue_core.specs.declared.decisions.QueueAnswer.{QueueAnswer}
use Rattle.esm_queue_core.specs.declared.decisions.QueueAnswer.TheVariants as answer
use Rattle.esm_queue_core.specs.CoreView.{CoreView, moment_for}
use Rattle.esm_queue_core.specs.Coming.{came_entries}
use Rattle.esm_queue_core.specs.Ending.{ended_places, ended_entries}
use Rattle.esm_queue_core.specs.Next.{next_for, next_entries}
use Rattle.esm_queue_core.specs.Told.{Refuses}
use Rattle.esm_queue_book.specs.declared.carrying.Stop.{Stop}
use Rattle.esm_queue_book.specs.declared.carrying.Stop.TheVariants.{DiskFault, Changed, OutOfMemory}
use Rattle.esm_queue_book.specs.Books.{BookState}
use Rattle.esm_queue_book.specs.Calls.{AddedAll, AddedSome, AddedOne, IsSame}
use Rattle.esm_queue_book.specs.Keeping.{IsSound}

-- the messages that come with a call
abbrev pub coming_by : QueueCall → List Message
coming_by (call.Came items moment) = items.items
coming_by _ = []

-- all messages after it
abbrev pub messages_after : CoreView → QueueCall → List Message
messages_after v (call.Came items moment) = v.setting.messages ++ items.items
messages_after v _ = v.setting.messages

-- the entries that it decides, oldest first
abbrev pub entries_by : CoreView → QueueCall → List Entry
entries_by v (call.Came items moment) = came_entries v items.items moment
entries_by v (call.Shut moment) = []
entries_by v (call.Next batcher moment) = next_entries (next_for v.setting v.past batcher (moment_for v.past moment)) (moment_for v.past moment)
entries_by v (call.Done job reply moment) = ended_entries v.setting v.past job.lane reply (moment_for v.past moment)

-- this is its answer
abbrev pub IsAnswer : CoreView → QueueCall → QueueAnswer → Type 0
IsAnswer v (call.Came items moment) answer.Taken = Unit {0}
IsAnswer v (call.Next batcher moment) (answer.Next next) = next ≡ next_for v.setting v.past batcher (moment_for v.past moment)
IsAnswer v (call.Done job reply moment) (answer.Deleted count) = count ≡ length (ended_places v.setting v.past job.lane reply (moment_for v.past moment))
IsAnswer v _ _ = ⊥

-- how a call ends

-- it is carried out whole
pub record CarriedAll {D : Type 0} (m : DiskMeaning D) (old new : BookState D) (asked : QueueCall) (given : QueueAnswer) : Type 0 where
  pub added : AddedAll m (messages_after old.core asked) old new (entries_by old.core asked)
  pub answer_is : IsAnswer old.core asked given
  pub no_change : (change : Change) → Refuses old.core asked change → ⊥
  pub sound : IsSound new

-- a disk failed in it
pub record CarriedSome {D : Type 0} (m : DiskMeaning D) (old new : BookState D) (asked : QueueCall) : Type 0 where
  pub added : AddedSome m (messages_after old.core asked) old new (entries_by old.core asked)
  pub cause : Rose (m.faults old.pair.used) (m.faults new.pair.used)
  pub no_change : (change : Change) → Refuses old.core asked change → ⊥
  pub sound : IsSound new

-- it brought a change
pub record FoundChange {D : Type 0} (old new : BookState D) (asked : QueueCall) (change : Change) : Type 0 where
  pub refuses : Refuses old.core asked change
  pub rest : new ≡ record old { trouble = Some (trouble.Changed change) }
  pub sound : IsSound new

-- there was no memory for it
pub record CarriedNone {D : Type 0} (old new : BookState D) : Type 0 where
  pub same : IsSame old new
  pub sound : IsSound new

abbrev pub IsCarried : {D : Type 0} → DiskMeaning D → BookState D → BookState D → QueueCall → Result QueueAnswer Stop → Type 0
IsCarried m old new asked (Ok given) = CarriedAll m old new asked given
IsCarried m old new asked (Err DiskFault) = CarriedSome m old new asked
IsCarried m old new asked (Err (Changed change)) = FoundChange old new asked change
IsCarried m old new asked (Err OutOfMemory) = CarriedNone old new

-- one entry is noted
pub record Noted {D : Type 0} (old new : BookState D) (e : Entry) : Type 0 where
  pub added : AddedOne old new e
  pub sound : IsSound new
