-- What calls of a queue's book add to its history and its journal. This product's own.
use Rattle.std.specs.Prelude.{◌≡◌, ℕ, ◌<◌, ◌++◌, ◌∷◌, [], List, Some, None, false, length, take, reverse}
use Rattle.esm_io.specs.Meanings.{DiskMeaning}
use Rattle.esm_journal.specs.Pair.{PairKeepsWhileUp}
use Rattle.esm_model.specs.declared.item.Message.{Message}
use Rattle.esm_model.specs.declared.entry.Entry.{Entry}
use Rattle.esm_model.specs.declared.book.Trouble.TheVariants.{Disk}
use Rattle.esm_model.specs.declared.book.Next.{Next}
use Rattle.esm_model.specs.declared.book.Next.TheVariants as next
use Rattle.esm_queue_model.specs.QueueSetting.{over_messages}
use Rattle.esm_queue_model.specs.QueueEntries.{queue_lane}
use Rattle.esm_queue_core.specs.CoreView.{IsRunningJob}
use Rattle.esm_queue_core.specs.Told.{told_entries, told_of}
use Rattle.esm_queue_book.specs.Books.{BookState, payloads_in, LeavesFirst}

-- These entries, oldest first, were added to the history, over the list of all messages, and their payloads to the journal.
-- What the book was opened with stays.
pub record Added {D : Type 0} (messages : List Message) (old new : BookState D) (es : List Entry) : Type 0 where
  pub past : new.core.past ≡ reverse es ++ old.core.past
  pub told : told_of new.core ≡ told_of old.core ++ told_entries messages es
  pub opened : new.core.setting ≡ over_messages old.core.setting new.core.setting.messages
  pub payloads : new.pair.payloads ≡ old.pair.payloads ++ payloads_in messages es
  pub found : new.found ≡ old.found

-- All that a call was to add was added; these are all messages that came. If it added nothing, no disk was called.
pub record AddedAll {D : Type 0} (m : DiskMeaning D) (messages : List Message) (old new : BookState D) (es : List Entry) : Type 0 where
  pub added : Added messages old new es
  pub setting : new.core.setting ≡ over_messages old.core.setting messages
  pub settled : new.core.owed ≡ []
  pub trouble : new.trouble ≡ None
  pub quiet : es ≡ [] → new.pair ≡ old.pair
  pub images : LeavesFirst m old.pair new.pair (payloads_in messages es)
  pub kept : PairKeepsWhileUp m new.pair
  pub up : new.pair.down ≡ false

-- A disk failed before all of it was added: the rest is owed. The first of the rest was being written: its payload may be on
-- the disk.
pub record AddedSome {D : Type 0} (m : DiskMeaning D) (messages : List Message) (old new : BookState D) (es : List Entry) : Type 0 where
  pub front : List Entry
  pub rest : List Entry
  pub split : front ++ rest ≡ es
  pub left : 0 < length rest
  pub writing : (payload : List ℕ) × (payloads_in messages (take 1 rest) ≡ payload ∷ [])
  pub added : Added messages old new front
  pub owed : new.core.owed ≡ rest
  pub trouble : new.trouble ≡ Some Disk
  pub images : LeavesFirst m old.pair new.pair (payloads_in messages (front ++ take 1 rest))

-- one entry was added, of which nothing is written; all else is as before
pub record AddedOne {D : Type 0} (old new : BookState D) (e : Entry) : Type 0 where
  pub past : new.core.past ≡ e ∷ old.core.past
  pub told : told_of new.core ≡ told_of old.core ++ told_entries old.core.setting.messages (e ∷ [])
  pub setting : new.core.setting ≡ old.core.setting
  pub owed : new.core.owed ≡ old.core.owed
  pub rest : new ≡ record old { core = new.core }

-- a call that is answered is the batcher's, and has begun: its lane is running it
abbrev pub RunsCall : ℕ → List Entry → Next → Type 0
RunsCall batcher h (next.Call job) = (job.lane ≡ queue_lane batcher) × IsRunningJob h job
RunsCall batcher h _ = Unit {0}

-- nothing changed, except that there may be memory for more payloads
abbrev pub IsSame : {D : Type 0} → BookState D → BookState D → Type 0
IsSame old new = new ≡ record old { pair = record old.pair { room = new.pair.room } }
