-- What calls of a stream's book add to its history, its journal and its destination. This product's own.
use Rattle.std.specs.Prelude.{◌≡◌, ℕ, ◌<◌, ◌++◌, ◌∷◌, [], List, Some, None, false, length, take, reverse}
use Rattle.esm_io.specs.Meanings.{DiskMeaning, DestMeaning}
use Rattle.esm_io.specs.Told.{Grows}
use Rattle.esm_journal.specs.Pair.{PairKeepsWhileUp}
use Rattle.esm_model.specs.Setting.{Setting, over}
use Rattle.esm_model.specs.declared.entry.Entry.{Entry}
use Rattle.esm_model.specs.declared.book.Trouble.{Trouble}
use Rattle.esm_model.specs.declared.book.Trouble.TheVariants.{Disk, Dest, Changed}
use Rattle.esm_model.specs.declared.book.Next.{Next}
use Rattle.esm_model.specs.declared.book.Next.TheVariants as next
use Rattle.esm_book.specs.Answers.{IsSameDest}
use Rattle.esm_ledger.specs.Reading.{lane_of_batcher}
use Rattle.esm_next.specs.Following.{next_for}
use Rattle.esm_stream_core.specs.CoreView.{CoreView, lines_of}
use Rattle.esm_stream_core.specs.Calls.{moment_for, next_adds, IsRunningJob}
use Rattle.esm_stream_core.specs.Told.{told_entries, told_of}
use Rattle.esm_stream_book.specs.Books.{BookState, payloads_in, sent_of, LeavesFirst}

-- These entries, oldest first, were added to the history, over a setting with all that came with the call, and their
-- payloads to the journal. What the book was opened with stays.
pub record Added {D T : Type 0} (s : Setting) (old new : BookState D T) (es : List Entry) : Type 0 where
  pub past : new.core.past ≡ reverse es ++ old.core.past
  pub told : told_of new.core ≡ told_of old.core ++ told_entries s es
  pub opened : new.core.setting ≡ over old.core.setting new.core.setting.streams
  pub payloads : new.pair.payloads ≡ old.pair.payloads ++ payloads_in s es
  pub found : new.found ≡ old.found
  pub found_dest : new.found_dest ≡ old.found_dest

-- All that a call was to add was added, and its lines delivered; the setting has all that came. If it added nothing, no
-- device was called.
pub record AddedAll {D T : Type 0} (m : DiskMeaning D) (n : DestMeaning T) (s : Setting) (old new : BookState D T) (es : List Entry) : Type 0 where
  pub added : Added s old new es
  pub setting : new.core.setting ≡ s
  pub settled : new.core.owed ≡ []
  pub trouble : new.trouble ≡ None
  pub quiet : es ≡ [] → (new.pair ≡ old.pair) × (new.dest ≡ old.dest)
  pub delivered : Grows (n.lines old.dest) (n.lines new.dest) (sent_of n es)
  pub images : LeavesFirst m n s old.pair new.pair old.dest new.dest es
  pub kept : PairKeepsWhileUp m new.pair
  pub up : new.pair.down ≡ false

-- the entry that was being written when the device failed, whose payload may be on the disk: the first of the rest, if a
-- disk failed
abbrev pub hand_of : Trouble → List Entry → List Entry
hand_of Disk rest = take 1 rest
hand_of Dest rest = []
hand_of (Changed change) rest = []

-- the first of the rest has what the device was to take
abbrev pub WasWriting : Trouble → Setting → List Entry → Type 0
WasWriting Disk s rest = 0 < length (payloads_in s (take 1 rest))
WasWriting Dest s rest = 0 < length (lines_of (take 1 rest))
WasWriting (Changed change) s rest = ⊥

-- A device failed before all of it was added: the rest is owed. If the disk failed, the line of the entry that was being
-- written was delivered.
pub record AddedSome {D T : Type 0} (m : DiskMeaning D) (n : DestMeaning T) (s : Setting) (old new : BookState D T) (es : List Entry) (trouble : Trouble) : Type 0 where
  pub front : List Entry
  pub rest : List Entry
  pub split : front ++ rest ≡ es
  pub writing : WasWriting trouble s rest
  pub added : Added s old new front
  pub owed : new.core.owed ≡ rest
  pub trouble_is : new.trouble ≡ Some trouble
  pub delivered : Grows (n.lines old.dest) (n.lines new.dest) (sent_of n (front ++ hand_of trouble rest))
  pub images : LeavesFirst m n s old.pair new.pair old.dest new.dest (front ++ hand_of trouble rest)

-- one entry was added, of which nothing is written; all else is as before
pub record AddedOne {D T : Type 0} (old new : BookState D T) (e : Entry) : Type 0 where
  pub past : new.core.past ≡ e ∷ old.core.past
  pub told : told_of new.core ≡ told_of old.core ++ told_entries old.core.setting (e ∷ [])
  pub setting : new.core.setting ≡ old.core.setting
  pub owed : new.core.owed ≡ old.core.owed
  pub rest : new ≡ record old { core = new.core }

-- what a batcher that asks is answered, and what it adds, over the records that came
abbrev pub next_now : CoreView → ℕ → ℕ → Next
next_now v batcher moment = next_for v.setting v.past batcher (moment_for v.past moment)

abbrev pub next_entries_now : CoreView → ℕ → ℕ → List Entry
next_entries_now v batcher moment = next_adds v batcher (moment_for v.past moment) (next_now v batcher moment)

-- a call that is answered is of the batcher's lane, and has begun: its lane is running it
abbrev pub RunsCall : ℕ → CoreView → CoreView → Next → Type 0
RunsCall batcher before after (next.Call job) = (lane_of_batcher before.setting before.past batcher ≡ Some job.lane) × IsRunningJob after.past job
RunsCall batcher before after _ = Unit {0}

-- nothing changed, except that there may be memory for more
pub record IsSame {D T : Type 0} (n : DestMeaning T) (old new : BookState D T) : Type 0 where
  pub rest : new ≡ record old { pair = record old.pair { room = new.pair.room }; dest = new.dest }
  pub dest : IsSameDest n old.dest new.dest
