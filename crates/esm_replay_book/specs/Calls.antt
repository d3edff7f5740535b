-- What calls of a replay's book add to its history and its journal. This product's own.
use Rattle.std.specs.Prelude.{◌≡◌, ℕ, ◌<◌, ◌++◌, ◌∷◌, [], List, Some, None, false, length, take, reverse}
use Rattle.esm_io.specs.Meanings.{DiskMeaning}
use Rattle.esm_journal.specs.Pair.{PairKeepsWhileUp}
use Rattle.esm_model.specs.Records.{Record}
use Rattle.esm_model.specs.declared.book.Change.{Change}
use Rattle.esm_model.specs.declared.book.Job.{Job}
use Rattle.esm_model.specs.declared.book.Trouble.TheVariants.{Disk}
use Rattle.esm_model.specs.declared.entry.Entry.{Entry}
use Rattle.esm_replay_model.specs.ReplaySetting.{ReplaySetting}
use Rattle.esm_replay_model.specs.Pieces.{replay_event}
use Rattle.esm_replay_model.specs.ReplayRun.{call_out}
use Rattle.esm_replay_core.specs.declared.decisions.ReplayNext.{ReplayNext}
use Rattle.esm_replay_core.specs.declared.decisions.ReplayNext.TheVariants as next
use Rattle.esm_replay_core.specs.View.{ReplayView, setting_of, IsJobOut}
use Rattle.esm_replay.specs.Coming.{first_change}
use Rattle.esm_replay_book.specs.Books.{BookState, payloads_in, LeavesFirst}

-- These entries, oldest first, were added to the history, and their payloads to the journal; these records have arrived.
-- What the book was opened with is unchanged.
pub record Added {D : Type 0} (records : List Record) (old new : BookState D) (es : List Entry) : Type 0 where
  pub past : new.core.past ≡ reverse es ++ old.core.past
  pub records_are : new.core.records ≡ records
  pub opened : new.core.opened ≡ old.core.opened
  pub payloads : new.pair.payloads ≡ old.pair.payloads ++ payloads_in (setting_of new.core) es
  pub found : new.found ≡ old.found

-- Everything that a call was to add was added. If it added no entry, and no record arrived, no disk was called.
pub record AddedAll {D : Type 0} (m : DiskMeaning D) (records : List Record) (old new : BookState D) (es : List Entry) : Type 0 where
  pub added : Added records old new es
  pub settled : new.core.owed ≡ []
  pub trouble : new.trouble ≡ None
  pub quiet : es ≡ [] → records ≡ old.core.records → new.pair ≡ old.pair
  pub images : LeavesFirst m old.pair new.pair (payloads_in (setting_of new.core) es)
  pub kept : PairKeepsWhileUp m new.pair
  pub up : new.pair.down ≡ false

-- A disk failed before all of it was added: the rest is owed. The first of the rest was being written, so its payload may
-- be on the disk.
pub record AddedSome {D : Type 0} (m : DiskMeaning D) (records : List Record) (old new : BookState D) (es : List Entry) : Type 0 where
  pub front : List Entry
  pub rest : List Entry
  pub split : front ++ rest ≡ es
  pub left : 0 < length rest
  pub writing : (payload : List ℕ) × (payloads_in (setting_of new.core) (take 1 rest) ≡ payload ∷ [])
  pub added : Added records old new front
  pub owed : new.core.owed ≡ rest
  pub trouble : new.trouble ≡ Some Disk
  pub images : LeavesFirst m old.pair new.pair (payloads_in (setting_of new.core) (front ++ take 1 rest))

-- the first of the arriving records that the journal kept with another text differs so
abbrev pub IsFirstChange : ReplayView → List Record → Change → Type 0
IsFirstChange v items change = first_change v.opened.said v.records items ≡ Some change

-- the job is the running call, with the text of its event
pub record IsJob (s : ReplaySetting) (h : List Entry) (job : Job) : Type 0 where
  pub out : IsJobOut h job
  pub event : job.event ≡ replay_event s (call_out h)

-- a call that `next` returned is running
abbrev pub RunsCall : ReplaySetting → List Entry → ReplayNext → Type 0
RunsCall s h (next.Call job) = IsJob s h job
RunsCall s h _ = Unit {0}

-- nothing changed, except that there may be memory for more payloads
abbrev pub IsSame : {D : Type 0} → BookState D → BookState D → Type 0
IsSame old new = new ≡ record old { pair = record old.pair { room = new.pair.room } }
