-- What each call of a replay's book decides and adds. Only this crate's proofs cite this.
use Rattle.std.specs.Prelude.{◌≡◌, List, [], ◌++◌, Some, Result, Ok, Err}
use Rattle.esm_io.specs.Faults.{Rose}
use Rattle.esm_io.specs.Meanings.{DiskMeaning}
use Rattle.esm_model.specs.Records.{Record}
use Rattle.esm_model.specs.declared.book.Change.{Change}
use Rattle.esm_model.specs.declared.book.Trouble.TheVariants as trouble
use Rattle.esm_model.specs.declared.entry.Entry.{Entry}
use Rattle.esm_replay_core.specs.declared.decisions.ReplayCall.{ReplayCall}
use Rattle.esm_replay_core.specs.declared.decisions.ReplayCall.TheVariants as call
use Rattle.esm_replay_core.specs.declared.decisions.ReplayAnswer.{ReplayAnswer}
use Rattle.esm_replay_core.specs.declared.decisions.ReplayAnswer.TheVariants as answer
use Rattle.esm_replay_core.specs.View.{ReplayView, setting_of, moment_for}
use Rattle.esm_replay_core.specs.Deciding.{next_of, next_entries, done_entries, done_count}
use Rattle.esm_replay_core.specs.Told.{Refuses}
use Rattle.esm_replay_book.specs.declared.carrying.Stop.{Stop}
use Rattle.esm_replay_book.specs.declared.carrying.Stop.TheVariants.{DiskFault, Changed, OutOfMemory}
use Rattle.esm_replay_book.specs.Books.{BookState}
use Rattle.esm_replay_book.specs.Calls.{AddedAll, AddedSome, IsSame}
use Rattle.esm_replay_book.specs.Keeping.{IsSound}

-- the records that have arrived, after the call
abbrev pub records_after : ReplayView → ReplayCall → List Record
records_after v (call.Came items) = v.records ++ items.items
records_after v (call.Next moment) = v.records
records_after v (call.Done job reply moment) = v.records

-- the entries that the call decides, oldest first
abbrev pub entries_by : ReplayView → ReplayCall → List Entry
entries_by v (call.Came items) = []
entries_by v (call.Next moment) = next_entries (next_of (setting_of v) v.past) (moment_for v.past moment)
entries_by v (call.Done job reply moment) = done_entries (setting_of v) v.past job.lane reply (moment_for v.past moment)

-- the answer to the call
abbrev pub IsAnswer : ReplayView → ReplayCall → ReplayAnswer → Type 0
IsAnswer v (call.Came items) answer.Taken = Unit {0}
IsAnswer v (call.Next moment) (answer.Next next) = next ≡ next_of (setting_of v) v.past
IsAnswer v (call.Done job reply moment) (answer.Replayed count) = count ≡ done_count (setting_of v) v.past reply
IsAnswer v _ _ = ⊥

-- only the end of a call is written
abbrev pub IsDone : ReplayCall → Type 0
IsDone (call.Done job reply moment) = Unit {0}
IsDone _ = ⊥

-- how a call ends

-- the call was carried out whole
pub record CarriedAll {D : Type 0} (m : DiskMeaning D) (old new : BookState D) (asked : ReplayCall) (given : ReplayAnswer) : Type 0 where
  pub added : AddedAll m (records_after old.core asked) old new (entries_by old.core asked)
  pub answer_is : IsAnswer old.core asked given
  pub no_change : (change : Change) → Refuses old.core asked change → ⊥
  pub sound : IsSound new

-- a disk failed during the call
pub record CarriedSome {D : Type 0} (m : DiskMeaning D) (old new : BookState D) (asked : ReplayCall) : Type 0 where
  pub is_done : IsDone asked
  pub added : AddedSome m old.core.records old new (entries_by old.core asked)
  pub cause : Rose (m.faults old.pair.used) (m.faults new.pair.used)
  pub sound : IsSound new

-- an arriving record differs from what was kept
pub record FoundChange {D : Type 0} (old new : BookState D) (asked : ReplayCall) (change : Change) : Type 0 where
  pub refuses : Refuses old.core asked change
  pub rest : new ≡ record old { trouble = Some (trouble.Changed change) }
  pub sound : IsSound new

-- an allocation failed
pub record CarriedNone {D : Type 0} (old new : BookState D) : Type 0 where
  pub same : IsSame old new
  pub sound : IsSound new

abbrev pub IsCarried : {D : Type 0} → DiskMeaning D → BookState D → BookState D → ReplayCall → Result ReplayAnswer Stop → Type 0
IsCarried m old new asked (Ok given) = CarriedAll m old new asked given
IsCarried m old new asked (Err DiskFault) = CarriedSome m old new asked
IsCarried m old new asked (Err (Changed change)) = FoundChange old new asked change
IsCarried m old new asked (Err OutOfMemory) = CarriedNone old new
