-- What each call of a stream's book decides and adds. Only this crate's proofs cite this.
use Rattle.std.specs.Prelude.{◌≡◌, List, [], Some, Result, Ok, Err}
use Rattle.esm_io.specs.Faults.{Rose}
use Rattle.esm_io.specs.Meanings.{DiskMeaning, DestMeaning}
use Rattle.esm_model.specs.Setting.{Setting, Stream}
use Rattle.esm_model.specs.declared.book.Change.{Change}
use Rattle.esm_model.specs.declared.book.Trouble.TheVariants as trouble
use Rattle.esm_model.specs.declared.entry.Entry.{Entry}
use Rattle.esm_stream_core.specs.CoreView.{CoreView, setting_with}
use Rattle.esm_stream_core.specs.declared.decisions.StreamCall.{StreamCall}
use Rattle.esm_stream_core.specs.declared.decisions.StreamCall.TheVariants as call
use Rattle.esm_stream_core.specs.declared.decisions.StreamAnswer.{StreamAnswer}
use Rattle.esm_stream_core.specs.declared.decisions.StreamAnswer.TheVariants as answer
use Rattle.esm_stream_core.specs.Calls.{moment_for, coming_lists, came_entries, IsNextOver, ended_entries, given_by_end}
use Rattle.esm_stream_core.specs.Told.{Refuses}
use Rattle.esm_stream_book.specs.declared.carrying.Stop.{Stop}
use Rattle.esm_stream_book.specs.declared.carrying.Stop.TheVariants.{DiskFault, DestFault, Changed, OutOfMemory}
use Rattle.esm_stream_book.specs.Books.{BookState}
use Rattle.esm_stream_book.specs.Calls.{AddedAll, AddedSome, AddedOne, IsSame, next_entries_now}
use Rattle.esm_stream_book.specs.Keeping.{IsSound}

-- the records that come with a call, shard by shard
abbrev pub coming_by : CoreView → StreamCall → List Stream
coming_by v (call.Came items moment) = coming_lists v items.items
coming_by v _ = []

-- the setting with them
abbrev pub setting_by : CoreView → StreamCall → Setting
setting_by v asked = setting_with v.setting (coming_by v asked)

-- the entries that it decides, oldest first
abbrev pub entries_by : CoreView → StreamCall → List Entry
entries_by v (call.Came items moment) = came_entries v items.items (moment_for v.past moment)
entries_by v (call.Shut moment) = []
entries_by v (call.Next batcher moment) = next_entries_now v batcher moment
entries_by v (call.Done job reply moment) = ended_entries v job.lane reply (moment_for v.past moment)

-- this is its answer
abbrev pub IsAnswer : CoreView → StreamCall → StreamAnswer → Type 0
IsAnswer v (call.Came items moment) answer.Taken = Unit {0}
IsAnswer v (call.Next batcher moment) (answer.Next next) = IsNextOver v batcher (moment_for v.past moment) next
IsAnswer v (call.Done job reply moment) (answer.Given count) = count ≡ given_by_end v job.lane reply (moment_for v.past moment)
IsAnswer v _ _ = ⊥

-- how a call ends

-- it is carried out whole
pub record CarriedAll {D T : Type 0} (m : DiskMeaning D) (n : DestMeaning T) (old new : BookState D T) (asked : StreamCall) (given : StreamAnswer) : Type 0 where
  pub added : AddedAll m n (setting_by old.core asked) old new (entries_by old.core asked)
  pub answer_is : IsAnswer old.core asked given
  pub no_change : (change : Change) → Refuses old.core asked change → ⊥
  pub sound : IsSound new

-- a disk failed in it
pub record CarriedSome {D T : Type 0} (m : DiskMeaning D) (n : DestMeaning T) (old new : BookState D T) (asked : StreamCall) : Type 0 where
  pub added : AddedSome m n (setting_by old.core asked) old new (entries_by old.core asked) trouble.Disk
  pub cause : Rose (m.faults old.pair.used) (m.faults new.pair.used)
  pub no_change : (change : Change) → Refuses old.core asked change → ⊥
  pub sound : IsSound new

-- the destination failed in it
pub record Undelivered {D T : Type 0} (m : DiskMeaning D) (n : DestMeaning T) (old new : BookState D T) (asked : StreamCall) : Type 0 where
  pub added : AddedSome m n (setting_by old.core asked) old new (entries_by old.core asked) trouble.Dest
  pub cause : Rose (n.faults old.dest) (n.faults new.dest)
  pub no_change : (change : Change) → Refuses old.core asked change → ⊥
  pub sound : IsSound new

-- it brought a change
pub record FoundChange {D T : Type 0} (old new : BookState D T) (asked : StreamCall) (change : Change) : Type 0 where
  pub refuses : Refuses old.core asked change
  pub rest : new ≡ record old { trouble = Some (trouble.Changed change) }
  pub sound : IsSound new

-- there was no memory for it
pub record CarriedNone {D T : Type 0} (n : DestMeaning T) (old new : BookState D T) : Type 0 where
  pub same : IsSame n old new
  pub sound : IsSound new

abbrev pub IsCarried : {D T : Type 0} → DiskMeaning D → DestMeaning T → BookState D T → BookState D T → StreamCall → Result StreamAnswer Stop → Type 0
IsCarried m n old new asked (Ok given) = CarriedAll m n old new asked given
IsCarried m n old new asked (Err DiskFault) = CarriedSome m n old new asked
IsCarried m n old new asked (Err DestFault) = Undelivered m n old new asked
IsCarried m n old new asked (Err (Changed change)) = FoundChange old new asked change
IsCarried m n old new asked (Err OutOfMemory) = CarriedNone n old new

-- one entry is noted
pub record Noted {D T : Type 0} (old new : BookState D T) (e : Entry) : Type 0 where
  pub added : AddedOne old new e
  pub sound : IsSound new
