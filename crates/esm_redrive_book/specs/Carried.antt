-- What each call of the book of a redrive decides and adds. Only this crate's proofs cite this.
use Rattle.std.specs.Prelude.{◌≡◌, List, ◌++◌, Some, Result, Ok, Err}
use Rattle.esm_io.specs.Faults.{Rose}
use Rattle.esm_io.specs.Meanings.{DiskMeaning, DestMeaning}
use Rattle.esm_model.specs.declared.item.Message.{Message}
use Rattle.esm_model.specs.declared.book.Change.{Change}
use Rattle.esm_model.specs.declared.book.Trouble.TheVariants as trouble
use Rattle.esm_model.specs.declared.entry.Entry.{Entry}
use Rattle.esm_redrive_core.specs.declared.decisions.RedriveCall.{RedriveCall}
use Rattle.esm_redrive_core.specs.declared.decisions.RedriveAnswer.{RedriveAnswer}
use Rattle.esm_redrive_core.specs.RedriveView.{RedriveView}
use Rattle.esm_redrive_core.specs.Told.{Refuses, IsAnswer, coming_by, entries_by}
use Rattle.esm_redrive_book.specs.declared.carrying.Stop.{Stop}
use Rattle.esm_redrive_book.specs.declared.carrying.Stop.TheVariants.{DiskFault, DestFault, Changed, OutOfMemory}
use Rattle.esm_redrive_book.specs.Books.{BookState}
use Rattle.esm_redrive_book.specs.Calls.{AddedAll, AddedSome, AddedOne, IsSame}
use Rattle.esm_redrive_book.specs.Keeping.{IsSound}

-- all messages after the call
abbrev pub messages_by : RedriveView → RedriveCall → List Message
messages_by v asked = v.setting.queue.messages ++ coming_by asked

-- the call was carried out whole
pub record CarriedAll {D T : Type 0} (m : DiskMeaning D) (n : DestMeaning T) (old new : BookState D T) (asked : RedriveCall) (given : RedriveAnswer) : Type 0 where
  pub added : AddedAll m n (messages_by old.core asked) old new (entries_by old.core asked)
  pub answer_is : IsAnswer old.core asked given
  pub sound : IsSound new

-- a disk failed during the call
pub record CarriedSome {D T : Type 0} (m : DiskMeaning D) (n : DestMeaning T) (old new : BookState D T) (asked : RedriveCall) : Type 0 where
  pub added : AddedSome m n (messages_by old.core asked) old new (entries_by old.core asked) trouble.Disk
  pub cause : Rose (m.faults old.pair.used) (m.faults new.pair.used)
  pub given : RedriveAnswer
  pub answer_is : IsAnswer old.core asked given
  pub sound : IsSound new

-- the dead-letter file failed during the call
pub record Undelivered {D T : Type 0} (m : DiskMeaning D) (n : DestMeaning T) (old new : BookState D T) (asked : RedriveCall) : Type 0 where
  pub added : AddedSome m n (messages_by old.core asked) old new (entries_by old.core asked) trouble.Dest
  pub cause : Rose (n.faults old.dest) (n.faults new.dest)
  pub sound : IsSound new

-- an arriving message differs from what was kept
pub record FoundChange {D T : Type 0} (old new : BookState D T) (asked : RedriveCall) (change : Change) : Type 0 where
  pub refuses : Refuses old.core asked change
  pub rest : new ≡ record old { trouble = Some (trouble.Changed change) }
  pub sound : IsSound new

-- an allocation failed
pub record CarriedNone {D T : Type 0} (n : DestMeaning T) (old new : BookState D T) : Type 0 where
  pub same : IsSame n old new
  pub sound : IsSound new

abbrev pub IsCarried : {D T : Type 0} → DiskMeaning D → DestMeaning T → BookState D T → BookState D T → RedriveCall → Result RedriveAnswer Stop → Type 0
IsCarried m n old new asked (Ok given) = CarriedAll m n old new asked given
IsCarried m n old new asked (Err DiskFault) = CarriedSome m n old new asked
IsCarried m n old new asked (Err DestFault) = Undelivered m n old new asked
IsCarried m n old new asked (Err (Changed change)) = FoundChange old new asked change
IsCarried m n old new asked (Err OutOfMemory) = CarriedNone n old new

-- one entry is noted
pub record Noted {D T : Type 0} (old new : BookState D T) (e : Entry) : Type 0 where
  pub added : AddedOne old new e
  pub sound : IsSound new
