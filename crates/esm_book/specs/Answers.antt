-- What a call over devices answers, and what is then as before. This product's own.
use Rattle.std.specs.Prelude.{◌≡◌, ◌⊎◌, Result, Ok, Err, IsErrOf, Option, Some, List, [], take}
use Rattle.esm_io.specs.Images.{NoOther}
use Rattle.esm_io.specs.Meanings.{DestMeaning}
use Rattle.esm_model.specs.declared.book.Change.{Change}
use Rattle.esm_model.specs.declared.book.Trouble.{Trouble}
use Rattle.esm_model.specs.declared.book.Trouble.TheVariants as trouble
use Rattle.esm_book.specs.declared.error.CallError.{CallError}
use Rattle.esm_book.specs.declared.error.CallError.TheVariants.{DiskFault, DestFault, Changed, Down, OutOfMemory}
use Rattle.esm_book.specs.State.{DurableState}

-- a device failed in the call
abbrev pub IsFault : {A : Type 0} → Result A CallError → Type 0
IsFault result = IsErrOf result DiskFault ⊎ IsErrOf result DestFault

-- the entry that the call may have written though it did not add it: the first of those that it left owed, if a disk failed
abbrev pub in_doubt : {A E : Type 0} → Result A CallError → List E → List E
in_doubt (Ok answer) owed = []
in_doubt (Err DiskFault) owed = take 1 owed
in_doubt (Err DestFault) owed = []
in_doubt (Err (Changed change)) owed = []
in_doubt (Err Down) owed = []
in_doubt (Err OutOfMemory) owed = []

-- the entry whose line the call may have delivered though it does not count as delivered: the first of those that it left
-- owed, if the destination failed
abbrev pub in_flight : {A E : Type 0} → Result A CallError → List E → List E
in_flight (Ok answer) owed = []
in_flight (Err DiskFault) owed = []
in_flight (Err DestFault) owed = take 1 owed
in_flight (Err (Changed change)) owed = []
in_flight (Err Down) owed = []
in_flight (Err OutOfMemory) owed = []

-- why the book is down after the call, if it is: the first fault or change that a call returned
abbrev pub trouble_after : {A : Type 0} → Result A CallError → Option Trouble → Option Trouble
trouble_after (Ok answer) was = was
trouble_after (Err DiskFault) was = Some trouble.Disk
trouble_after (Err DestFault) was = Some trouble.Dest
trouble_after (Err (Changed change)) was = Some (trouble.Changed change)
trouble_after (Err Down) was = was
trouble_after (Err OutOfMemory) was = was

-- the destination is as before, except that room may be reserved
pub record IsSameDest {T : Type 0} (n : DestMeaning T) (old new : T) : Type 0 where
  pub lines : n.lines new ≡ n.lines old
  pub failed : n.failed new ≡ n.failed old
  pub honesty : n.honest new ≡ n.honest old
  pub faults : n.faults new ≡ n.faults old
  pub moment : n.moment new ≡ n.moment old
  pub images : NoOther (n.since old) (n.since new)

-- What is left after a refusal. After a change all is as before, except that the book is down; on a book that is down only
-- the core notes the call; and after `OutOfMemory` all is as before, except that room may be reserved.
abbrev pub IsLeftBy : {C D T : Type 0} → DestMeaning T → DurableState C D T → DurableState C D T → CallError → Type 0
IsLeftBy n old new DiskFault = Unit {0}
IsLeftBy n old new DestFault = Unit {0}
IsLeftBy n old new (Changed change) = new ≡ record old { trouble = Some (trouble.Changed change) }
IsLeftBy n old new Down = new ≡ record old { core = new.core }
IsLeftBy n old new OutOfMemory = (new ≡ record old { pair = record old.pair { room = new.pair.room }; dest = new.dest }) × IsSameDest n old.dest new.dest

-- the call brought such a change
abbrev pub IsChangeOf : (Change → Type 0) → CallError → Type 0
IsChangeOf found DiskFault = Unit {0}
IsChangeOf found DestFault = Unit {0}
IsChangeOf found (Changed change) = found change
IsChangeOf found Down = Unit {0}
IsChangeOf found OutOfMemory = Unit {0}
