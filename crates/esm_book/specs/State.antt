-- What contracts see of a core over its devices, and what its type keeps. This product's own.
use Rattle.std.specs.Prelude.{◌≡◌, Bool, true, false, List, [], Option, Some, None, take, reverse}
use Rattle.esm_io.specs.Meanings.{DiskMeaning, DestMeaning}
use Rattle.esm_journal.specs.Pair.{PairState, PairKeepsWhileUp}
use Rattle.esm_model.specs.declared.book.Change.{Change}
use Rattle.esm_model.specs.declared.book.Trouble.{Trouble}
use Rattle.esm_model.specs.declared.book.Trouble.TheVariants.{Disk, Dest, Changed}
use Rattle.esm_book.specs.Meanings.{CoreMeaning}
use Rattle.esm_book.specs.Growth.{HasGrown}

-- the core, the journal and the destination as they are; why it is down, if it is; and the journal and the destination as
-- they were handed in
pub record DurableState (C D T : Type 0) : Type 0 where
  pub core : C
  pub pair : PairState D
  pub dest : T
  pub trouble : Option Trouble
  pub found : PairState D
  pub found_dest : T

-- a disk failed
abbrev pub is_disk : Option Trouble → Bool
is_disk None = false
is_disk (Some Disk) = true
is_disk (Some Dest) = false
is_disk (Some (Changed change)) = false

-- the destination failed
abbrev pub is_dest : Option Trouble → Bool
is_dest None = false
is_dest (Some Disk) = false
is_dest (Some Dest) = true
is_dest (Some (Changed change)) = false

-- the entry whose payload may be on a disk though it is not in the history: the first owed one, if the disk failed
abbrev pub in_hand : {E : Type 0} → Option Trouble → List E → List E
in_hand None owed = []
in_hand (Some Disk) owed = take 1 owed
in_hand (Some Dest) owed = []
in_hand (Some (Changed change)) owed = []

-- the entry whose line may be at the destination though it does not count as delivered: the first owed one, if the
-- destination failed
abbrev pub in_delivery : {E : Type 0} → Option Trouble → List E → List E
in_delivery None owed = []
in_delivery (Some Disk) owed = []
in_delivery (Some Dest) owed = take 1 owed
in_delivery (Some (Changed change)) owed = []

-- nothing is owed, unless a device failed in the midst of a call
abbrev pub IsSettled : {E : Type 0} → Option Trouble → List E → Type 0
IsSettled None owed = owed ≡ []
IsSettled (Some Disk) owed = Unit {0}
IsSettled (Some Dest) owed = Unit {0}
IsSettled (Some (Changed change)) owed = owed ≡ []

-- it is down for a change only if there may be such a change
abbrev pub IsReason : (Change → Type 0) → Option Trouble → Type 0
IsReason is_change None = Unit {0}
IsReason is_change (Some Disk) = Unit {0}
IsReason is_change (Some Dest) = Unit {0}
IsReason is_change (Some (Changed change)) = is_change change

-- Whoever made its calls: the devices have grown by the history, from those that were handed in to the present ones. Nothing
-- is owed unless a device failed, and a device has failed if and only if the trouble says so.
pub record IsKept {C E D T : Type 0} (k : CoreMeaning C E) (m : DiskMeaning D) (n : DestMeaning T) (s : DurableState C D T) : Type 0 where
  pub grown : HasGrown k m n s.found s.pair s.found_dest s.dest (reverse (k.history s.core)) (in_hand s.trouble (k.owed s.core)) (in_delivery s.trouble (k.owed s.core))
  pub settled : IsSettled s.trouble (k.owed s.core)
  pub pair_down : s.pair.down ≡ is_disk s.trouble
  pub dest_failed : n.failed s.dest ≡ is_dest s.trouble
  pub found_up : s.found.down ≡ false
  pub found_usable : n.failed s.found_dest ≡ false
  pub found_kept : PairKeepsWhileUp m s.found
