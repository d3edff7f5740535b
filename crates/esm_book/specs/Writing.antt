-- How far a call has come that writes what is owed. Only this crate's proofs cite this.
use Rattle.std.specs.Prelude.{◌≡◌, ◌++◌, ℕ, Bool, true, false, List, [], ◌∷◌, ◌<◌, length, take, reverse, Option}
use Rattle.esm_io.specs.Meanings.{DiskMeaning, DestMeaning}
use Rattle.esm_journal.specs.Pair.{PairState}
use Rattle.esm_book.specs.Decided.{written_of, lengths_of, added}
use Rattle.esm_book.specs.Meanings.{CoreMeaning}
use Rattle.esm_book.specs.Growth.{HasGrown}
use Rattle.esm_book.specs.Answers.{IsSameDest}
use Rattle.esm_book.specs.declared.error.Fault.{Fault}
use Rattle.esm_book.specs.declared.error.Fault.TheVariants.{Disk, Dest}
use Rattle.esm_book.specs.declared.error.Outcome.{Outcome}
use Rattle.esm_book.specs.declared.error.Outcome.TheVariants.{Written, DiskFault, DestFault, OutOfMemory}

-- there is room for these lines: at most one, and it fits
abbrev pub HasLineRoom : (ℕ → Type 0) → List (List ℕ) → Type 0
HasLineRoom has_room [] = Unit {0}
HasLineRoom has_room (line ∷ lines) = has_room (length line) × (lines ≡ [])

-- the devices have not failed, and have room for all that is owed
pub record IsReady {C E D T : Type 0} (k : CoreMeaning C E) (n : DestMeaning T) (has_room : T → ℕ → Type 0) (core : C) (pair : PairState D) (dest : T) : Type 0 where
  pub up : pair.down ≡ false
  pub usable : n.failed dest ≡ false
  pub room : pair.room ≡ lengths_of (written_of k.payload (k.owed core))
  pub line_room : HasLineRoom (has_room dest) (written_of k.line (k.owed core))

-- After a history, entries were due, in order. The first of them were paid and the others are owed, and the devices have
-- grown by them.
pub record Writes {C E D T : Type 0} (k : CoreMeaning C E) (m : DiskMeaning D) (n : DestMeaning T) (past due : List E) (core' : C) (pair pair' : PairState D) (dest dest' : T) (paid hand tried : List E) : Type 0 where
  pub history_is : k.history core' ≡ reverse paid ++ past
  pub due_is : due ≡ paid ++ k.owed core'
  pub grown : HasGrown k m n pair pair' dest dest' paid hand tried

-- the entry whose line was delivered and whose payload may be on the disk that failed
abbrev pub hand_of : {E : Type 0} → Fault → List E → List E
hand_of Disk owed = take 1 owed
hand_of Dest owed = []

-- the entry whose line may be at the destination that failed
abbrev pub tried_of : {E : Type 0} → Fault → List E → List E
tried_of Disk owed = []
tried_of Dest owed = take 1 owed

-- this device failed, and the other did not
abbrev pub HasFailed : Fault → Bool → Bool → Type 0
HasFailed Disk disk dest = (disk ≡ true) × (dest ≡ false)
HasFailed Dest disk dest = (disk ≡ false) × (dest ≡ true)

-- the device that failed was to take what is written of the first of these entries
abbrev pub WasWriting : {E : Type 0} → (payload line : E → Option (List ℕ)) → Fault → List E → Type 0
WasWriting payload line Disk owed = 0 < length (written_of payload (take 1 owed))
WasWriting payload line Dest owed = 0 < length (written_of line (take 1 owed))

-- all that was owed is written
pub record WroteAll {C E D T : Type 0} (k : CoreMeaning C E) (m : DiskMeaning D) (n : DestMeaning T) (core core' : C) (pair pair' : PairState D) (dest dest' : T) : Type 0 where
  pub writes : Writes k m n (k.history core) (k.owed core) core' pair pair' dest dest' (added (k.history core) (k.history core')) [] []
  pub settled : k.owed core' ≡ []
  pub up : pair'.down ≡ false
  pub usable : n.failed dest' ≡ false

-- what was owed is written up to the first fault, of this device
pub record WroteSome {C E D T : Type 0} (k : CoreMeaning C E) (m : DiskMeaning D) (n : DestMeaning T) (core core' : C) (pair pair' : PairState D) (dest dest' : T) (fault : Fault) : Type 0 where
  pub writes : Writes k m n (k.history core) (k.owed core) core' pair pair' dest dest' (added (k.history core) (k.history core')) (hand_of fault (k.owed core')) (tried_of fault (k.owed core'))
  pub failed : HasFailed fault pair'.down (n.failed dest')
  pub left : 0 < length (k.owed core')
  pub writing : WasWriting k.payload k.line fault (k.owed core')

-- nothing is written, and nothing is owed any more
pub record WroteNone {C D T : Type 0} (n : DestMeaning T) (forgotten : C → C) (core core' : C) (pair pair' : PairState D) (dest dest' : T) : Type 0 where
  pub forgot : core' ≡ forgotten core
  pub room_alone : pair' ≡ record pair { room = pair'.room }
  pub same_dest : IsSameDest n dest dest'

abbrev pub HasCome : {C E D T : Type 0} → CoreMeaning C E → DiskMeaning D → DestMeaning T → (C → C) → C → C → PairState D → PairState D → T → T → Outcome → Type 0
HasCome k m n forgotten core core' pair pair' dest dest' Written = WroteAll k m n core core' pair pair' dest dest'
HasCome k m n forgotten core core' pair pair' dest dest' DiskFault = WroteSome k m n core core' pair pair' dest dest' Disk
HasCome k m n forgotten core core' pair pair' dest dest' DestFault = WroteSome k m n core core' pair pair' dest dest' Dest
HasCome k m n forgotten core core' pair pair' dest dest' OutOfMemory = WroteNone n forgotten core core' pair pair' dest dest'
