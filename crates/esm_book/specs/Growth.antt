-- What devices have of entries that were written, and what a crash leaves of that. This product's own.
use Rattle.std.specs.Prelude.{◌≡◌, ◌⊎◌, ◌≤◌, ◌++◌, ℕ, true, List, Option, Some, map}
use Rattle.esm_io.specs.Faults.{Rose}
use Rattle.esm_io.specs.Images.{LeavesOnly}
use Rattle.esm_io.specs.Meanings.{DiskMeaning, DestMeaning}
use Rattle.esm_io.specs.Told.{Grows}
use Rattle.esm_journal.specs.File.{header_of, IsFile}
use Rattle.esm_journal.specs.Pair.{PairState, PairKeepsWhileUp, PairOpensTo}
use Rattle.esm_book.specs.Decided.{written_of}
use Rattle.esm_book.specs.Meanings.{CoreMeaning}

-- a file holds the payloads from before, and then those of a prefix of these entries
pub record HoldsFront {C E : Type 0} (k : CoreMeaning C E) (epoch : ℕ) (before : List (List ℕ)) (entries : List E) (bytes : List ℕ) : Type 0 where
  pub front : List E
  pub rest : List E
  pub split : front ++ rest ≡ entries
  pub file : IsFile (header_of 2) epoch (before ++ written_of k.payload front) bytes

-- The journal has the payloads of the paid entries beyond what it had, and holds them whole if no call of its disk failed.
-- Each image since then holds a prefix of them or, if a call failed, perhaps all of them and that of the entry in hand.
pub record HasAppended {C E D : Type 0} (k : CoreMeaning C E) (m : DiskMeaning D) (old new : PairState D) (paid hand : List E) : Type 0 where
  pub payloads : new.payloads ≡ old.payloads ++ written_of k.payload paid
  pub epoch : new.epoch ≡ old.epoch
  pub swapped : new.swapped ≡ old.swapped
  pub spare : new.spare ≡ old.spare
  pub honesty : m.honest new.used ≡ m.honest old.used
  pub never_falls : m.faults old.used ≤ m.faults new.used
  pub cause : new.down ≡ true → Rose (m.faults old.used) (m.faults new.used)
  pub images : m.honest old.used ≡ true → m.honest old.spare ≡ true →
      LeavesOnly m.moment m.since old.used new.used (HoldsFront k old.epoch old.payloads (paid ++ hand))
  pub kept : PairKeepsWhileUp m new

-- what is left of a destination reads as the lines that it held, followed by a prefix of these
pub record ReadsFront (reads_as : List ℕ → List (List ℕ) → Type 0) (held lines : List (List ℕ)) (left : List ℕ) : Type 0 where
  pub front : List (List ℕ)
  pub rest : List (List ℕ)
  pub split : front ++ rest ≡ lines
  pub reads : reads_as left (held ++ front)

-- whatever a crash now leaves of the destination reads as these lines
abbrev pub IsHeld : {T : Type 0} → DestMeaning T → T → List (List ℕ) → Type 0
IsHeld n dest held = (left : List ℕ) → n.since dest (n.moment dest) left → n.reads_as left held

-- The destination took these lines: what a crash since then left is from before, or reads as the lines before and then a
-- prefix of these.
pub record Takes {T : Type 0} (n : DestMeaning T) (old new : T) (held lines : List (List ℕ)) : Type 0 where
  pub later : n.moment old ≤ n.moment new
  pub images : (t : ℕ) (left : List ℕ) → t ≤ n.moment old → n.since new t left → n.since old t left ⊎ ReadsFront n.reads_as held lines left

-- The destination has the lines of these entries beyond what it had; that of the entry on its way may follow if it failed.
pub record HasDelivered {C E T : Type 0} (k : CoreMeaning C E) (n : DestMeaning T) (old new : T) (entries tried : List E) : Type 0 where
  pub told : Grows (n.lines old) (n.lines new) (map n.sends (written_of k.line entries))
  pub honesty : n.honest new ≡ n.honest old
  pub never_falls : n.faults old ≤ n.faults new
  pub cause : n.failed new ≡ true → Rose (n.faults old) (n.faults new)
  pub images : n.honest old ≡ true → (held : List (List ℕ)) → n.lines old ≡ Some held → Takes n old new held (map n.sends (written_of k.line (entries ++ tried)))
  pub durable : n.honest old ≡ true → (held : List (List ℕ)) → n.lines old ≡ Some held → IsHeld n old held → (left : List ℕ) → n.since new (n.moment new) left →
      ReadsFront n.reads_as (held ++ map n.sends (written_of k.line entries)) (map n.sends (written_of k.line tried)) left

-- A journal and a destination, neither of which had failed, have grown: they have the payloads and the lines of the entries
-- that were paid. The line of the entry in hand was delivered before the disk failed; that of the entry tried may be there
-- if the destination failed.
pub record HasGrown {C E D T : Type 0} (k : CoreMeaning C E) (m : DiskMeaning D) (n : DestMeaning T) (pair pair' : PairState D) (dest dest' : T) (paid hand tried : List E) : Type 0 where
  pub appended : HasAppended k m pair pair' paid hand
  pub delivered : HasDelivered k n dest dest' (paid ++ hand) tried

-- the destination shows these lines since then, and perhaps more after them
abbrev pub AreTold : Option (List (List ℕ)) → Option (List (List ℕ)) → List (List ℕ) → Type 0
AreTold before now lines = (more : List (List ℕ)) × Grows before now (lines ++ more)

-- Two disks, in either order, open to the payloads from before and then to those of a prefix of these entries; and the lines
-- of this prefix were delivered.
pub record OpensToFront {C E T : Type 0} (k : CoreMeaning C E) (n : DestMeaning T) (epoch : ℕ) (before : List (List ℕ)) (dest dest' : T) (entries : List E) (one other : List ℕ) : Type 0 where
  pub front : List E
  pub rest : List E
  pub split : front ++ rest ≡ entries
  pub opens : PairOpensTo (header_of 2) epoch (before ++ written_of k.payload front) one other
  pub delivered : AreTold (n.lines dest) (n.lines dest') (map n.sends (written_of k.line front))

-- Whatever a crash left of both disks, each at any moment since they were as before, opens in this way.
abbrev pub LeavesFronts : {C E D T : Type 0} → CoreMeaning C E → DiskMeaning D → DestMeaning T → PairState D → PairState D → T → T → List E → Type 0
LeavesFronts k m n pair pair' dest dest' entries =
    m.honest pair.used ≡ true → m.honest pair.spare ≡ true → (one other : List ℕ) →
    m.since pair'.used (m.moment pair.used) one → m.since pair'.spare (m.moment pair.spare) other →
    OpensToFront k n pair.epoch pair.payloads dest dest' entries one other
