-- Bringing a pair of version 1, whose files begin with "ESMJ0001", to version 2, whose files begin with "ESMJ0002".
use Rattle.std.specs.Prelude.{◌≡◌, ◌⊎◌, ◌+◌, ◌≤◌, ◌==◌, ◌||◌, ℕ, Bool, true, false, List, [], if◌then◌else◌}
use Rattle.esm_io.specs.Faults.{IsCount, Rose}
use Rattle.esm_io.specs.Images.{Only, LeavesOnly}
use Rattle.esm_io.specs.Meanings.{DiskMeaning}
use Rattle.esm_journal.specs.File.{header_of, Opening, Holding, Foreign, Damaged}
use Rattle.esm_journal.specs.Bytes.{rewritten}
use Rattle.esm_journal.specs.Pair.{PairState, PairKeeps, PairRefusedFor, IsSpare, is_sealed, pair_opened, first_disk, second_disk}
use Rattle.esm_journal.specs.Reads.{IsOnlyRead}
use Rattle.esm_journal.specs.Replace.{IsSpareOrNew}
use Rattle.esm_journal.specs.declared.error.OpenError.{OpenError}
use Rattle.esm_journal.specs.declared.error.OpenError.TheVariants.{DiskFault}

-- one of two files is sealed with the header of version 2
abbrev pub is_version_2 : List ℕ → List ℕ → Bool
is_version_2 first second = is_sealed (header_of 2) first || is_sealed (header_of 2) second

-- what was opened, provided that its epoch has a next one; else the epoch counts as damage at its place
abbrev pub with_next_epoch : Opening → Opening
with_next_epoch (Holding epoch payloads) = if epoch == 18446744073709551615 then Damaged 8 else Holding epoch payloads
with_next_epoch Foreign = Foreign
with_next_epoch (Damaged place) = Damaged place

-- what a migration finds: a pair of version 2 as it is, else one of version 1 that it can write anew
abbrev pub migration : List ℕ → List ℕ → Opening
migration first second =
    if is_version_2 first second then pair_opened (header_of 2) first second else with_next_epoch (pair_opened (header_of 1) first second)

-- images of a pair open as version 1 to these payloads, or as version 2 to the same
abbrev pub MigratesTo : ℕ → List (List ℕ) → List ℕ → List ℕ → Type 0
MigratesTo epoch payloads one other =
    ((is_version_2 one other ≡ false) × (pair_opened (header_of 1) one other ≡ Holding epoch payloads))
    ⊎ (pair_opened (header_of 2) one other ≡ Holding (epoch + 1) payloads)

-- Two disks of version 1 gave these bytes. If these hold a list, any images since then open to it as version 1, or to the
-- same list as version 2.
abbrev pub IsMoving : {D : Type 0} → DiskMeaning D → List ℕ → List ℕ → D → D → D → D → Type 0
IsMoving m one_was other_was first second first' second' =
    (epoch : ℕ) (payloads : List (List ℕ)) → pair_opened (header_of 1) one_was other_was ≡ Holding epoch payloads →
    (one other : List ℕ) → m.since first' (m.moment first) one → m.since second' (m.moment second) other → MigratesTo epoch payloads one other

-- The list of a pair of version 1 was written over the disk that was not in use, which is now in use; the other holds what
-- it held.
pub record IsWrittenAnew {D : Type 0} (content : D → List ℕ) (first second : D) (pair : PairState D) : Type 0 where
  pub written : content pair.used ≡ rewritten (header_of 2) pair.epoch pair.payloads (content (if pair.swapped then second else first))
  pub kept : content pair.spare ≡ content (if pair.swapped then first else second)

-- `IsMoving` holds of honest disks of version 1 that each had one image
abbrev pub MovesIfOld : {D : Type 0} → DiskMeaning D → D → D → D → D → Type 0
MovesIfOld m first second first' second' =
    m.honest first ≡ true → m.honest second ≡ true → is_version_2 (m.content first) (m.content second) ≡ false →
    Only (m.content first) (m.image first) → Only (m.content second) (m.image second) →
    IsMoving m (m.content first) (m.content second) first second first' second'

-- what a call that writes such a list leaves of the disk that it overwrites, whether it succeeds or fails
pub record IsOverwrittenAnew {D : Type 0} (m : DiskMeaning D) (epoch : ℕ) (payloads : List (List ℕ)) (old new : D) : Type 0 where
  -- each image since then is a spare beside a file in use, if the disk was one, or is the new file
  pub any_moment : m.honest old ≡ true → (kept : List ℕ) (lower : ℕ) → IsSpare kept lower (m.content old) →
      LeavesOnly m.moment m.since old new (IsSpareOrNew kept lower (header_of 2) (epoch + 1) payloads)
  -- it is as honest as it was
  pub honesty : m.honest new ≡ m.honest old
  -- and its count of faults does not fall
  pub count : IsCount (m.faults old) (m.faults new)

-- the list of a file of this epoch was written over the other disk, which is now in use
pub record IsMadeAnew {D : Type 0} (m : DiskMeaning D) (epoch : ℕ) (payloads : List (List ℕ)) (used other : D) (swapped : Bool) (pair : PairState D) : Type 0 where
  -- the payloads are the list
  pub payloads_are : pair.payloads ≡ payloads
  -- in a file of the next epoch
  pub next_epoch : pair.epoch ≡ epoch + 1
  -- and these are its bytes
  pub bytes : m.honest other ≡ true → m.content pair.used ≡ rewritten (header_of 2) (epoch + 1) payloads (m.content other)
  -- payloads may be added, and no room is made for them
  pub up : pair.down ≡ false
  pub room : pair.room ≡ []
  -- the disk that was in use is the spare one
  pub spare : pair.spare ≡ used
  -- this is the order in which the disks were handed in
  pub order : pair.swapped ≡ swapped
  -- what a crash leaves
  pub kept : m.honest pair.used ≡ true → m.honest pair.spare ≡ true → PairKeeps m (header_of 2) pair.epoch pair.payloads pair.used pair.spare
  pub over : IsOverwrittenAnew m epoch payloads other pair.used

-- a disk failed before that was done
pub record IsNotMadeAnew {D : Type 0} (m : DiskMeaning D) (epoch : ℕ) (payloads : List (List ℕ)) (used other used' other' : D) : Type 0 where
  -- the disk in use is as it was
  pub kept : used' ≡ used
  -- the other may have been written
  pub over : IsOverwrittenAnew m epoch payloads other other'
  -- and its count of faults rose
  pub cause : Rose (m.faults other) (m.faults other')

-- a pair of version 1 was opened and written anew
pub record IsOpenedAnew {D : Type 0} (m : DiskMeaning D) (journal spare : D) (pair : PairState D) : Type 0 where
  -- the payloads are those found as version 1, under the next epoch
  pub found : m.honest journal ≡ true → m.honest spare ≡ true →
      (epoch : ℕ) × (with_next_epoch (pair_opened (header_of 1) (m.content journal) (m.content spare)) ≡ Holding epoch pair.payloads) × (pair.epoch ≡ epoch + 1)
  -- and these are the bytes of both disks
  pub bytes : m.honest journal ≡ true → m.honest spare ≡ true → IsWrittenAnew m.content journal spare pair
  -- payloads may be added, and no room is made for them
  pub up : pair.down ≡ false
  pub room : pair.room ≡ []
  -- what a crash leaves afterwards, and what one left since a state from which the disks were only read
  pub kept : m.honest journal ≡ true → m.honest spare ≡ true → PairKeeps m (header_of 2) pair.epoch pair.payloads pair.used pair.spare
  pub images : (first second : D) → IsOnlyRead m first journal → IsOnlyRead m second spare → MovesIfOld m first second (first_disk pair) (second_disk pair)
  -- each disk is as honest as it was, and its count of faults does not fall
  pub honesty : (m.honest (first_disk pair) ≡ m.honest journal) × (m.honest (second_disk pair) ≡ m.honest spare)
  pub faults : (m.faults journal ≤ m.faults (first_disk pair)) × (m.faults spare ≤ m.faults (second_disk pair))

-- the call was refused, and returns the disks
pub record IsNotOpenedAnew {D : Type 0} (m : DiskMeaning D) (journal spare : D) (why : OpenError) (journal' spare' : D) : Type 0 where
  -- for what was found as version 1, or for a fault
  pub refused : PairRefusedFor m (λ one other. with_next_epoch (pair_opened (header_of 1) one other)) journal spare journal' spare' why
  -- only after `DiskFault` may a disk have been written
  pub first_back : (why ≡ DiskFault → ⊥) → IsOnlyRead m journal journal'
  pub second_back : (why ≡ DiskFault → ⊥) → IsOnlyRead m spare spare'
  -- what a crash left since a state from which the disks were only read
  pub images : (first second : D) → IsOnlyRead m first journal → IsOnlyRead m second spare → MovesIfOld m first second journal' spare'
  -- each disk is as honest as it was, and its count of faults does not fall
  pub honesty : (m.honest journal' ≡ m.honest journal) × (m.honest spare' ≡ m.honest spare)
  pub faults : (m.faults journal ≤ m.faults journal') × (m.faults spare ≤ m.faults spare')

-- a pair is of version 2 now, and was before or was migrated
pub record IsMigratedPair {D : Type 0} (m : DiskMeaning D) (journal spare : D) (pair : PairState D) (was : ℕ) : Type 0 where
  -- this is the version in which it was found
  pub version : m.honest journal ≡ true → m.honest spare ≡ true → was ≡ (if is_version_2 (m.content journal) (m.content spare) then 2 else 1)
  -- the payloads are those that it had, under the epoch that it had or the next
  pub found : m.honest journal ≡ true → m.honest spare ≡ true →
      (epoch : ℕ) × (migration (m.content journal) (m.content spare) ≡ Holding epoch pair.payloads) × (pair.epoch ≡ (if was == 1 then epoch + 1 else epoch))
  -- a pair of version 1 was written anew
  pub bytes : m.honest journal ≡ true → m.honest spare ≡ true → was ≡ 1 → IsWrittenAnew m.content journal spare pair
  -- a pair of version 2 was only read
  pub first_read : was ≡ 2 → IsOnlyRead m journal (first_disk pair)
  pub second_read : was ≡ 2 → IsOnlyRead m spare (second_disk pair)
  -- payloads may be added, and no room is made for them
  pub up : pair.down ≡ false
  pub room : pair.room ≡ []
  -- what a crash leaves afterwards, and of a pair of version 1 since the call began
  pub kept : m.honest journal ≡ true → m.honest spare ≡ true → PairKeeps m (header_of 2) pair.epoch pair.payloads pair.used pair.spare
  pub images : MovesIfOld m journal spare (first_disk pair) (second_disk pair)
  -- each disk is as honest as it was, and its count of faults does not fall
  pub honesty : (m.honest (first_disk pair) ≡ m.honest journal) × (m.honest (second_disk pair) ≡ m.honest spare)
  pub faults : (m.faults journal ≤ m.faults (first_disk pair)) × (m.faults spare ≤ m.faults (second_disk pair))

-- the migration was refused, and returns the disks
pub record IsRefusedMigration {D : Type 0} (m : DiskMeaning D) (journal spare : D) (why : OpenError) (journal' spare' : D) : Type 0 where
  -- for what was found in the pair's version, or for a fault
  pub refused : PairRefusedFor m migration journal spare journal' spare' why
  -- only after `DiskFault` may a disk have been written
  pub first_back : (why ≡ DiskFault → ⊥) → IsOnlyRead m journal journal'
  pub second_back : (why ≡ DiskFault → ⊥) → IsOnlyRead m spare spare'
  -- and never one of a pair of version 2
  pub unwritten : m.honest journal ≡ true → m.honest spare ≡ true → is_version_2 (m.content journal) (m.content spare) ≡ true → IsOnlyRead m journal journal' × IsOnlyRead m spare spare'
  -- what a crash left of a pair of version 1 since the call began
  pub images : MovesIfOld m journal spare journal' spare'
  -- each disk is as honest as it was, and its count of faults does not fall
  pub honesty : (m.honest journal' ≡ m.honest journal) × (m.honest spare' ≡ m.honest spare)
  pub faults : (m.faults journal ≤ m.faults journal') × (m.faults spare ≤ m.faults spare')
