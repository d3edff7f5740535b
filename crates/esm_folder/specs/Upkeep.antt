-- Why a command over a folder's journals ended so, and what it left of its disks. This product's own. In each definition
-- the disks come first as they were handed in, and then as they were handed back.
use Rattle.std.specs.Prelude.{◌≡◌, ◌⊎◌, ◌≤◌, ◌+◌, ℕ, true, false, List, length, map, reverse}
use Rattle.esm_io.specs.Faults.{Rose}
use Rattle.esm_io.specs.Images.{Only}
use Rattle.esm_io.specs.Meanings.{DiskMeaning}
use Rattle.esm_journal.specs.Bytes.{rewritten}
use Rattle.esm_journal.specs.File.{header_of, opened, Opening, Holding, Foreign, Damaged}
use Rattle.esm_journal.specs.Migrate.{is_version_2, migration, with_next_epoch, IsMoving}
use Rattle.esm_journal.specs.Pair.{pair_opened}
use Rattle.esm_journal.specs.Reads.{IsOnlyRead}
use Rattle.esm_journal_record.specs.declared.said.Said.{Said}
use Rattle.esm_journal_record.specs.Payload.{payload_of}
use Rattle.esm_journal_state.specs.Bad.{IsFirstBad}
use Rattle.esm_journal_state.specs.Compact.{IsCompacted, SameSaid}
use Rattle.esm_journal_state.specs.Meaning.{are_good, history}
use Rattle.esm_journal_state.specs.declared.error.SaysError.TheVariants as judged
use Rattle.esm_folder.specs.declared.ending.JournalFile.{JournalFile}
use Rattle.esm_folder.specs.declared.ending.JournalFile.TheVariants as file
use Rattle.esm_folder.specs.Shown.{IsShown}
use Rattle.esm_folder.specs.UpkeepText.{failure_lines}
use Rattle.esm_folder.specs.declared.ending.UpkeepEnd.{UpkeepEnd}
use Rattle.esm_folder.specs.declared.ending.UpkeepEnd.TheVariants as end
use Rattle.esm_folder.specs.declared.summary.Summary.{Summary}

-- the disks of a pair

abbrev pub AreHonest : {D : Type 0} → DiskMeaning D → (journal spare : D) → Type 0
AreHonest m journal spare = (m.honest journal ≡ true) × (m.honest spare ≡ true)

-- nothing was written
abbrev pub AreOnlyRead : {D : Type 0} → DiskMeaning D → (journal spare journal' spare' : D) → Type 0
AreOnlyRead m journal spare journal' spare' = IsOnlyRead m journal journal' × IsOnlyRead m spare spare'

-- the count of faults of one of them rose
abbrev pub OneRose : {D : Type 0} → DiskMeaning D → (journal spare journal' spare' : D) → Type 0
OneRose m journal spare journal' spare' = Rose (m.faults journal) (m.faults journal') ⊎ Rose (m.faults spare) (m.faults spare')

-- whatever the answer, a disk is as honest as before, and its count of faults did not fall
pub record IsKept {D : Type 0} (m : DiskMeaning D) (old new : D) : Type 0 where
  pub honesty : m.honest new ≡ m.honest old
  pub never_falls : m.faults old ≤ m.faults new

abbrev pub AreKept : {D : Type 0} → DiskMeaning D → (journal spare journal' spare' : D) → Type 0
AreKept m journal spare journal' spare' = IsKept m journal journal' × IsKept m spare spare'

-- each of them has one image, as a disk has after a crash, or after a sync that succeeded
abbrev pub AreSettled : {D : Type 0} → DiskMeaning D → (journal spare : D) → Type 0
AreSettled m journal spare = Only (m.content journal) (m.image journal) × Only (m.content spare) (m.image spare)

-- what opening the pair finds

abbrev pub found : {D : Type 0} → DiskMeaning D → (journal spare : D) → Opening
found m journal spare = pair_opened (header_of 2) (m.content journal) (m.content spare)

-- for a list that is to be written with the next epoch; if there is none, its place counts as damaged
abbrev pub found_to_write : {D : Type 0} → DiskMeaning D → (journal spare : D) → Opening
found_to_write m journal spare = with_next_epoch (found m journal spare)

-- for a pair of version 1 or 2
abbrev pub found_of_any_version : {D : Type 0} → DiskMeaning D → (journal spare : D) → Opening
found_of_any_version m journal spare = migration (m.content journal) (m.content spare)

-- these payloads were found, on honest disks
abbrev pub AreFound : Type 0 → Opening → List (List ℕ) → Type 0
AreFound honest opening payloads = honest → (epoch : ℕ) × (opening ≡ Holding epoch payloads)

-- refusals

-- Why a file was refused, by what opening it finds if its disks are honest; `rose` holds if a disk failed, `kept` if nothing
-- was written.
abbrev pub IsRefused : JournalFile → (honest rose kept : Type 0) → Opening → UpkeepEnd → Type 0
IsRefused name honest rose kept opening (end.NotAJournal f) = (f ≡ name) × (honest → opening ≡ Foreign) × kept
IsRefused name honest rose kept opening (end.Damaged f place) = (f ≡ name) × (honest → opening ≡ Damaged place) × kept
IsRefused name honest rose kept opening end.DiskFault = rose
IsRefused name honest rose kept opening _ = ⊥

-- a pair is named by its journal
abbrev pub IsRefusedPair : {D : Type 0} → DiskMeaning D → (journal spare journal' spare' : D) → Opening → UpkeepEnd → Type 0
IsRefusedPair m journal spare journal' spare' opening e =
    IsRefused file.Journal (AreHonest m journal spare) (OneRose m journal spare journal' spare') (AreOnlyRead m journal spare journal' spare') opening e

-- the payload with this index is the first bad one of those that were found
pub record HasBadPayload (honest : Type 0) (opening : Opening) (name : JournalFile) (index : ℕ) : Type 0 where
  pub name_is : name ≡ file.Journal
  pub payloads : List (List ℕ)
  pub are_found : AreFound honest opening payloads
  pub bad : IsFirstBad payloads (judged.BadPayload index)

-- `show`

pub record HasShown (honest : Type 0) (opening : Opening) (summary : Summary) : Type 0 where
  pub payloads : List (List ℕ)
  pub are_found : AreFound honest opening payloads
  pub shown : IsShown payloads summary

-- why it ended so
abbrev pub IsShowEnd : {D : Type 0} → DiskMeaning D → (journal spare journal' spare' : D) → UpkeepEnd → Type 0
IsShowEnd m journal spare journal' spare' (end.Shown summary) = HasShown (AreHonest m journal spare) (found m journal spare) summary
IsShowEnd m journal spare journal' spare' (end.BadPayload name index) = HasBadPayload (AreHonest m journal spare) (found m journal spare) name index
IsShowEnd m journal spare journal' spare' e = IsRefusedPair m journal spare journal' spare' (found m journal spare) e

-- `failures`

-- the payloads of the failure file, each a line
pub record HasListed (honest : Type 0) (opening : Opening) (lines : List ℕ) : Type 0 where
  pub payloads : List (List ℕ)
  pub are_found : AreFound honest opening payloads
  pub lines_are : lines ≡ failure_lines payloads

-- why it ended so; the lines are not judged
abbrev pub IsFailuresEnd : {D : Type 0} → DiskMeaning D → (disk disk' : D) → UpkeepEnd → Type 0
IsFailuresEnd m disk disk' (end.Listed lines) = HasListed (m.honest disk ≡ true) (opened (header_of 1) (m.content disk)) lines
IsFailuresEnd m disk disk' e =
    IsRefused file.Failures (m.honest disk ≡ true) (Rose (m.faults disk) (m.faults disk')) (IsOnlyRead m disk disk') (opened (header_of 1) (m.content disk)) e

-- what is written

-- the pair opens to this list, and a crash leaves nothing else
pub record PairHolds {D : Type 0} (m : DiskMeaning D) (epoch : ℕ) (list : List (List ℕ)) (journal spare : D) : Type 0 where
  pub opens : found m journal spare ≡ Holding epoch list
  pub settled : AreSettled m journal spare

-- the list was written to one of the disks; the other reads as before
abbrev pub IsWritten : {D : Type 0} → DiskMeaning D → ℕ → List (List ℕ) → (journal spare journal' spare' : D) → Type 0
IsWritten m epoch list journal spare journal' spare' =
    ((m.content journal' ≡ m.content journal) × (m.content spare' ≡ rewritten (header_of 2) epoch list (m.content spare)))
    ⊎ ((m.content journal' ≡ rewritten (header_of 2) epoch list (m.content journal)) × (m.content spare' ≡ m.content spare))

-- `compact`

-- the payloads are good, and the list is the one that says the same: by kinds, each in order, the oldest payload first
pub record AreCompacted (payloads list : List (List ℕ)) : Type 0 where
  pub good : are_good (reverse payloads) ≡ true
  pub saids : List Said
  pub compacted : IsCompacted (history (reverse payloads)) saids
  pub list_is : list ≡ map payload_of saids
  pub same : SameSaid (history (reverse list)) (history (reverse payloads))
  pub good_again : are_good (reverse list) ≡ true

pub record HasCompacted {D : Type 0} (m : DiskMeaning D) (journal spare journal' spare' : D) (before after : ℕ) : Type 0 where
  pub epoch : ℕ
  pub payloads : List (List ℕ)
  pub list : List (List ℕ)
  pub are_found : AreHonest m journal spare → found_to_write m journal spare ≡ Holding epoch payloads
  pub compacted : AreCompacted payloads list
  pub before_is : before ≡ length payloads
  pub after_is : after ≡ length list
  pub holds : AreHonest m journal spare → PairHolds m (epoch + 1) list journal' spare'
  pub written : AreHonest m journal spare → IsWritten m (epoch + 1) list journal spare journal' spare'

-- why it ended so
abbrev pub IsCompactEnd : {D : Type 0} → DiskMeaning D → (journal spare journal' spare' : D) → UpkeepEnd → Type 0
IsCompactEnd m journal spare journal' spare' (end.Compacted before after) = HasCompacted m journal spare journal' spare' before after
IsCompactEnd m journal spare journal' spare' (end.BadPayload name index) =
    HasBadPayload (AreHonest m journal spare) (found_to_write m journal spare) name index × AreOnlyRead m journal spare journal' spare'
IsCompactEnd m journal spare journal' spare' e = IsRefusedPair m journal spare journal' spare' (found_to_write m journal spare) e

-- files open as a pair to these payloads, or with the next epoch to the list that says the same
abbrev pub OpenToOldOrCompacted : ℕ → List (List ℕ) → (one other : List ℕ) → Type 0
OpenToOldOrCompacted epoch payloads one other =
    (pair_opened (header_of 2) one other ≡ Holding epoch payloads)
    ⊎ ((list : List (List ℕ)) × AreCompacted payloads list × (pair_opened (header_of 2) one other ≡ Holding (epoch + 1) list))

-- what a crash at any moment of the call leaves opens so, whatever the answer, if the pair opened to these payloads and each
-- disk had one image
abbrev pub IsCompacting : {D : Type 0} → DiskMeaning D → (journal spare journal' spare' : D) → Type 0
IsCompacting m journal spare journal' spare' =
    AreHonest m journal spare → AreSettled m journal spare → (epoch : ℕ) (payloads : List (List ℕ)) → found m journal spare ≡ Holding epoch payloads →
    (one other : List ℕ) → m.since journal' (m.moment journal) one → m.since spare' (m.moment spare) other → OpenToOldOrCompacted epoch payloads one other

-- `migrate`

-- the payloads of a pair of version 1 were written as a pair of version 2
pub record IsMigrated {D : Type 0} (m : DiskMeaning D) (journal spare journal' spare' : D) (payloads : List (List ℕ)) : Type 0 where
  pub epoch : ℕ
  pub version : is_version_2 (m.content journal) (m.content spare) ≡ false
  pub are_found : found_of_any_version m journal spare ≡ Holding epoch payloads
  pub holds : PairHolds m (epoch + 1) payloads journal' spare'
  pub written : IsWritten m (epoch + 1) payloads journal spare journal' spare'

abbrev pub HasMigrated : {D : Type 0} → DiskMeaning D → (journal spare journal' spare' : D) → List (List ℕ) → Type 0
HasMigrated m journal spare journal' spare' payloads = AreHonest m journal spare → IsMigrated m journal spare journal' spare' payloads

-- the payloads of a pair of version 2 were read
pub record HasFound {D : Type 0} (m : DiskMeaning D) (journal spare journal' spare' : D) (payloads : List (List ℕ)) : Type 0 where
  pub version : AreHonest m journal spare → is_version_2 (m.content journal) (m.content spare) ≡ true
  pub are_found : AreFound (AreHonest m journal spare) (found_of_any_version m journal spare) payloads
  pub only_read : AreOnlyRead m journal spare journal' spare'

-- why it ended so; a bad payload is in the new list as it was in the old one
abbrev pub IsMigrateEnd : {D : Type 0} → DiskMeaning D → (journal spare journal' spare' : D) → UpkeepEnd → Type 0
IsMigrateEnd m journal spare journal' spare' (end.Migrated count) =
    (payloads : List (List ℕ)) × HasMigrated m journal spare journal' spare' payloads × (are_good (reverse payloads) ≡ true) × (count ≡ length payloads)
IsMigrateEnd m journal spare journal' spare' end.WasVersion2 =
    (payloads : List (List ℕ)) × HasFound m journal spare journal' spare' payloads × (are_good (reverse payloads) ≡ true)
IsMigrateEnd m journal spare journal' spare' (end.BadPayload name index) =
    (payloads : List (List ℕ)) × (HasMigrated m journal spare journal' spare' payloads ⊎ HasFound m journal spare journal' spare' payloads)
    × (name ≡ file.Journal) × IsFirstBad payloads (judged.BadPayload index)
IsMigrateEnd m journal spare journal' spare' e = IsRefusedPair m journal spare journal' spare' (found_of_any_version m journal spare) e

-- What a crash at any moment of the call leaves, whatever the answer: of a pair of version 1 that opened, each disk with one
-- image, it opens as version 1 to its payloads, or as version 2 to the same. A pair of version 2 is only read.
pub record IsMigrating {D : Type 0} (m : DiskMeaning D) (journal spare journal' spare' : D) : Type 0 where
  pub version_1 : AreHonest m journal spare → AreSettled m journal spare → is_version_2 (m.content journal) (m.content spare) ≡ false
      → IsMoving m (m.content journal) (m.content spare) journal spare journal' spare'
  pub version_2 : AreHonest m journal spare → is_version_2 (m.content journal) (m.content spare) ≡ true
      → AreOnlyRead m journal spare journal' spare'
