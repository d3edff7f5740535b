-- A pair that was opened, and how its payloads were judged. Only this crate's proofs cite this.
use Rattle.std.specs.Prelude.{◌≡◌, ◌≢◌, ◌≤◌, ◌+◌, ℕ, true, List, length, reverse, Result, Ok, Err, if◌then◌else◌}
use Rattle.esm_io.specs.Images.{LeavesOnly}
use Rattle.esm_io.specs.Meanings.{DiskMeaning}
use Rattle.esm_journal.specs.File.{header_of, Holding}
use Rattle.esm_journal.specs.Pair.{PairState, PairKeeps, first_disk, second_disk}
use Rattle.esm_journal.specs.Replace.{IsSpareOrNew}
use Rattle.esm_journal.specs.declared.error.OpenError.{OpenError}
use Rattle.esm_journal.specs.declared.error.OpenError.TheVariants as why
use Rattle.esm_model.specs.declared.memory.OutOfMemory.{OutOfMemory}
use Rattle.esm_journal_state.specs.Bad.{IsFirstBad}
use Rattle.esm_journal_state.specs.Meaning.{are_good}
use Rattle.esm_journal_state.specs.declared.error.SaysError.{SaysError}
use Rattle.esm_journal_state.specs.declared.error.SaysError.TheVariants as judged
use Rattle.esm_folder.specs.declared.ending.JournalFile.{JournalFile}
use Rattle.esm_folder.specs.declared.ending.JournalFile.TheVariants as file
use Rattle.esm_folder.specs.Shown.{IsShown}
use Rattle.esm_folder.specs.UpkeepText.{failure_lines}
use Rattle.esm_folder.specs.Upkeep.{AreHonest, AreOnlyRead, found}
use Rattle.esm_folder.specs.declared.ending.UpkeepEnd.{UpkeepEnd}
use Rattle.esm_folder.specs.declared.ending.UpkeepEnd.TheVariants as end

-- how a command ends, if the file was not opened
abbrev pub end_of_file : JournalFile → OpenError → Result UpkeepEnd OutOfMemory
end_of_file name (why.NotAJournal first) = Ok (end.NotAJournal name)
end_of_file name (why.Damaged place) = Ok (end.Damaged name place)
end_of_file name why.DiskFault = Ok end.DiskFault
end_of_file name why.OutOfMemory = Err (record {})

-- how a command ends, if a payload is bad
abbrev pub end_of_payloads : SaysError → Result UpkeepEnd OutOfMemory
end_of_payloads (judged.BadPayload index) = Ok (end.BadPayload file.Journal index)
end_of_payloads judged.OutOfMemory = Err (record {})

-- how `show` ends over these payloads
abbrev pub IsJudged : List (List ℕ) → UpkeepEnd → Type 0
IsJudged payloads (end.Shown summary) = IsShown payloads summary
IsJudged payloads (end.BadPayload name index) = (name ≡ file.Journal) × IsFirstBad payloads (judged.BadPayload index)
IsJudged payloads _ = ⊥

-- how `failures` ends over them
abbrev pub IsListed : List (List ℕ) → UpkeepEnd → Type 0
IsListed payloads (end.Listed lines) = lines ≡ failure_lines payloads
IsListed payloads _ = ⊥

-- how `migrate` ends over those of a pair of this version
abbrev pub IsJudgedMigration : List (List ℕ) → ℕ → UpkeepEnd → Type 0
IsJudgedMigration payloads was (end.Migrated count) = (are_good (reverse payloads) ≡ true) × (count ≡ length payloads) × (was ≢ 2)
IsJudgedMigration payloads was end.WasVersion2 = (are_good (reverse payloads) ≡ true) × (was ≡ 2)
IsJudgedMigration payloads was (end.BadPayload name index) = (name ≡ file.Journal) × IsFirstBad payloads (judged.BadPayload index)
IsJudgedMigration payloads was _ = ⊥

-- the pair over these disks opened to its payloads, and nothing was written
pub record IsOpenedPair {D : Type 0} (m : DiskMeaning D) (journal spare : D) (pair : PairState D) : Type 0 where
  pub opens : AreHonest m journal spare → found m journal spare ≡ Holding pair.epoch pair.payloads
  pub keeps : AreHonest m journal spare → PairKeeps m (header_of 2) pair.epoch pair.payloads pair.used pair.spare
  pub only_read : AreOnlyRead m journal spare (first_disk pair) (second_disk pair)

-- The list was written, in whole or in part, over the disk of the pair that was not in use, which is now `new`. Both disks
-- are returned in the order in which they were handed in.
pub record IsOverwritten {D : Type 0} (m : DiskMeaning D) (pair : PairState D) (list : List (List ℕ)) (new journal spare : D) : Type 0 where
  pub journal_is : journal ≡ (if pair.swapped then new else pair.used)
  pub spare_is : spare ≡ (if pair.swapped then pair.used else new)
  pub honesty : m.honest new ≡ m.honest pair.spare
  pub never_falls : m.faults pair.spare ≤ m.faults new
  pub any_moment : m.honest pair.used ≡ true → m.honest pair.spare ≡ true
      → LeavesOnly m.moment m.since pair.spare new (IsSpareOrNew (header_of 2) pair.epoch (header_of 2) (pair.epoch + 1) list)
