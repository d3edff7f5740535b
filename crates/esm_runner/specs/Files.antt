-- The files of a run, as they are opened or refused. This product's own.
use Rattle.std.specs.Prelude.{◌≡◌, ◌⊎◌, ℕ, true, false, List, reverse}
use Rattle.esm_io.specs.Faults.{Rose}
use Rattle.esm_io.specs.Meanings.{DiskMeaning}
use Rattle.esm_journal.specs.File.{header_of, opened, Opening, Holding, Foreign, Damaged}
use Rattle.esm_journal.specs.Pair.{PairState, PairKeepsWhileUp, first_disk, second_disk}
use Rattle.esm_journal.specs.Reads.{IsOnlyRead}
use Rattle.esm_journal.specs.State.{JournalState, KeepsWhileUp}
use Rattle.esm_journal_state.specs.Bad.{IsFirstBad}
use Rattle.esm_journal_state.specs.Meaning.{history, are_good}
use Rattle.esm_journal_state.specs.SaidLists.{SaidLists, IsInOrder}
use Rattle.esm_journal_state.specs.Tells.{Tells}
use Rattle.esm_journal_state.specs.declared.error.SaysError.TheVariants as judged
use Rattle.esm_folder.specs.Upkeep.{AreHonest, AreOnlyRead, OneRose, AreFound, found}
use Rattle.esm_folder.specs.declared.ending.JournalFile.TheVariants as file
use Rattle.esm_runner.specs.declared.files.FilesError.{FilesError}
use Rattle.esm_runner.specs.declared.files.FilesError.TheVariants as error

-- the disks as they were handed in; the journal with its spare, what its payloads say, and the failure file, as they are now
pub record FilesState (D : Type 0) : Type 0 where
  pub journal : D
  pub spare : D
  pub failures : D
  pub pair : PairState D
  pub said : SaidLists
  pub dest : JournalState D

-- what opening the failure file finds
abbrev pub found_lines : {D : Type 0} → DiskMeaning D → (failures : D) → Opening
found_lines m failures = opened (header_of 1) (m.content failures)

-- it has these lines
abbrev pub AreFoundLines : {D : Type 0} → DiskMeaning D → (failures : D) → List (List ℕ) → Type 0
AreFoundLines m failures lines = m.honest failures ≡ true → (epoch : ℕ) × (found_lines m failures ≡ Holding epoch lines)

-- The pair opened to its payloads, none of which is bad and which say this; the failure file opened to its lines; no call of
-- a disk failed, and nothing was written.
pub record IsOpenedFiles {D : Type 0} (m : DiskMeaning D) (f : FilesState D) : Type 0 where
  pub opens : AreHonest m f.journal f.spare → found m f.journal f.spare ≡ Holding f.pair.epoch f.pair.payloads
  pub up : f.pair.down ≡ false
  pub kept : PairKeepsWhileUp m f.pair
  pub good : are_good (reverse f.pair.payloads) ≡ true
  pub tells : Tells f.said (history (reverse f.pair.payloads))
  pub order : IsInOrder f.said
  pub read : AreOnlyRead m f.journal f.spare (first_disk f.pair) (second_disk f.pair)
  pub opens_lines : AreFoundLines m f.failures f.dest.payloads
  pub dest_up : f.dest.down ≡ false
  pub lines_kept : KeepsWhileUp m f.dest
  pub lines_read : IsOnlyRead m f.failures f.dest.disk

abbrev pub AreOpen : {D : Type 0} → DiskMeaning D → FilesState D → Type 0
AreOpen m f = IsOpenedFiles m f

-- nothing was written to the three disks
abbrev pub AreUnwritten : {D : Type 0} → DiskMeaning D → (journal spare failures journal' spare' failures' : D) → Type 0
AreUnwritten m journal spare failures journal' spare' failures' = AreOnlyRead m journal spare journal' spare' × IsOnlyRead m failures failures'

-- the disks are handed back, with nothing written to them
abbrev pub AreClosed : {D : Type 0} → DiskMeaning D → FilesState D → (journal spare failures : D) → Type 0
AreClosed m f journal spare failures = AreUnwritten m f.journal f.spare f.failures journal spare failures

-- Why they were refused. The failure file is opened only after the pair, and only if none of the pair's payloads is bad.
abbrev pub WhyRefused : {D : Type 0} → DiskMeaning D → (journal spare failures journal' spare' failures' : D) → FilesError → Type 0
WhyRefused m journal spare failures journal' spare' failures' (error.NotAJournal file.Journal) = AreHonest m journal spare → found m journal spare ≡ Foreign
WhyRefused m journal spare failures journal' spare' failures' (error.NotAJournal file.Failures) = m.honest failures ≡ true → found_lines m failures ≡ Foreign
WhyRefused m journal spare failures journal' spare' failures' (error.Damaged file.Journal place) = AreHonest m journal spare → found m journal spare ≡ Damaged place
WhyRefused m journal spare failures journal' spare' failures' (error.Damaged file.Failures place) = m.honest failures ≡ true → found_lines m failures ≡ Damaged place
WhyRefused m journal spare failures journal' spare' failures' (error.BadPayload index) =
    (payloads : List (List ℕ)) × AreFound (AreHonest m journal spare) (found m journal spare) payloads × IsFirstBad payloads (judged.BadPayload index)
WhyRefused m journal spare failures journal' spare' failures' error.DiskFault = OneRose m journal spare journal' spare' ⊎ Rose (m.faults failures) (m.faults failures')
WhyRefused m journal spare failures journal' spare' failures' error.OutOfMemory = Unit {0}

-- the payloads of the pair were found, and none of them is bad
pub record AreGoodPayloads {D : Type 0} (m : DiskMeaning D) (journal spare : D) : Type 0 where
  pub payloads : List (List ℕ)
  pub are_found : AreFound (AreHonest m journal spare) (found m journal spare) payloads
  pub good : are_good (reverse payloads) ≡ true

-- if the failure file was refused, the pair was good
abbrev pub StandsBefore : {D : Type 0} → DiskMeaning D → (journal spare : D) → FilesError → Type 0
StandsBefore m journal spare (error.NotAJournal file.Failures) = AreGoodPayloads m journal spare
StandsBefore m journal spare (error.Damaged file.Failures place) = AreGoodPayloads m journal spare
StandsBefore m journal spare _ = Unit {0}

pub record AreRefused {D : Type 0} (m : DiskMeaning D) (journal spare failures journal' spare' failures' : D) (why : FilesError) : Type 0 where
  pub cause : WhyRefused m journal spare failures journal' spare' failures' why
  pub before : StandsBefore m journal spare why
  pub unwritten : AreUnwritten m journal spare failures journal' spare' failures'
