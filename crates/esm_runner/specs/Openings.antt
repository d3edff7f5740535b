-- What opening a file of a run leaves, and why one is refused. Only this crate's proofs cite this.
use Rattle.std.specs.Prelude.{◌≡◌, true, false, reverse}
use Rattle.esm_io.specs.Meanings.{DiskMeaning}
use Rattle.esm_journal.specs.File.{Holding}
use Rattle.esm_journal.specs.Pair.{PairState, PairKeepsWhileUp, first_disk, second_disk}
use Rattle.esm_journal.specs.declared.error.OpenError.{OpenError}
use Rattle.esm_journal.specs.declared.error.OpenError.TheVariants as why
use Rattle.esm_journal_state.specs.Meaning.{history, are_good}
use Rattle.esm_journal_state.specs.SaidLists.{SaidLists, IsInOrder}
use Rattle.esm_journal_state.specs.Tells.{Tells}
use Rattle.esm_folder.specs.Upkeep.{AreHonest, AreOnlyRead, found}
use Rattle.esm_folder.specs.declared.ending.JournalFile.{JournalFile}
use Rattle.esm_runner.specs.declared.files.FilesError.{FilesError}
use Rattle.esm_runner.specs.declared.files.FilesError.TheVariants as error
use Rattle.esm_runner.specs.Files.{WhyRefused, StandsBefore}

-- the refusal if the file was not opened
abbrev pub refusal_of : JournalFile → OpenError → FilesError
refusal_of name (why.NotAJournal first) = error.NotAJournal name
refusal_of name (why.Damaged place) = error.Damaged name place
refusal_of name why.DiskFault = error.DiskFault
refusal_of name why.OutOfMemory = error.OutOfMemory

-- the pair over these disks opened to its payloads, none of which is bad and which say this; nothing was written
pub record IsPairOpened {D : Type 0} (m : DiskMeaning D) (journal spare : D) (pair : PairState D) (said : SaidLists) : Type 0 where
  pub opens : AreHonest m journal spare → found m journal spare ≡ Holding pair.epoch pair.payloads
  pub up : pair.down ≡ false
  pub kept : PairKeepsWhileUp m pair
  pub good : are_good (reverse pair.payloads) ≡ true
  pub tells : Tells said (history (reverse pair.payloads))
  pub order : IsInOrder said
  pub read : AreOnlyRead m journal spare (first_disk pair) (second_disk pair)

-- the pair was refused for this reason, whatever the failure file has, and nothing was written
pub record IsPairRefused {D : Type 0} (m : DiskMeaning D) (journal spare journal' spare' : D) (why : FilesError) : Type 0 where
  pub cause : (failures : D) → WhyRefused m journal spare failures journal' spare' failures why
  pub before : StandsBefore m journal spare why
  pub read : AreOnlyRead m journal spare journal' spare'
