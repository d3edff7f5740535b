-- What a crash may leave of a run's disks, by the moment of the crash. Each definition takes the disks first as they were
-- handed in, or as the files were opened, and then as they were handed back. This product's own.
use Rattle.std.specs.Prelude.{◌≡◌, ◌⊎◌, ℕ, List}
use Rattle.esm_io.specs.Images.{Only}
use Rattle.esm_io.specs.Meanings.{DiskMeaning}
use Rattle.esm_folder.specs.Upkeep.{AreOnlyRead, AreSettled}
use Rattle.esm_journal.specs.Pair.{first_disk, second_disk}
use Rattle.esm_journal.specs.Reads.{IsOnlyRead}
use Rattle.esm_runner.specs.Files.{FilesState}

-- the journal and its spare

-- By a crash at any moment since the start, also before the files were opened. This requires that each disk had one image at
-- the start, as a disk has after a sync that succeeded.
pub record IsSinceStart {D : Type 0} (m : DiskMeaning D) (journal spare journal' spare' : D) (one other : List ℕ) : Type 0 where
  pub settled : AreSettled m journal spare
  pub journal_since : m.since journal' (m.moment journal) one
  pub spare_since : m.since spare' (m.moment spare) other

-- By a crash at any moment since the files were opened. Opening syncs them, so this requires nothing of what they were
-- before.
pub record IsSinceOpening {D : Type 0} (m : DiskMeaning D) (f : FilesState D) (journal' spare' : D) (one other : List ℕ) : Type 0 where
  pub journal_since : m.since journal' (m.moment (first_disk f.pair)) one
  pub spare_since : m.since spare' (m.moment (second_disk f.pair)) other

abbrev pub ArePairLeft : {D : Type 0} → DiskMeaning D → FilesState D → (journal' spare' : D) → (one other : List ℕ) → Type 0
ArePairLeft m f journal' spare' one other = IsSinceStart m f.journal f.spare journal' spare' one other ⊎ IsSinceOpening m f journal' spare' one other

-- What the disks read as at the end, if nothing was written to them.
pub record IsReadAtEnd {D : Type 0} (m : DiskMeaning D) (journal spare journal' spare' : D) (one other : List ℕ) : Type 0 where
  pub read : AreOnlyRead m journal spare journal' spare'
  pub journal_is : one ≡ m.content journal'
  pub spare_is : other ≡ m.content spare'

-- the file of failure lines

-- the same of it
pub record AreLinesSinceStart {D : Type 0} (m : DiskMeaning D) (failures failures' : D) (bytes : List ℕ) : Type 0 where
  pub settled : Only (m.content failures) (m.image failures)
  pub since : m.since failures' (m.moment failures) bytes

abbrev pub AreLinesLeft : {D : Type 0} → DiskMeaning D → FilesState D → (failures' : D) → (bytes : List ℕ) → Type 0
AreLinesLeft m f failures' bytes = AreLinesSinceStart m f.failures failures' bytes ⊎ m.since failures' (m.moment f.dest.disk) bytes

pub record AreLinesRead {D : Type 0} (m : DiskMeaning D) (failures failures' : D) (bytes : List ℕ) : Type 0 where
  pub read : IsOnlyRead m failures failures'
  pub lines_are : bytes ≡ m.content failures'

-- and of a file that was written meanwhile, by a crash at the end
pub record AreLinesAtEnd {D : Type 0} (m : DiskMeaning D) (failures failures' : D) (bytes : List ℕ) : Type 0 where
  pub settled : Only (m.content failures) (m.image failures)
  pub now : m.image failures' bytes
