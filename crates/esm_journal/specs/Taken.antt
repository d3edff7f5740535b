-- What opening a pair finds of its disks.
use Rattle.std.specs.Prelude.{◌≡◌, ◌≤◌, true, false, List, ℕ, if◌then◌else◌}
use Rattle.esm_io.specs.Meanings.{DiskMeaning}
use Rattle.esm_io.specs.Faults.{MAX_FAULTS}
use Rattle.esm_io.specs.Images.{Only}
use Rattle.esm_journal.specs.File.{end_of, AreShort, IsFile}
use Rattle.esm_journal.specs.Pair.{IsSpare, IsOther}
use Rattle.esm_journal.specs.declared.pair_reading.Taken.{Taken}

-- the file in use holds the payloads, and the other is a spare beside it
pub record IsTaken (header first second : List ℕ) (taken : Taken) : Type 0 where
  pub file : IsFile header taken.found.epoch taken.found.payloads.items (if taken.swapped then second else first)
  pub beside : IsSpare header taken.found.epoch (if taken.swapped then first else second)

-- what is known of a pair's disks once the one in use is read: of each what it gives, and that this is its only image
pub record IsReadPair {D : Type 0} (m : DiskMeaning D) (header : List ℕ) (first second : D) (taken : Taken) : Type 0 where
  pub taken_is : m.honest first ≡ true → m.honest second ≡ true → IsTaken header (m.content first) (m.content second) taken
  pub first_file : m.honest first ≡ true → taken.swapped ≡ false → IsFile header taken.found.epoch taken.found.payloads.items (m.content first)
  pub second_file : m.honest second ≡ true → taken.swapped ≡ true → IsFile header taken.found.epoch taken.found.payloads.items (m.content second)
  pub first_other : m.honest first ≡ true → taken.swapped ≡ true → IsOther taken.spare_sealed (m.content first)
  pub second_other : m.honest second ≡ true → taken.swapped ≡ false → IsOther taken.spare_sealed (m.content second)
  pub end : taken.found.end ≡ end_of taken.found.payloads.items
  pub short : AreShort taken.found.payloads.items
  pub durable : m.honest first ≡ true → Only (m.content first) (m.image first)
  pub spare_durable : m.honest second ≡ true → Only (m.content second) (m.image second)
  pub faults_fit : m.faults first ≤ MAX_FAULTS
  pub spare_faults_fit : m.faults second ≤ MAX_FAULTS
