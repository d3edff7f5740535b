-- What `init` leaves of the four disks, and why it ends so. This product's own.
use Rattle.std.specs.Prelude.{◌≡◌, ◌≢◌, ◌≤◌, ◌<◌, ℕ, true, List, length}
use Rattle.esm_io.specs.Faults.{Rose}
use Rattle.esm_io.specs.Images.{LeavesOnly, Only}
use Rattle.esm_io.specs.Meanings.{DiskMeaning}
use Rattle.esm_journal.specs.File.{blank_file, fresh_file, header_of}
use Rattle.esm_journal.specs.Fresh.{WasOrHoldsNone}
use Rattle.esm_journal.specs.Reads.{IsOnlyRead}
use Rattle.esm_folder.specs.declared.disks.Disks.{Disks}
use Rattle.esm_model.specs.declared.names.FileName.{FileName}
use Rattle.esm_model.specs.declared.names.FileName.TheVariants as file
use Rattle.esm_folder.specs.declared.files.InitEnd.{InitEnd}
use Rattle.esm_folder.specs.declared.files.InitEnd.TheVariants.{Done, NotEmpty, DiskFault}

-- the bytes of each fresh file: an empty journal in use, a spare that was never sealed, and two empty single journals
abbrev pub fresh_bytes : FileName → List ℕ
fresh_bytes file.Journal = fresh_file (header_of 2)
fresh_bytes file.Spare = blank_file (header_of 2) 0
fresh_bytes file.Failures = fresh_file (header_of 1)
fresh_bytes file.Registry = fresh_file (header_of 1)

abbrev pub disk_of : {D : Type 0} → Disks D → FileName → D
disk_of disks file.Journal = disks.journal
disk_of disks file.Spare = disks.spare
disk_of disks file.Failures = disks.failures
disk_of disks file.Registry = disks.registry

-- an empty disk that is honest has the bytes now, and a crash leaves nothing else
abbrev pub Makes : {D : Type 0} → DiskMeaning D → List ℕ → D → D → Type 0
Makes m bytes old new = m.honest old ≡ true → (length (m.content old) ≡ 0) × (m.content new ≡ bytes) × Only bytes (m.image new)

abbrev pub AreHonest : {D : Type 0} → DiskMeaning D → Disks D → Type 0
AreHonest m disks = (f : FileName) → m.honest (disk_of disks f) ≡ true

-- the number of bytes of a file
abbrev pub size_in : {D : Type 0} → DiskMeaning D → Disks D → FileName → ℕ
size_in m disks f = length (m.content (disk_of disks f))

-- the order in which the files are looked at
abbrev pub place_of : FileName → ℕ
place_of file.Journal = 0
place_of file.Spare = 1
place_of file.Failures = 2
place_of file.Registry = 3

-- the file has `size` bytes, and those before it have none
pub record IsFirstNotEmpty {D : Type 0} (m : DiskMeaning D) (disks : Disks D) (f : FileName) (size : ℕ) : Type 0 where
  pub size_is : size ≡ size_in m disks f
  pub not_empty : size ≢ 0
  pub first : (g : FileName) → place_of g < place_of f → size_in m disks g ≡ 0

-- nothing was written
abbrev pub AreOnlyRead : {D : Type 0} → DiskMeaning D → Disks D → Disks D → Type 0
AreOnlyRead m old new = (f : FileName) → IsOnlyRead m (disk_of old f) (disk_of new f)

-- why it ends so
abbrev pub IsInitEnd : {D : Type 0} → DiskMeaning D → Disks D → Disks D → InitEnd → Type 0
IsInitEnd m old new Done = (f : FileName) → Makes m (fresh_bytes f) (disk_of old f) (disk_of new f)
IsInitEnd m old new (NotEmpty f size) = AreHonest m old → IsFirstNotEmpty m old f size × AreOnlyRead m old new
IsInitEnd m old new DiskFault = (f : FileName) × Rose (m.faults (disk_of old f)) (m.faults (disk_of new f))

-- whatever the answer: a disk is as honest as before, its count of faults did not fall, a crash at any moment leaves what
-- it left before, or a file without a payload, and a file that had bytes was only read
pub record IsSafe {D : Type 0} (m : DiskMeaning D) (old new : D) : Type 0 where
  pub honesty : m.honest new ≡ m.honest old
  pub never_falls : m.faults old ≤ m.faults new
  pub any_moment : m.honest old ≡ true → LeavesOnly m.moment m.since old new (WasOrHoldsNone (m.image old))
  pub kept : m.honest old ≡ true → length (m.content old) ≢ 0 → IsOnlyRead m old new

abbrev pub AreSafe : {D : Type 0} → DiskMeaning D → Disks D → Disks D → Type 0
AreSafe m old new = (f : FileName) → IsSafe m (disk_of old f) (disk_of new f)
