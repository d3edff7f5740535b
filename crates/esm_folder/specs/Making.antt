-- What the making of the files leaves, after the four lengths were read. Only this crate's proofs cite this.
use Rattle.std.specs.Prelude.{◌≡◌, ◌≢◌, ℕ, true, length, Result, Ok, Err}
use Rattle.esm_io.specs.Faults.{Rose}
use Rattle.esm_io.specs.Meanings.{DiskMeaning}
use Rattle.esm_journal.specs.declared.error.InitError.{InitError}
use Rattle.esm_journal.specs.declared.error.InitError.TheVariants as why
use Rattle.esm_model.specs.declared.memory.OutOfMemory.{OutOfMemory}
use Rattle.esm_folder.specs.Init.{Makes, disk_of, fresh_bytes}
use Rattle.esm_folder.specs.declared.disks.Disks.{Disks}
use Rattle.esm_model.specs.declared.names.FileName.{FileName}
use Rattle.esm_folder.specs.declared.files.InitEnd.{InitEnd}
use Rattle.esm_folder.specs.declared.files.InitEnd.TheVariants.{Done, NotEmpty, DiskFault}

-- an honest disk has `size` bytes
abbrev pub HasSize : {D : Type 0} → DiskMeaning D → D → ℕ → Type 0
HasSize m disk size = m.honest disk ≡ true → (size ≡ length (m.content disk)) × (size ≢ 0)

abbrev pub IsMakingEnd : {D : Type 0} → DiskMeaning D → Disks D → Disks D → InitEnd → Type 0
IsMakingEnd m old new Done = (f : FileName) → Makes m (fresh_bytes f) (disk_of old f) (disk_of new f)
IsMakingEnd m old new (NotEmpty f size) = HasSize m (disk_of old f) size
IsMakingEnd m old new DiskFault = (f : FileName) × Rose (m.faults (disk_of old f)) (m.faults (disk_of new f))

-- why the making of a file stopped
abbrev pub StopsFor : {D : Type 0} → DiskMeaning D → D → D → InitError → Type 0
StopsFor m old new (why.NotEmpty size) = HasSize m old size
StopsFor m old new why.DiskFault = Rose (m.faults old) (m.faults new)
StopsFor m old new why.OutOfMemory = Unit {0}

-- how `init` ends, if the making of this file stopped
abbrev pub end_of : FileName → InitError → Result InitEnd OutOfMemory
end_of f (why.NotEmpty size) = Ok (NotEmpty f size)
end_of f why.DiskFault = Ok DiskFault
end_of f why.OutOfMemory = Err (record {})
