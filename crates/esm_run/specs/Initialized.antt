-- How `init` ended: why, what was written, and the exit status. This product's own.
use Rattle.std.specs.Prelude.{ℕ}
use Rattle.esm_io.specs.Faults.{Rose}
use Rattle.esm_io.specs.Meanings.{DiskMeaning}
use Rattle.esm_folder.specs.Init.{AreHonest, IsInitEnd, disk_of}
use Rattle.esm_folder.specs.Text.{init_text}
use Rattle.esm_folder.specs.declared.disks.Disks.{Disks}
use Rattle.esm_model.specs.declared.names.FileName.{FileName}
use Rattle.esm_folder.specs.declared.files.InitEnd.{InitEnd}
use Rattle.esm_folder.specs.declared.files.InitEnd.TheVariants.{Done, NotEmpty, DiskFault}
use Rattle.esm_run.specs.Endings.{IsToldWith}
use Rattle.esm_run.specs.World.{Written}

abbrev pub init_status : InitEnd → ℕ
init_status Done = 0
init_status (NotEmpty file size) = 8
init_status DiskFault = 6

-- the status if the output failed
abbrev pub OUTPUT_FAULT : ℕ
OUTPUT_FAULT = 5

pub record InitOutcome {D : Type 0} (m : DiskMeaning D) (old new : Disks D) (output : Written) (status : ℕ) : Type 0 where
  pub end : InitEnd
  pub cause : IsInitEnd m old new end
  pub told : IsToldWith output.faults_before output.faults_now output.before output.after (init_text end) (init_status end) OUTPUT_FAULT status

-- the disks are honest, and no count of faults rose or is at its greatest value
pub record AreSound {D : Type 0} (m : DiskMeaning D) (old new : Disks D) : Type 0 where
  pub honest : AreHonest m old
  pub no_fault : (f : FileName) → ¬ Rose (m.faults (disk_of old f)) (m.faults (disk_of new f))
