-- The commands that use only the four files: why they ended so, what they left of the files, what was written, and the exit
-- status. This product's own.
use Rattle.std.specs.Prelude.{◌≡◌, ◌⊎◌, ℕ, true}
use Rattle.esm_cli.specs.declared.command.Command.{Command}
use Rattle.esm_cli.specs.declared.command.Command.TheVariants as command
use Rattle.esm_folder.specs.Init.{AreSafe}
use Rattle.esm_folder.specs.declared.disks.Disks.{Disks}
use Rattle.esm_io.specs.Faults.{Rose}
use Rattle.esm_io.specs.Meanings.{DiskMeaning}
use Rattle.esm_journal.specs.Reads.{IsOnlyRead}
use Rattle.esm_folder.specs.UpkeepText.{upkeep_status, upkeep_text}
use Rattle.esm_folder.specs.Upkeep.{AreKept, AreOnlyRead, IsCompactEnd, IsCompacting, IsFailuresEnd, IsMigrateEnd, IsMigrating, IsShowEnd}
use Rattle.esm_folder.specs.declared.ending.UpkeepEnd.{UpkeepEnd}
use Rattle.esm_run.specs.declared.tending.FilesCommand.{FilesCommand}
use Rattle.esm_run.specs.declared.tending.FilesCommand.TheVariants as files
use Rattle.esm_run.specs.declared.tending.Upkeep.{Upkeep}
use Rattle.esm_run.specs.declared.tending.Upkeep.TheVariants.{Show, Failures, Compact, Migrate}
use Rattle.esm_run.specs.Endings.{IsToldWith}
use Rattle.esm_run.specs.Initialized.{AreSound, InitOutcome, OUTPUT_FAULT}
use Rattle.esm_run.specs.World.{Written}

-- the command that the words spell

abbrev pub upkeep_command : Upkeep → Command
upkeep_command Show = command.Show
upkeep_command Failures = command.Failures
upkeep_command Compact = command.Compact
upkeep_command Migrate = command.Migrate

abbrev pub command_of : FilesCommand → Command
command_of files.Init = command.Init
command_of (files.Upkeep upkeep) = upkeep_command upkeep

-- Each definition below takes the disks first as they were handed in, and then as they were handed back.

-- why a command over the journals ended so
abbrev pub IsUpkeepEnd : {D : Type 0} → DiskMeaning D → Upkeep → (old new : Disks D) → UpkeepEnd → Type 0
IsUpkeepEnd m Show old new end = IsShowEnd m old.journal old.spare new.journal new.spare end
IsUpkeepEnd m Failures old new end = IsFailuresEnd m old.failures new.failures end
IsUpkeepEnd m Compact old new end = IsCompactEnd m old.journal old.spare new.journal new.spare end
IsUpkeepEnd m Migrate old new end = IsMigrateEnd m old.journal old.spare new.journal new.spare end

pub record UpkeepOutcome {D : Type 0} (m : DiskMeaning D) (old new : Disks D) (output : Written) (upkeep : Upkeep) (status : ℕ) : Type 0 where
  pub end : UpkeepEnd
  pub cause : IsUpkeepEnd m upkeep old new end
  pub told : IsToldWith output.faults_before output.faults_now output.before output.after (upkeep_text end) (upkeep_status end) OUTPUT_FAULT status

-- how a command over the files ended
abbrev pub FilesOutcome : {D : Type 0} → DiskMeaning D → (old new : Disks D) → Written → FilesCommand → (status : ℕ) → Type 0
FilesOutcome m old new output files.Init status = InitOutcome m old new output status
FilesOutcome m old new output (files.Upkeep upkeep) status = UpkeepOutcome m old new output upkeep status

-- the files, whatever the status

-- the files that the command uses: `show` and `failures` only read them; a crash at any moment of `compact` or `migrate`
-- leaves the old list or the one that they write
abbrev pub AreTended : {D : Type 0} → DiskMeaning D → Upkeep → (old new : Disks D) → Type 0
AreTended m Show old new = AreOnlyRead m old.journal old.spare new.journal new.spare
AreTended m Failures old new = IsOnlyRead m old.failures new.failures
AreTended m Compact old new = IsCompacting m old.journal old.spare new.journal new.spare × AreKept m old.journal old.spare new.journal new.spare
AreTended m Migrate old new = IsMigrating m old.journal old.spare new.journal new.spare × AreKept m old.journal old.spare new.journal new.spare

-- and no call was made on the others
abbrev pub AreUntended : {D : Type 0} → Upkeep → (old new : Disks D) → Type 0
AreUntended Failures old new = new ≡ record old { failures = new.failures }
AreUntended _ old new = new ≡ record old { journal = new.journal; spare = new.spare }

pub record IsLeft {D : Type 0} (m : DiskMeaning D) (old new : Disks D) (upkeep : Upkeep) : Type 0 where
  pub used : AreTended m upkeep old new
  pub unused : AreUntended upkeep old new

-- what is left of the files
abbrev pub AreLeft : {D : Type 0} → DiskMeaning D → (old new : Disks D) → FilesCommand → Type 0
AreLeft m old new files.Init = AreSafe m old new
AreLeft m old new (files.Upkeep upkeep) = IsLeft m old new upkeep

-- if memory ran out, `compact` left the pair as it was, or it ended and only its text was not written
abbrev pub IsCompactCut : {D : Type 0} → DiskMeaning D → (old new : Disks D) → Type 0
IsCompactCut m old new = AreOnlyRead m old.journal old.spare new.journal new.spare ⊎ ((end : UpkeepEnd) × IsUpkeepEnd m Compact old new end)

-- the disks that a command uses are honest, and no count of their faults rose or is at its greatest value

pub record IsSoundDisk {D : Type 0} (m : DiskMeaning D) (old new : D) : Type 0 where
  pub honest : m.honest old ≡ true
  pub no_fault : ¬ Rose (m.faults old) (m.faults new)

abbrev pub AreSoundUnder : {D : Type 0} → DiskMeaning D → (old new : Disks D) → FilesCommand → Type 0
AreSoundUnder m old new files.Init = AreSound m old new
AreSoundUnder m old new (files.Upkeep Failures) = IsSoundDisk m old.failures new.failures
AreSoundUnder m old new (files.Upkeep _) = IsSoundDisk m old.journal new.journal × IsSoundDisk m old.spare new.spare
