-- What became of a command over the files, as the command of the words.
use Rattle.std.proofs.Common.{◌≡◌, ℕ, refl}
use Rattle.esm_run.specs.Commands.{AreFilesLeft, FilesEnded, HasEnded, IsCut, IsLeft}
use Rattle.esm_run.specs.Tended.{IsCompactCut, command_of}
use Rattle.esm_run.specs.World.{DevicesTell, disks_in}
use Rattle.esm_run.specs.declared.tending.FilesCommand.{FilesCommand}
use Rattle.esm_run.specs.declared.tending.FilesCommand.TheVariants.{Init, Upkeep}
use Rattle.esm_run.specs.declared.tending.Upkeep.TheVariants.{Show, Failures, Compact, Migrate}
use Rattle.esm_run.specs.declared.world.World.{World}

module _ {S K D C F L N : Type 0} (t : DevicesTell S K D F L N) (old new : World S K D C F L) where
  pub files_ended : (f : FilesCommand) (status : ℕ) → FilesEnded t f old new status → HasEnded t (command_of f) old new status
  files_ended Init status is = is
  files_ended (Upkeep Show) status is = is
  files_ended (Upkeep Failures) status is = is
  files_ended (Upkeep Compact) status is = is
  files_ended (Upkeep Migrate) status is = is

  pub files_left : (f : FilesCommand) → AreFilesLeft t f old new → IsLeft t (command_of f) old new
  files_left Init is = is
  files_left (Upkeep Show) is = is
  files_left (Upkeep Failures) is = is
  files_left (Upkeep Compact) is = is
  files_left (Upkeep Migrate) is = is

  pub files_cut : (f : FilesCommand) → (f ≡ Upkeep Compact → IsCompactCut t.disk (disks_in old) (disks_in new)) → IsCut t (command_of f) old new
  files_cut Init cut = tt
  files_cut (Upkeep Show) cut = tt
  files_cut (Upkeep Failures) cut = tt
  files_cut (Upkeep Compact) cut = cut refl
  files_cut (Upkeep Migrate) cut = tt
