-- What became of the command that the words spell: how it ended, what it left, and what it left if memory ran out. Each
-- definition takes the world first as it was handed in, and then as it was handed back. This product's own.
use Rattle.std.specs.Prelude.{◌≡◌, ◌⊎◌, ℕ, Bool, List}
use Rattle.esm_cli.specs.declared.command.Command.{Command}
use Rattle.esm_cli.specs.declared.command.Command.TheVariants.{Init, Run, Show, Failures, Gen, Compact, Serve, Migrate, Ddb, Redrive, Replay}
use Rattle.esm_io.specs.Faults.{Rose}
use Rattle.esm_run.specs.Answers.{AreBadWords, AreSoundDevices, IsCutOf, IsSoundRun, IsUntouched, RunOutcome}
use Rattle.esm_run.specs.Asks.{IsRegistryLeft}
use Rattle.esm_run.specs.Built.{SpellsBuilt}
use Rattle.esm_run.specs.Completes as run
use Rattle.esm_run.specs.Ddb.{DdbOutcome, IsDdbCut}
use Rattle.esm_run.specs.DdbCompletes as ddb
use Rattle.esm_run.specs.Generated.{GenOutcome, IsGenCut}
use Rattle.esm_run.specs.Redrive.{IsRedriveCut, MayComplete, RedriveOutcome}
use Rattle.esm_run.specs.Replay.{IsReplayCut, ReplayOutcome}
use Rattle.esm_run.specs.Serve.{IsServeCut, IsSoundServe, ServeOutcome}
use Rattle.esm_run.specs.Tended.{AreLeft, AreSoundUnder, FilesOutcome, IsCompactCut}
use Rattle.esm_run.specs.World.{DevicesTell, disks_in, door, history, of_run, of_serve, output, seen}
use Rattle.esm_run.specs.declared.asked.RedriveWords.{RedriveWords}
use Rattle.esm_run.specs.declared.tending.FilesCommand.{FilesCommand}
use Rattle.esm_run.specs.declared.tending.FilesCommand.TheVariants as files
use Rattle.esm_run.specs.declared.tending.Upkeep.TheVariants as upkeep
use Rattle.esm_run.specs.declared.world.World.{World}

-- the words of `redrive`
abbrev pub redrive_words : (config : List ℕ) (receives calls visibility timeout : ℕ) (traced : Bool) → RedriveWords
redrive_words config receives calls visibility timeout traced = record { config = config; max_receives = receives; calls = calls; visibility = visibility; timeout = timeout; trace = traced }

-- ends

-- a command that uses only the files ended with the status
abbrev pub FilesEnded : {S K D C F L N : Type 0} → DevicesTell S K D F L N → FilesCommand → (old new : World S K D C F L) → (status : ℕ) → Type 0
FilesEnded t f old new status = FilesOutcome t.disk (disks_in old) (disks_in new) (output t old new) f status

-- the command ended with the status: why, and what was written
abbrev pub HasEnded : {S K D C F L N : Type 0} → DevicesTell S K D F L N → Command → (old new : World S K D C F L) → (status : ℕ) → Type 0
HasEnded t (Run r) old new status = RunOutcome (of_run t) r (output t old new) (history new) (seen old) (seen new) status
HasEnded t (Ddb config calls timeout traced) old new status = DdbOutcome (of_run t) config calls traced (output t old new) (history new) (seen old) (seen new) status
HasEnded t (Redrive config receives calls visibility timeout traced) old new status = RedriveOutcome (of_run t) (redrive_words config receives calls visibility timeout traced) (output t old new) (history new) (seen old) (seen new) status
HasEnded t (Replay config calls timeout traced) old new status = ReplayOutcome (of_run t) config calls traced (output t old new) (history new) (seen old) (seen new) status
HasEnded t (Gen records) old new status = GenOutcome records (output t old new) (history new) status
HasEnded t (Serve requests) old new status = ServeOutcome (of_serve t) old.registry new.registry (door t old new) (output t old new) requests status
HasEnded t Init old new status = FilesEnded t files.Init old new status
HasEnded t Show old new status = FilesEnded t (files.Upkeep upkeep.Show) old new status
HasEnded t Failures old new status = FilesEnded t (files.Upkeep upkeep.Failures) old new status
HasEnded t Compact old new status = FilesEnded t (files.Upkeep upkeep.Compact) old new status
HasEnded t Migrate old new status = FilesEnded t (files.Upkeep upkeep.Migrate) old new status

-- the command that the words spell ended with the status; or they spell none that is built, and the output says so
abbrev pub Outcome : {S K D C F L N : Type 0} → DevicesTell S K D F L N → List (List ℕ) → (old new : World S K D C F L) → (status : ℕ) → Type 0
Outcome t words old new status =
    ((c : Command) × SpellsBuilt words c × HasEnded t c old new status)
    ⊎ AreBadWords words (output t old new) (history new) (seen old) (seen new) status

-- no fault

-- the devices that the command uses, except the output, are honest and visible and did not fail
abbrev pub IsSound : {S K D C F L N : Type 0} → DevicesTell S K D F L N → Command → (old new : World S K D C F L) → Type 0
IsSound t (Run r) old new = IsSoundRun (of_run t) r (seen old) (seen new)
IsSound t (Ddb config calls timeout traced) old new = AreSoundDevices (of_run t) (seen old) (seen new)
IsSound t (Redrive config receives calls visibility timeout traced) old new = AreSoundDevices (of_run t) (seen old) (seen new)
IsSound t (Replay config calls timeout traced) old new = AreSoundDevices (of_run t) (seen old) (seen new)
IsSound t (Serve requests) old new = IsSoundServe (of_serve t) old.registry new.registry (door t old new)
IsSound t Init old new = AreSoundUnder t.disk (disks_in old) (disks_in new) files.Init
IsSound t Show old new = AreSoundUnder t.disk (disks_in old) (disks_in new) (files.Upkeep upkeep.Show)
IsSound t Failures old new = AreSoundUnder t.disk (disks_in old) (disks_in new) (files.Upkeep upkeep.Failures)
IsSound t Compact old new = AreSoundUnder t.disk (disks_in old) (disks_in new) (files.Upkeep upkeep.Compact)
IsSound t Migrate old new = AreSoundUnder t.disk (disks_in old) (disks_in new) (files.Upkeep upkeep.Migrate)
IsSound t _ old new = Unit {0}

-- and the output did not fail either
pub record NoneFailed {S K D C F L N : Type 0} (t : DevicesTell S K D F L N) (words : List (List ℕ)) (old new : World S K D C F L) : Type 0 where
  pub output_told : ¬ Rose (t.output_faults old.out) (t.output_faults new.out)
  pub command : (c : Command) → SpellsBuilt words c → IsSound t c old new

-- completeness

-- over this world the command ends with nothing left, if no device fails; the run of a queue's mapping ends so, or with its
-- calls spent
abbrev pub Completes : {S K D C F L N : Type 0} → DevicesTell S K D F L N → Command → (old new : World S K D C F L) → (status : ℕ) → Type 0
Completes t (Run r) old new status = (run.MayComplete (of_run t) r (history new) (seen old) → status ≡ 0) × (run.MayFinish (of_run t) r (seen old) → (status ≡ 0) ⊎ (status ≡ 1))
Completes t (Redrive config receives calls visibility timeout traced) old new status = MayComplete (of_run t) (redrive_words config receives calls visibility timeout traced) (seen old) → status ≡ 0
Completes t (Ddb config calls timeout traced) old new status = ddb.MayComplete (of_run t) config calls (history new) (seen old) → status ≡ 0
Completes t _ old new status = Unit {0}

-- the same for the command that the words spell
abbrev pub IsComplete : {S K D C F L N : Type 0} → DevicesTell S K D F L N → List (List ℕ) → (old new : World S K D C F L) → (status : ℕ) → Type 0
IsComplete t words old new status = NoneFailed t words old new → (c : Command) → SpellsBuilt words c → Completes t c old new status

-- what stays, whatever the status

-- a command over the files changed nothing but them and the output, and this is what is left of the files
pub record AreFilesLeft {S K D C F L N : Type 0} (t : DevicesTell S K D F L N) (f : FilesCommand) (old new : World S K D C F L) : Type 0 where
  pub kept : new ≡ record old { out = new.out; journal = new.journal; spare = new.spare; failures = new.failures; registry = new.registry }
  pub files_left : AreLeft t.disk (disks_in old) (disks_in new) f

-- what the command may have changed, and what is left of its files
abbrev pub IsLeft : {S K D C F L N : Type 0} → DevicesTell S K D F L N → Command → (old new : World S K D C F L) → Type 0
IsLeft t (Run r) old new = IsRegistryLeft t.disk r.which old.registry new.registry
IsLeft t (Ddb config calls timeout traced) old new = new.registry ≡ old.registry
IsLeft t (Redrive config receives calls visibility timeout traced) old new = new.registry ≡ old.registry
IsLeft t (Replay config calls timeout traced) old new = new.registry ≡ old.registry
IsLeft t (Gen records) old new = new ≡ record old { out = new.out; trace = new.trace }
IsLeft t (Serve requests) old new = new ≡ record old { out = new.out; registry = new.registry; door = new.door }
IsLeft t Init old new = AreFilesLeft t files.Init old new
IsLeft t Show old new = AreFilesLeft t (files.Upkeep upkeep.Show) old new
IsLeft t Failures old new = AreFilesLeft t (files.Upkeep upkeep.Failures) old new
IsLeft t Compact old new = AreFilesLeft t (files.Upkeep upkeep.Compact) old new
IsLeft t Migrate old new = AreFilesLeft t (files.Upkeep upkeep.Migrate) old new

-- out of memory

-- how far the command got; for `init`, `show`, `failures` and `migrate`, nothing is said beyond what they leave
abbrev pub IsCut : {S K D C F L N : Type 0} → DevicesTell S K D F L N → Command → (old new : World S K D C F L) → Type 0
IsCut t (Run r) old new = IsCutOf (of_run t) r (history new) (seen old) (seen new)
IsCut t (Ddb config calls timeout traced) old new = IsDdbCut (of_run t) config calls traced (history new) (seen old) (seen new)
IsCut t (Redrive config receives calls visibility timeout traced) old new = IsRedriveCut (of_run t) (redrive_words config receives calls visibility timeout traced) (history new) (seen old) (seen new)
IsCut t (Replay config calls timeout traced) old new = IsReplayCut (of_run t) config calls traced (history new) (seen old) (seen new)
IsCut t (Gen records) old new = IsGenCut records (history new)
IsCut t (Serve requests) old new = IsServeCut (of_serve t) old.registry new.registry (door t old new)
IsCut t Compact old new = IsCompactCut t.disk (disks_in old) (disks_in new)
IsCut t _ old new = Unit {0}

-- an allocation failed: the command that the words spell was stopped, and nothing was written to the output
pub record IsStopped {S K D C F L N : Type 0} (t : DevicesTell S K D F L N) (words : List (List ℕ)) (old new : World S K D C F L) : Type 0 where
  pub untold : new.out ≡ old.out
  -- the history is empty and input and callers are as before, or the words spell a command that got this far
  pub stopped : IsUntouched (history new) (seen old) (seen new) ⊎ ((c : Command) × SpellsBuilt words c × IsCut t c old new)
  pub each : (c : Command) → SpellsBuilt words c → IsCut t c old new
