-- Commands over a queue's folder, one after the other, each ended or stopped at any moment, and what they leave of the life
-- of its mapping. The newest comes first. This product's own.
use Rattle.std.specs.Prelude.{◌≡◌, ◌⊎◌, ◌+◌, ◌∷◌, ◌++◌, ℕ, Bool, true, List, [], Option, Some, None}
use Rattle.esm_cli.specs.declared.command.Command.{Command}
use Rattle.esm_folder.specs.Upkeep.{AreHonest}
use Rattle.esm_life.specs.Left.{AreLinesRead, AreLinesSinceStart, IsReadAtEnd, IsSinceStart}
use Rattle.esm_life.specs.Queues.{OpensToLife, OpensToLifeOfVersion1}
use Rattle.esm_program_life.specs.Commands.{AreMigrations, Spell, Step, left_by}
use Rattle.esm_program_life.specs.Queues.{MayAdd, MayBeLeft, NamesAQueue, is_run}
use Rattle.esm_program_life.specs.Reads.{NothingHappened}
use Rattle.esm_program_life.specs.Streams.{IsSaid}
use Rattle.esm_queue_life.specs.Life.{Stage}
use Rattle.esm_run.specs.World.{DevicesTell}
use Rattle.esm_run.specs.declared.world.World.{World}

-- The bytes of the journal, of its spare and of the dead-letter file.
pub record FileBytes : Type 0 where
  pub journal : List ℕ
  pub spare : List ℕ
  pub lines : List ℕ

-- what is required of the command
abbrev pub IsFit : {S K D C F L N : Type 0} → DevicesTell S K D F L N → Bool → Option Command → (old : World S K D C F L) → Type 0
IsFit t fifo (Some c) old = NamesAQueue t fifo c old.registry
IsFit t fifo None old = Unit {0}

-- The bytes that may be left of the three files. Words that spell no command open none of them.
abbrev pub MayBeLeftBy : {S K D C F L N : Type 0} → DevicesTell S K D F L N → Option Command → (old new : World S K D C F L) → (status : ℕ) → (one other bytes : List ℕ) → Type 0
MayBeLeftBy t (Some c) old new status one other bytes = MayBeLeft t c old new status one other bytes
MayBeLeftBy t None old new status one other bytes =
    (IsSinceStart t.disk old.journal old.spare new.journal new.spare one other × AreLinesSinceStart t.disk old.failures new.failures bytes)
    ⊎ (IsReadAtEnd t.disk old.journal old.spare new.journal new.spare one other × AreLinesRead t.disk old.failures new.failures bytes)

-- the command began on what was found, and the clauses of `esm` hold of its words and worlds
pub record IsStep {S K D C F L N : Type 0} (t : DevicesTell S K D F L N) (fifo : Bool) (found : FileBytes) (step : Step S K D C F L FileBytes) : Type 0 where
  pub spelled : Spell step.words step.command
  pub said : IsSaid t step.words step.old step.new step.status
  pub fit : IsFit t fifo step.command step.old
  -- its disks had these bytes, and are honest
  pub honest : AreHonest t.disk step.old.journal step.old.spare
  pub honest_lines : t.disk.honest step.old.failures ≡ true
  pub journal_found : t.disk.content step.old.journal ≡ found.journal
  pub spare_found : t.disk.content step.old.spare ≡ found.spare
  pub lines_found : t.disk.content step.old.failures ≡ found.lines
  -- and these bytes may have been left
  pub left_so : MayBeLeftBy t step.command step.old step.new step.status step.left.journal step.left.spare step.left.lines

-- each command began on what the one before it left, and the oldest on what was found
abbrev pub AreSteps : {S K D C F L N : Type 0} → DevicesTell S K D F L N → Bool → FileBytes → List (Step S K D C F L FileBytes) → Type 0
AreSteps t fifo found [] = Unit {0}
AreSteps t fifo found (step ∷ steps) = AreSteps t fifo found steps × IsStep t fifo (left_by found steps) step

-- if the command runs a mapping of a queue, nothing happened in it
abbrev pub RanNone : {S K D C F L : Type 0} → Option Command → (old new : World S K D C F L) → Type 0
RanNone (Some c) old new = is_run c ≡ true → NothingHappened old new
RanNone None old new = Unit {0}

-- the command may add this stage; words that spell no command add none
abbrev pub IsAdded : {S K D C F L N : Type 0} → DevicesTell S K D F L N → Option Command → (old new : World S K D C F L) → (status : ℕ) → Stage → Type 0
IsAdded t (Some c) old new status stage = MayAdd t c old new status stage
IsAdded t None old new status stage = ⊥

-- the newest of these stages is the command's, and the others are those of the commands before it
pub record IsLastOf {S K D C F L N : Type 0} (t : DevicesTell S K D F L N) (step : Step S K D C F L FileBytes) (before : List Stage → Type 0) (stages : List Stage) : Type 0 where
  pub stage : Stage
  pub stages_before : List Stage
  pub stages_are : stages ≡ stage ∷ stages_before
  pub added : IsAdded t step.command step.old step.new step.status stage
  pub are_before : before stages_before

-- each command added one of the stages, or none; one that runs a mapping adds none only if nothing happened in it
abbrev pub AreStagesOf : {S K D C F L N : Type 0} → DevicesTell S K D F L N → List (Step S K D C F L FileBytes) → List Stage → Type 0
AreStagesOf t [] stages = stages ≡ []
AreStagesOf t (step ∷ steps) stages = (AreStagesOf t steps stages × RanNone step.command step.old step.new) ⊎ IsLastOf t step (AreStagesOf t steps) stages

-- what they left opens to the life with the stages that they added
pub record AddStages {S K D C F L N : Type 0} (t : DevicesTell S K D F L N) (fifo : Bool) (found : FileBytes) (steps : List (Step S K D C F L FileBytes)) (life : List Stage) : Type 0 where
  pub stages : List Stage
  pub added : AreStagesOf t steps stages
  pub epoch : ℕ
  pub opens : OpensToLife fifo (stages ++ life) epoch (left_by found steps).journal (left_by found steps).spare (left_by found steps).lines

abbrev pub StepsKeepLife : {S K D C F L N : Type 0} → DevicesTell S K D F L N → Bool → FileBytes → List (Step S K D C F L FileBytes) → List Stage → (epoch : ℕ) → Type 0
StepsKeepLife t fifo found steps life epoch = AreSteps t fifo found steps → OpensToLife fifo life epoch found.journal found.spare found.lines → AddStages t fifo found steps life

-- the same of a pair of version 1, if each command is `migrate` or one that writes no journal
abbrev pub StepsMigrateLife : {S K D C F L N : Type 0} → DevicesTell S K D F L N → Bool → FileBytes → List (Step S K D C F L FileBytes) → List Stage → (epoch : ℕ) → Type 0
StepsMigrateLife t fifo found steps life epoch =
    AreSteps t fifo found steps → AreMigrations steps → OpensToLifeOfVersion1 fifo life epoch found.journal found.spare found.lines →
    OpensToLifeOfVersion1 fifo life epoch (left_by found steps).journal (left_by found steps).spare (left_by found steps).lines
    ⊎ OpensToLife fifo life (epoch + 1) (left_by found steps).journal (left_by found steps).spare (left_by found steps).lines
