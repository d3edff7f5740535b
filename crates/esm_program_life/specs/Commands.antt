-- Commands over a stream's folder, one after the other, each ended or stopped at any moment, and what they leave of the life
-- of its mapping. The newest comes first. This product's own.
use Rattle.std.specs.Prelude.{◌≡◌, ◌⊎◌, ◌+◌, ◌∷◌, ◌++◌, ℕ, Bool, true, false, List, [], Option, Some, None}
use Rattle.esm_cli.specs.declared.command.Command.{Command}
use Rattle.esm_cli.specs.declared.command.Command.TheVariants.{Failures, Gen, Migrate, Serve, Show}
use Rattle.esm_folder.specs.Upkeep.{AreHonest}
use Rattle.esm_life.specs.Left.{IsReadAtEnd, IsSinceStart}
use Rattle.esm_life.specs.Life.{Stage}
use Rattle.esm_life.specs.Streams.{OpensToLife, OpensToLifeOfVersion1}
use Rattle.esm_program_life.specs.Reads.{NothingHappened}
use Rattle.esm_program_life.specs.Streams.{IsSaid, MayAdd, MayBeLeft, NamesAStream, is_run}
use Rattle.esm_run.specs.Built.{SpellsBuilt}
use Rattle.esm_run.specs.World.{DevicesTell}
use Rattle.esm_run.specs.declared.world.World.{World}

-- The bytes of the journal and of its spare.
pub record PairBytes : Type 0 where
  pub journal : List ℕ
  pub spare : List ℕ

-- A command: its words, which command they spell, the world as it was handed in and as it was handed back, its status, and
-- the bytes that were left of its files, at its end or by a crash at a moment since it began.
pub record Step (S K D C F L B : Type 0) : Type 0 where
  pub words : List (List ℕ)
  pub command : Option Command
  pub old : World S K D C F L
  pub new : World S K D C F L
  pub status : ℕ
  pub left : B

-- the words spell this command, or they spell none
abbrev pub Spell : List (List ℕ) → Option Command → Type 0
Spell words (Some c) = SpellsBuilt words c
Spell words None = (c : Command) → ¬ SpellsBuilt words c

-- what is required of the command
abbrev pub IsFit : {S K D C F L N : Type 0} → DevicesTell S K D F L N → Option Command → (old : World S K D C F L) → Type 0
IsFit t (Some c) old = NamesAStream t c old.registry
IsFit t None old = Unit {0}

-- The bytes that may be left of the pair. Words that spell no command open no files.
abbrev pub MayBeLeftBy : {S K D C F L N : Type 0} → DevicesTell S K D F L N → Option Command → (old new : World S K D C F L) → (status : ℕ) → (one other : List ℕ) → Type 0
MayBeLeftBy t (Some c) old new status one other = MayBeLeft t c old new status one other
MayBeLeftBy t None old new status one other = IsSinceStart t.disk old.journal old.spare new.journal new.spare one other ⊎ IsReadAtEnd t.disk old.journal old.spare new.journal new.spare one other

-- the command began on what was found, and the clauses of `esm` hold of its words and worlds
pub record IsStep {S K D C F L N : Type 0} (t : DevicesTell S K D F L N) (found : PairBytes) (step : Step S K D C F L PairBytes) : Type 0 where
  pub spelled : Spell step.words step.command
  pub said : IsSaid t step.words step.old step.new step.status
  pub fit : IsFit t step.command step.old
  -- its disks had these bytes, and are honest
  pub honest : AreHonest t.disk step.old.journal step.old.spare
  pub journal_found : t.disk.content step.old.journal ≡ found.journal
  pub spare_found : t.disk.content step.old.spare ≡ found.spare
  -- and these bytes may have been left
  pub left_so : MayBeLeftBy t step.command step.old step.new step.status step.left.journal step.left.spare

-- what the newest command left; what was found, if there is none
abbrev pub left_by : {S K D C F L B : Type 0} → B → List (Step S K D C F L B) → B
left_by found [] = found
left_by found (step ∷ steps) = step.left

-- each command began on what the one before it left, and the oldest on what was found
abbrev pub AreSteps : {S K D C F L N : Type 0} → DevicesTell S K D F L N → PairBytes → List (Step S K D C F L PairBytes) → Type 0
AreSteps t found [] = Unit {0}
AreSteps t found (step ∷ steps) = AreSteps t found steps × IsStep t (left_by found steps) step

-- if the command runs a mapping, nothing happened in it
abbrev pub RanNone : {S K D C F L : Type 0} → Option Command → (old new : World S K D C F L) → Type 0
RanNone (Some c) old new = is_run c ≡ true → NothingHappened old new
RanNone None old new = Unit {0}

-- the command may add this stage; words that spell no command add none
abbrev pub IsAdded : {S K D C F L N : Type 0} → DevicesTell S K D F L N → Option Command → (old new : World S K D C F L) → (status : ℕ) → Stage → Type 0
IsAdded t (Some c) old new status stage = MayAdd t c old new status stage
IsAdded t None old new status stage = ⊥

-- the newest of these stages is the command's, and the others are those of the commands before it
pub record IsLastOf {S K D C F L N : Type 0} (t : DevicesTell S K D F L N) (step : Step S K D C F L PairBytes) (before : List Stage → Type 0) (stages : List Stage) : Type 0 where
  pub stage : Stage
  pub stages_before : List Stage
  pub stages_are : stages ≡ stage ∷ stages_before
  pub added : IsAdded t step.command step.old step.new step.status stage
  pub are_before : before stages_before

-- each command added one of the stages, or none; one that runs a mapping adds none only if nothing happened in it
abbrev pub AreStagesOf : {S K D C F L N : Type 0} → DevicesTell S K D F L N → List (Step S K D C F L PairBytes) → List Stage → Type 0
AreStagesOf t [] stages = stages ≡ []
AreStagesOf t (step ∷ steps) stages = (AreStagesOf t steps stages × RanNone step.command step.old step.new) ⊎ IsLastOf t step (AreStagesOf t steps) stages

-- what they left opens to the life with the stages that they added
pub record AddStages {S K D C F L N : Type 0} (t : DevicesTell S K D F L N) (found : PairBytes) (steps : List (Step S K D C F L PairBytes)) (life : List Stage) : Type 0 where
  pub stages : List Stage
  pub added : AreStagesOf t steps stages
  pub epoch : ℕ
  pub opens : OpensToLife (stages ++ life) epoch (left_by found steps).journal (left_by found steps).spare

abbrev pub StepsKeepLife : {S K D C F L N : Type 0} → DevicesTell S K D F L N → PairBytes → List (Step S K D C F L PairBytes) → List Stage → (epoch : ℕ) → Type 0
StepsKeepLife t found steps life epoch = AreSteps t found steps → OpensToLife life epoch found.journal found.spare → AddStages t found steps life

-- a pair of version 1

-- the command writes a pair of version 1 only as one of version 2: `migrate`, those that write no pair, and words that spell
-- no command
abbrev pub may_migrate : Option Command → Bool
may_migrate (Some Migrate) = true
may_migrate (Some Show) = true
may_migrate (Some Failures) = true
may_migrate (Some (Gen records)) = true
may_migrate (Some (Serve requests)) = true
may_migrate None = true
may_migrate (Some _) = false

-- each command is one of these
abbrev pub AreMigrations : {S K D C F L B : Type 0} → List (Step S K D C F L B) → Type 0
AreMigrations [] = Unit {0}
AreMigrations (step ∷ steps) = AreMigrations steps × (may_migrate step.command ≡ true)

-- what they left opens to the same life, as the pair that it was or as one of version 2 with the next epoch
abbrev pub StepsMigrateLife : {S K D C F L N : Type 0} → DevicesTell S K D F L N → PairBytes → List (Step S K D C F L PairBytes) → List Stage → (epoch : ℕ) → Type 0
StepsMigrateLife t found steps life epoch =
    AreSteps t found steps → AreMigrations steps → OpensToLifeOfVersion1 life epoch found.journal found.spare →
    OpensToLifeOfVersion1 life epoch (left_by found steps).journal (left_by found steps).spare ⊎ OpensToLife life (epoch + 1) (left_by found steps).journal (left_by found steps).spare
