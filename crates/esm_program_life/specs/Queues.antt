-- What a command leaves of the life of a queue's mapping, by the words of its command line and the clauses of `esm`. Each
-- definition takes disks and worlds first as they were handed in, and then as they were handed back. This product's own.
use Rattle.std.specs.Prelude.{◌≡◌, ◌≢◌, ◌⊎◌, ◌+◌, ◌*◌, ◌++◌, ◌∷◌, ℕ, Bool, true, false, List}
use Rattle.esm_cli.specs.declared.command.Command.{Command}
use Rattle.esm_cli.specs.declared.command.Command.TheVariants as command
use Rattle.esm_folder.specs.Init.{AreHonest as AllAreHonest}
use Rattle.esm_folder.specs.Upkeep.{AreHonest, AreSettled, OneRose}
use Rattle.esm_io.specs.Faults.{Rose}
use Rattle.esm_io.specs.Images.{Only}
use Rattle.esm_io.specs.Meanings.{DiskMeaning}
use Rattle.esm_io.specs.Told.{Grows}
use Rattle.esm_life.specs.Left.{AreLinesAtEnd, AreLinesRead, AreLinesSinceStart, IsReadAtEnd, IsSinceOpening, IsSinceStart}
use Rattle.esm_life.specs.Queues.{HasBegunLife, OpensToLife, OpensToLifeOfVersion1}
use Rattle.esm_mapping.specs.Named.{IsExpected, IsNamed}
use Rattle.esm_mapping.specs.declared.expected.Expected.TheVariants as expected
use Rattle.esm_mapping.specs.declared.named.NamedMapping.{NamedMapping}
use Rattle.esm_model.specs.declared.config.Kind.{Kind}
use Rattle.esm_model.specs.declared.entry.Entry.{Entry}
use Rattle.esm_model.specs.declared.item.Item.{Item}
use Rattle.esm_model.specs.declared.item.Message.{Message}
use Rattle.esm_model.specs.Valid.{is_stream}
use Rattle.esm_program_life.specs.QueueRan.{HasRanOver, HasRedriven, HidesNoFault, Shows, TellsNoTrouble}
use Rattle.esm_program_life.specs.Reads.{HasRead, NothingHappened}
use Rattle.esm_program_life.specs.Written.{HasWritten, IsWrittenAtEnd}
use Rattle.esm_queue_life.specs.Life.{Ran, Redriven, Rewritten, Run, Stage}
use Rattle.esm_queue_model.specs.QueueSetting.{is_fifo}
use Rattle.esm_queue_model.specs.QueueStep.{SettledQueue}
use Rattle.esm_redrive_life.specs.Life.{IsWhole as IsWholeRedrive, Redrive}
use Rattle.esm_redrive_model.specs.RedriveReport.{redrive_calls}
use Rattle.esm_run.specs.Answers.{IsUnwritten, visibility_of}
use Rattle.esm_run.specs.Commands.{redrive_words}
use Rattle.esm_run.specs.FirstCaller.{IsFirstUsed}
use Rattle.esm_run.specs.Redrive.{redrive_disks, redrive_tells}
use Rattle.esm_run.specs.World.{DevicesTell, devices_of, disks_in, history, of_run, seen}
use Rattle.esm_run.specs.declared.world.World.{World}
use Rattle.esm_runner.specs.Files.{FilesState}
use Rattle.esm_runner.specs.Given.{AreGiven}
use Rattle.esm_runner.specs.Headline.{Telling}
use Rattle.esm_runner.specs.QueueComing.{messages_in_items}
use Rattle.esm_runner.specs.QueueEnded.{line_kind}
use Rattle.esm_runner.specs.QueueHeadline.{CallsMade, CallsMadeOrOneMore}
use Rattle.esm_runner.specs.QueueStopping.{HasLogged}
use Rattle.esm_workers.specs.Working.{Outside}

-- what is required of a command

-- The pair opens to the content that a life leaves, and the dead-letter file to its lines; the disks are honest.
pub record HasLife {D : Type 0} (m : DiskMeaning D) (fifo : Bool) (life : List Stage) (epoch : ℕ) (journal spare failures : D) : Type 0 where
  pub honest : AreHonest m journal spare
  pub honest_lines : m.honest failures ≡ true
  pub opens : OpensToLife fifo life epoch (m.content journal) (m.content spare) (m.content failures)

-- a queue of this kind, FIFO or standard
abbrev pub IsQueueOf : Bool → Kind → Type 0
IsQueueOf fifo kind = (is_stream kind ≡ false) × (is_fifo kind ≡ fifo)

-- If the words name a mapping that may run, it is that of a queue of this kind. This requires nothing of a command that
-- names no mapping; of `ddb` and `replay`, which take only a stream's mapping, it requires that the words name none that may
-- run. A mapping with an id is the one that the registry's file has, if its disk is honest; on any other disk the id may
-- name any mapping, and this does not hold.
abbrev pub NamesAQueue : {S K D F L N : Type 0} → DevicesTell S K D F L N → Bool → Command → (registry : D) → Type 0
NamesAQueue t fifo (command.Run r) registry = (mapping : NamedMapping) → IsNamed t.disk r.which registry mapping → IsQueueOf fifo mapping.config.kind
NamesAQueue t fifo (command.Redrive config receives calls visibility timeout traced) registry = (mapping : NamedMapping) → IsExpected expected.Queue config mapping → IsQueueOf fifo mapping.config.kind
NamesAQueue t fifo (command.Ddb config calls timeout traced) registry = (mapping : NamedMapping) → IsExpected expected.DynamoDb config mapping → IsQueueOf fifo mapping.config.kind
NamesAQueue t fifo (command.Replay config calls timeout traced) registry = (mapping : NamedMapping) → IsExpected expected.Stream config mapping → IsQueueOf fifo mapping.config.kind
NamesAQueue t fifo _ registry = Unit {0}

-- stages

-- The run of a stage is the command's. What happened in it is the history that the command left, over the mapping, the calls
-- and the visibility timeout (in milliseconds) of its words. Its messages are a prefix of those that were read of the input.
-- Caller k's log, if it is visible, is the old one followed by the calls of batcher k in that run, and if memory ran out
-- perhaps by one further call of a lane that still runs.
pub record IsRunOf {D F : Type 0} (t : Telling D F) (status : ℕ) (names : NamedMapping → Type 0) (reads : NamedMapping → List Item → Type 0) (calls visibility : ℕ) (h : List Entry) (old new : List F) (run : Run) : Type 0 where
  pub mapping : NamedMapping
  pub named : names mapping
  pub config_is : run.setting.config ≡ mapping.config
  pub calls_are : run.setting.calls ≡ calls
  pub visibility_is : run.setting.visibility ≡ visibility
  pub items : List Item
  pub read : reads mapping items
  pub came : (rest : List Message) × (messages_in_items items ≡ run.setting.messages ++ rest)
  pub happened_is : run.happened ≡ h
  -- each moment in what the journal recorded of it is one that the clock gave
  pub moments : AreGiven t.callers.gave run.recorded
  pub calls_made : CallsMadeOrOneMore t run.setting h old new
  pub calls_ended : status ≢ 70 → CallsMade t run.setting h old new

-- The redrive of a stage is the command's; only the first of the callers was used. Its messages are a prefix of those that
-- were read of the input.
pub record IsRedriveOf {F : Type 0} (callers : Outside F) (status : ℕ) (config : List ℕ) (reads : NamedMapping → List Item → Type 0) (receives calls visibility : ℕ) (h : List Entry) (old new : List F) (redrive : Redrive) : Type 0 where
  pub mapping : NamedMapping
  pub named : IsExpected expected.Queue config mapping
  pub config_is : redrive.setting.queue.config ≡ mapping.config
  pub receives_are : redrive.setting.max_receives ≡ receives
  pub calls_are : redrive.setting.queue.calls ≡ calls
  -- in milliseconds, and in seconds
  pub visibility_is : redrive.setting.queue.visibility ≡ visibility * 1000
  pub items : List Item
  pub read : reads mapping items
  pub came : (rest : List Message) × (messages_in_items items ≡ redrive.setting.queue.messages ++ rest)
  pub happened_is : redrive.happened ≡ h
  -- each moment is one that the clock gave, in what the journal recorded of it and in what the dead-letter file has the
  -- lines of
  pub moments : AreGiven callers.gave redrive.recorded
  pub lines_given : AreGiven callers.gave redrive.lined
  pub caller : F
  pub caller_left : F
  pub first_used : IsFirstUsed old new caller caller_left
  pub calls_made : HasLogged callers.sends redrive.setting.queue h 0 (callers.log caller) (callers.log caller_left)
  pub calls_ended : status ≢ 70 → Grows (callers.log caller) (callers.log caller_left) (redrive_calls redrive.setting callers.sends h)

-- what was read of the input
abbrev pub reads_messages : {S K D C F L N : Type 0} → DevicesTell S K D F L N → (status : ℕ) → (old new : World S K D C F L) → NamedMapping → List Item → Type 0
reads_messages t status old new mapping items = HasRead t.left (line_kind mapping.config) mapping.config.factor mapping.config.start status old.input new.input items

-- the command ran its mapping of a queue over these files
abbrev pub RanOver : {S K D C F L N : Type 0} → DevicesTell S K D F L N → Command → (old new : World S K D C F L) → (status : ℕ) → FilesState D → Type 0
RanOver t (command.Run r) old new status files =
    (ran : HasRanOver (of_run t).run (Shows status) status (λ mapping. IsNamed t.disk r.which old.registry mapping) (reads_messages t status old new) r.calls (visibility_of r) (history new) old.journal old.spare old.failures old.callers.items (devices_of (seen new)))
    × (ran.files ≡ files)
RanOver t (command.Redrive config receives calls visibility timeout traced) old new status files =
    (ran : HasRedriven (redrive_tells (of_run t)) (Shows status) status (redrive_words config receives calls visibility timeout traced) (reads_messages t status old new) (history new) old.journal old.spare old.failures old.callers.items new.callers.items (redrive_disks (seen new)))
    × (ran.files ≡ files)
RanOver t _ old new status files = ⊥

-- the stage that a command may add to a life: `run` adds its run, `redrive` its redrive, `compact` the list that it wrote,
-- and no other command adds any
abbrev pub MayAdd : {S K D C F L N : Type 0} → DevicesTell S K D F L N → Command → (old new : World S K D C F L) → (status : ℕ) → Stage → Type 0
MayAdd t (command.Run r) old new status (Ran run) = IsRunOf (of_run t).run status (λ mapping. IsNamed t.disk r.which old.registry mapping) (reads_messages t status old new) r.calls (visibility_of r) (history new) old.callers.items new.callers.items run
MayAdd t (command.Redrive config receives calls visibility timeout traced) old new status (Redriven redrive) = IsRedriveOf (of_run t).run.callers status config (reads_messages t status old new) receives calls visibility (history new) old.callers.items new.callers.items redrive
MayAdd t command.Compact old new status (Rewritten list) = Unit {0}
MayAdd t _ old new status _ = ⊥

-- the command runs a mapping of a queue
abbrev pub is_run : Command → Bool
is_run (command.Run r) = true
is_run (command.Redrive config receives calls visibility timeout traced) = true
is_run _ = false

-- A command that runs a mapping of a queue ran it over files that it had opened; or nothing happened, and nothing was
-- written.
abbrev pub MayRun : {S K D C F L N : Type 0} → DevicesTell S K D F L N → Bool → Command → (old new : World S K D C F L) → (status : ℕ) → Type 0
MayRun {S} {K} {D} t fifo c old new status =
    NamesAQueue t fifo c old.registry → is_run c ≡ true →
    (IsUnwritten t.disk (seen old) (seen new) × NothingHappened old new) ⊎ ((files : FilesState D) × RanOver t c old new status files)

-- what is left

-- The bytes that a crash may leave of the dead-letter file: of a redrive's, at its end; of any other command's, at any
-- moment since it began. The file must have had one image then, as one has that was synced when it was opened.
abbrev pub MayBeLines : {S K D C F L N : Type 0} → DevicesTell S K D F L N → Command → (old new : World S K D C F L) → List ℕ → Type 0
MayBeLines t (command.Redrive config receives calls visibility timeout traced) old new bytes = AreLinesAtEnd t.disk old.failures new.failures bytes
MayBeLines t _ old new bytes = AreLinesSinceStart t.disk old.failures new.failures bytes

-- The same if the command ran its mapping over these files; then nothing is required of what the file was before.
abbrev pub MayBeLinesOver : {S K D C F L N : Type 0} → DevicesTell S K D F L N → Command → FilesState D → (new : World S K D C F L) → List ℕ → Type 0
MayBeLinesOver t (command.Redrive config receives calls visibility timeout traced) files new bytes = t.disk.image new.failures bytes
MayBeLinesOver t _ files new bytes = t.disk.since new.failures (t.disk.moment files.dest.disk) bytes

-- The bytes that may be left of the three files. A crash at any moment since the command began leaves them of disks that had
-- one image then. If the command ran its mapping, a crash since its files were opened leaves them, whatever one might have
-- left of the disks before. If `compact` or `migrate` wrote the pair, a crash at the command's end leaves them. If nothing
-- was written and no mapping ran, they are what the disks read as at the end.
abbrev pub MayBeLeft : {S K D C F L N : Type 0} → DevicesTell S K D F L N → Command → (old new : World S K D C F L) → (status : ℕ) → (one other bytes : List ℕ) → Type 0
MayBeLeft {S} {K} {D} t c old new status one other bytes =
    (IsSinceStart t.disk old.journal old.spare new.journal new.spare one other × MayBeLines t c old new bytes)
    ⊎ ((IsReadAtEnd t.disk old.journal old.spare new.journal new.spare one other × AreLinesRead t.disk old.failures new.failures bytes × (is_run c ≡ true → NothingHappened old new))
    ⊎ ((IsWrittenAtEnd t.disk c old.journal old.spare new.journal new.spare one other × AreLinesRead t.disk old.failures new.failures bytes)
    ⊎ ((files : FilesState D) × RanOver t c old new status files × IsSinceOpening t.disk files new.journal new.spare one other × MayBeLinesOver t c files new bytes)))

-- these bytes open to the life that was found, and nothing happened in the command, if it runs a mapping
pub record IsAsFound {S K D C F L : Type 0} (fifo : Bool) (c : Command) (old new : World S K D C F L) (life : List Stage) (epoch : ℕ) (one other bytes : List ℕ) : Type 0 where
  pub opens : OpensToLife fifo life epoch one other bytes
  pub none_ran : is_run c ≡ true → NothingHappened old new

-- these bytes open to the life with one further stage, which the command may add
pub record AddsStage {S K D C F L N : Type 0} (t : DevicesTell S K D F L N) (fifo : Bool) (c : Command) (old new : World S K D C F L) (status : ℕ) (life : List Stage) (one other bytes : List ℕ) : Type 0 where
  pub stage : Stage
  pub may_add : MayAdd t c old new status stage
  pub epoch : ℕ
  pub opens : OpensToLife fifo (stage ∷ life) epoch one other bytes

-- Whatever is left of the journal, its spare and the dead-letter file opens to the life that was found, or to it with one
-- further stage. If anything happened in the run of a mapping, the stage is there, even if the files kept nothing of it.
-- This holds whatever the status, also if memory ran out.
abbrev pub KeepsLife : {S K D C F L N : Type 0} → DevicesTell S K D F L N → Bool → Command → (old new : World S K D C F L) → (status : ℕ) → List Stage → (epoch : ℕ) → Type 0
KeepsLife t fifo c old new status life epoch =
    HasLife t.disk fifo life epoch old.journal old.spare old.failures → NamesAQueue t fifo c old.registry →
    (one other bytes : List ℕ) → MayBeLeft t c old new status one other bytes →
    IsAsFound fifo c old new life epoch one other bytes ⊎ AddsStage t fifo c old new status life one other bytes

-- the journal kept everything that happened in the run, and after a run without trouble nothing is owed: each message that
-- waits passes the filter, and no lane is owed a deletion
pub record IsWholeRun (status : ℕ) (run : Run) : Type 0 where
  pub recorded : run.recorded ≡ run.happened
  pub settled : TellsNoTrouble status → SettledQueue run.setting run.happened

-- the files kept everything that happened in the stage, and after a redrive nothing more is owed
abbrev pub IsWhole : (status : ℕ) → Stage → Type 0
IsWhole status (Ran run) = IsWholeRun status run
IsWhole status (Redriven redrive) = IsWholeRedrive redrive
IsWhole status (Rewritten list) = Unit {0}

-- the disks themselves open to the life with one further stage, which is whole, and a crash leaves nothing else of them
pub record AddsWhole {S K D C F L N : Type 0} (t : DevicesTell S K D F L N) (fifo : Bool) (c : Command) (old new : World S K D C F L) (status : ℕ) (life : List Stage) : Type 0 where
  pub stage : Stage
  pub may_add : MayAdd t c old new status stage
  pub whole : IsWhole status stage
  pub epoch : ℕ
  pub opens : OpensToLife fifo (stage ∷ life) epoch (t.disk.content new.journal) (t.disk.content new.spare) (t.disk.content new.failures)
  pub settled : AreSettled t.disk new.journal new.spare
  pub settled_lines : Only (t.disk.content new.failures) (t.disk.image new.failures)

-- nothing happened, and the disks open to the life that was found; if a crash could leave nothing else of a disk before, it
-- still cannot
pub record AddsNothing {S K D C F L N : Type 0} (t : DevicesTell S K D F L N) (fifo : Bool) (old new : World S K D C F L) (life : List Stage) (epoch : ℕ) : Type 0 where
  pub nothing : NothingHappened old new
  pub opens : OpensToLife fifo life epoch (t.disk.content new.journal) (t.disk.content new.spare) (t.disk.content new.failures)
  pub settled : AreSettled t.disk old.journal old.spare → AreSettled t.disk new.journal new.spare
  pub settled_lines : Only (t.disk.content old.failures) (t.disk.image old.failures) → Only (t.disk.content new.failures) (t.disk.image new.failures)

-- none of the three disks failed, by its count of faults or by the status
abbrev pub NoneFailed : {D : Type 0} → DiskMeaning D → (status : ℕ) → (journal spare failures journal' spare' failures' : D) → Type 0
NoneFailed m status journal spare failures journal' spare' failures' = (¬ (OneRose m journal spare journal' spare' ⊎ Rose (m.faults failures) (m.faults failures'))) ⊎ HidesNoFault status

-- if none of them failed, a command that runs a mapping leaves its whole run, or nothing happened
abbrev pub KeepsWhole : {S K D C F L N : Type 0} → DevicesTell S K D F L N → Bool → Command → (old new : World S K D C F L) → (status : ℕ) → List Stage → (epoch : ℕ) → Type 0
KeepsWhole t fifo c old new status life epoch =
    HasLife t.disk fifo life epoch old.journal old.spare old.failures → NamesAQueue t fifo c old.registry → is_run c ≡ true →
    NoneFailed t.disk status old.journal old.spare old.failures new.journal new.spare new.failures →
    AddsNothing t fifo old new life epoch ⊎ AddsWhole t fifo c old new status life

-- `compact` wrote the pair: the files themselves open to the life with the list that it wrote, and a crash leaves nothing
-- else of the pair
pub record AddsRewritten {D : Type 0} (m : DiskMeaning D) (fifo : Bool) (journal spare failures journal' spare' failures' : D) (life : List Stage) : Type 0 where
  pub written : HasWritten m command.Compact journal spare journal' spare'
  pub lines_same : failures' ≡ failures
  pub list : List (List ℕ)
  pub epoch : ℕ
  pub opens : OpensToLife fifo (Rewritten list ∷ life) epoch (m.content journal') (m.content spare') (m.content failures')
  pub settled : AreSettled m journal' spare'

-- so it is if it ended with 0
abbrev pub CompactsLife : {S K D C F L N : Type 0} → DevicesTell S K D F L N → Bool → (old new : World S K D C F L) → (status : ℕ) → List Stage → (epoch : ℕ) → Type 0
CompactsLife t fifo old new status life epoch =
    status ≡ 0 → HasLife t.disk fifo life epoch old.journal old.spare old.failures → AddsRewritten t.disk fifo old.journal old.spare old.failures new.journal new.spare new.failures life

-- if the words spell no command, the life stays as it is
abbrev pub KeepsUntouched : {S K D C F L N : Type 0} → DevicesTell S K D F L N → Bool → (old new : World S K D C F L) → List Stage → (epoch : ℕ) → Type 0
KeepsUntouched t fifo old new life epoch =
    HasLife t.disk fifo life epoch old.journal old.spare old.failures →
    (one other bytes : List ℕ) →
    (IsSinceStart t.disk old.journal old.spare new.journal new.spare one other × AreLinesSinceStart t.disk old.failures new.failures bytes)
    ⊎ (IsReadAtEnd t.disk old.journal old.spare new.journal new.spare one other × AreLinesRead t.disk old.failures new.failures bytes) →
    OpensToLife fifo life epoch one other bytes

-- a life begins when `init` ends with 0: it has no stages, and a crash leaves nothing else of its files
abbrev pub BeginsLife : {S K D C F L N : Type 0} → DevicesTell S K D F L N → Bool → (old new : World S K D C F L) → (status : ℕ) → Type 0
BeginsLife t fifo old new status = status ≡ 0 → AllAreHonest t.disk (disks_in old) → HasBegunLife t.disk (disks_in new) fifo

-- of a pair of version 1 and a dead-letter file: whatever a crash leaves while `migrate` writes the pair as one of version 2
-- opens to the same life
abbrev pub MigratesLife : {S K D C F L N : Type 0} → DevicesTell S K D F L N → Bool → (old new : World S K D C F L) → List Stage → (epoch : ℕ) → Type 0
MigratesLife t fifo old new life epoch =
    AreHonest t.disk old.journal old.spare → AreSettled t.disk old.journal old.spare → t.disk.honest old.failures ≡ true → Only (t.disk.content old.failures) (t.disk.image old.failures) →
    OpensToLifeOfVersion1 fifo life epoch (t.disk.content old.journal) (t.disk.content old.spare) (t.disk.content old.failures) →
    (one other bytes : List ℕ) → t.disk.since new.journal (t.disk.moment old.journal) one → t.disk.since new.spare (t.disk.moment old.spare) other → t.disk.since new.failures (t.disk.moment old.failures) bytes →
    OpensToLifeOfVersion1 fifo life epoch one other bytes ⊎ OpensToLife fifo life (epoch + 1) one other bytes
