-- What a command leaves of the life of a stream's mapping, by the words of its command line and the clauses of `esm`. Each
-- definition takes disks and worlds first as they were handed in, and then as they were handed back. This product's own.
use Rattle.std.specs.Prelude.{◌≡◌, ◌≢◌, ◌⊎◌, ◌+◌, ◌++◌, ◌∷◌, ℕ, Bool, true, false, List, [], filter_map, reverse}
use Rattle.esm_cli.specs.declared.command.Command.{Command}
use Rattle.esm_cli.specs.declared.command.Command.TheVariants as command
use Rattle.esm_folder.specs.Upkeep.{AreHonest, AreOnlyRead, AreSettled, OneRose}
use Rattle.esm_history.specs.Content.{OwesNothing}
use Rattle.esm_ingest.specs.Coming.{of_shard}
use Rattle.esm_io.specs.Meanings.{DiskMeaning}
use Rattle.esm_io.specs.Told.{Grows}
use Rattle.esm_journal_record.specs.EntryPayload.{entry_payload}
use Rattle.esm_life.specs.Left.{IsReadAtEnd, IsSinceOpening, IsSinceStart}
use Rattle.esm_life.specs.Life.{Ran, Replay, Rewritten, Run, Stage}
use Rattle.esm_life.specs.Streams.{OpensToLife, OpensToLifeOfVersion1}
use Rattle.esm_mapping.specs.Named.{IsExpected, IsNamed}
use Rattle.esm_mapping.specs.declared.expected.Expected.TheVariants as expected
use Rattle.esm_mapping.specs.declared.named.NamedMapping.{NamedMapping}
use Rattle.esm_model.specs.declared.entry.Entry.{Entry}
use Rattle.esm_model.specs.declared.item.Item.{Item}
use Rattle.esm_model.specs.declared.item.LineKind.TheVariants as kinds
use Rattle.esm_model.specs.Records.{Record}
use Rattle.esm_model.specs.Setting.{records_of}
use Rattle.esm_model.specs.Valid.{is_stream}
use Rattle.esm_program_life.specs.Ran.{HasRanOver, HasReplayed, HidesNoFault, Shows, TellsNoTrouble}
use Rattle.esm_program_life.specs.Reads.{HasRead, HasReadTurned, NothingHappened}
use Rattle.esm_program_life.specs.Written.{HasWritten, IsWrittenAtEnd}
use Rattle.esm_replay.specs.Records.{streams_of}
use Rattle.esm_replay_book.specs.Serving.{AreGiven as AreReplayGiven, records_in_items as replay_records_in_items}
use Rattle.esm_replay_life.specs.ReplayLife.{ReplayRun}
use Rattle.esm_replay_model.specs.ReplayRun.{replay_calls}
use Rattle.esm_replay_model.specs.ReplaySetting.{replay_config}
use Rattle.esm_replay_run.specs.Ended.{HasLogged}
use Rattle.esm_replay_run.specs.Headline.{SomeCame}
use Rattle.esm_run.specs.Built.{SpellsBuilt}
use Rattle.esm_run.specs.Commands.{IsLeft, IsStopped, Outcome}
use Rattle.esm_run.specs.FirstCaller.{IsFirstUsed}
use Rattle.esm_run.specs.Replay.{replay_disks, replay_tells}
use Rattle.esm_run.specs.World.{DevicesTell, ddb_tells, devices_of, history, of_run, seen}
use Rattle.esm_run.specs.declared.world.World.{World}
use Rattle.esm_runner.specs.Coming.{records_in_items}
use Rattle.esm_runner.specs.Files.{FilesState}
use Rattle.esm_runner.specs.Given.{AreGiven}
use Rattle.esm_runner.specs.Headline.{CallsMade, CallsMadeOrOneMore, Telling}
use Rattle.esm_workers.specs.Working.{Outside}

-- what `esm` says

-- the clauses of `esm` for these words and this world, which it handed back with the status
pub record IsSaid {S K D C F L N : Type 0} (t : DevicesTell S K D F L N) (words : List (List ℕ)) (old new : World S K D C F L) (status : ℕ) : Type 0 where
  pub outcome : status ≢ 70 → Outcome t words old new status
  pub want_of_memory : status ≡ 70 → IsStopped t words old new
  pub left : (c : Command) → SpellsBuilt words c → IsLeft t c old new
  pub untouched : ((c : Command) → ¬ SpellsBuilt words c) → new ≡ record old { out = new.out }

-- what is required of a command

-- The pair opens to the content that a life leaves, and its disks are honest.
pub record HasLife {D : Type 0} (m : DiskMeaning D) (life : List Stage) (epoch : ℕ) (journal spare : D) : Type 0 where
  pub honest : AreHonest m journal spare
  pub opens : OpensToLife life epoch (m.content journal) (m.content spare)

-- If the words name a mapping that may run, it is a stream's. This requires nothing of a command that names no mapping, nor
-- of `ddb` and `replay`, which take only a stream's; of `redrive`, which takes only a queue's, it requires that the words
-- name none that may run. A mapping with an id is the one that the registry's file has, if its disk is honest; on any other
-- disk the id may name any mapping, and this does not hold.
abbrev pub NamesAStream : {S K D F L N : Type 0} → DevicesTell S K D F L N → Command → (registry : D) → Type 0
NamesAStream t (command.Run r) registry = (mapping : NamedMapping) → IsNamed t.disk r.which registry mapping → is_stream mapping.config.kind ≡ true
NamesAStream t (command.Redrive config receives calls visibility timeout traced) registry = (mapping : NamedMapping) → IsExpected expected.Queue config mapping → is_stream mapping.config.kind ≡ true
NamesAStream t _ registry = Unit {0}

-- stages

-- The run of a stage is the command's. What happened in it is the history that the command left, over the mapping and the
-- calls of its words. The records of each of its shards are a prefix of those that were read of the input. Caller k's log,
-- if it is visible, is the old one followed by the calls of batcher k in that run, and if memory ran out perhaps by one
-- further call of a lane that still runs.
pub record IsRunOf {D F : Type 0} (t : Telling D F) (status : ℕ) (names : NamedMapping → Type 0) (reads : NamedMapping → List Item → Type 0) (calls : ℕ) (h : List Entry) (old new : List F) (run : Run) : Type 0 where
  pub mapping : NamedMapping
  pub named : names mapping
  pub config_is : run.setting.config ≡ mapping.config
  pub calls_are : run.setting.calls ≡ calls
  pub items : List Item
  pub read : reads mapping items
  pub came : (n : ℕ) → (rest : List Record) × (of_shard n (records_in_items items) ≡ records_of run.setting n ++ rest)
  pub happened_is : run.happened ≡ h
  -- each moment in what the journal recorded of it is one that the clock gave
  pub moments : AreGiven t.callers.gave run.recorded
  pub calls_made : CallsMadeOrOneMore t run.setting h old new
  pub calls_ended : status ≢ 70 → CallsMade t run.setting h old new

-- The replay of a stage is the command's; only the first of the callers was used. Its records are those that arrived, of
-- each shard a prefix of those that were read of the input.
pub record IsReplayOf {F : Type 0} (callers : Outside F) (status : ℕ) (config : List ℕ) (reads : NamedMapping → List Item → Type 0) (calls : ℕ) (h : List Entry) (old new : List F) (replay : ReplayRun) : Type 0 where
  pub mapping : NamedMapping
  pub named : IsExpected expected.Stream config mapping
  pub config_is : replay.setting.base.config ≡ replay_config mapping.config
  pub calls_are : replay.setting.base.calls ≡ calls
  pub items : List Item
  pub read : reads mapping items
  pub records : List Record
  pub came : SomeCame records (replay_records_in_items items)
  pub records_are : replay.setting.base.streams ≡ streams_of records
  pub happened_is : replay.happened ≡ h
  -- each moment is one that the clock gave, that of an entry in hand included
  pub moments : AreReplayGiven callers.gave (replay.hand ++ replay.happened)
  pub caller : F
  pub caller_left : F
  pub first_used : IsFirstUsed old new caller caller_left
  pub calls_made : HasLogged callers.sends replay.setting h (callers.log caller) (callers.log caller_left)
  pub calls_ended : status ≢ 70 → Grows (callers.log caller) (callers.log caller_left) (replay_calls replay.setting callers.sends h)

-- what each command read of the input
abbrev pub reads_records : {S K D C F L N : Type 0} → DevicesTell S K D F L N → (status : ℕ) → (old new : World S K D C F L) → NamedMapping → List Item → Type 0
reads_records t status old new mapping items = HasRead t.left kinds.Stream mapping.config.factor mapping.start status old.input new.input items

abbrev pub reads_turned : {S K D C F L N : Type 0} → DevicesTell S K D F L N → (status : ℕ) → (old new : World S K D C F L) → NamedMapping → List Item → Type 0
reads_turned t status old new mapping items = HasReadTurned t.input_faults t.left mapping status old.input new.input items

abbrev pub reads_again : {S K D C F L N : Type 0} → DevicesTell S K D F L N → (status : ℕ) → (old new : World S K D C F L) → NamedMapping → List Item → Type 0
reads_again t status old new mapping items = HasRead t.left kinds.Stream mapping.config.factor mapping.config.start status old.input new.input items

-- the command ran its mapping over these files
abbrev pub RanOver : {S K D C F L N : Type 0} → DevicesTell S K D F L N → Command → (old new : World S K D C F L) → (status : ℕ) → FilesState D → Type 0
RanOver t (command.Run r) old new status files =
    (ran : HasRanOver (of_run t).run (Shows status) status (λ mapping. IsNamed t.disk r.which old.registry mapping) (reads_records t status old new) r.calls (history new) old.journal old.spare old.callers.items (devices_of (seen new)))
    × (ran.files ≡ files)
RanOver t (command.Ddb config calls timeout traced) old new status files =
    (ran : HasRanOver (ddb_tells (of_run t)) (Shows status) status (λ mapping. IsExpected expected.DynamoDb config mapping) (reads_turned t status old new) calls (history new) old.journal old.spare old.callers.items (devices_of (seen new)))
    × (ran.files ≡ files)
RanOver t (command.Replay config calls timeout traced) old new status files =
    (ran : HasReplayed (replay_tells (of_run t)) (Shows status) status config (reads_again t status old new) calls (history new) old.journal old.spare old.callers.items new.callers.items (replay_disks (seen new)))
    × (ran.files ≡ files)
RanOver t _ old new status files = ⊥

-- the stage that a command may add to a life: `run` and `ddb` add their run, `replay` its replay, `compact` the list that it
-- wrote, and no other command adds any
abbrev pub MayAdd : {S K D C F L N : Type 0} → DevicesTell S K D F L N → Command → (old new : World S K D C F L) → (status : ℕ) → Stage → Type 0
MayAdd t (command.Run r) old new status (Ran run) = IsRunOf (of_run t).run status (λ mapping. IsNamed t.disk r.which old.registry mapping) (reads_records t status old new) r.calls (history new) old.callers.items new.callers.items run
MayAdd t (command.Ddb config calls timeout traced) old new status (Ran run) = IsRunOf (ddb_tells (of_run t)) status (λ mapping. IsExpected expected.DynamoDb config mapping) (reads_turned t status old new) calls (history new) old.callers.items new.callers.items run
MayAdd t (command.Replay config calls timeout traced) old new status (Replay replay) = IsReplayOf (of_run t).run.callers status config (reads_again t status old new) calls (history new) old.callers.items new.callers.items replay
MayAdd t command.Compact old new status (Rewritten list) = Unit {0}
MayAdd t _ old new status _ = ⊥

-- the command runs a mapping of a stream
abbrev pub is_run : Command → Bool
is_run (command.Run r) = true
is_run (command.Ddb config calls timeout traced) = true
is_run (command.Replay config calls timeout traced) = true
is_run _ = false

-- A command that runs a mapping ran it over files that it had opened; or nothing happened, and nothing was written.
abbrev pub MayRun : {S K D C F L N : Type 0} → DevicesTell S K D F L N → Command → (old new : World S K D C F L) → (status : ℕ) → Type 0
MayRun {S} {K} {D} t c old new status =
    NamesAStream t c old.registry → is_run c ≡ true →
    (AreOnlyRead t.disk old.journal old.spare new.journal new.spare × NothingHappened old new) ⊎ ((files : FilesState D) × RanOver t c old new status files)

-- what is left

-- The bytes that may be left of the pair. A crash at any moment since the command began leaves them of disks that had one
-- image then. If the command ran its mapping, a crash at any moment since its files were opened leaves them, whatever one
-- might have left of the disks before. If `compact` or `migrate` wrote the pair, a crash at the command's end leaves them.
-- If nothing was written and no mapping ran, they are what the disks read as at the end.
abbrev pub MayBeLeft : {S K D C F L N : Type 0} → DevicesTell S K D F L N → Command → (old new : World S K D C F L) → (status : ℕ) → (one other : List ℕ) → Type 0
MayBeLeft {S} {K} {D} t c old new status one other =
    IsSinceStart t.disk old.journal old.spare new.journal new.spare one other
    ⊎ ((IsReadAtEnd t.disk old.journal old.spare new.journal new.spare one other × (is_run c ≡ true → NothingHappened old new))
    ⊎ (IsWrittenAtEnd t.disk c old.journal old.spare new.journal new.spare one other
    ⊎ ((files : FilesState D) × RanOver t c old new status files × IsSinceOpening t.disk files new.journal new.spare one other)))

-- these bytes open to the life that was found, and nothing happened in the command, if it runs a mapping
pub record IsAsFound {S K D C F L : Type 0} (c : Command) (old new : World S K D C F L) (life : List Stage) (epoch : ℕ) (one other : List ℕ) : Type 0 where
  pub opens : OpensToLife life epoch one other
  pub none_ran : is_run c ≡ true → NothingHappened old new

-- these bytes open to the life with one further stage, which the command may add
pub record AddsStage {S K D C F L N : Type 0} (t : DevicesTell S K D F L N) (c : Command) (old new : World S K D C F L) (status : ℕ) (life : List Stage) (one other : List ℕ) : Type 0 where
  pub stage : Stage
  pub may_add : MayAdd t c old new status stage
  pub epoch : ℕ
  pub opens : OpensToLife (stage ∷ life) epoch one other

-- Whatever is left of the pair opens to the life that was found, or to it with one further stage. If anything happened in
-- the run of a mapping, the stage is there, even if the journal recorded nothing of it. This holds whatever the status, also
-- if memory ran out.
abbrev pub KeepsLife : {S K D C F L N : Type 0} → DevicesTell S K D F L N → Command → (old new : World S K D C F L) → (status : ℕ) → List Stage → (epoch : ℕ) → Type 0
KeepsLife t c old new status life epoch =
    HasLife t.disk life epoch old.journal old.spare → NamesAStream t c old.registry →
    (one other : List ℕ) → MayBeLeft t c old new status one other →
    IsAsFound c old new life epoch one other ⊎ AddsStage t c old new status life one other

-- the journal recorded everything that happened in the run, and after a run without trouble nothing is owed
pub record IsWholeRun (status : ℕ) (run : Run) : Type 0 where
  pub recorded : run.recorded ≡ run.happened
  pub paid : TellsNoTrouble status → OwesNothing run.setting run.happened

-- the journal recorded everything that happened in the stage
abbrev pub IsWhole : (status : ℕ) → Stage → Type 0
IsWhole status (Ran run) = IsWholeRun status run
IsWhole status (Replay replay) = replay.left ≡ filter_map (entry_payload replay.setting.base) (reverse replay.happened)
IsWhole status (Rewritten list) = Unit {0}

-- the disks themselves open to the life with one further stage, which is whole, and a crash leaves nothing else of them
pub record AddsWhole {S K D C F L N : Type 0} (t : DevicesTell S K D F L N) (c : Command) (old new : World S K D C F L) (status : ℕ) (life : List Stage) : Type 0 where
  pub stage : Stage
  pub may_add : MayAdd t c old new status stage
  pub whole : IsWhole status stage
  pub epoch : ℕ
  pub opens : OpensToLife (stage ∷ life) epoch (t.disk.content new.journal) (t.disk.content new.spare)
  pub settled : AreSettled t.disk new.journal new.spare

-- nothing happened, and the disks open to the life that was found; if a crash could leave nothing else of them before, it
-- still cannot
pub record AddsNothing {S K D C F L N : Type 0} (t : DevicesTell S K D F L N) (old new : World S K D C F L) (life : List Stage) (epoch : ℕ) : Type 0 where
  pub nothing : NothingHappened old new
  pub opens : OpensToLife life epoch (t.disk.content new.journal) (t.disk.content new.spare)
  pub settled : AreSettled t.disk old.journal old.spare → AreSettled t.disk new.journal new.spare

-- no disk of the pair failed, by its count of faults or by the status
abbrev pub NoneFailed : {D : Type 0} → DiskMeaning D → (status : ℕ) → (journal spare journal' spare' : D) → Type 0
NoneFailed m status journal spare journal' spare' = (¬ OneRose m journal spare journal' spare') ⊎ HidesNoFault status

-- if no disk of the pair failed, a command that runs a mapping leaves its whole run, or nothing happened
abbrev pub KeepsWhole : {S K D C F L N : Type 0} → DevicesTell S K D F L N → Command → (old new : World S K D C F L) → (status : ℕ) → List Stage → (epoch : ℕ) → Type 0
KeepsWhole t c old new status life epoch =
    HasLife t.disk life epoch old.journal old.spare → NamesAStream t c old.registry → is_run c ≡ true → NoneFailed t.disk status old.journal old.spare new.journal new.spare →
    AddsNothing t old new life epoch ⊎ AddsWhole t c old new status life

-- `compact` wrote the pair: the disks themselves open to the life with the list that it wrote, and a crash leaves nothing
-- else of them
pub record AddsRewritten {D : Type 0} (m : DiskMeaning D) (journal spare journal' spare' : D) (life : List Stage) : Type 0 where
  pub written : HasWritten m command.Compact journal spare journal' spare'
  pub list : List (List ℕ)
  pub epoch : ℕ
  pub opens : OpensToLife (Rewritten list ∷ life) epoch (m.content journal') (m.content spare')
  pub settled : AreSettled m journal' spare'

-- so it is if it ended with 0
abbrev pub CompactsLife : {S K D C F L N : Type 0} → DevicesTell S K D F L N → (old new : World S K D C F L) → (status : ℕ) → List Stage → (epoch : ℕ) → Type 0
CompactsLife t old new status life epoch = status ≡ 0 → HasLife t.disk life epoch old.journal old.spare → AddsRewritten t.disk old.journal old.spare new.journal new.spare life

-- if the words spell no command, the life stays as it is
abbrev pub KeepsUntouched : {S K D C F L N : Type 0} → DevicesTell S K D F L N → (old new : World S K D C F L) → List Stage → (epoch : ℕ) → Type 0
KeepsUntouched t old new life epoch =
    HasLife t.disk life epoch old.journal old.spare →
    (one other : List ℕ) → IsSinceStart t.disk old.journal old.spare new.journal new.spare one other ⊎ IsReadAtEnd t.disk old.journal old.spare new.journal new.spare one other → OpensToLife life epoch one other

-- of a pair of version 1: whatever a crash leaves of it while `migrate` writes it as one of version 2 opens to the same life
abbrev pub MigratesLife : {S K D C F L N : Type 0} → DevicesTell S K D F L N → (old new : World S K D C F L) → List Stage → (epoch : ℕ) → Type 0
MigratesLife t old new life epoch =
    AreHonest t.disk old.journal old.spare → AreSettled t.disk old.journal old.spare → OpensToLifeOfVersion1 life epoch (t.disk.content old.journal) (t.disk.content old.spare) →
    (one other : List ℕ) → t.disk.since new.journal (t.disk.moment old.journal) one → t.disk.since new.spare (t.disk.moment old.spare) other →
    OpensToLifeOfVersion1 life epoch one other ⊎ OpensToLife life (epoch + 1) one other

-- a life begins when `init` ends with 0: it has no stages, and a crash leaves nothing else of the pair
abbrev pub BeginsLife : {S K D C F L N : Type 0} → DevicesTell S K D F L N → (old new : World S K D C F L) → (status : ℕ) → Type 0
BeginsLife t old new status =
    status ≡ 0 → AreHonest t.disk old.journal old.spare →
    AreSettled t.disk new.journal new.spare × OpensToLife [] 1 (t.disk.content new.journal) (t.disk.content new.spare)
