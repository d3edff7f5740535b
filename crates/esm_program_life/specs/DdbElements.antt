-- What the calls of `ddb` held: exactly the elements of their batches, also in a tumbling window, whose state an earlier run
-- may have kept. This product's own.
use Rattle.std.specs.Prelude.{◌≡◌, ◌≢◌, ◌⊎◌, ◌∷◌, ◌++◌, ℕ, Bool, true, List, Some, reverse}
use Rattle.esm_cli.specs.declared.command.Command.TheVariants as command
use Rattle.esm_ddb.specs.BatchEvents.{element_calls, last_elements}
use Rattle.esm_ddb.specs.Event.{ddb_event}
use Rattle.esm_ddb.specs.RunEvent.{IsState}
use Rattle.esm_folder.specs.Upkeep.{AreHonest}
use Rattle.esm_ingest.specs.Coming.{of_shard}
use Rattle.esm_journal_state.specs.Meaning.{history as saids, state_said}
use Rattle.esm_life.specs.Life.{IsLife, Ran, Run, Stage}
use Rattle.esm_life.specs.Streams.{OpensToLife}
use Rattle.esm_mapping.specs.Named.{IsExpected}
use Rattle.esm_mapping.specs.declared.expected.Expected.TheVariants.{DynamoDb}
use Rattle.esm_mapping.specs.declared.named.NamedMapping.{NamedMapping}
use Rattle.esm_model.specs.Calls.{calls, last_event}
use Rattle.esm_model.specs.Entries.{is_running}
use Rattle.esm_model.specs.Setting.{Setting, records_of}
use Rattle.esm_model.specs.Step.{Legal}
use Rattle.esm_model.specs.Windows.{has_windows}
use Rattle.esm_model.specs.declared.entry.Entry.{Entry}
use Rattle.esm_model.specs.declared.item.Item.{Item}
use Rattle.esm_model.specs.Records.{Record}
use Rattle.esm_model.specs.declared.lane.LaneId.{LaneId}
use Rattle.esm_program_life.specs.Reads.{NothingHappened}
use Rattle.esm_program_life.specs.Streams.{MayAdd, reads_turned}
use Rattle.esm_report.specs.declared.ending.Ending.{Ending}
use Rattle.esm_run.specs.Ddb.{IsDdbRun}
use Rattle.esm_run.specs.World.{DevicesTell, RunTells, Seen, ddb_tells, history, of_run}
use Rattle.esm_run.specs.declared.world.World.{World}
use Rattle.esm_runner.specs.Coming.{records_in_items}
use Rattle.esm_runner.specs.Headline.{CallsMade, CallsMadeOrOneMore}

-- each state of a window that the content has reads as an object
abbrev pub SaysStates : List (List ℕ) → Type 0
SaysStates content = (n w : ℕ) (text : List ℕ) → state_said (saids (reverse content)) n w ≡ Some text → IsState text

-- each call of a batcher that ended, and each that still runs, was of exactly the elements of its batch, with what the event
-- says of its window
pub record SentElements (sends : List ℕ → List ℕ) (s : Setting) (h : List Entry) : Type 0 where
  pub ended : (k : ℕ) → calls s (λ event. sends (ddb_event event)) h k ≡ element_calls s sends h k
  pub running : (lane : LaneId) → is_running h lane ≡ true → ddb_event (last_event s h lane) ≡ last_elements s h lane

-- So it is of a run whose journal had only states that read as objects. Of a mapping without windows this is not required.
abbrev pub RunSendsElements : {S D F : Type 0} → RunTells S D F → (config : List ℕ) → (calls : ℕ) → (traced : Bool) → List Entry → (old new : Seen S D F) → (text : List ℕ) → Ending → Type 0
RunSendsElements o config calls traced h old new text ending =
    (run : IsDdbRun o config calls traced h old new text ending) → (has_windows run.mapping.config ≡ true → SaysStates run.files.pair.payloads) → SentElements o.run.callers.sends run.setting h

-- and of a run that is a stage of a life, whose journal has no other states
abbrev pub StageSendsElements : {S K D C F L N : Type 0} → DevicesTell S K D F L N → (config : List ℕ) → (calls timeout : ℕ) → (traced : Bool) → (old new : World S K D C F L) → (status : ℕ) → List Stage → Run → Type 0
StageSendsElements t config calls timeout traced old new status life run =
    IsLife (Ran run ∷ life) → MayAdd t (command.Ddb config calls timeout traced) old new status (Ran run) → SentElements t.sends run.setting run.happened

-- The mapping that the text gives ran, over this setting. Caller k's log, if it is visible, grew by the calls of batcher k,
-- and if memory ran out perhaps by one further call of a lane that still runs. Each of these calls was of exactly the
-- elements of its batch.
pub record HasSentElements {S K D C F L N : Type 0} (t : DevicesTell S K D F L N) (config : List ℕ) (calls status : ℕ) (old new : World S K D C F L) : Type 0 where
  pub mapping : NamedMapping
  pub named : IsExpected DynamoDb config mapping
  pub setting : Setting
  pub config_is : setting.config ≡ mapping.config
  pub calls_are : setting.calls ≡ calls
  -- its records are a prefix of those of the changes that were read of the input
  pub items : List Item
  pub read : reads_turned t status old new mapping items
  pub came : (n : ℕ) → (rest : List Record) × (of_shard n (records_in_items items) ≡ records_of setting n ++ rest)
  pub legal : Legal setting (history new)
  pub calls_made : CallsMadeOrOneMore (ddb_tells (of_run t)) setting (history new) old.callers.items new.callers.items
  pub calls_ended : status ≢ 70 → CallsMade (ddb_tells (of_run t)) setting (history new) old.callers.items new.callers.items
  pub elements : SentElements t.sends setting (history new)

-- `ddb` did so over a journal that opens to a life, or nothing happened
abbrev pub SendsElements : {S K D C F L N : Type 0} → DevicesTell S K D F L N → (config : List ℕ) → (calls : ℕ) → (old new : World S K D C F L) → (status : ℕ) → List Stage → (epoch : ℕ) → Type 0
SendsElements t config calls old new status life epoch =
    AreHonest t.disk old.journal old.spare → OpensToLife life epoch (t.disk.content old.journal) (t.disk.content old.spare) →
    NothingHappened old new ⊎ HasSentElements t config calls status old new
