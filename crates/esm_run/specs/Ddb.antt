-- How the command `ddb` ended, and what it left. It reads its input to the end, or to the first bad line, and turns each
-- line into a line of a stream's input. Then it runs the mapping over these lines as a stream's; no call begins before that.
-- Source: the Lambda Developer Guide, "Using Lambda with DynamoDB"; that the input is read first, and that nothing behind
-- its first bad line is turned, is this product's own.
use Rattle.std.specs.Prelude.{◌≡◌, ◌⊎◌, ℕ, Bool, true, List, [], Option, Some}
use Rattle.esm_ddb.specs.Translating.{source_of}
use Rattle.esm_ddb.specs.TurnedInput.{IsTaken, IsTurnedInput}
use Rattle.esm_ddb.specs.declared.input.InputTurned.{InputTurned}
use Rattle.esm_input.specs.Reading.{InputState, handed}
use Rattle.esm_mapping.specs.declared.expected.Expected.TheVariants.{DynamoDb}
use Rattle.esm_mapping.specs.declared.named.NamedMapping.{NamedMapping}
use Rattle.esm_model.specs.Entries.{CallsFollowShut}
use Rattle.esm_model.specs.Setting.{Setting}
use Rattle.esm_model.specs.declared.entry.Entry.{Entry}
use Rattle.esm_report.specs.declared.ending.Ending.{Ending}
use Rattle.esm_runner.specs.Coming.{records_in_items}
use Rattle.esm_runner.specs.Ended as stream
use Rattle.esm_runner.specs.Ended.{trouble_of}
use Rattle.esm_runner.specs.Files.{FilesState}
use Rattle.esm_runner.specs.Headline.{IsSettingOf}
use Rattle.esm_runner.specs.declared.run.MappingEnd.{MappingEnd}
use Rattle.esm_run.specs.Answers.{AreGoodFiles, HasCome, HasNotBegun, HasNotRun, HasTold, IsReadyFor, IsUnwritten}
use Rattle.esm_run.specs.Asks.{Asks, by_text}
use Rattle.esm_run.specs.Endings.{ending_of_ddb}
use Rattle.esm_run.specs.Headline.{Headline}
use Rattle.esm_run.specs.World.{RunTells, Seen, Written, ddb_tells, devices_of}

-- the input

-- The turned lines are read as the input of a stream. This input shows its bytes and does not fail.

abbrev pub never_fails : List ℕ → ℕ
never_fails rest = 0

abbrev pub all_left : List ℕ → Option (List ℕ)
all_left rest = Some rest

-- runs

-- the mapping that the text gives, which is that of a table's stream
abbrev pub ddb_asks : {D : Type 0} → List ℕ → Asks D
ddb_asks config = by_text DynamoDb config

-- The mapping ran, and the text is its report, after its trace if that is asked for; the trace is that of the turned lines.
-- The headline is that of a stream's run over the records of the turned lines. Each event is passed to the caller as
-- `ddb_event` of it, whose elements are the records' own data where there is any, and each failure line to the file as
-- `ddb_line` of it, which has the table's name. An event or a line that these do not change is passed as it is.
pub record IsDdbRun {S D F : Type 0} (o : RunTells S D F) (config : List ℕ) (calls : ℕ) (traced : Bool) (h : List Entry) (old new : Seen S D F) (text : List ℕ) (ending : Ending) : Type 0 where
  pub mapping : NamedMapping
  pub files : FilesState D
  pub ready : IsReadyFor o.run.disk (ddb_asks config) old new mapping files
  -- the turned lines of the input, and how the reading of the input ended
  pub lines : List ℕ
  pub reading : InputTurned
  pub is_turned : IsTurnedInput o.faults o.left (source_of mapping.config) old.input new.input lines reading
  -- the turned lines as they were read, and the setting that they give
  pub rest : List ℕ
  pub input : InputState (List ℕ)
  pub is_input : stream.IsInputOf never_fails all_left mapping.config mapping.start lines rest input
  pub setting : Setting
  pub is_setting : IsSettingOf mapping.config calls files.said (records_in_items (handed input)) setting
  -- how it ended, and why
  pub end : MappingEnd
  pub tells : ending ≡ ending_of_ddb reading end
  pub cause : stream.IsCauseOf (ddb_tells o) files setting h (records_in_items (handed input)) input.end (Some rest) (devices_of new) end
  pub hand : List Entry
  pub headline : Headline (ddb_tells o) true traced files setting h (trouble_of end) ending hand old.callers (devices_of new) text

-- why `ddb` ended so, and with which text: nothing ran, or the mapping ran
abbrev pub DdbCause : {S D F : Type 0} → RunTells S D F → (config : List ℕ) → (calls : ℕ) → (traced : Bool) → List Entry → (old new : Seen S D F) → (text : List ℕ) → Ending → Type 0
DdbCause o config calls traced h old new text ending =
    HasNotRun o.run.disk (ddb_asks config) h old new text ending ⊎ IsDdbRun o config calls traced h old new text ending

-- it ended with the status
abbrev pub DdbOutcome : {S D F : Type 0} → RunTells S D F → (config : List ℕ) → (calls : ℕ) → (traced : Bool) → Written → List Entry → (old new : Seen S D F) → (status : ℕ) → Type 0
DdbOutcome o config calls traced output h old new status = HasTold (DdbCause o config calls traced h old new) output status

-- out of memory

-- bytes were read of an input, and its count of faults did not fall
abbrev pub IsRead : {S : Type 0} → (faults : S → ℕ) (left : S → Option (List ℕ)) → (old new : S) → Type 0
IsRead faults left old new = (bytes : List ℕ) × IsTaken faults left old new bytes

-- an allocation failed while the input was read: the history is empty and nothing was written
pub record IsStoppedTurning {S D F : Type 0} (o : RunTells S D F) (config : List ℕ) (h : List Entry) (old new : Seen S D F) : Type 0 where
  pub mapping : NamedMapping
  pub named : (ddb_asks {D = D} config).is_named old.disks.registry mapping
  pub good : AreGoodFiles o.run.disk old.disks
  pub no_trace : h ≡ []
  pub uncalled : new.callers ≡ old.callers
  pub unwritten : IsUnwritten o.run.disk old new
  pub unopened : new.disks.registry ≡ old.disks.registry
  pub read : IsRead o.faults o.left old.input new.input

-- an allocation failed in the run over the turned lines
pub record IsStoppedDdb {S D F : Type 0} (o : RunTells S D F) (config : List ℕ) (calls : ℕ) (h : List Entry) (old new : Seen S D F) : Type 0 where
  pub mapping : NamedMapping
  pub files : FilesState D
  pub ready : IsReadyFor o.run.disk (ddb_asks config) old new mapping files
  pub lines : List ℕ
  pub reading : InputTurned
  pub is_turned : IsTurnedInput o.faults o.left (source_of mapping.config) old.input new.input lines reading
  pub rest : List ℕ
  pub run : stream.HasStoppedRun (ddb_tells o) all_left mapping.config mapping.start calls files lines rest old.callers h (devices_of new)
  pub read_first : CallsFollowShut h

-- an allocation failed before the run began, while the input was read, in the run, or when the run had ended and its text
-- was to be written
abbrev pub IsDdbCut : {S D F : Type 0} → RunTells S D F → (config : List ℕ) → (calls : ℕ) → (traced : Bool) → List Entry → (old new : Seen S D F) → Type 0
IsDdbCut o config calls traced h old new =
    HasNotBegun o.run.disk (ddb_asks config) h old new
    ⊎ (IsStoppedTurning o config h old new ⊎ (IsStoppedDdb o config calls h old new ⊎ ((e : Ending) × HasCome (DdbCause o config calls traced h old new) e)))
