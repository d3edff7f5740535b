-- Which ending says why a run ended, or why it did not begin, and the exit status of each ending. This product's own.
use Rattle.std.specs.Prelude.{◌≡◌, ◌⊎◌, ℕ, List, ◌++◌, codes, Option, Some, None}
use Rattle.esm_io.specs.Told.{Grows}
use Rattle.esm_io.specs.Faults.{Rose}
use Rattle.esm_config.specs.Names.{name_of as param_name}
use Rattle.esm_ddb.specs.Change.{name_of as ddb_name_of}
use Rattle.esm_ddb.specs.declared.error.DdbError.{DdbError}
use Rattle.esm_ddb.specs.declared.error.DdbError.TheVariants as ddb
use Rattle.esm_ddb.specs.declared.input.InputTurned.{InputTurned}
use Rattle.esm_ddb.specs.declared.input.InputTurned.TheVariants as turned
use Rattle.esm_mapping.specs.declared.named.MappingError.{MappingError}
use Rattle.esm_mapping.specs.declared.named.MappingError.TheVariants as mapping
use Rattle.esm_record.specs.Line.{name_of}
use Rattle.esm_record.specs.declared.error.LineError.{LineError}
use Rattle.esm_record.specs.declared.error.LineError.TheVariants.{NotJson, Missing, BadField, Backwards, LineTooLong, Repeated}
use Rattle.esm_model.specs.declared.names.FileName.{FileName}
use Rattle.esm_model.specs.declared.names.FileName.TheVariants as name
use Rattle.esm_folder.specs.declared.ending.JournalFile.{JournalFile}
use Rattle.esm_folder.specs.declared.ending.JournalFile.TheVariants as file
use Rattle.esm_report.specs.declared.ending.Ending.{Ending}
use Rattle.esm_report.specs.declared.ending.Ending.TheVariants as ending
use Rattle.esm_input.specs.declared.ending.InputEnd.{InputEnd}
use Rattle.esm_input.specs.declared.ending.InputEnd.TheVariants as ends
use Rattle.esm_redrive_run.specs.declared.run.RedriveEnd.{RedriveEnd}
use Rattle.esm_redrive_run.specs.declared.run.RedriveEnd.TheVariants as redrive
use Rattle.esm_replay_run.specs.declared.run.ReplayEnd.{ReplayEnd}
use Rattle.esm_replay_run.specs.declared.run.ReplayEnd.TheVariants as replay
use Rattle.esm_runner.specs.declared.files.FilesError.{FilesError}
use Rattle.esm_runner.specs.declared.files.FilesError.TheVariants as files
use Rattle.esm_runner.specs.declared.run.MappingEnd.{MappingEnd}
use Rattle.esm_runner.specs.declared.run.MappingEnd.TheVariants as run

-- why a line was refused
abbrev pub why_text : LineError → List ℕ
why_text NotJson = codes "NotJson"
why_text (Missing field) = codes "Missing " ++ name_of field
why_text (BadField field) = codes "BadField " ++ name_of field
why_text (Backwards kept given) = codes "Backwards kept " ++ kept ++ codes " given " ++ given
why_text LineTooLong = codes "LineTooLong"
why_text (Repeated id) = codes "Repeated " ++ id

-- why a line of a DynamoDB stream was refused
abbrev pub ddb_why_text : DdbError → List ℕ
ddb_why_text ddb.NotJson = codes "NotJson"
ddb_why_text (ddb.Missing field) = codes "Missing " ++ ddb_name_of field
ddb_why_text (ddb.BadField field) = codes "BadField " ++ ddb_name_of field
ddb_why_text ddb.LineTooLong = codes "LineTooLong"

-- by how the reading of the input ended, if nothing is left: in a run every record or message has its fate, and no window is
-- outstanding; in a redrive every message is deleted; in a replay each named record was replayed, or its last call left it
abbrev pub ending_of_reading : InputEnd → Ending
ending_of_reading ends.End = ending.Done
ending_of_reading (ends.BadLine bad) = ending.BadLine bad.line (why_text bad.why)
ending_of_reading ends.Fault = ending.InputFault
ending_of_reading (ends.Limit limit) = ending.Limit limit

-- of a mapping's run
abbrev pub ending_of : MappingEnd → Ending
ending_of (run.Finished why) = ending_of_reading why
ending_of run.CallsSpent = ending.CallsSpent
ending_of run.DiskFault = ending.DiskFault
ending_of run.DestFault = ending.DestFault
ending_of (run.Changed change) = ending.StreamChanged change

-- of the run of a DynamoDB stream's mapping, by how the reading of its input ended: this is the ending if everything that
-- was turned has its fate
abbrev pub ending_of_turned : InputTurned → Ending
ending_of_turned turned.Ended = ending.Done
ending_of_turned (turned.BadLine bad) = ending.BadLine bad.line (ddb_why_text bad.why)
ending_of_turned turned.Failed = ending.InputFault

abbrev pub ending_of_ddb : InputTurned → MappingEnd → Ending
ending_of_ddb t (run.Finished ends.End) = ending_of_turned t
ending_of_ddb t (run.Finished (ends.BadLine bad)) = ending_of_reading (ends.BadLine bad)
ending_of_ddb t (run.Finished ends.Fault) = ending_of_reading ends.Fault
ending_of_ddb t (run.Finished (ends.Limit limit)) = ending_of_reading (ends.Limit limit)
ending_of_ddb t run.CallsSpent = ending.CallsSpent
ending_of_ddb t run.DiskFault = ending.DiskFault
ending_of_ddb t run.DestFault = ending.DestFault
ending_of_ddb t (run.Changed change) = ending.StreamChanged change

-- of the run of a redrive
abbrev pub ending_of_redrive : RedriveEnd → Ending
ending_of_redrive (redrive.Finished why) = ending_of_reading why
ending_of_redrive redrive.CallsSpent = ending.CallsSpent
ending_of_redrive redrive.DiskFault = ending.DiskFault
ending_of_redrive redrive.DestFault = ending.DestFault
ending_of_redrive (redrive.Changed change) = ending.StreamChanged change
ending_of_redrive (redrive.BadLine index) = ending.BadPayload name.Failures index

-- of the run of a replay
abbrev pub ending_of_replay : ReplayEnd → Ending
ending_of_replay (replay.Finished why) = ending_of_reading why
ending_of_replay replay.CallsSpent = ending.CallsSpent
ending_of_replay replay.DiskFault = ending.DiskFault
ending_of_replay (replay.Changed change) = ending.StreamChanged change
ending_of_replay (replay.BadLine index) = ending.BadPayload name.Failures index

abbrev pub file_of : JournalFile → FileName
file_of file.Journal = name.Journal
file_of file.Failures = name.Failures

-- if its files were refused; out of memory has no ending
abbrev pub ending_of_files : FilesError → Option Ending
ending_of_files (files.NotAJournal f) = Some (ending.NotAJournal (file_of f))
ending_of_files (files.Damaged f place) = Some (ending.Damaged (file_of f) place)
ending_of_files (files.BadPayload index) = Some (ending.BadPayload name.Journal index)
ending_of_files files.DiskFault = Some ending.OpenFault
ending_of_files files.OutOfMemory = None

-- if its mapping was refused
abbrev pub ending_of_mapping : MappingError → Option Ending
ending_of_mapping mapping.NotAJournal = Some (ending.NotAJournal name.Registry)
ending_of_mapping (mapping.Damaged place) = Some (ending.Damaged name.Registry place)
ending_of_mapping (mapping.BadPayload index) = Some (ending.BadPayload name.Registry index)
ending_of_mapping mapping.DiskFault = Some ending.OpenFault
ending_of_mapping mapping.Unknown = Some ending.UnknownMapping
ending_of_mapping mapping.Disabled = Some ending.DisabledMapping
ending_of_mapping (mapping.BadParam param) = Some (ending.BadParameter (param_name param))
ending_of_mapping mapping.OutOfMemory = None

-- statuses

abbrev pub status_of : Ending → ℕ
status_of ending.Done = 0
status_of ending.CallsSpent = 1
status_of ending.BadWords = 2
status_of (ending.BadLine number why) = 3
status_of ending.InputFault = 4
status_of ending.DiskFault = 6
status_of ending.OpenFault = 6
status_of ending.DestFault = 7
status_of (ending.NotAJournal file) = 8
status_of (ending.Damaged file place) = 8
status_of (ending.BadPayload file index) = 8
status_of (ending.StreamChanged change) = 8
status_of ending.UnknownMapping = 9
status_of ending.DisabledMapping = 9
status_of (ending.BadParameter name) = 9
status_of (ending.Limit name) = 10

-- if the output failed
abbrev pub failed_status_of : Ending → ℕ
failed_status_of ending.BadWords = 2
failed_status_of _ = 5

-- the output failed after it took a prefix of the text
pub record IsCutShort (faults_before faults_now : ℕ) (before after : Option (List ℕ)) (text : List ℕ) : Type 0 where
  pub fault : Rose faults_before faults_now
  pub front : List ℕ
  pub rest : List ℕ
  pub parts : text ≡ front ++ rest
  pub told : Grows before after front

-- the whole text was written and the status is `told`, or the output failed and the status is `failed`
abbrev pub IsToldWith : ℕ → ℕ → Option (List ℕ) → Option (List ℕ) → List ℕ → ℕ → ℕ → ℕ → Type 0
IsToldWith faults_before faults_now before after text told failed status =
    ((status ≡ told) × Grows before after text) ⊎ ((status ≡ failed) × IsCutShort faults_before faults_now before after text)

-- the same with the two statuses of an ending
abbrev pub IsTold : ℕ → ℕ → Option (List ℕ) → Option (List ℕ) → List ℕ → Ending → ℕ → Type 0
IsTold faults_before faults_now before after text end status =
    IsToldWith faults_before faults_now before after text (status_of end) (failed_status_of end) status
