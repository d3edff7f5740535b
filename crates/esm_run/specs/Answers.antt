-- How the options of `run` ended, and what they left; and what any command leaves that ended before it ran its mapping. This
-- product's own.
use Rattle.std.specs.Prelude.{◌≡◌, ◌⊎◌, ◌*◌, ◌++◌, ℕ, true, false, List, [], Option, Some, IsSome}
use Rattle.esm_model.specs.declared.entry.Entry.{Entry}
use Rattle.esm_model.specs.Entries.{CallsFollowShut}
use Rattle.esm_model.specs.Setting.{Setting}
use Rattle.esm_model.specs.Valid.{is_stream}
use Rattle.esm_cli.specs.declared.command.Command.{Command}
use Rattle.esm_cli.specs.declared.command.RunWords.{RunWords}
use Rattle.esm_cli.specs.declared.command.Which.{Which}
use Rattle.esm_cli.specs.declared.command.Which.TheVariants.{Config, Mapping}
use Rattle.esm_folder.specs.declared.disks.Disks.{Disks}
use Rattle.esm_io.specs.Faults.{Rose}
use Rattle.esm_io.specs.Meanings.{DiskMeaning}
use Rattle.esm_input.specs.declared.ending.InputEnd.{InputEnd}
use Rattle.esm_input.specs.Reading.{InputState, handed}
use Rattle.esm_mapping.specs.declared.named.MappingError.{MappingError}
use Rattle.esm_mapping.specs.declared.named.NamedMapping.{NamedMapping}
use Rattle.esm_runner.specs.Coming.{records_in_items}
use Rattle.esm_report.specs.Queue.{queue_report_text}
use Rattle.esm_runner.specs.QueueEnded as queue
use Rattle.esm_report.specs.declared.ending.Ending.{Ending}
use Rattle.esm_report.specs.declared.ending.Ending.TheVariants as ending
use Rattle.esm_report.specs.Report.{last_line}
use Rattle.esm_runner.specs.Ended as stream
use Rattle.esm_runner.specs.Ended.{trouble_of}
use Rattle.esm_runner.specs.Headline.{IsSettingOf}
use Rattle.esm_runner.specs.Files.{FilesState, IsOpenedFiles, AreRefused, AreUnwritten, AreGoodPayloads, AreFoundLines}
use Rattle.esm_runner.specs.declared.files.FilesError.{FilesError}
use Rattle.esm_runner.specs.declared.run.MappingEnd.{MappingEnd}
use Rattle.esm_folder.specs.Upkeep.{AreHonest, OneRose}
use Rattle.esm_traced.specs.Front.{front_text}
use Rattle.esm_run.specs.Asks.{Asks, by_words}
use Rattle.esm_run.specs.Built.{SpellsBuilt}
use Rattle.esm_run.specs.Endings.{IsTold, ending_of, ending_of_files, ending_of_mapping}
use Rattle.esm_run.specs.Headline.{Headline}
use Rattle.esm_run.specs.Tended.{IsSoundDisk}
use Rattle.esm_run.specs.World.{RunTells, Seen, Written, devices_of}

-- the history is empty, and the input and the callers are as before
pub record IsUntouched {S D F : Type 0} (h : List Entry) (old new : Seen S D F) : Type 0 where
  pub no_trace : h ≡ []
  pub unread : new.input ≡ old.input
  pub uncalled : new.callers ≡ old.callers

-- nothing was written to the files of a run
abbrev pub IsUnwritten : {S D F : Type 0} → DiskMeaning D → (old new : Seen S D F) → Type 0
IsUnwritten m old new = AreUnwritten m old.disks.journal old.disks.spare old.disks.failures new.disks.journal new.disks.spare new.disks.failures

-- the history is empty and nothing was written
pub record HasNotBegun {S D F : Type 0} (m : DiskMeaning D) (a : Asks D) (h : List Entry) (old new : Seen S D F) : Type 0 where
  pub untouched : IsUntouched h old new
  pub unwritten : IsUnwritten m old new
  pub registry : a.leaves old.disks.registry new.disks.registry

-- refusals

-- the files of the run were refused for this reason, and the registry was not opened
pub record HasRefusedFiles {S D F : Type 0} (m : DiskMeaning D) (old new : Seen S D F) (ending : Ending) : Type 0 where
  pub why : FilesError
  pub refused : AreRefused m old.disks.journal old.disks.spare old.disks.failures new.disks.journal new.disks.spare new.disks.failures why
  pub tells : ending_of_files why ≡ Some ending
  pub unopened : new.disks.registry ≡ old.disks.registry

-- the files open, and the journal has no bad payload
pub record AreGoodFiles {D : Type 0} (m : DiskMeaning D) (disks : Disks D) : Type 0 where
  pub payloads : AreGoodPayloads m disks.journal disks.spare
  pub lines : List (List ℕ)
  pub lines_found : AreFoundLines m disks.failures lines

-- the files were good, and then the mapping that the words name was refused for this reason
pub record HasRefusedMapping {S D F : Type 0} (m : DiskMeaning D) (a : Asks D) (old new : Seen S D F) (ending : Ending) : Type 0 where
  pub good : AreGoodFiles m old.disks
  pub why : MappingError
  pub refused : a.why_not old.disks.registry new.disks.registry why
  pub tells : ending_of_mapping why ≡ Some ending

-- nothing ran, since the files or the mapping were refused, and the text is the last line alone
pub record HasNotRun {S D F : Type 0} (m : DiskMeaning D) (a : Asks D) (h : List Entry) (old new : Seen S D F) (text : List ℕ) (ending : Ending) : Type 0 where
  pub why : HasRefusedFiles m old new ending ⊎ HasRefusedMapping m a old new ending
  pub unbegun : HasNotBegun m a h old new
  pub text_is : text ≡ last_line ending

-- runs

-- the words name this mapping, which may run, and the files were opened as these
pub record IsReadyFor {S D F : Type 0} (m : DiskMeaning D) (a : Asks D) (old new : Seen S D F) (mapping : NamedMapping) (files : FilesState D) : Type 0 where
  pub named : a.is_named old.disks.registry mapping
  pub registry : a.leaves old.disks.registry new.disks.registry
  pub journal : files.journal ≡ old.disks.journal
  pub spare : files.spare ≡ old.disks.spare
  pub failures : files.failures ≡ old.disks.failures
  pub opened : IsOpenedFiles m files

-- the mapping of the options of `run`
abbrev pub asked : {S D F : Type 0} → RunTells S D F → RunWords → Asks D
asked o r = by_words o.run.disk r.which

-- how long a queue's message is hidden once it is received, in milliseconds
abbrev pub visibility_of : RunWords → ℕ
visibility_of r = r.visibility * 1000

-- the stream's mapping of these options ran, and this is the text
pub record IsStreamRun {S D F : Type 0} (o : RunTells S D F) (r : RunWords) (h : List Entry) (old new : Seen S D F) (text : List ℕ) (ending : Ending) : Type 0 where
  pub mapping : NamedMapping
  pub files : FilesState D
  pub ready : IsReadyFor o.run.disk (asked o r) old new mapping files
  pub kind : is_stream mapping.config.kind ≡ true
  -- the input as it was read, and the setting that it gives
  pub input : InputState S
  pub is_input : stream.IsInputOf o.faults o.left mapping.config mapping.start old.input new.input input
  pub setting : Setting
  pub is_setting : IsSettingOf mapping.config r.calls files.said (records_in_items (handed input)) setting
  -- how it ended, and why
  pub end : MappingEnd
  pub tells : ending ≡ ending_of end
  pub cause : stream.IsCauseOf o.run files setting h (records_in_items (handed input)) input.end (o.left new.input) (devices_of new) end
  pub hand : List Entry
  pub headline : Headline o.run r.read_first r.trace files setting h (trouble_of end) ending hand old.callers (devices_of new) text

-- the queue's mapping of these options ran, and this is the text
pub record IsQueueRun {S D F : Type 0} (o : RunTells S D F) (r : RunWords) (h : List Entry) (old new : Seen S D F) (text : List ℕ) (ending : Ending) : Type 0 where
  pub mapping : NamedMapping
  pub files : FilesState D
  pub ready : IsReadyFor o.run.disk (asked o r) old new mapping files
  pub kind : is_stream mapping.config.kind ≡ false
  pub end : MappingEnd
  -- how the reading of its input ended, if it ended
  pub reading : Option InputEnd
  pub run : queue.HasEnded o.run o.faults o.left mapping.config r.calls (visibility_of r) files old.input new.input reading old.callers h (devices_of new) end
  pub tells : ending ≡ ending_of end
  -- the text is the trace, if it is asked for, and then the report
  pub text_is : text ≡ front_text r.trace mapping.config.kind h ++ queue_report_text run.setting h ending
  -- with `--read-first` no call begins before the end of the input was noted
  pub read_first : r.read_first ≡ true → CallsFollowShut h

-- why the options of `run` ended so, and with which text: nothing ran, or a stream's or a queue's mapping ran
abbrev pub RunCause : {S D F : Type 0} → RunTells S D F → RunWords → List Entry → (old new : Seen S D F) → (text : List ℕ) → Ending → Type 0
RunCause o r h old new text ending =
    HasNotRun o.run.disk (asked o r) h old new text ending
    ⊎ (IsStreamRun o r h old new text ending ⊎ IsQueueRun o r h old new text ending)

-- a command ended so for one of these causes, and this is its text
pub record HasCome (cause : List ℕ → Ending → Type 0) (ending : Ending) : Type 0 where
  pub text : List ℕ
  pub cause_is : cause text ending

-- it ended with the status: why, and what was written of its text
pub record HasTold (cause : List ℕ → Ending → Type 0) (output : Written) (status : ℕ) : Type 0 where
  pub ending : Ending
  pub ended : HasCome cause ending
  pub told : IsTold output.faults_before output.faults_now output.before output.after ended.text ending status

-- the options of `run` ended so
abbrev pub RunEnded : {S D F : Type 0} → RunTells S D F → RunWords → List Entry → (old new : Seen S D F) → Ending → Type 0
RunEnded o r h old new ending = HasCome (RunCause o r h old new) ending

-- the options of `run` ended with the status
abbrev pub RunOutcome : {S D F : Type 0} → RunTells S D F → RunWords → Written → List Entry → (old new : Seen S D F) → (status : ℕ) → Type 0
RunOutcome o r output h old new status = HasTold (RunCause o r h old new) output status

-- the words spell no command that is built, and the output says so
pub record AreBadWords {S D F : Type 0} (words : List (List ℕ)) (output : Written) (h : List Entry) (old new : Seen S D F) (status : ℕ) : Type 0 where
  pub none_spelled : (c : Command) → ¬ SpellsBuilt words c
  pub untouched : IsUntouched h old new
  pub told : IsTold output.faults_before output.faults_now output.before output.after (last_line ending.BadWords) ending.BadWords status

-- if the words name a mapping of the registry, its disk is sound
abbrev pub IsSoundRegistry : {D : Type 0} → DiskMeaning D → Which → (old new : D) → Type 0
IsSoundRegistry m (Config text) old new = Unit {0}
IsSoundRegistry m (Mapping id) old new = IsSoundDisk m old new

-- no fault: the input shows its bytes, the disks of a run are honest, and no count of faults of the input or of such a disk
-- rose or is at its greatest value
pub record AreSoundDevices {S D F : Type 0} (o : RunTells S D F) (old new : Seen S D F) : Type 0 where
  pub told : IsSome (o.left old.input)
  pub no_input_fault : ¬ Rose (o.faults old.input) (o.faults new.input)
  pub honest : AreHonest o.run.disk old.disks.journal old.disks.spare
  pub honest_failures : o.run.disk.honest old.disks.failures ≡ true
  pub no_fault : ¬ OneRose o.run.disk old.disks.journal old.disks.spare new.disks.journal new.disks.spare
  pub no_failures_fault : ¬ Rose (o.run.disk.faults old.disks.failures) (o.run.disk.faults new.disks.failures)

abbrev pub IsSoundRun : {S D F : Type 0} → RunTells S D F → RunWords → (old new : Seen S D F) → Type 0
IsSoundRun o r old new = AreSoundDevices o old new × IsSoundRegistry o.run.disk r.which old.disks.registry new.disks.registry

-- out of memory

-- an allocation failed in the run of the stream's mapping of these options
pub record IsStoppedStream {S D F : Type 0} (o : RunTells S D F) (r : RunWords) (h : List Entry) (old new : Seen S D F) : Type 0 where
  pub mapping : NamedMapping
  pub files : FilesState D
  pub ready : IsReadyFor o.run.disk (asked o r) old new mapping files
  pub kind : is_stream mapping.config.kind ≡ true
  pub run : stream.HasStoppedRun o.run o.left mapping.config mapping.start r.calls files old.input new.input old.callers h (devices_of new)
  pub read_first : r.read_first ≡ true → CallsFollowShut h

-- an allocation failed in the run of the queue's mapping of these options
pub record IsStoppedQueue {S D F : Type 0} (o : RunTells S D F) (r : RunWords) (h : List Entry) (old new : Seen S D F) : Type 0 where
  pub mapping : NamedMapping
  pub files : FilesState D
  pub ready : IsReadyFor o.run.disk (asked o r) old new mapping files
  pub kind : is_stream mapping.config.kind ≡ false
  pub run : queue.HasStoppedRun o.run o.left mapping.config r.calls (visibility_of r) files old.input new.input old.callers h (devices_of new)
  pub read_first : r.read_first ≡ true → CallsFollowShut h

-- an allocation failed in the run of a mapping
abbrev pub IsStoppedOf : {S D F : Type 0} → RunTells S D F → RunWords → List Entry → (old new : Seen S D F) → Type 0
IsStoppedOf o r h old new = IsStoppedStream o r h old new ⊎ IsStoppedQueue o r h old new

-- an allocation failed under these options of `run`: before the run began, in the run, or when the run had ended and its
-- text was to be written
abbrev pub IsCutOf : {S D F : Type 0} → RunTells S D F → RunWords → List Entry → (old new : Seen S D F) → Type 0
IsCutOf o r h old new = HasNotBegun o.run.disk (asked o r) h old new ⊎ (IsStoppedOf o r h old new ⊎ ((e : Ending) × RunEnded o r h old new e))
