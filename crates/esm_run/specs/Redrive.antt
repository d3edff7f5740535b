-- How the command `redrive` ended, and what it left. It reads its input first, and then runs a queue's mapping by one
-- caller; a message that was received as often as it may be is moved to the dead-letter file, which is the failure file.
-- Source: Amazon SQS Developer Guide, "Using dead-letter queues"; that the file takes the place of a queue is this product's
-- own.
use Rattle.std.specs.Prelude.{◌≡◌, ◌⊎◌, ◌++◌, ◌*◌, ◌<◌, ℕ, true, List, length, Option, Some, reverse, slice_get}
use Rattle.esm_input.specs.declared.ending.InputEnd.{InputEnd}
use Rattle.esm_input.specs.Positions.{from_start}
use Rattle.esm_input.specs.Reading.{IsGood, items_read}
use Rattle.esm_journal_state.specs.declared.kept.KeptFate.{KeptFate}
use Rattle.esm_journal_state.specs.Meaning.{deletion_said, history}
use Rattle.esm_mapping.specs.declared.expected.Expected.TheVariants.{Queue}
use Rattle.esm_mapping.specs.declared.named.NamedMapping.{NamedMapping}
use Rattle.esm_mapping.specs.Named.{IsExpected}
use Rattle.esm_model.specs.declared.config.Config.{Config}
use Rattle.esm_model.specs.declared.entry.Entry.{Entry}
use Rattle.esm_model.specs.declared.item.Message.{Message}
use Rattle.esm_queue_model.specs.QueueSetting.{is_fifo}
use Rattle.esm_redrive.specs.DeadFile.{AreLetters, IsFirstBad}
use Rattle.esm_redrive_run.specs.Ended as redrive
use Rattle.esm_redrive_run.specs.Headline.{Disks, Words}
use Rattle.esm_redrive_run.specs.declared.run.RedriveEnd.{RedriveEnd}
use Rattle.esm_redrive_run.specs.declared.run.RedriveEnd.TheVariants as end
use Rattle.esm_report.specs.Report.{last_line}
use Rattle.esm_report.specs.declared.ending.Ending.{Ending}
use Rattle.esm_runner.specs.Files.{FilesState}
use Rattle.esm_runner.specs.QueueComing.{messages_in_items}
use Rattle.esm_runner.specs.QueueEnded.{line_kind}
use Rattle.esm_traced.specs.Front.{front_text}
use Rattle.esm_run.specs.Answers.{AreGoodFiles, HasCome, HasNotBegun, HasNotRun, HasTold, IsReadyFor}
use Rattle.esm_run.specs.Asks.{Asks, by_text}
use Rattle.esm_run.specs.Endings.{ending_of_redrive}
use Rattle.esm_run.specs.FirstCaller.{IsFirstUsed}
use Rattle.esm_run.specs.Reports.{redrive_report_text}
use Rattle.esm_run.specs.World.{RunTells, Seen, Written}
use Rattle.esm_run.specs.declared.asked.RedriveWords.{RedriveWords}

-- the mapping that the text gives, which is that of a queue
abbrev pub redrive_asks : {D : Type 0} → RedriveWords → Asks D
redrive_asks w = by_text Queue w.config

-- what contracts see of the devices of a redrive
abbrev pub redrive_tells : {S D F : Type 0} → RunTells S D F → redrive.Telling D F
redrive_tells o = redrive.telling o.run.callers o.run.disk

-- the disks of a redrive
abbrev pub redrive_disks : {S D F : Type 0} → Seen S D F → Disks D
redrive_disks w = record { journal = w.disks.journal; spare = w.disks.spare; dead = w.disks.failures }

-- the words with the visibility timeout in milliseconds: how long a message is hidden once it is received
abbrev pub words_of : RedriveWords → Config → Words
words_of w config = record { config = config; calls = w.calls; visibility = w.visibility * 1000; max_receives = w.max_receives }

-- The files and the mapping were good, but a line of the dead-letter file is not one of the queue's kind. This is the first
-- such line; nothing was read, called or written, and the text is the last line alone.
pub record HasRefusedLine {S D F : Type 0} (o : RunTells S D F) (w : RedriveWords) (h : List Entry) (old new : Seen S D F) (text : List ℕ) (ending : Ending) : Type 0 where
  pub mapping : NamedMapping
  pub files : FilesState D
  pub ready : IsReadyFor o.run.disk (redrive_asks w) old new mapping files
  pub index : ℕ
  pub first_bad : IsFirstBad (is_fifo mapping.config.kind) files.dest.payloads index
  pub unbegun : HasNotBegun o.run.disk (redrive_asks w) h old new
  pub tells : ending ≡ ending_of_redrive (end.BadLine index)
  pub text_is : text ≡ last_line ending

-- they were good, the redrive ran, and the text is its report, after its trace if that is asked for
pub record IsRedriveRun {S D F : Type 0} (o : RunTells S D F) (w : RedriveWords) (h : List Entry) (old new : Seen S D F) (text : List ℕ) (ending : Ending) : Type 0 where
  pub mapping : NamedMapping
  pub files : FilesState D
  pub ready : IsReadyFor o.run.disk (redrive_asks w) old new mapping files
  -- the one caller, as it was and as it was left
  pub caller : F
  pub caller_left : F
  pub first_used : IsFirstUsed old.callers new.callers caller caller_left
  -- how it ended, and why, with the theorem of the redrive
  pub end_is : RedriveEnd
  pub reading : Option InputEnd
  pub run : redrive.HasRun (redrive_tells o) o.faults o.left (words_of w mapping.config) files old.input new.input reading caller caller_left h (redrive_disks new) end_is
  pub tells : ending ≡ ending_of_redrive end_is
  pub text_is : text ≡ front_text w.trace mapping.config.kind h ++ redrive_report_text run.setting h ending

-- why `redrive` ended so, and with which text
abbrev pub RedriveCause : {S D F : Type 0} → RunTells S D F → RedriveWords → List Entry → (old new : Seen S D F) → (text : List ℕ) → Ending → Type 0
RedriveCause o w h old new text ending =
    HasNotRun o.run.disk (redrive_asks w) h old new text ending ⊎ (HasRefusedLine o w h old new text ending ⊎ IsRedriveRun o w h old new text ending)

-- it ended with the status
abbrev pub RedriveOutcome : {S D F : Type 0} → RunTells S D F → RedriveWords → Written → List Entry → (old new : Seen S D F) → (status : ℕ) → Type 0
RedriveOutcome o w output h old new status = HasTold (RedriveCause o w h old new) output status

-- out of memory

-- an allocation failed in the redrive
pub record IsStoppedRedrive {S D F : Type 0} (o : RunTells S D F) (w : RedriveWords) (h : List Entry) (old new : Seen S D F) : Type 0 where
  pub mapping : NamedMapping
  pub files : FilesState D
  pub ready : IsReadyFor o.run.disk (redrive_asks w) old new mapping files
  pub caller : F
  pub caller_left : F
  pub first_used : IsFirstUsed old.callers new.callers caller caller_left
  pub reading : Option InputEnd
  pub run : redrive.HasStoppedRun (redrive_tells o) o.faults o.left (words_of w mapping.config) files old.input new.input reading caller caller_left h (redrive_disks new)

-- an allocation failed before the run began, in the run, or when the run had ended and its text was to be written
abbrev pub IsRedriveCut : {S D F : Type 0} → RunTells S D F → RedriveWords → List Entry → (old new : Seen S D F) → Type 0
IsRedriveCut o w h old new =
    HasNotBegun o.run.disk (redrive_asks w) h old new
    ⊎ (IsStoppedRedrive o w h old new ⊎ ((e : Ending) × HasCome (RedriveCause o w h old new) e))

-- completeness

-- the messages of the lines of these bytes
abbrev pub messages_given : Config → List ℕ → List Message
messages_given config bytes = messages_in_items (from_start config.start (items_read (line_kind config) config.factor true bytes).items)

-- each message for which these payloads have a deletion has the id that they kept of it
abbrev pub HaveKeptIds : (payloads : List (List ℕ)) → List Message → Type 0
HaveKeptIds payloads messages = (i : ℕ) (m : Message) (k : KeptFate) → slice_get messages i ≡ Some m → deletion_said (history (reverse payloads)) i ≡ Some k → m.id ≡ k.text

-- When a redrive ends with nothing left, if no device fails: the text is that of a queue's mapping that may run; the files
-- are good, and the dead-letter file has lines of the queue's kind; the input is good and within the limits, and its
-- messages have the ids that the journal kept; and there are more calls than the messages may be received.
pub record MayComplete {S D F : Type 0} (o : RunTells S D F) (w : RedriveWords) (old : Seen S D F) : Type 0 where
  pub mapping : NamedMapping
  pub named : IsExpected Queue w.config mapping
  pub good : AreGoodFiles o.run.disk old.disks
  pub letters : AreLetters (is_fifo mapping.config.kind) good.lines (length good.lines)
  pub bytes : List ℕ
  pub input : o.left old.input ≡ Some bytes
  pub good_input : IsGood (line_kind mapping.config) mapping.config.factor true bytes
  pub kept_ids : HaveKeptIds good.payloads.payloads (messages_given mapping.config bytes)
  pub enough : length (messages_given mapping.config bytes) * w.max_receives < w.calls
