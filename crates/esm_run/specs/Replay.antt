-- How the command `replay` ended, and what it left. It reads its input first, and then calls the records again that lines of
-- the failure file name, one call after the other. This product's own.
use Rattle.std.specs.Prelude.{◌≡◌, ◌⊎◌, ◌++◌, ℕ, Bool, List, Option}
use Rattle.esm_input.specs.declared.ending.InputEnd.{InputEnd}
use Rattle.esm_mapping.specs.declared.expected.Expected.TheVariants.{Stream}
use Rattle.esm_mapping.specs.declared.named.NamedMapping.{NamedMapping}
use Rattle.esm_model.specs.declared.config.Kind.TheVariants as kind
use Rattle.esm_model.specs.declared.entry.Entry.{Entry}
use Rattle.esm_replay_run.specs.Ended as replay
use Rattle.esm_replay_run.specs.Headline.{Disks}
use Rattle.esm_replay_run.specs.declared.report.ReplayCounts.{ReplayCounts}
use Rattle.esm_replay_run.specs.declared.run.ReplayEnd.{ReplayEnd}
use Rattle.esm_report.specs.declared.ending.Ending.{Ending}
use Rattle.esm_runner.specs.Files.{FilesState}
use Rattle.esm_traced.specs.Front.{front_text}
use Rattle.esm_run.specs.Answers.{HasCome, HasNotBegun, HasNotRun, HasTold, IsReadyFor}
use Rattle.esm_run.specs.Asks.{Asks, by_text}
use Rattle.esm_run.specs.Endings.{ending_of_replay}
use Rattle.esm_run.specs.FirstCaller.{IsFirstUsed}
use Rattle.esm_run.specs.Reports.{replay_report_text}
use Rattle.esm_run.specs.World.{RunTells, Seen, Written}

-- the mapping that the text gives, which is that of a stream
abbrev pub replay_asks : {D : Type 0} → List ℕ → Asks D
replay_asks config = by_text Stream config

-- what contracts see of the devices of a replay
abbrev pub replay_tells : {S D F : Type 0} → RunTells S D F → replay.Telling D F
replay_tells o = replay.telling o.run.callers o.run.disk

-- the disks of a replay
abbrev pub replay_disks : {S D F : Type 0} → Seen S D F → Disks D
replay_disks w = record { journal = w.disks.journal; spare = w.disks.spare; failures = w.disks.failures }

-- The files and the mapping were good. Then either a line of the failure file was refused, and nothing was read, called or
-- written; or the replay ran. The text is its report, after its trace if that is asked for.
pub record IsReplayRun {S D F : Type 0} (o : RunTells S D F) (config : List ℕ) (calls : ℕ) (traced : Bool) (h : List Entry) (old new : Seen S D F) (text : List ℕ) (ending : Ending) : Type 0 where
  pub mapping : NamedMapping
  pub files : FilesState D
  pub ready : IsReadyFor o.run.disk (replay_asks config) old new mapping files
  -- the one caller, as it was and as it was left
  pub caller : F
  pub caller_left : F
  pub first_used : IsFirstUsed old.callers new.callers caller caller_left
  -- How it ended, and why, with the theorem of the replay: if nothing is left to call, as with status 0, each named record
  -- was replayed or its last call left it; and the calls in the report and in the caller's log are at most twice as many as
  -- the named records in the report.
  pub end : ReplayEnd
  pub reading : Option InputEnd
  pub counts : ReplayCounts
  pub run : replay.HasEnded (replay_tells o) o.faults o.left mapping.config calls files old.input new.input reading caller caller_left h counts (replay_disks new) end
  pub tells : ending ≡ ending_of_replay end
  pub text_is : text ≡ front_text traced kind.Stream h ++ replay_report_text counts h ending

-- why `replay` ended so, and with which text
abbrev pub ReplayCause : {S D F : Type 0} → RunTells S D F → (config : List ℕ) → (calls : ℕ) → (traced : Bool) → List Entry → (old new : Seen S D F) → (text : List ℕ) → Ending → Type 0
ReplayCause o config calls traced h old new text ending =
    HasNotRun o.run.disk (replay_asks config) h old new text ending ⊎ IsReplayRun o config calls traced h old new text ending

-- it ended with the status
abbrev pub ReplayOutcome : {S D F : Type 0} → RunTells S D F → (config : List ℕ) → (calls : ℕ) → (traced : Bool) → Written → List Entry → (old new : Seen S D F) → (status : ℕ) → Type 0
ReplayOutcome o config calls traced output h old new status = HasTold (ReplayCause o config calls traced h old new) output status

-- out of memory

-- an allocation failed in the replay
pub record IsStoppedReplay {S D F : Type 0} (o : RunTells S D F) (config : List ℕ) (calls : ℕ) (h : List Entry) (old new : Seen S D F) : Type 0 where
  pub mapping : NamedMapping
  pub files : FilesState D
  pub ready : IsReadyFor o.run.disk (replay_asks config) old new mapping files
  pub caller : F
  pub caller_left : F
  pub first_used : IsFirstUsed old.callers new.callers caller caller_left
  pub reading : Option InputEnd
  pub counts : ReplayCounts
  pub run : replay.HasStoppedRun (replay_tells o) o.faults o.left mapping.config calls files old.input new.input reading caller caller_left h counts (replay_disks new)

-- an allocation failed before the run began, in the run, or when the run had ended and its text was to be written
abbrev pub IsReplayCut : {S D F : Type 0} → RunTells S D F → (config : List ℕ) → (calls : ℕ) → (traced : Bool) → List Entry → (old new : Seen S D F) → Type 0
IsReplayCut o config calls traced h old new =
    HasNotBegun o.run.disk (replay_asks config) h old new
    ⊎ (IsStoppedReplay o config calls h old new ⊎ ((e : Ending) × HasCome (ReplayCause o config calls traced h old new) e))
