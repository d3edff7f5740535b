-- What became of a command that runs a mapping, before its text is written. Only this crate's proofs cite this.
use Rattle.std.specs.Prelude.{◌≡◌, ◌++◌, true, List, ℕ, Result, Ok, Err}
use Rattle.esm_model.specs.declared.entry.Entry.{Entry}
use Rattle.esm_model.specs.declared.memory.OutOfMemory.{OutOfMemory}
use Rattle.esm_model.specs.Setting.{Setting}
use Rattle.esm_queue_model.specs.QueueSetting.{QueueSetting}
use Rattle.esm_queue_model.specs.QueueStep.{LegalQueue}
use Rattle.esm_ddb.specs.declared.input.InputTurned.{InputTurned}
use Rattle.esm_report.specs.Queue.{queue_report_text}
use Rattle.esm_report.specs.declared.ending.Ending.{Ending}
use Rattle.esm_report.specs.Report.{last_line, report_text, stands_alone}
use Rattle.esm_journal_state.specs.SaidLists.{SaidLists}
use Rattle.esm_runner.specs.declared.run.MappingEnd.{MappingEnd}
use Rattle.esm_run.specs.Answers.{HasCome}
use Rattle.esm_redrive_model.specs.RedriveSetting.{RedriveSetting}
use Rattle.esm_redrive_model.specs.RedriveStep.{LegalRedrive}
use Rattle.esm_redrive_run.specs.declared.run.RedriveEnd.{RedriveEnd}
use Rattle.esm_replay_run.specs.declared.report.ReplayCounts.{ReplayCounts}
use Rattle.esm_replay_run.specs.declared.run.ReplayEnd.{ReplayEnd}
use Rattle.esm_run.specs.Endings.{ending_of, ending_of_ddb, ending_of_redrive, ending_of_replay}
use Rattle.esm_run.specs.Reports.{redrive_report_text, replay_report_text}
use Rattle.esm_run.specs.declared.left.Began.{Began}
use Rattle.esm_run.specs.declared.left.Began.TheVariants as began

-- the ending of a run that was not stopped
abbrev pub IsEndingOf : Result MappingEnd OutOfMemory → Ending → Type 0
IsEndingOf (Ok end) ending = ending ≡ ending_of end
IsEndingOf (Err why) ending = ⊥

-- the same of a run over turned lines, by how the reading of the input ended
abbrev pub IsDdbEndingOf : InputTurned → Result MappingEnd OutOfMemory → Ending → Type 0
IsDdbEndingOf turned (Ok end) ending = ending ≡ ending_of_ddb turned end
IsDdbEndingOf turned (Err why) ending = ⊥

-- the same of a redrive's run
abbrev pub IsRedriveEndingOf : Result RedriveEnd OutOfMemory → Ending → Type 0
IsRedriveEndingOf (Ok end) ending = ending ≡ ending_of_redrive end
IsRedriveEndingOf (Err why) ending = ⊥

-- the same of a replay's run
abbrev pub IsReplayEndingOf : Result ReplayEnd OutOfMemory → Ending → Type 0
IsReplayEndingOf (Ok end) ending = ending ≡ ending_of_replay end
IsReplayEndingOf (Err why) ending = ⊥

-- the last line of an ending that stands alone
pub record IsLastLine (ending : Ending) (text : List ℕ) : Type 0 where
  pub alone : stands_alone ending ≡ true
  pub text_is : text ≡ last_line ending

-- the report of a stream's run over a journal that said this
pub record IsStreamReport (h : List Entry) (ending : Ending) (said : SaidLists) (text : List ℕ) : Type 0 where
  pub setting : Setting
  pub fates : setting.fates ≡ said.fates
  pub text_is : text ≡ report_text setting h ending

-- the report of a queue's run over a journal that said this
pub record IsQueueReport (h : List Entry) (ending : Ending) (said : SaidLists) (text : List ℕ) : Type 0 where
  pub setting : QueueSetting
  pub deletions : setting.deletions ≡ said.deletions
  pub legal : LegalQueue setting h
  pub text_is : text ≡ queue_report_text setting h ending

-- the report of a redrive over a journal that said this
pub record IsRedriveReport (h : List Entry) (ending : Ending) (said : SaidLists) (text : List ℕ) : Type 0 where
  pub setting : RedriveSetting
  pub deletions : setting.queue.deletions ≡ said.deletions
  pub legal : LegalRedrive setting h
  pub text_is : text ≡ redrive_report_text setting h ending

-- the report of a replay with these counts of records
pub record IsReplayReport (h : List Entry) (ending : Ending) (counts : ReplayCounts) (text : List ℕ) : Type 0 where
  pub text_is : text ≡ replay_report_text counts h ending

-- the report of an ending, by what began
abbrev pub IsReport : List Entry → Ending → Began → List ℕ → Type 0
IsReport h ending began.Nothing text = IsLastLine ending text
IsReport h ending (began.Stream said) text = IsStreamReport h ending said text
IsReport h ending (began.Queue said) text = IsQueueReport h ending said text
IsReport h ending (began.Redrive said) text = IsRedriveReport h ending said text
IsReport h ending (began.Replay counts) text = IsReplayReport h ending counts text

-- the text is what is printed of the history, and then the report, by what began
pub record IsReportBehind (front : List ℕ) (h : List Entry) (ending : Ending) (b : Began) (text : List ℕ) : Type 0 where
  pub report : List ℕ
  pub is_report : IsReport h ending b report
  pub text_is : text ≡ front ++ report

-- a command ended so for one of these causes, and its text has the report of what began
pub record EndsWith (cause : List ℕ → Ending → Type 0) (front : List ℕ) (h : List Entry) (b : Began) (ending : Ending) : Type 0 where
  pub ended : HasCome cause ending
  pub report : IsReportBehind front h ending b ended.text
