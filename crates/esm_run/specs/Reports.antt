-- The reports of a redrive and of a replay: a line for the messages or the records, a line for the calls, and the last line,
-- which says how the run ended. Each line ends with a line feed. This product's own.
use Rattle.std.specs.Prelude.{ℕ, List, ◌++◌, if◌then◌else◌}
use Rattle.esm_model.specs.declared.entry.Entry.{Entry}
use Rattle.esm_redrive_model.specs.RedriveReport.{redrive_text}
use Rattle.esm_redrive_model.specs.RedriveSetting.{RedriveSetting}
use Rattle.esm_replay_run.specs.Counts.{counts_text}
use Rattle.esm_replay_run.specs.declared.report.ReplayCounts.{ReplayCounts}
use Rattle.esm_report.specs.Queue as queue
use Rattle.esm_report.specs.Report.{calls_text, last_line, line, stands_alone}
use Rattle.esm_report.specs.declared.ending.Ending.{Ending}

-- the report of a history (newest entry first) and an ending; if nothing ran, it is the last line alone

abbrev pub redrive_report_text : RedriveSetting → List Entry → Ending → List ℕ
redrive_report_text s h ending = if stands_alone ending then queue.last_line ending else line (redrive_text s h) ++ line (calls_text h) ++ queue.last_line ending

-- with the counts of the records
abbrev pub replay_report_text : ReplayCounts → List Entry → Ending → List ℕ
replay_report_text counts h ending = if stands_alone ending then last_line ending else line (counts_text counts) ++ line (calls_text h) ++ last_line ending
