-- The report of a queue's run: a line for its messages, a line for the calls, and the last line, which says how the run
-- ended. Each line ends with a line feed. This product's own.
use Rattle.std.specs.Prelude.{ℕ, List, ◌++◌, codes, if◌then◌else◌}
use Rattle.esm_model.specs.declared.entry.Entry.{Entry}
use Rattle.esm_model.specs.declared.book.Change.{Change}
use Rattle.esm_model.specs.Numbers.{decimal}
use Rattle.esm_queue_model.specs.QueueSetting.{QueueSetting}
use Rattle.esm_queue_model.specs.QueueReport.{queue_text}
use Rattle.esm_report.specs.Report as report
use Rattle.esm_report.specs.Report.{line, texts_part, calls_text, stands_alone}
use Rattle.esm_report.specs.declared.ending.Ending.{Ending}
use Rattle.esm_report.specs.declared.ending.Ending.TheVariants.{StreamChanged}

-- a message of the queue that has another id than the journal kept for its place
abbrev pub change_text : Change → List ℕ
change_text change = codes "stream changed queue place " ++ decimal change.place ++ texts_part change.kept change.given

-- the last line is that of a stream's report, except for such a change
abbrev pub last_line : Ending → List ℕ
last_line (StreamChanged change) = line (change_text change)
last_line ending = report.last_line ending

-- the report of a history (newest entry first) and an ending; if nothing ran, it is the last line alone
abbrev pub queue_report_text : QueueSetting → List Entry → Ending → List ℕ
queue_report_text s h ending = if stands_alone ending then last_line ending else line (queue_text s h) ++ line (calls_text h) ++ last_line ending
