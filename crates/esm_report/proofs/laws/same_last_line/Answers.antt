use Rattle.std.proofs.Common.{◌≡◌, ℕ, List, [], true}
use Rattle.std.proofs.lemmas.Bool.{false≢true}
use Rattle.esm_model.specs.declared.entry.Entry.{Entry}
use Rattle.esm_model.specs.Setting.{Setting}
use Rattle.esm_queue_model.specs.QueueSetting.{QueueSetting}
use Rattle.esm_report.specs.Report.{report_text, stands_alone}
use Rattle.esm_report.specs.declared.ending.Ending.{Ending}
use Rattle.esm_report.specs.declared.ending.Ending.TheVariants.{BadWords, OpenFault, NotAJournal, Damaged, BadPayload, UnknownMapping, DisabledMapping, BadParameter}
use Rattle.esm_report.specs.Queue.{queue_report_text}
use Rattle.esm_report.proofs.laws.same_last_line.Goals as goal

-- a stream's setting with the configuration of a queue's
with_config : QueueSetting → Setting
with_config s = record { config = s.config; calls = s.calls; streams = []; fates = []; tries = []; states = []; window_tries = [] }

alone : (ending : Ending) (text : List ℕ) → stands_alone ending ≡ true → ((s : Setting) (h : List Entry) → text ≡ report_text s h ending) → (s : QueueSetting) (h : List Entry) → text ≡ queue_report_text s h ending
alone BadWords text stands same s h = same (with_config s) h
alone OpenFault text stands same s h = same (with_config s) h
alone (NotAJournal file) text stands same s h = same (with_config s) h
alone (Damaged file place) text stands same s h = same (with_config s) h
alone (BadPayload file index) text stands same s h = same (with_config s) h
alone UnknownMapping text stands same s h = same (with_config s) h
alone DisabledMapping text stands same s h = same (with_config s) h
alone (BadParameter name) text stands same s h = same (with_config s) h
alone _ text stands same s h = absurd (false≢true stands)

pub returns : goal.returns
returns c = alone
