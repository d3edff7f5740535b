-- Worked examples of the reports of queues.
use Rattle.std.specs.Prelude.{◌≡◌, List, [], ◌∷◌, codes}
use Rattle.esm_model.specs.declared.config.Kind.TheVariants.{Standard}
use Rattle.esm_model.specs.declared.entry.Entry.{Entry}
use Rattle.esm_model.specs.declared.book.Change.{Change}
use Rattle.esm_model.specs.Worked.{good_call, all_came}
use Rattle.esm_queue_model.specs.QueueSetting.{QueueSetting}
use Rattle.esm_queue_model.specs.WorkedHistories.{queue_mapping, queue_setting, finding}
use Rattle.esm_report.specs.declared.ending.Ending.TheVariants.{Done, StreamChanged, UnknownMapping}
use Rattle.esm_report.specs.Queue.{queue_report_text}

-- no message arrived
abbrev pub EmptyQueue : Type 0
EmptyQueue =
    queue_report_text (queue_setting (queue_mapping Standard) []) [] Done
    ≡ codes "queue messages 0 deleted 0 succeeded 0 filtered 0\ncalls 0\ndone\n"

-- two messages, of which the journal says that the first is deleted; the second is called
abbrev pub OneFound : Type 0
OneFound =
    queue_report_text finding (good_call (1 ∷ []) 0 (all_came 2 0)) Done
    ≡ codes "queue messages 2 deleted 2 succeeded 2 filtered 0\ncalls 1\ndone\n"

-- the first message of the queue has another id than the journal kept
abbrev pub changed : Change
changed = record { shard = 0; place = 0; kept = codes "a"; given = codes "z" }

abbrev pub ChangedMessage : Type 0
ChangedMessage =
    queue_report_text finding [] (StreamChanged changed)
    ≡ codes "queue messages 0 deleted 0 succeeded 0 filtered 0\ncalls 0\nstream changed queue place 0 kept a given z\n"

-- the registry has no such mapping, so nothing ran
abbrev pub NothingRan : Type 0
NothingRan = (s : QueueSetting) (h : List Entry) → queue_report_text s h UnknownMapping ≡ codes "unknown mapping\n"
