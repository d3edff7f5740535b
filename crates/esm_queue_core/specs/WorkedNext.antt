-- Worked examples of what a batcher of a queue does next: a setting, a history (newest entry first) and the answer.
use Rattle.std.specs.Prelude.{◌≡◌, ℕ, List, [], ◌∷◌, ◌++◌, codes, None}
use Rattle.esm_model.specs.declared.config.Kind.TheVariants.{Standard}
use Rattle.esm_model.specs.declared.entry.Entry.{Entry}
use Rattle.esm_model.specs.declared.entry.Entry.TheVariants.{Shut}
use Rattle.esm_model.specs.declared.book.Next.TheVariants as next
use Rattle.esm_model.specs.Worked.{good_call, all_came}
use Rattle.esm_queue_model.specs.QueueSetting.{QueueSetting}
use Rattle.esm_queue_model.specs.QueueEntries.{queue_lane}
use Rattle.esm_queue_model.specs.QueueReport.{queue_text}
use Rattle.esm_queue_model.specs.WorkedHistories.{queue_mapping, queue_setting, message, reporting, one_reported, shown_again}
use Rattle.esm_queue_core.specs.Next.{next_for, job_of}

-- `queue-item-failures`: all three messages are called at once; the one that the answer reports is called again when it
-- shows, with its receive count; then nothing is left

pub record ReportedIsCalledAgain : Type 0 where
  pub first : next_for reporting (all_came 3 0) 0 0 ≡ next.Call (job_of reporting (all_came 3 0) 0 (0 ∷ 1 ∷ 2 ∷ []) 0)
  pub pauses : next_for reporting one_reported 0 0 ≡ next.Idle 30000
  pub again : next_for reporting one_reported 0 30000 ≡ next.Call (record { lane = queue_lane 0; places = 1 ∷ []; closing = None; event = shown_again })
  pub finished : next_for reporting (good_call (1 ∷ []) 30000 one_reported) 0 30000 ≡ next.Finished

-- `queue-event`: the text of the call of one message

abbrev pub testing : QueueSetting
testing = queue_setting (queue_mapping Standard) (message (codes "m1") None (codes "Test message.") ∷ [])

abbrev pub test_event : List ℕ
test_event =
    codes "{\"Records\":[{\"messageId\":\"m1\",\"receiptHandle\":\"RH-0-1\",\"body\":\"Test message.\","
    ++ codes "\"attributes\":{\"ApproximateReceiveCount\":\"1\",\"SentTimestamp\":\"0\",\"ApproximateFirstReceiveTimestamp\":\"0\"},"
    ++ codes "\"messageAttributes\":{},\"md5OfBody\":\"e4e68fb7bd0e697a0ae8f1bb342846b3\",\"eventSource\":\"aws:sqs\","
    ++ codes "\"eventSourceARN\":\"arn:aws:sqs:us-east-1:123456789012:q\",\"awsRegion\":\"us-east-1\"}]}"

abbrev pub QueueEventIsCalled : Type 0
QueueEventIsCalled = next_for testing (all_came 1 0) 0 0 ≡ next.Call (record { lane = queue_lane 0; places = 0 ∷ []; closing = None; event = test_event })

-- `empty-queue`: no message came, and the input ended

abbrev pub empty : QueueSetting
empty = queue_setting (queue_mapping Standard) []

abbrev pub only_shut : List Entry
only_shut = Shut 0 ∷ []

pub record EmptyQueue : Type 0 where
  pub finished : next_for empty only_shut 0 0 ≡ next.Finished
  pub text_is : queue_text empty only_shut ≡ codes "queue messages 0 deleted 0 succeeded 0 filtered 0"
