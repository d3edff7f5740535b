-- Worked examples of queues' histories: a setting, a history with its newest entry first, and what the definitions say of
-- it.
use Rattle.std.specs.Prelude.{◌≡◌, ℕ, true, false, List, [], ◌∷◌, ◌++◌, codes, map, drop, Option, Some, None}
use Rattle.esm_model.specs.declared.config.Config.{Config}
use Rattle.esm_model.specs.declared.config.Kind.{Kind}
use Rattle.esm_model.specs.declared.config.Kind.TheVariants.{Standard, Fifo}
use Rattle.esm_model.specs.declared.item.Message.{Message}
use Rattle.esm_model.specs.declared.entry.Fate.TheVariants.{Succeeded, Filtered}
use Rattle.esm_model.specs.declared.entry.Entry.{Entry}
use Rattle.esm_model.specs.declared.entry.Entry.TheVariants.{Came, Gave, Shut}
use Rattle.esm_model.specs.declared.entry.Reply.{Reply}
use Rattle.esm_model.specs.declared.entry.Reply.TheVariants.{Answered}
use Rattle.esm_model.specs.declared.called.Called.{Called}
use Rattle.esm_model.specs.Worked.{plain_mapping, calls_in, began, ended, gave, good_call, all_came}
use Rattle.esm_queue_model.specs.QueueSetting.{QueueSetting}
use Rattle.esm_queue_model.specs.QueueEntries.{waiting}
use Rattle.esm_queue_model.specs.QueueBatch.{queue_batch, queue_calls}
use Rattle.esm_queue_model.specs.QueueStep.{LegalQueue}
use Rattle.esm_queue_model.specs.QueueReport.{queue_text}

-- a mapping of the queue `q` to the function `f`, each field at its default
abbrev pub queue_mapping : Kind → Config
queue_mapping kind = record plain_mapping { source_arn = codes "arn:aws:sqs:us-east-1:123456789012:q"; kind = kind; batch_size = 10 }

abbrev pub queue_setting : Config → List Message → QueueSetting
queue_setting config messages = record { config = config; calls = 1000000; visibility = 30000; messages = messages; deletions = [] }

-- a message that was sent at 0
abbrev pub message : List ℕ → Option (List ℕ) → List ℕ → Message
message id group body = record { id = id; group = group; body = body; sent = 0 }

abbrev pub plain_message : List ℕ → Message
plain_message id = message id None (codes "x")

-- the history is legal over the setting, and has these calls, messages that wait after it, and report
pub record QueueRuns (s : QueueSetting) (h calls : List Entry) (left text : List ℕ) : Type 0 where
  pub is_legal : LegalQueue s h
  pub calls_are : calls_in h ≡ calls
  pub left_are : waiting s h ≡ left
  pub text_is : queue_text s h ≡ text

-- `queue-item-failures`: of three messages the answer reports one, which is called again once it is visible

abbrev pub reporting : QueueSetting
reporting = queue_setting (record (queue_mapping Standard) { item_failures = true }) (map plain_message (codes "a" ∷ codes "b" ∷ codes "c" ∷ []))

abbrev pub reports_b : Reply
reports_b = Answered 200 false (codes "{\"batchItemFailures\":[{\"itemIdentifier\":\"b\"}]}")

-- the history after the first answer
abbrev pub one_reported : List Entry
one_reported = gave (0 ∷ 2 ∷ []) Succeeded 0 ∷ ended reports_b 0 ∷ began (0 ∷ 1 ∷ 2 ∷ []) 0 ∷ all_came 3 0

-- the message in the second event, with its receive count and its first receipt
abbrev pub shown_again : List ℕ
shown_again =
    codes "{\"Records\":[{\"messageId\":\"b\",\"receiptHandle\":\"RH-1-2\",\"body\":\"x\","
    ++ codes "\"attributes\":{\"ApproximateReceiveCount\":\"2\",\"SentTimestamp\":\"0\",\"ApproximateFirstReceiveTimestamp\":\"0\"},"
    ++ codes "\"messageAttributes\":{},\"md5OfBody\":\"9dd4e461268c8034f5c8564e155c67a6\",\"eventSource\":\"aws:sqs\","
    ++ codes "\"eventSourceARN\":\"arn:aws:sqs:us-east-1:123456789012:q\",\"awsRegion\":\"us-east-1\"}]}"

-- the events of the calls of batcher 0 that ended, oldest first
abbrev pub events_of : QueueSetting → List Entry → List (List ℕ)
events_of s h = map (λ (c : Called). c.event) (queue_calls s (λ event. event) h 0)

pub record QueueItemFailures : Type 0 where
  pub hidden : queue_batch reporting one_reported 29999 ≡ []
  pub event : drop 1 (events_of reporting (good_call (1 ∷ []) 30000 one_reported)) ≡ shown_again ∷ []
  pub runs : QueueRuns reporting (good_call (1 ∷ []) 30000 one_reported) (began (0 ∷ 1 ∷ 2 ∷ []) 0 ∷ began (1 ∷ []) 30000 ∷ []) [] (codes "queue messages 3 deleted 3 succeeded 3 filtered 0")

-- a message that is hidden may not be called
abbrev pub HiddenCallIsNotLegal : Type 0
HiddenCallIsNotLegal = ¬ LegalQueue reporting (began (1 ∷ []) 29999 ∷ one_reported)

-- two FIFO groups: a message in flight holds back the later one of its group

abbrev pub two_groups : QueueSetting
two_groups =
    queue_setting (record (queue_mapping Fifo) { batch_size = 2 })
    (message (codes "a") (Some (codes "A")) (codes "x") ∷ message (codes "b") (Some (codes "B")) (codes "x") ∷ message (codes "c") (Some (codes "A")) (codes "x") ∷ [])

abbrev pub first_two : List Entry
first_two = began (0 ∷ 1 ∷ []) 0 ∷ all_came 3 0

pub record TwoGroups : Type 0 where
  pub held_back : queue_batch two_groups first_two 0 ≡ []
  pub runs : QueueRuns two_groups (good_call (2 ∷ []) 0 (gave (0 ∷ 1 ∷ []) Succeeded 0 ∷ ended (Answered 200 false []) 0 ∷ first_two)) (began (0 ∷ 1 ∷ []) 0 ∷ began (2 ∷ []) 0 ∷ []) [] (codes "queue messages 3 deleted 3 succeeded 3 filtered 0")

-- a message that does not pass the filter is deleted at its arrival

abbrev pub choosing : QueueSetting
choosing = queue_setting (record (queue_mapping Standard) { filters = codes "{\"body\":[\"x\"]}" ∷ [] }) (plain_message (codes "a") ∷ message (codes "b") None (codes "y") ∷ [])

abbrev pub FilteredMessage : Type 0
FilteredMessage = QueueRuns choosing (good_call (0 ∷ []) 0 (Shut 0 ∷ Gave None 0 (1 ∷ []) Filtered None None 0 ∷ Came 0 0 2 0 ∷ [])) (began (0 ∷ []) 0 ∷ []) [] (codes "queue messages 2 deleted 2 succeeded 1 filtered 1")

-- a message whose deletion was found in the journal is never called

abbrev pub finding : QueueSetting
finding = record (queue_setting (queue_mapping Standard) (map plain_message (codes "a" ∷ codes "b" ∷ []))) { deletions = record { place = 0; fate = Succeeded; text = codes "a" } ∷ [] }

pub record FoundDeleted : Type 0 where
  pub left : waiting finding (all_came 2 0) ≡ 1 ∷ []
  pub runs : QueueRuns finding (good_call (1 ∷ []) 0 (all_came 2 0)) (began (1 ∷ []) 0 ∷ []) [] (codes "queue messages 2 deleted 2 succeeded 2 filtered 0")

-- a message with another id than the journal kept may not arrive
abbrev pub ChangedMessageIsNotLegal : Type 0
ChangedMessageIsNotLegal = ¬ LegalQueue (record finding { messages = map plain_message (codes "z" ∷ codes "b" ∷ []) }) (Came 0 0 2 0 ∷ [])
