-- The event of a function call for a queue's batch. Source: the Lambda Developer Guide, "Using Lambda with Amazon SQS" (the
-- example event). The text of `receiptHandle` is this product's own. Ids, ARNs and regions have no character that needs an
-- escape, and are written as they are.
use Rattle.std.specs.Prelude.{ℕ, ◌≡◌, ◌≤◌, List, [], ◌++◌, codes, false, Option, Some, None}
use Rattle.std.specs.List.{join_by, flat_map}
use Rattle.md5.specs.Md5.{md5}
use Rattle.esm_model.specs.declared.moment.TheConstants.{MAX_MOMENT}
use Rattle.esm_model.specs.Numbers.{decimal, padded_hexadecimal}
use Rattle.esm_model.specs.JsonText.{quoted}
use Rattle.esm_model.specs.Valid.{is_stream, IsValidConfig}
use Rattle.esm_model.specs.ValidMessage.{IsValidMessage}
use Rattle.esm_model.specs.declared.config.Kind.{Kind}
use Rattle.esm_model.specs.declared.config.Config.{Config}
use Rattle.esm_model.specs.declared.received.Received.{Received}

-- validity

-- the valid configuration of a queue's mapping
pub record IsQueueConfig (c : Config) : Type 0 where
  pub kind : is_stream c.kind ≡ false
  pub valid : IsValidConfig c

-- a valid message of a queue of this kind, as a call receives it
pub record IsValidReceived (kind : Kind) (r : Received) : Type 0 where
  pub message : IsValidMessage kind r.message
  pub first : r.first ≤ MAX_MOMENT

-- the text

-- each byte as two lower-case hexadecimal digits
unfoldable pub hexadecimal : List ℕ → List ℕ
hexadecimal bytes = flat_map (padded_hexadecimal 2) bytes

-- names the place and the receive count
abbrev pub receipt_handle : Received → List ℕ
receipt_handle r = codes "RH-" ++ decimal r.place ++ codes "-" ++ decimal r.count

-- which message it is
abbrev pub message_part : Received → List ℕ
message_part r =
    codes "{\"messageId\":\"" ++ r.message.id
    ++ codes "\",\"receiptHandle\":\"" ++ receipt_handle r
    ++ codes "\",\"body\":" ++ quoted r.message.body

-- a FIFO queue's message has a group
abbrev pub group_part : Option (List ℕ) → List ℕ
group_part None = []
group_part (Some group) = codes ",\"MessageGroupId\":" ++ quoted group

-- how often it was received, and the moments in milliseconds since 1970
abbrev pub attributes_part : Received → List ℕ
attributes_part r =
    codes ",\"attributes\":{\"ApproximateReceiveCount\":\"" ++ decimal r.count
    ++ codes "\",\"SentTimestamp\":\"" ++ decimal r.message.sent
    ++ codes "\",\"ApproximateFirstReceiveTimestamp\":\"" ++ decimal r.first
    ++ codes "\"" ++ group_part r.message.group ++ codes "},\"messageAttributes\":{}"

-- the MD5 of the body (RFC 1321)
abbrev pub digest_part : Received → List ℕ
digest_part r = codes ",\"md5OfBody\":\"" ++ hexadecimal (md5 r.message.body) ++ codes "\""

-- where the message came from
abbrev pub queue_part : Config → List ℕ
queue_part c =
    codes ",\"eventSource\":\"aws:sqs\",\"eventSourceARN\":\"" ++ c.source_arn
    ++ codes "\",\"awsRegion\":\"" ++ c.region ++ codes "\"}"

-- one element of `Records`
unfoldable pub queue_record_text : Config → Received → List ℕ
queue_record_text c r = message_part r ++ attributes_part r ++ digest_part r ++ queue_part c

-- the whole event
unfoldable pub queue_event_text : Config → List Received → List ℕ
queue_event_text c rs = codes "{\"Records\":[" ++ join_by (queue_record_text c) (codes ",") rs ++ codes "]}"
