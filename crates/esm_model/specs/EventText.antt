-- The event of a function call for a stream's batch. Source: the Lambda Developer Guide, "Using Lambda with Kinesis" (the
-- example event, and the fields of tumbling windows). Identifiers, ARNs and sequence numbers have no character that needs an
-- escape, and are written as they are.
use Rattle.std.specs.Prelude.{ℕ, ◌/◌, ◌%◌, List, [], ◌∷◌, ◌++◌, codes, Option, Some, None}
use Rattle.std.specs.List.{join_by}
use Rattle.base64.specs.Engines.{standard}
use Rattle.base64.specs.GeneralPurpose.{encode_of}
use Rattle.esm_model.specs.Moment.{moment_after}
use Rattle.esm_model.specs.Numbers.{decimal, padded_decimal}
use Rattle.esm_model.specs.JsonText.{quoted, truth_text}
use Rattle.esm_model.specs.Dates.{second_text}
use Rattle.esm_model.specs.declared.config.Config.{Config}
use Rattle.esm_model.specs.Records.{Record}
use Rattle.esm_model.specs.declared.event.WindowCall.{WindowCall}

-- standard padded base64 (RFC 4648, section 4)
unfoldable pub base64_text : List ℕ → List ℕ
base64_text bytes = encode_of standard bytes

-- `shardId-` and the twelve digits of the shard's number
abbrev pub shard_id : ℕ → List ℕ
shard_id shard = codes "shardId-" ++ padded_decimal 12 shard

-- milliseconds as seconds, a point and three digits
abbrev pub seconds_text : ℕ → List ℕ
seconds_text ms = decimal (ms / 1000) ++ codes "." ++ padded_decimal 3 (ms % 1000)

-- what Kinesis says of the record
abbrev pub kinesis_part : Record → List ℕ
kinesis_part r =
    codes "{\"kinesis\":{\"kinesisSchemaVersion\":\"1.0\",\"partitionKey\":" ++ quoted r.key
    ++ codes ",\"sequenceNumber\":\"" ++ r.seq
    ++ codes "\",\"data\":\"" ++ base64_text r.payload
    ++ codes "\",\"approximateArrivalTimestamp\":" ++ seconds_text r.arrival ++ codes "}"

-- which record of which shard it is
abbrev pub identity_part : Record → List ℕ
identity_part r =
    codes ",\"eventSource\":\"aws:kinesis\",\"eventVersion\":\"1.0\",\"eventID\":\""
    ++ shard_id r.shard ++ codes ":" ++ r.seq

-- where the record came from
abbrev pub source_part : Config → List ℕ
source_part c =
    codes "\",\"eventName\":\"aws:kinesis:record\",\"invokeIdentityArn\":\"arn:aws:iam::" ++ c.account
    ++ codes ":role/esm\",\"awsRegion\":\"" ++ c.region
    ++ codes "\",\"eventSourceARN\":\"" ++ c.source_arn ++ codes "\"}"

-- one element of `Records`
unfoldable pub record_text : Config → Record → List ℕ
record_text c r = kinesis_part r ++ identity_part r ++ source_part c

-- a window's state as the function returned it, or `{}` where it returned none
abbrev pub state_text : List ℕ → List ℕ
state_text [] = codes "{}"
state_text (b ∷ bytes) = b ∷ bytes

-- the window's start and end, and its state
abbrev pub span_part : Config → WindowCall → List ℕ
span_part c w =
    codes ",\"window\":{\"start\":\"" ++ second_text w.state.window
    ++ codes "\",\"end\":\"" ++ second_text (moment_after w.state.window c.tumbling_ms)
    ++ codes "\"},\"state\":" ++ state_text w.state.text

-- whose window it is, and whether this is its final call; no window ends early
abbrev pub final_part : Config → WindowCall → List ℕ
final_part c w =
    codes ",\"shardId\":\"" ++ shard_id w.shard
    ++ codes "\",\"eventSourceARN\":\"" ++ c.source_arn
    ++ codes "\",\"isFinalInvokeForWindow\":" ++ truth_text w.closing
    ++ codes ",\"isWindowTerminatedEarly\":false"

-- what comes after `Records`: nothing without tumbling windows
abbrev pub window_part : Config → Option WindowCall → List ℕ
window_part c None = []
window_part c (Some w) = span_part c w ++ final_part c w

-- what comes after the records' elements
abbrev pub end_part : Config → Option WindowCall → List ℕ
end_part c w = codes "]" ++ window_part c w ++ codes "}"

-- an event that begins with `head`, has an element for each record, which ends with `source`, and ends with `tail`
unfoldable pub event_in : List ℕ → List Record → List ℕ → List ℕ → List ℕ
event_in head rs source tail = head ++ join_by (λ r. kinesis_part r ++ identity_part r ++ source) (codes ",") rs ++ tail

-- the whole event
unfoldable pub event_text : Config → List Record → Option WindowCall → List ℕ
event_text c rs w =
    codes "{\"Records\":[" ++ join_by (record_text c) (codes ",") rs ++ codes "]" ++ window_part c w ++ codes "}"
