-- The line that the failure destination gets for records that were given up. Source: the Lambda Developer Guide, "Retaining
-- discarded batch records" for Kinesis (the example of an invocation record). The text of `requestId`, which names the first
-- place and the shard, and the condition `RecordAgeExceeded` are this product's own.
use Rattle.std.specs.Prelude.{ℕ, List, [], ◌++◌, Bool, if◌then◌else◌, codes, Option, Some, None}
use Rattle.esm_model.specs.Numbers.{decimal, padded_hexadecimal}
use Rattle.esm_model.specs.Dates.{date_text}
use Rattle.esm_model.specs.EventText.{shard_id}
use Rattle.esm_model.specs.declared.config.Config.{Config}
use Rattle.esm_model.specs.declared.event.Failure.{Failure}
use Rattle.esm_model.specs.declared.event.Response.{Response}

-- the place and the shard of the first record, so a line that is delivered again has the same id
abbrev pub request_id : Failure → List ℕ
request_id f = padded_hexadecimal 8 f.place ++ codes "-0000-8000-8000-" ++ padded_hexadecimal 12 f.shard

-- why the records were given up
abbrev pub condition_text : Bool → List ℕ
condition_text expired = if expired then codes "RecordAgeExceeded" else codes "RetryAttemptsExhausted"

abbrev pub request_part : Config → Failure → List ℕ
request_part c f =
    codes "{\"requestContext\":{\"requestId\":\"" ++ request_id f
    ++ codes "\",\"functionArn\":\"" ++ c.function_arn
    ++ codes "\",\"condition\":\"" ++ condition_text f.expired
    ++ codes "\",\"approximateInvokeCount\":" ++ decimal f.calls ++ codes "},"

-- what an answer says of its error header
abbrev pub error_part : Bool → List ℕ
error_part error = if error then codes ",\"functionError\":\"Unhandled\"" else []

-- an answer's status, and whether it had the error header
abbrev pub answer_part : Response → List ℕ
answer_part a =
    codes "\"responseContext\":{\"statusCode\":" ++ decimal a.status
    ++ codes ",\"executedVersion\":\"$LATEST\"" ++ error_part a.error ++ codes "},"

-- the last answer, where there is one
abbrev pub response_part : Option Response → List ℕ
response_part None = []
response_part (Some a) = answer_part a

-- the moment of the fate, and the first and the last record
abbrev pub batch_part : Failure → List ℕ
batch_part f =
    codes "\"version\":\"1.0\",\"timestamp\":\"" ++ date_text f.moment
    ++ codes "\",\"KinesisBatchInfo\":{\"shardId\":\"" ++ shard_id f.shard
    ++ codes "\",\"startSequenceNumber\":\"" ++ f.first
    ++ codes "\",\"endSequenceNumber\":\"" ++ f.last

abbrev pub arrivals_part : Config → Failure → List ℕ
arrivals_part c f =
    codes "\",\"approximateArrivalOfFirstRecord\":\"" ++ date_text f.first_arrival
    ++ codes "\",\"approximateArrivalOfLastRecord\":\"" ++ date_text f.last_arrival
    ++ codes "\",\"batchSize\":" ++ decimal f.count
    ++ codes ",\"streamArn\":\"" ++ c.source_arn ++ codes "\"}}"

-- the whole line, without its line feed
unfoldable pub failure_text : Config → Failure → List ℕ
failure_text c f = request_part c f ++ response_part f.response ++ batch_part f ++ arrivals_part c f
