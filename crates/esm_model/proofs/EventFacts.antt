-- Worked examples of the texts, computed.
use Rattle.std.proofs.Common.{◌≡◌, ℕ, List, [], ◌∷◌, ◌++◌, length, codes, Option, Some, None, true, refl, ap, ◌∙◌}
use Rattle.std.specs.Fmt.{digits}
use Rattle.std.specs.List.{join_by}
use Rattle.std.proofs.Math.Path.{fun_ext}
use Rattle.std.proofs.lemmas.List.{append-nil, append_assoc}
use Rattle.base64.specs.Rfc4648.{encode_symbols}
use Rattle.esm_model.specs.Numbers.{last_digits}
use Rattle.esm_model.specs.JsonText.{escaped_byte, quoted}
use Rattle.esm_model.specs.Dates.{new_year, days_of_months, year_of, month_of, day_text, date_text, second_text}
use Rattle.esm_model.specs.EventText.{base64_text, record_text, kinesis_part, identity_part, source_part, window_part, end_part, event_text, event_in}
use Rattle.esm_model.specs.FailureText.{failure_text}
use Rattle.esm_model.specs.declared.config.Config.{Config}
use Rattle.esm_model.specs.Records.{Record}
use Rattle.esm_model.specs.declared.event.Failure.{Failure}
use Rattle.esm_model.specs.declared.event.WindowCall.{WindowCall}

pub date_text-60001 : date_text 60001 ≡ codes "1970-01-01T00:01:00.001Z"
unfolding date_text day_text year_of month_of new_year days_of_months last_digits
date_text-60001 = refl

pub date_text-leap_day : date_text 951826154321 ≡ codes "2000-02-29T12:09:14.321Z"
unfolding date_text day_text year_of month_of new_year days_of_months last_digits
date_text-leap_day = refl

pub date_text-last : date_text 253402300799999 ≡ codes "9999-12-31T23:59:59.999Z"
unfolding date_text day_text year_of month_of new_year days_of_months last_digits
date_text-last = refl

-- an event without elements is its beginning
pub bare_event : (text : List ℕ) → event_in text [] [] [] ≡ text
unfolding event_in
bare_event text = append-nil (text ++ []) ∙ append-nil text

-- each element ends with what it says of its source
elements : (c : Config) → record_text c ≡ (λ r. kinesis_part r ++ identity_part r ++ source_part c)
unfolding record_text
elements c = fun_ext (λ r. refl)

regrouped : (a b w z : List ℕ) → a ++ b ++ w ++ z ≡ a ++ (b ++ w ++ z)
regrouped a b w z = ap (λ l. l ++ z) (append_assoc a b w) ∙ append_assoc a (b ++ w) z

-- an event of a stream is made of its parts
pub event_parts : (c : Config) (rs : List Record) (w : Option WindowCall) → event_text c rs w ≡ event_in (codes "{\"Records\":[") rs (source_part c) (end_part c w)
unfolding event_text event_in
event_parts c rs w =
    ap (λ f. codes "{\"Records\":[" ++ join_by f (codes ",") rs ++ codes "]" ++ window_part c w ++ codes "}") (elements c)
    ∙ regrouped (codes "{\"Records\":[" ++ join_by (λ r. kinesis_part r ++ identity_part r ++ source_part c) (codes ",") rs) (codes "]") (window_part c w) (codes "}")

-- a mapping over the stream of the examples
abbrev pub example_config : Config → Config
example_config c = record c {
  source_arn = codes "arn:aws:kinesis:us-east-1:123456789012:stream/s";
  function_arn = codes "arn:aws:lambda:us-east-1:123456789012:function:f";
  region = codes "us-east-1";
  account = codes "123456789012";
  tumbling_ms = 120000;
}

abbrev pub hello : List ℕ
hello = 72 ∷ 101 ∷ 108 ∷ 108 ∷ 111 ∷ []

abbrev pub example_record : Record
example_record = record { shard = 0; seq = codes "1"; key = codes "1"; payload = hello; arrival = 0 }

abbrev pub one_record_text : List ℕ
one_record_text =
    codes "{\"Records\":[{\"kinesis\":{\"kinesisSchemaVersion\":\"1.0\",\"partitionKey\":\"1\",\"sequenceNumber\":\"1\",\"data\":\"SGVsbG8=\",\"approximateArrivalTimestamp\":0.000},"
    ++ codes "\"eventSource\":\"aws:kinesis\",\"eventVersion\":\"1.0\",\"eventID\":\"shardId-000000000000:1\",\"eventName\":\"aws:kinesis:record\","
    ++ codes "\"invokeIdentityArn\":\"arn:aws:iam::123456789012:role/esm\",\"awsRegion\":\"us-east-1\",\"eventSourceARN\":\"arn:aws:kinesis:us-east-1:123456789012:stream/s\"}]}"

pub event_text-one_record : (c : Config) → event_text (example_config c) (example_record ∷ []) None ≡ one_record_text
unfolding event_text record_text escaped_byte base64_text encode_symbols last_digits digits
event_text-one_record c = refl

pub length-one_record : length one_record_text ≡ 415
length-one_record = refl

pub quoted-escapes : quoted (34 ∷ 92 ∷ 8 ∷ 31 ∷ 195 ∷ 164 ∷ []) ≡ 34 ∷ (codes "\\\"\\\\\\b\\u001f" ++ 195 ∷ 164 ∷ 34 ∷ [])
unfolding escaped_byte last_digits
quoted-escapes = refl

-- a failure of one record that was never called, expired at 60001
abbrev pub expired_record : Failure
expired_record = record {
  shard = 0;
  place = 0;
  first = codes "1";
  last = codes "1";
  first_arrival = 0;
  last_arrival = 0;
  count = 1;
  expired = true;
  calls = 0;
  response = None;
  moment = 60001;
}

abbrev pub expired_line : List ℕ
expired_line =
    codes "{\"requestContext\":{\"requestId\":\"00000000-0000-8000-8000-000000000000\",\"functionArn\":\"arn:aws:lambda:us-east-1:123456789012:function:f\",\"condition\":\"RecordAgeExceeded\",\"approximateInvokeCount\":0},"
    ++ codes "\"version\":\"1.0\",\"timestamp\":\"1970-01-01T00:01:00.001Z\",\"KinesisBatchInfo\":{\"shardId\":\"shardId-000000000000\",\"startSequenceNumber\":\"1\",\"endSequenceNumber\":\"1\","
    ++ codes "\"approximateArrivalOfFirstRecord\":\"1970-01-01T00:00:00.000Z\",\"approximateArrivalOfLastRecord\":\"1970-01-01T00:00:00.000Z\",\"batchSize\":1,\"streamArn\":\"arn:aws:kinesis:us-east-1:123456789012:stream/s\"}}"

pub failure_text-record_age : (c : Config) → failure_text (example_config c) expired_record ≡ expired_line
unfolding failure_text date_text day_text year_of month_of new_year days_of_months last_digits digits
failure_text-record_age c = refl

-- the final call of the window that begins at 0, of 120 seconds
abbrev pub final_call : WindowCall
final_call = record { shard = 0; state = record { window = 0; text = codes "{\"n\":2}" }; closing = true }

abbrev pub final_event : List ℕ
final_event =
    codes "{\"Records\":[],\"window\":{\"start\":\"1970-01-01T00:00:00Z\",\"end\":\"1970-01-01T00:02:00Z\"},\"state\":{\"n\":2},\"shardId\":\"shardId-000000000000\","
    ++ codes "\"eventSourceARN\":\"arn:aws:kinesis:us-east-1:123456789012:stream/s\",\"isFinalInvokeForWindow\":true,\"isWindowTerminatedEarly\":false}"

pub event_text-final_call : (c : Config) → event_text (example_config c) [] (Some final_call) ≡ final_event
unfolding event_text second_text day_text year_of month_of new_year days_of_months last_digits
event_text-final_call c = refl
