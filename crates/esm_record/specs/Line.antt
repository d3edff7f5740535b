-- One line of an input. Sources: the Kinesis API Reference, `Record` (`SequenceNumber`, `PartitionKey` of 1 to 256
-- characters, `Data` of at most 1 MB in base64, `ApproximateArrivalTimestamp`) and `ShardId`; the SQS API Reference,
-- `Message` (`MessageId`, `Body`, the attributes `SentTimestamp` and `MessageGroupId`). That each record or message is one
-- line with these names is this product's own.
use Rattle.std.specs.Prelude.{ℕ, ◌==◌, nat_eq, nat_le, Bool, true, false, ◌&&◌, List, length, drop, codes, Option, Some, None, option_and_then, Result, Ok, Err, is_some, if◌then◌else◌}
use Rattle.std.specs.List.{list_all, starts_with}
use Rattle.std.specs.Char.{is_ascii_digit}
use Rattle.std.specs.Str.{is_utf8}
use Rattle.std.specs.Str.Parse.{digits_value}
use Rattle.std.specs.Option.{ok_or}
use Rattle.std.specs.Result.{result_ok}
use Rattle.base64.specs.Engines.{standard}
use Rattle.base64.specs.GeneralPurpose.{decode_of}
use Rattle.serde_json.specs.Data.{Data}
use Rattle.serde_json.specs.Read.{read}
use Rattle.serde_json.specs.Find.{get, as_object, as_str, as_number, as_u64}
use Rattle.esm_model.specs.declared.limits.TheConstants.{MAX_DATA}
use Rattle.esm_model.specs.declared.moment.TheConstants.{MAX_MOMENT}
use Rattle.esm_model.specs.Sequence.{is_sequence}
use Rattle.esm_model.specs.Valid.{is_between, char_count}
use Rattle.esm_model.specs.ValidMessage.{is_message_id, is_message_body, is_message_group}
use Rattle.esm_model.specs.Records.{Record}
use Rattle.esm_model.specs.declared.item.Message.{Message}
use Rattle.esm_record.specs.declared.error.Field.{Field}
use Rattle.esm_record.specs.declared.error.Field.TheVariants as field
use Rattle.esm_record.specs.declared.error.LineError.{LineError}
use Rattle.esm_record.specs.declared.error.LineError.TheVariants.{NotJson, Missing, BadField}

-- one reading after another; the first refusal ends them
infixl 10 ◌>>=◌
abbrev pub ◌>>=◌ : {A B : Type 0} → Result A LineError → (A → Result B LineError) → Result B LineError
(Ok x) >>= f = f x
(Err e) >>= f = Err e

-- the value, if it passes
abbrev pub only_if : {A : Type 0} → Bool → A → Option A
only_if true x = Some x
only_if false x = None

-- `shardId-` and twelve digits
abbrev pub is_shard_id : List ℕ → Bool
is_shard_id text = (length text == 20) && starts_with nat_eq text (codes "shardId-") && list_all is_ascii_digit (drop 8 text)

abbrev pub shard_number : List ℕ → Option ℕ
shard_number text = only_if (is_shard_id text) (digits_value 10 (drop 8 text))

abbrev pub sequence_number : List ℕ → Option (List ℕ)
sequence_number text = only_if (is_sequence text) text

-- 1 to 256 characters
abbrev pub partition_key : List ℕ → Option (List ℕ)
partition_key text = only_if (is_between 1 256 (char_count text)) text

-- standard padded base64 of at most 1,048,576 bytes
abbrev pub payload_within : Option (List ℕ) → Option (List ℕ)
payload_within None = None
payload_within (Some bytes) = only_if (nat_le (length bytes) MAX_DATA) bytes

abbrev pub payload : List ℕ → Option (List ℕ)
payload text = payload_within (result_ok (decode_of standard text))

-- milliseconds, written without fraction and exponent
abbrev pub moment_within : Option ℕ → Option ℕ
moment_within None = None
moment_within (Some n) = only_if (nat_le n MAX_MOMENT) n

abbrev pub moment : Data → Option ℕ
moment value = moment_within (option_and_then as_u64 (as_number value))

abbrev pub message_id : List ℕ → Option (List ℕ)
message_id text = only_if (is_message_id text) text

abbrev pub message_body : List ℕ → Option (List ℕ)
message_body text = only_if (is_message_body text) text

abbrev pub message_group : List ℕ → Option (List ℕ)
message_group text = only_if (is_message_group text) text

abbrev pub of_text : {A : Type 0} → (List ℕ → Option A) → Data → Option A
of_text reading value = option_and_then reading (as_str value)

abbrev pub name_of : Field → List ℕ
name_of field.ShardId = codes "shardId"
name_of field.SequenceNumber = codes "sequenceNumber"
name_of field.PartitionKey = codes "partitionKey"
name_of field.Data = codes "data"
name_of field.ApproximateArrivalTimestamp = codes "approximateArrivalTimestamp"
name_of field.MessageId = codes "messageId"
name_of field.Body = codes "body"
name_of field.SentTimestamp = codes "sentTimestamp"
name_of field.MessageGroupId = codes "messageGroupId"

-- its index among the fields
abbrev pub slot_of : Field → ℕ
slot_of field.ShardId = 0
slot_of field.SequenceNumber = 1
slot_of field.PartitionKey = 2
slot_of field.Data = 3
slot_of field.ApproximateArrivalTimestamp = 4
slot_of field.MessageId = 5
slot_of field.Body = 6
slot_of field.SentTimestamp = 7
slot_of field.MessageGroupId = 8

-- what the field says, if it is there and its value is allowed
abbrev pub judged : {A : Type 0} → Field → (Data → Option A) → Option Data → Result A LineError
judged name reading None = Err (Missing name)
judged name reading (Some value) = ok_or (reading value) (BadField name)

abbrev pub field_of : {A : Type 0} → Field → (Data → Option A) → Data → Result A LineError
field_of name reading line = judged name reading (get (name_of name) line)

-- the record of a line, whose fields are judged in this order
abbrev pub record_of : Data → Result Record LineError
record_of line = do
  shard ← field_of field.ShardId (of_text shard_number) line
  seq ← field_of field.SequenceNumber (of_text sequence_number) line
  key ← field_of field.PartitionKey (of_text partition_key) line
  payload ← field_of field.Data (of_text payload) line
  arrival ← field_of field.ApproximateArrivalTimestamp moment line
  Ok (record { shard = shard; seq = seq; key = key; payload = payload; arrival = arrival })

abbrev pub some_group : Result (List ℕ) LineError → Result (Option (List ℕ)) LineError
some_group (Ok group) = Ok (Some group)
some_group (Err why) = Err why

-- a FIFO queue's message has a group; a standard queue's message has none, and the field is ignored
abbrev pub group_of : Bool → Data → Result (Option (List ℕ)) LineError
group_of true line = some_group (field_of field.MessageGroupId (of_text message_group) line)
group_of false line = Ok None

-- the message of a line, whose fields are judged in this order; `fifo` says that the queue is FIFO
abbrev pub message_of : Bool → Data → Result Message LineError
message_of fifo line = do
  id ← field_of field.MessageId (of_text message_id) line
  body ← field_of field.Body (of_text message_body) line
  sent ← field_of field.SentTimestamp moment line
  group ← group_of fifo line
  Ok (record { id = id; group = group; body = body; sent = sent })

-- the JSON object in the bytes, as UTF-8 text
abbrev pub only_object : Option Data → Option Data
only_object None = None
only_object (Some value) = only_if (is_some (as_object value)) value

abbrev pub object_of : List ℕ → Option Data
object_of bytes = only_object (if is_utf8 bytes then read bytes else None)

-- what the fields say of a line that is neither blank nor too long
abbrev pub line_of : {A : Type 0} → (Data → Result A LineError) → List ℕ → Result A LineError
line_of fields bytes = ok_or (object_of bytes) NotJson >>= fields
