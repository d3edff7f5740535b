-- The line of a stream's input that a line of a DynamoDB stream is turned into. This product's own, except the line's
-- fields, which are those of a record of a Kinesis stream (the Kinesis API Reference, `Record`).
use Rattle.std.specs.Prelude.{ℕ, nat_lt, List, [], ◌++◌, codes, length, Option, Result, Ok, Err, if◌then◌else◌}
use Rattle.std.specs.Option.{ok_or}
use Rattle.serde_json.specs.Data.{Data}
use Rattle.md5.specs.Md5.{md5}
use Rattle.esm_model.specs.Records.{Record}
use Rattle.esm_model.specs.declared.limits.TheConstants.{MAX_DATA, MAX_LINE}
use Rattle.esm_model.specs.EventText.{base64_text, shard_id}
use Rattle.esm_model.specs.Json.{read_json}
use Rattle.esm_model.specs.Numbers.{decimal}
use Rattle.esm_model.specs.QueueEvent.{hexadecimal}
use Rattle.esm_record.specs.Input.{is_blank}
use Rattle.esm_record.specs.Line.{only_object}
use Rattle.esm_ddb.specs.Change.{◌>>=◌, Change, StreamRecord, change_of}
use Rattle.esm_ddb.specs.Element.{element}
use Rattle.esm_ddb.specs.ItemText.{value_text}
use Rattle.esm_ddb.specs.declared.error.DdbError.{DdbError}
use Rattle.esm_ddb.specs.declared.error.DdbError.TheVariants.{BadField, LineTooLong, NotJson}
use Rattle.esm_ddb.specs.declared.error.DdbField.TheVariants.{Dynamodb}
use Rattle.esm_ddb.specs.declared.source.Source.{Source}

-- all changes of one item have the same partition key
abbrev pub partition_key : StreamRecord → List ℕ
partition_key r = hexadecimal (md5 (value_text r.keys))

abbrev pub turned_record : Source → Change → Record
turned_record s c = record { shard = c.shard; seq = c.item.seq; key = partition_key c.item; payload = element s c; arrival = c.arrival }

-- shard and sequence number of the record's line
abbrev pub place_part : ℕ → List ℕ → List ℕ
place_part shard seq = codes "{\"shardId\":\"" ++ shard_id shard ++ codes "\",\"sequenceNumber\":\"" ++ seq

-- partition key, data and moment of arrival of the record's line
abbrev pub content_part : List ℕ → List ℕ → ℕ → List ℕ
content_part key payload arrival =
    codes "\",\"partitionKey\":\"" ++ key
    ++ codes "\",\"data\":\"" ++ base64_text payload
    ++ codes "\",\"approximateArrivalTimestamp\":" ++ decimal arrival ++ codes "}"

-- the line of a record; its texts need no escape
unfoldable pub record_line : Record → List ℕ
record_line r = place_part r.shard r.seq ++ content_part r.key r.payload r.arrival

-- refused if the element is longer than a record's data may be
abbrev pub turned_change : Source → Change → Result (List ℕ) DdbError
turned_change s c = if nat_lt MAX_DATA (length (element s c)) then Err (BadField Dynamodb) else Ok (record_line (turned_record s c))

-- the record's line for a value that is an object
abbrev pub turned_value : Source → Option Data → Result (List ℕ) DdbError
turned_value s value = (ok_or (only_object value) NotJson >>= change_of) >>= turned_change s

-- for a line that is neither blank nor too long
abbrev pub turned_object : Source → List ℕ → Result (List ℕ) DdbError
turned_object s line = turned_value s (read_json line)

-- for a line without its line feed: nothing if it is blank, its record's line, or why it is refused
abbrev pub turned : Source → List ℕ → Result (List ℕ) DdbError
turned s line =
    if nat_lt MAX_LINE (length line) then Err LineTooLong
    else (if is_blank line then Ok [] else turned_object s line)
