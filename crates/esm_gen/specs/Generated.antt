-- The generated stream: its records, their lines of JSON, and its mapping. This product's own, except for the fields of a
-- line, which are those of a record of a stream (the Kinesis API Reference, `Record`).
use Rattle.std.specs.Prelude.{ℕ, ◌+◌, ◌%◌, true, false, List, [], ◌∷◌, ◌++◌, map, codes, Some, None}
use Rattle.std.specs.List.{flat_map}
use Rattle.esm_model.specs.declared.config.Config.{Config}
use Rattle.esm_model.specs.declared.config.Kind.TheVariants.{Stream}
use Rattle.esm_model.specs.declared.config.Start.TheVariants.{TrimHorizon}
use Rattle.esm_model.specs.Records.{Record}
use Rattle.esm_model.specs.EventText.{shard_id, base64_text}
use Rattle.esm_model.specs.Fates.{below}
use Rattle.esm_model.specs.Numbers.{decimal}

-- the data of the record with this number: a JSON object whose `n` is the number's last digit
abbrev pub generated_data : ℕ → List ℕ
generated_data i = codes "{\"n\":" ++ decimal (i % 10) ++ codes "}"

-- the record with this number, counted from 0: the two shards take turns, each of fifty keys comes once in fifty records,
-- and one record arrives each millisecond
abbrev pub generated_record : ℕ → Record
generated_record i = record { shard = i % 2; seq = decimal (i + 1); key = codes "k" ++ decimal (i % 50); payload = generated_data i; arrival = i }

-- the first n records of a generated stream, in order
abbrev pub generated_records : ℕ → List Record
generated_records n = map generated_record (below n)

-- shard and sequence number of a line
abbrev pub place_part : Record → List ℕ
place_part r = codes "{\"shardId\":\"" ++ shard_id r.shard ++ codes "\",\"sequenceNumber\":\"" ++ r.seq

-- partition key, data and moment of arrival of a line
abbrev pub content_part : Record → List ℕ
content_part r =
    codes "\",\"partitionKey\":\"" ++ r.key
    ++ codes "\",\"data\":\"" ++ base64_text r.payload
    ++ codes "\",\"approximateArrivalTimestamp\":" ++ decimal r.arrival ++ codes "}\n"

-- the line of this record, none of whose texts needs an escape
unfoldable pub input_line : Record → List ℕ
input_line r = place_part r ++ content_part r

-- the input that has the first n records
abbrev pub generated_lines : ℕ → List ℕ
generated_lines n = flat_map input_line (generated_records n)

-- the filters of its mapping: they pass records whose data has an `n` below 8, and those of one key
abbrev pub generated_filters : List (List ℕ)
generated_filters = codes "{\"data\":{\"n\":[{\"numeric\":[\"<\",8]}]}}" ∷ codes "{\"partitionKey\":[\"k49\"]}" ∷ []

-- its mapping: ten lanes for each shard, batches of a hundred, halving of failed batches, three retries, and a greatest age
-- of an hour
abbrev pub generated_mapping : Config
generated_mapping = record {
  source_arn = codes "arn:aws:kinesis:us-east-1:123456789012:stream/s";
  function = codes "f";
  function_arn = codes "arn:aws:lambda:us-east-1:123456789012:function:f";
  region = codes "us-east-1";
  account = codes "123456789012";
  kind = Stream;
  batch_size = 100;
  window_ms = 0;
  factor = 10;
  retries = Some 3;
  age_ms = Some 3600000;
  bisect = true;
  item_failures = false;
  tumbling_ms = 0;
  start = TrimHorizon;
  destination = None;
  filters = generated_filters;
  concurrency = None;
  enabled = true;
}

-- its function fails if the event holds a record of this key
abbrev pub poisoned_key : List ℕ
poisoned_key = codes "\"partitionKey\":\"k49\""
