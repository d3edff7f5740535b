-- Which records, messages and configurations are valid. Sources: the Kinesis and SQS API references for records and
-- messages; `CreateEventSourceMapping` of the Lambda API reference for a mapping's fields.
use Rattle.std.specs.Prelude.{◌≡◌, ℕ, ◌-◌, ◌/◌, ◌%◌, ◌==◌, nat_eq, nat_lt, nat_le, ◌≤◌, Bool, true, false, ◌&&◌, ◌||◌, List, ◌++◌, length, take, filter, Option, Some, None, codes, ◌⊎◌}
use Rattle.std.specs.List.{list_all, starts_with, ends_with}
use Rattle.std.specs.Char.{is_ascii_digit}
use Rattle.esm_model.specs.declared.moment.TheConstants.{MAX_MOMENT}
use Rattle.esm_model.specs.declared.limits.TheConstants.{MAX_SHARD, MAX_DATA, MAX_KEY, MAX_BATCH, MAX_FILTERS, MAX_RETRIES}
use Rattle.esm_model.specs.Sequence.{is_sequence}
use Rattle.esm_model.specs.declared.config.Kind.{Kind}
use Rattle.esm_model.specs.declared.config.Kind.TheVariants.{Stream, Standard, Fifo}
use Rattle.esm_model.specs.declared.config.Start.{Start}
use Rattle.esm_model.specs.declared.config.Start.TheVariants.{TrimHorizon, At}
use Rattle.esm_model.specs.declared.config.Config.{Config}
use Rattle.esm_model.specs.Records.{Record}

-- characters

abbrev pub is_between : ℕ → ℕ → ℕ → Bool
is_between low high b = nat_le low b && nat_le b high

abbrev pub is_lower : ℕ → Bool
is_lower b = is_between 97 122 b

abbrev pub is_letter : ℕ → Bool
is_letter b = is_between 65 90 b || is_lower b

-- a byte that begins a character of UTF-8
abbrev pub begins_char : ℕ → Bool
begins_char b = nat_lt b 128 || nat_le 192 b

-- the number of characters of a UTF-8 text
abbrev pub char_count : List ℕ → ℕ
char_count text = length (filter begins_char text)

-- letters, digits, `-` and `_`
abbrev pub is_name_byte : ℕ → Bool
is_name_byte b = is_letter b || is_ascii_digit b || (b == 45) || (b == 95)

abbrev pub is_stream_byte : ℕ → Bool
is_stream_byte b = is_name_byte b || (b == 46)

abbrev pub is_region_byte : ℕ → Bool
is_region_byte b = is_lower b || is_ascii_digit b || (b == 45)

-- from `low` to `high` bytes, each of which passes
abbrev pub is_word : (ℕ → Bool) → ℕ → ℕ → List ℕ → Bool
is_word passes low high text = is_between low high (length text) && list_all passes text

-- items

pub record IsValidRecord (r : Record) : Type 0 where
  pub shard : r.shard ≤ MAX_SHARD
  pub seq : is_sequence r.seq ≡ true
  pub key : is_between 1 MAX_KEY (char_count r.key) ≡ true
  pub payload : length r.payload ≤ MAX_DATA
  pub arrival : r.arrival ≤ MAX_MOMENT

-- sources and functions

-- `arn:aws:SERVICE:REGION:ACCOUNT:` and the resource
abbrev pub arn_of : List ℕ → List ℕ → List ℕ → List ℕ → List ℕ
arn_of service region account resource = codes "arn:aws:" ++ service ++ codes ":" ++ region ++ codes ":" ++ account ++ codes ":" ++ resource

abbrev pub IsKinesisSource : List ℕ → List ℕ → List ℕ → Type 0
IsKinesisSource region account arn =
    (name : List ℕ) × (is_word is_stream_byte 1 128 name ≡ true) × (arn ≡ arn_of (codes "kinesis") region account (codes "stream/" ++ name))

abbrev pub is_label_byte : ℕ → Bool
is_label_byte b = is_stream_byte b || (b == 58)

-- the ARN of a DynamoDB table's stream
abbrev pub IsTableSource : List ℕ → List ℕ → List ℕ → Type 0
IsTableSource region account arn =
    (name label : List ℕ)
    × (is_word is_stream_byte 3 255 name ≡ true)
    × (is_word is_label_byte 1 64 label ≡ true)
    × (arn ≡ arn_of (codes "dynamodb") region account (codes "table/" ++ name ++ codes "/stream/" ++ label))

-- the name of a queue, at most 80 characters; a FIFO queue's ends in `.fifo`, which counts
abbrev pub is_queue_name : Kind → List ℕ → Bool
is_queue_name Stream name = false
is_queue_name Standard name = is_word is_name_byte 1 80 name
is_queue_name Fifo name = ends_with nat_eq name (codes ".fifo") && is_word is_name_byte 1 75 (take (length name - 5) name)

abbrev pub IsQueueSource : Kind → List ℕ → List ℕ → List ℕ → Type 0
IsQueueSource kind region account arn =
    (name : List ℕ) × (is_queue_name kind name ≡ true) × (arn ≡ arn_of (codes "sqs") region account name)

abbrev pub IsSource : Kind → List ℕ → List ℕ → List ℕ → Type 0
IsSource Stream region account arn = IsKinesisSource region account arn ⊎ IsTableSource region account arn
IsSource Standard region account arn = IsQueueSource Standard region account arn
IsSource Fifo region account arn = IsQueueSource Fifo region account arn

abbrev pub is_region : List ℕ → Bool
is_region text = is_word is_region_byte 1 32 text

abbrev pub is_account : List ℕ → Bool
is_account text = is_word is_ascii_digit 12 12 text

-- the ARN of a function with this plain name
abbrev pub IsFunctionArn : List ℕ → List ℕ → Type 0
IsFunctionArn name arn =
    (region account : List ℕ)
    × (is_region region ≡ true) × (is_account account ≡ true)
    × (arn ≡ arn_of (codes "lambda") region account (codes "function:" ++ name))

-- configurations

abbrev pub is_stream : Kind → Bool
is_stream Stream = true
is_stream _ = false

-- whole seconds, from `low` to `high`, as milliseconds
abbrev pub is_seconds : ℕ → ℕ → ℕ → Bool
is_seconds low high ms = (ms % 1000 == 0) && is_between low high (ms / 1000)

abbrev pub is_batch_size : Kind → ℕ → Bool
is_batch_size Fifo n = is_between 1 10 n
is_batch_size _ n = is_between 1 MAX_BATCH n

-- a FIFO queue has no batching window; a standard queue's batch above 10 needs one
abbrev pub is_window : Kind → ℕ → ℕ → Bool
is_window Stream size ms = is_seconds 0 300 ms
is_window Standard size ms = is_seconds 0 300 ms && (nat_le size 10 || nat_lt 0 ms)
is_window Fifo size ms = ms == 0

-- the value passes if it is there
abbrev pub none_or : (ℕ → Bool) → Option ℕ → Bool
none_or passes None = true
none_or passes (Some n) = passes n

abbrev pub is_start : Start → Bool
is_start (At ms) = is_seconds 0 253402300799 ms
is_start _ = true

abbrev pub is_destination : Option (List ℕ) → Bool
is_destination None = true
is_destination (Some text) = starts_with nat_eq text (codes "arn:aws:sqs:") && nat_le (length text) 350

-- a stream's mapping: the fields that only it has, and no concurrency
pub record HasStreamFields (c : Config) : Type 0 where
  pub factor : is_between 1 10 c.factor ≡ true
  pub retries : none_or (λ n. nat_le n MAX_RETRIES) c.retries ≡ true
  pub age : none_or (is_seconds 60 604800) c.age_ms ≡ true
  pub tumbling : is_seconds 0 900 c.tumbling_ms ≡ true
  pub one_lane : ((c.tumbling_ms == 0) || (c.factor == 1)) ≡ true
  pub start : is_start c.start ≡ true
  pub destination : is_destination c.destination ≡ true
  pub concurrency : c.concurrency ≡ None

-- a queue's mapping has none of those fields, and may have a maximum concurrency
pub record HasQueueFields (c : Config) : Type 0 where
  pub factor : c.factor ≡ 1
  pub retries : c.retries ≡ None
  pub age : c.age_ms ≡ None
  pub bisect : c.bisect ≡ false
  pub tumbling : c.tumbling_ms ≡ 0
  pub start : c.start ≡ TrimHorizon
  pub destination : c.destination ≡ None
  pub concurrency : none_or (is_between 2 1000) c.concurrency ≡ true

abbrev pub HasFieldsOf : Kind → Config → Type 0
HasFieldsOf Stream c = HasStreamFields c
HasFieldsOf Standard c = HasQueueFields c
HasFieldsOf Fifo c = HasQueueFields c

-- each field of the configuration is within the bounds of its kind
pub record IsValidConfig (c : Config) : Type 0 where
  pub region : is_region c.region ≡ true
  pub account : is_account c.account ≡ true
  pub source : IsSource c.kind c.region c.account c.source_arn
  pub function : is_word is_name_byte 1 64 c.function ≡ true
  pub function_arn : IsFunctionArn c.function c.function_arn
  pub batch_size : is_batch_size c.kind c.batch_size ≡ true
  pub window : is_window c.kind c.batch_size c.window_ms ≡ true
  pub filters : length c.filters ≤ MAX_FILTERS
  pub fields : HasFieldsOf c.kind c

-- the valid configuration of a stream's mapping
pub record IsStreamConfig (c : Config) : Type 0 where
  pub kind : c.kind ≡ Stream
  pub valid : IsValidConfig c
