-- The parts of an ARN. Source: the AWS General Reference, Amazon Resource Names
-- (`arn:partition:service:region:account-id:resource`).
use Rattle.std.specs.Prelude.{ℕ, ◌==◌, ◌&&◌, Bool, false, List, [], length, drop, codes, Option, Some, None, option_map, nat_eq, nat_lt, if◌then◌else◌}
use Rattle.std.specs.List.{after_first, before_first, ends_with, position_or_len, starts_with}
use Rattle.std.specs.Option.{option_or}
use Rattle.esm_model.specs.Valid.{is_account, is_label_byte, is_name_byte, is_queue_name, is_region, is_stream_byte, is_word}
use Rattle.esm_model.specs.declared.config.Kind.{Kind}
use Rattle.esm_model.specs.declared.config.Kind.TheVariants.{Stream, Standard, Fifo}
use Rattle.esm_config.specs.declared.sources.Sources.{Sources}
use Rattle.esm_config.specs.declared.sources.Sources.TheVariants.{KinesisOrSqs, DynamoDb}

-- what comes after the prefix, if the text begins with it
abbrev pub strip : List ℕ → List ℕ → Option (List ℕ)
strip prefix text = if starts_with nat_eq text prefix then Some (drop (length prefix) text) else None

abbrev pub is_colon : ℕ → Bool
is_colon b = b == 58

abbrev pub is_slash : ℕ → Bool
is_slash b = b == 47

-- what comes before and after the first byte that passes
abbrev pub cut_at : (ℕ → Bool) → List ℕ → Option (List ℕ × List ℕ)
cut_at passes text =
    if nat_lt (position_or_len passes text) (length text) then Some (before_first passes text, after_first passes text) else None

-- what comes before and after the first colon
abbrev pub cut : List ℕ → Option (List ℕ × List ℕ)
cut text = cut_at is_colon text

-- the parts of `PREFIX REGION:ACCOUNT:RESOURCE NAME`, written without the blanks
pub record Owned : Type 0 where
  pub region : List ℕ
  pub account : List ℕ
  pub name : List ℕ

abbrev pub owned_name : List ℕ → List ℕ → Option (List ℕ) → Option Owned
owned_name region account None = None
owned_name region account (Some name) = Some (record { region = region; account = account; name = name })

abbrev pub owned_account : List ℕ → List ℕ → Option (List ℕ × List ℕ) → Option Owned
owned_account resource region None = None
owned_account resource region (Some p) = owned_name region p.0 (strip resource p.1)

abbrev pub owned_region : List ℕ → Option (List ℕ × List ℕ) → Option Owned
owned_region resource None = None
owned_region resource (Some p) = owned_account resource p.0 (cut p.1)

abbrev pub owned_rest : List ℕ → Option (List ℕ) → Option Owned
owned_rest resource None = None
owned_rest resource (Some rest) = owned_region resource (cut rest)

abbrev pub owned : List ℕ → List ℕ → List ℕ → Option Owned
owned prefix resource text = owned_rest resource (strip prefix text)

-- the kind of a queue by its name, which ends in `.fifo` if it is a FIFO queue's
abbrev pub queue_kind : List ℕ → Kind
queue_kind name = if ends_with nat_eq name (codes ".fifo") then Fifo else Standard

-- the parts are those of the ARN of a Kinesis stream, an SQS queue, a Lambda function
abbrev pub is_stream : Owned → Bool
is_stream o = is_region o.region && (is_account o.account && is_word is_stream_byte 1 128 o.name)

abbrev pub is_queue : Owned → Bool
is_queue o = is_region o.region && (is_account o.account && is_queue_name (queue_kind o.name) o.name)

abbrev pub is_function : Owned → Bool
is_function o = is_region o.region && (is_account o.account && is_word is_name_byte 1 64 o.name)

abbrev pub is_label : Option (List ℕ) → Bool
is_label None = false
is_label (Some label) = is_word is_label_byte 1 64 label

-- a table's path: NAME, a slash, and `stream/LABEL`
abbrev pub is_table_path : Option (List ℕ × List ℕ) → Bool
is_table_path None = false
is_table_path (Some p) = is_word is_stream_byte 3 255 p.0 && is_label (strip (codes "stream/") p.1)

-- the parts are those of the ARN of a DynamoDB table's stream, whose name here is `NAME/stream/LABEL`
abbrev pub is_table : Owned → Bool
is_table o = is_region o.region && (is_account o.account && is_table_path (cut_at is_slash o.name))

-- the value, if there is one and it passes
abbrev pub kept : {A : Type 0} → (A → Bool) → Option A → Option A
kept passes None = None
kept passes (Some x) = if passes x then Some x else None

abbrev pub stream_of : List ℕ → Option Owned
stream_of text = kept is_stream (owned (codes "arn:aws:kinesis:") (codes "stream/") text)

abbrev pub queue_of : List ℕ → Option Owned
queue_of text = kept is_queue (owned (codes "arn:aws:sqs:") [] text)

abbrev pub table_of : List ℕ → Option Owned
table_of text = kept is_table (owned (codes "arn:aws:dynamodb:") (codes "table/") text)

abbrev pub function_arn_of : List ℕ → Option Owned
function_arn_of text = kept is_function (owned (codes "arn:aws:lambda:") (codes "function:") text)

-- the source of a mapping: its ARN, the kind that the ARN names, and the ARN's parts
pub record Source : Type 0 where
  pub arn : List ℕ
  pub kind : Kind
  pub parts : Owned

abbrev pub stream_source : List ℕ → Owned → Source
stream_source text o = record { arn = text; kind = Stream; parts = o }

abbrev pub queue_source : List ℕ → Owned → Source
queue_source text o = record { arn = text; kind = queue_kind o.name; parts = o }

-- a Kinesis stream, or an SQS queue
abbrev pub source_of : List ℕ → Option Source
source_of text = option_or (option_map (stream_source text) (stream_of text)) (option_map (queue_source text) (queue_of text))

-- the source, if it is among those that a table of fields reads
abbrev pub source_among : Sources → (List ℕ → Option Source)
source_among KinesisOrSqs = source_of
source_among DynamoDb = λ text. option_map (stream_source text) (table_of text)
