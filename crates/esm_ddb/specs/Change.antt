-- The change of an item that a line of a DynamoDB stream states, and why a line states none. Sources: the Amazon DynamoDB
-- API Reference, `Record` (`eventID`, `eventName`) and `StreamRecord`. That a line has a change with its shard and its
-- moment of arrival, as a record of a Kinesis stream has, is this product's own.
use Rattle.std.specs.Prelude.{ℕ, ◌^◌, nat_le, List, Bool, ◌||◌, codes, Option, Some, None, option_and_then, option_map, Result, Ok, Err}
use Rattle.std.specs.Option.{ok_or}
use Rattle.std.specs.Str.{bytes_eq}
use Rattle.serde_json.specs.Data.{Data}
use Rattle.serde_json.specs.Find.{get, as_number, as_object, as_u64}
use Rattle.esm_model.specs.Valid.{is_between, is_word}
use Rattle.esm_record.specs.Line.{moment, of_text, only_if, sequence_number, shard_number}
use Rattle.esm_ddb.specs.Attribute.{are_keys, is_item}
use Rattle.esm_ddb.specs.declared.error.DdbError.{DdbError}
use Rattle.esm_ddb.specs.declared.error.DdbError.TheVariants.{Missing, BadField}
use Rattle.esm_ddb.specs.declared.error.DdbField.{DdbField}
use Rattle.esm_ddb.specs.declared.error.DdbField.TheVariants as field

-- what the table's stream says of the item: the member `dynamodb`
pub record StreamRecord : Type 0 where
  pub keys : Data
  pub new_image : Option Data
  pub old_image : Option Data
  pub seq : List ℕ
  -- in bytes
  pub size : ℕ
  pub view : List ℕ

pub record Change : Type 0 where
  pub shard : ℕ
  pub arrival : ℕ
  pub id : List ℕ
  pub name : List ℕ
  pub item : StreamRecord

-- values

abbrev pub is_visible : ℕ → Bool
is_visible b = is_between 33 126 b

-- 1 to 100 visible ASCII characters
abbrev pub event_id : List ℕ → Option (List ℕ)
event_id text = only_if (is_word is_visible 1 100 text) text

abbrev pub is_event_name : List ℕ → Bool
is_event_name text = bytes_eq text (codes "INSERT") || (bytes_eq text (codes "MODIFY") || bytes_eq text (codes "REMOVE"))

abbrev pub event_name : List ℕ → Option (List ℕ)
event_name text = only_if (is_event_name text) text

abbrev pub is_view_type : List ℕ → Bool
is_view_type text =
    bytes_eq text (codes "KEYS_ONLY") || (bytes_eq text (codes "NEW_IMAGE") || (bytes_eq text (codes "OLD_IMAGE") || bytes_eq text (codes "NEW_AND_OLD_IMAGES")))

abbrev pub view_type : List ℕ → Option (List ℕ)
view_type text = only_if (is_view_type text) text

abbrev pub keys_of : Data → Option Data
keys_of d = option_and_then (λ ms. only_if (are_keys ms) d) (as_object d)

abbrev pub item_of : Data → Option Data
item_of d = option_and_then (λ ms. only_if (is_item ms) d) (as_object d)

-- an image may be absent
abbrev pub image_of : Option Data → Option (Option Data)
image_of None = Some None
image_of (Some d) = option_map Some (item_of d)

abbrev pub max_size : ℕ
max_size = 2 ^ 53

abbrev pub size_within : Option ℕ → Option ℕ
size_within None = None
size_within (Some n) = only_if (nat_le n max_size) n

abbrev pub size_of : Data → Option ℕ
size_of d = size_within (option_and_then as_u64 (as_number d))

-- what the member `dynamodb` says; it is refused as a whole if one of its fields is bad
abbrev pub stream_record : Data → Option StreamRecord
stream_record d =
    option_and_then (λ keys.
    option_and_then (λ new_image.
    option_and_then (λ old_image.
    option_and_then (λ seq.
    option_and_then (λ size.
    option_map (λ view. record { keys = keys; new_image = new_image; old_image = old_image; seq = seq; size = size; view = view })
    (option_and_then (of_text view_type) (get (codes "StreamViewType") d)))
    (option_and_then size_of (get (codes "SizeBytes") d)))
    (option_and_then (of_text sequence_number) (get (codes "SequenceNumber") d)))
    (image_of (get (codes "OldImage") d)))
    (image_of (get (codes "NewImage") d)))
    (option_and_then keys_of (get (codes "Keys") d))

-- fields

abbrev pub name_of : DdbField → List ℕ
name_of field.ShardId = codes "shardId"
name_of field.ApproximateArrivalTimestamp = codes "approximateArrivalTimestamp"
name_of field.EventId = codes "eventID"
name_of field.EventName = codes "eventName"
name_of field.Dynamodb = codes "dynamodb"

-- one reading after another; the first refusal ends them
infixl 10 ◌>>=◌
abbrev pub ◌>>=◌ : {A B : Type 0} → Result A DdbError → (A → Result B DdbError) → Result B DdbError
(Ok x) >>= f = f x
(Err e) >>= f = Err e

-- the field's value: the field is present, and its value is valid
abbrev pub judged : {A : Type 0} → DdbField → (Data → Option A) → Option Data → Result A DdbError
judged name reading None = Err (Missing name)
judged name reading (Some value) = ok_or (reading value) (BadField name)

abbrev pub field_of : {A : Type 0} → DdbField → (Data → Option A) → Data → Result A DdbError
field_of name reading line = judged name reading (get (name_of name) line)

-- the fields are judged in this order, and the first bad one is named
abbrev pub change_of : Data → Result Change DdbError
change_of line = do
  shard ← field_of field.ShardId (of_text shard_number) line
  arrival ← field_of field.ApproximateArrivalTimestamp moment line
  id ← field_of field.EventId (of_text event_id) line
  name ← field_of field.EventName (of_text event_name) line
  item ← field_of field.Dynamodb stream_record line
  Ok (record { shard = shard; arrival = arrival; id = id; name = name; item = item })
