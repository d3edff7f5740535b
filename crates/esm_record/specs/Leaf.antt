-- What the fields of a line use of an object's members. Only this crate's proofs cite this.
use Rattle.std.specs.Prelude.{◌≡◌, ℕ, Bool, true, false, List, [], ◌∷◌, length, get_or, Option, Some, None, option_map, option_and_then, MatchResult, Result, Ok, Err}
use Rattle.std.specs.Bool.{MatchBool}
use Rattle.std.specs.Option.{ok_or}
use Rattle.json.specs.Token.{Token}
use Rattle.json.specs.Token as token
use Rattle.json.specs.Json.{value, items, members}
use Rattle.serde_json.specs.Data.{Data, object, Items, Members, no_members}
use Rattle.serde_json.specs.Find.{get_member, as_str, as_number, as_u64}
use Rattle.serde_json.specs.Read.{of_json, of_items, of_members, converted}
use Rattle.esm_model.specs.Records.{Record}
use Rattle.esm_model.specs.declared.item.Message.{Message}
use Rattle.esm_record.specs.declared.error.Field.{Field}
use Rattle.esm_record.specs.declared.error.Field.TheVariants as field
use Rattle.esm_record.specs.declared.error.LineError.{LineError}
use Rattle.esm_record.specs.declared.error.LineError.TheVariants.{NotJson, Missing, BadField}
use Rattle.esm_record.specs.declared.error.Refusal.{Refusal}
use Rattle.esm_record.specs.declared.object.Leaf.{Leaf}
use Rattle.esm_record.specs.declared.object.Leaf.TheVariants as leaf
use Rattle.esm_record.specs.declared.object.Found.{Found}
use Rattle.esm_record.specs.Gives.{Fails}
use Rattle.esm_record.specs.Line.{◌>>=◌, name_of, slot_of, only_object, object_of, shard_number, sequence_number, partition_key, payload, moment_within, message_id, message_body, message_group, some_group}

abbrev pub text_in : Leaf → Option (List ℕ)
text_in (leaf.Text s) = Some s.now
text_in (leaf.Plain p) = Some p.bytes.now
text_in (leaf.Whole n) = None
text_in leaf.Other = None

-- a number without sign, fraction and exponent
abbrev pub whole_in : Leaf → Option ℕ
whole_in (leaf.Text s) = None
whole_in (leaf.Plain p) = None
whole_in (leaf.Whole n) = Some n
whole_in leaf.Other = None

abbrev pub whole_of : Data → Option ℕ
whole_of d = option_and_then as_u64 (as_number d)

pub record IsLeafOf (d : Data) (l : Leaf) : Type 0 where
  pub text : as_str d ≡ text_in l
  pub whole : whole_of d ≡ whole_in l

-- the tokens begin with a value that has this leaf
pub record ReadsLeaf (depth : ℕ) (old : List Token) (l : Leaf) (new : List Token) : Type 0 where
  pub data_read : Data
  pub reads : converted of_json (value depth old) ≡ Some (data_read, new)
  pub is : IsLeafOf data_read l

-- the tokens begin with items, or members, and the bracket that closes them
pub record PassesItems (depth : ℕ) (old new : List Token) : Type 0 where
  pub found : Items
  pub reads : converted of_items (items (value depth) (length old) old) ≡ Some (found, new)

pub record PassesMembers (depth : ℕ) (old new : List Token) : Type 0 where
  pub found : Members
  pub reads : converted (λ ms. of_members ms no_members) (members (value depth) (length old) old) ≡ Some (found, new)

abbrev pub opens_object : List Token → Bool
opens_object [] = false
opens_object (token.begin_object ∷ ts) = true
opens_object (token.end_object ∷ ts) = false
opens_object (token.begin_array ∷ ts) = false
opens_object (token.end_array ∷ ts) = false
opens_object (token.key s ∷ ts) = false
opens_object (token.string s ∷ ts) = false
opens_object (token.number s ∷ ts) = false
opens_object (token.boolean b ∷ ts) = false
opens_object (token.null ∷ ts) = false
opens_object (token.bad ∷ ts) = false

abbrev pub leaf_at : Field → Found → Option Leaf
leaf_at f found = get_or found.leaves (slot_of f) None

-- the member, if there is one, has this leaf
pub record IsFound (member : Option Data) (l : Option Leaf) : Type 0 where
  pub text : option_map as_str member ≡ option_map text_in l
  pub whole : option_map whole_of member ≡ option_map whole_in l

-- the members with the names of fields have these leaves
abbrev pub AreFound : Members → Found → Type 0
AreFound ms found = (f : Field) → IsFound (get_member (name_of f) ms) (leaf_at f found)

-- the tokens begin with members that have these leaves, and the brace that closes them
pub record ReadsMembers (depth : ℕ) (old : List Token) (found : Found) (new : List Token) : Type 0 where
  pub members_read : Members
  pub reads : converted (λ ms. of_members ms no_members) (members (value depth) (length old) old) ≡ Some (members_read, new)
  pub are : AreFound members_read found

-- an object whose members have these leaves, or no object
abbrev pub IsObjectRead : Option Data → Bool → Found → Type 0
IsObjectRead d is found = MatchBool is ((ms : Members) × (d ≡ Some (object ms)) × AreFound ms found) (only_object d ≡ None)

-- the members of the line's object, or why the line is no object
abbrev pub IsObjectOf : List ℕ → Result (Unit {0}) Refusal → Found → Type 0
IsObjectOf line r found = MatchResult r (λ _. (ms : Members) × (object_of line ≡ Some (object ms)) × AreFound ms found) (λ e. Fails e (ok_or (object_of line) NotJson))

abbrev pub field_in : {A : Type 0} → Field → (Leaf → Option A) → Option Leaf → Result A LineError
field_in name reading None = Err (Missing name)
field_in name reading (Some l) = ok_or (reading l) (BadField name)

abbrev pub of_text_in : {A : Type 0} → (List ℕ → Option A) → Leaf → Option A
of_text_in reading l = option_and_then reading (text_in l)

abbrev pub moment_in : Leaf → Option ℕ
moment_in l = moment_within (whole_in l)

-- the record, whose fields are judged in this order
abbrev pub record_in : Found → Result Record LineError
record_in f = do
  shard ← field_in field.ShardId (of_text_in shard_number) (leaf_at field.ShardId f)
  seq ← field_in field.SequenceNumber (of_text_in sequence_number) (leaf_at field.SequenceNumber f)
  key ← field_in field.PartitionKey (of_text_in partition_key) (leaf_at field.PartitionKey f)
  payload ← field_in field.Data (of_text_in payload) (leaf_at field.Data f)
  arrival ← field_in field.ApproximateArrivalTimestamp moment_in (leaf_at field.ApproximateArrivalTimestamp f)
  Ok (record { shard = shard; seq = seq; key = key; payload = payload; arrival = arrival })

abbrev pub group_in : Bool → Found → Result (Option (List ℕ)) LineError
group_in true f = some_group (field_in field.MessageGroupId (of_text_in message_group) (leaf_at field.MessageGroupId f))
group_in false f = Ok None

abbrev pub message_in : Bool → Found → Result Message LineError
message_in fifo f = do
  id ← field_in field.MessageId (of_text_in message_id) (leaf_at field.MessageId f)
  body ← field_in field.Body (of_text_in message_body) (leaf_at field.Body f)
  sent ← field_in field.SentTimestamp moment_in (leaf_at field.SentTimestamp f)
  group ← group_in fifo f
  Ok (record { id = id; group = group; body = body; sent = sent })
