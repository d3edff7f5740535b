-- Which records and messages pass the filter criteria. Source: the Lambda Developer Guide, event filtering for Kinesis
-- and SQS (which fields an event source has, and what becomes of data that is not JSON).
use Rattle.std.specs.Prelude.{ℕ, List, [], ◌∷◌, codes, Bool, true, false, ◌&&◌, ◌||◌, if◌then◌else◌, Option, Some, None, option_map, Ok, Err}
use Rattle.std.specs.List.{list_any}
use Rattle.std.specs.Str.{bytes_eq}
use Rattle.serde_json.specs.Data.{Data, null, boolean, number, string, array, object, Members, no_members}
use Rattle.serde_json.specs.Find.{get_member}
use Rattle.serde_json.specs.Read.{read}
use Rattle.esm_model.specs.Json.{read_json}
use Rattle.esm_model.specs.Pattern.{Rule, tests, nested, one_of, Fields, no_fields, field, Choices, no_choices, choice, Reads, read_pattern}
use Rattle.esm_model.specs.Leaves.{is_leaf, leaves, some_passes, tests_pass}
use Rattle.esm_model.specs.Records.{Record}
use Rattle.esm_model.specs.declared.item.Message.{Message}

-- ---- the object that is judged

-- What a field shows to a list of tests and to an object pattern. Where it shows nothing, the test or the pattern fails.
pub record Seen : Type 0 where
  pub leaves : Option (List Data)
  pub members : Option Members

-- the members of an object; another value, or none, counts as the empty object
abbrev pub members_in : Option Data → Members
members_in None = no_members
members_in (Some null) = no_members
members_in (Some (boolean b)) = no_members
members_in (Some (number n)) = no_members
members_in (Some (string s)) = no_members
members_in (Some (array ds)) = no_members
members_in (Some (object ms)) = ms

abbrev pub plain : Option Data → Seen
plain d = record { leaves = Some (leaves d); members = Some (members_in d) }

-- the fields of the object with these members
abbrev pub in_object : Members → List ℕ → Seen
in_object ms key = plain (get_member key ms)

-- the members of a JSON value, where there is one
abbrev pub json_members : Option Data → Option Members
json_members d = option_map (λ v. members_in (Some v)) d

abbrev pub record_field : Record → List ℕ → Option Data
record_field r key =
    if bytes_eq key (codes "kinesisSchemaVersion") then Some (string (codes "1.0"))
    else (if bytes_eq key (codes "partitionKey") then Some (string r.key) else (if bytes_eq key (codes "sequenceNumber") then Some (string r.seq) else None))

-- The fields of a stream's record. An object pattern sees its data as JSON; a list of tests sees nothing of it.
abbrev pub in_record : Record → Option Data → List ℕ → Seen
in_record r json key = if bytes_eq key (codes "data") then record { leaves = None; members = json_members json } else plain (record_field r key)

-- neither an object nor a list
abbrev pub is_text_body : Option Data → Bool
is_text_body None = true
is_text_body (Some d) = is_leaf d

abbrev pub message_text : Message → List ℕ → Option Data
message_text m key = if bytes_eq key (codes "messageId") then Some (string m.id) else None

-- The fields of a queue's message. An object pattern sees its body as JSON. A list of tests sees the body as text, unless it
-- is a JSON object or list.
abbrev pub in_message : Message → Option Data → List ℕ → Seen
in_message m json key =
    if bytes_eq key (codes "body") then record { leaves = if is_text_body json then Some (string m.body ∷ []) else None; members = json_members json }
    else plain (message_text m key)

-- ---- passing

abbrev mutual
  -- the field with this key meets its rule; `$or` is judged over the same object
  pub rule_passes : Rule → List ℕ → (List ℕ → Seen) → Bool
  rule_passes (tests ts) key found = some_passes (tests_pass ts) (found key).leaves
  rule_passes (nested fs) key found = some_passes (λ ms. fields_pass fs (in_object ms)) (found key).members
  rule_passes (one_of cs) key found = one_passes cs found

  -- an object pattern passes where every member does
  pub fields_pass : Fields → (List ℕ → Seen) → Bool
  fields_pass no_fields found = true
  fields_pass (field key r fs) found = rule_passes r key found && fields_pass fs found

  pub one_passes : Choices → (List ℕ → Seen) → Bool
  one_passes no_choices found = false
  one_passes (choice fs cs) found = fields_pass fs found || one_passes cs found

-- there are no patterns, or one of them passes
abbrev pub patterns_pass : List Fields → (List ℕ → Seen) → Bool
patterns_pass [] found = true
patterns_pass (p ∷ ps) found = list_any (λ fs. fields_pass fs found) (p ∷ ps)

abbrev pub read_passes : (List ℕ → Seen) → Reads Fields → Bool
read_passes found (Ok fs) = fields_pass fs found
read_passes found (Err e) = false

-- the texts of patterns: there are none, or one of them is a pattern that passes
abbrev pub texts_pass : Bool → List (List ℕ) → (List ℕ → Seen) → Bool
texts_pass for_stream [] found = true
texts_pass for_stream (t ∷ ts) found = list_any (λ text. read_passes found (read_pattern for_stream text)) (t ∷ ts)

unfoldable pub passes : List (List ℕ) → Record → Bool
passes texts r = texts_pass true texts (in_record r (read_json r.payload))

unfoldable pub passes_message : List (List ℕ) → Message → Bool
passes_message texts m = texts_pass false texts (in_message m (read m.body))
