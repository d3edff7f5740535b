-- The event of a DynamoDB stream's records. Sources: the Lambda Developer Guide, "Using Lambda with DynamoDB" (the
-- elements of `Records`); RFC 8259, sections 2 to 5 (values and the white space around them). That the records of a
-- stream's event carry these elements as their data is this product's own.
use Rattle.std.specs.Prelude.{ℕ, ◌+◌, ◌-◌, List, [], ◌∷◌, ◌++◌, drop, get_or, slice_range, codes, if◌then◌else◌, is_some, Option, Some, None, option_map, option_and_then}
use Rattle.std.specs.Option.{option_or}
use Rattle.std.specs.Result.{result_ok}
use Rattle.std.specs.Str.{bytes_eq}
use Rattle.base64.specs.Engines.{standard}
use Rattle.base64.specs.GeneralPurpose.{decode_of}
use Rattle.json.specs.Lex.{tokens}
use Rattle.json.specs.Token.{Token}
use Rattle.json.specs.Json.{Json, Items, no_items, item, Members, no_members, member, value}
use Rattle.json.specs.Find.{as_array, as_object, as_str, get}
use Rattle.serde_json.specs.Read.{max_depth}
use Rattle.esm_model.specs.Json.{read_json}
use Rattle.esm_model.specs.State.{places, size}
use Rattle.esm_ddb.specs.declared.elements.Element.{Element}

-- ---- the elements of `Records`

-- the bytes that `data` in an element's `kinesis` encodes in standard padded base64; if an object has a name twice, the
-- last value counts
abbrev pub data_of : Json → Option (List ℕ)
data_of j = option_and_then as_str (option_and_then (get (codes "data")) (get (codes "kinesis") j))

abbrev pub payload_of : Json → Option (List ℕ)
payload_of j = option_and_then (λ text. result_ok (decode_of standard text)) (data_of j)

-- `places` has where each lexeme of the text begins. The element's first lexeme is its opening brace, its last the
-- closing brace.
abbrev pub element_at : List ℕ → ℕ → Json → List ℕ → Element
element_at places at j payload = record { first = get_or places at 0; end = get_or places (at + size j - 1) 0 + 1; payload = payload }

-- The elements of a list, the first of which begins with lexeme number `at`; `None` if one has no such data. A comma
-- follows each but the last.
abbrev pub elements_at : List ℕ → ℕ → Items → Option (List Element)
elements_at places at no_items = Some []
elements_at places at (item j js) =
    option_and_then (λ payload. option_map (λ more. element_at places at j payload ∷ more) (elements_at places (at + size j + 1) js)) (payload_of j)

-- ---- the list in the event

-- The number of the first lexeme of the value of the last member with this name. The first member's key is lexeme number
-- `at`; a member is a key, a colon and a value, followed by a comma or a brace.
abbrev pub value_at : List ℕ → ℕ → Members → Option ℕ
value_at name at no_members = None
value_at name at (member k j ms) = option_or (value_at name (at + size j + 3) ms) (if bytes_eq k name then Some (at + 2) else None)

-- the list's first lexeme is its opening bracket; its elements begin behind it
abbrev pub list_elements : List ℕ → Option ℕ → Option Items → Option (List Element)
list_elements places None items = None
list_elements places (Some at) None = None
list_elements places (Some at) (Some items) = elements_at places (at + 1) items

-- the object's first lexeme is its opening brace; its members begin behind it
abbrev pub object_elements : List ℕ → Json → Option (List Element)
object_elements places j =
    option_and_then (λ members. list_elements places (value_at (codes "Records") 1 members) (option_and_then as_array (get (codes "Records") j))) (as_object j)

-- the JSON value at the beginning of the text
abbrev pub read_value : List ℕ → Option Json
read_value text = option_map (λ (p : Json × List Token). p.0) (value max_depth (tokens text))

-- the elements of a text that is an object whose `Records` is a list of such elements
abbrev pub read_elements : List ℕ → Option (List Element)
read_elements text = option_and_then (object_elements (places [] text)) (read_value text)

-- a text that is not valid JSON has none
abbrev pub event_elements : List ℕ → Option (List Element)
event_elements text = if is_some (read_json text) then read_elements text else None

-- ---- the event

-- the text from this place on, with each element replaced by the bytes of its data
abbrev pub replaced : ℕ → List ℕ → List Element → List ℕ
replaced from text [] = drop from text
replaced from text (e ∷ es) = slice_range text from e.first ++ (e.payload ++ replaced e.end text es)

abbrev pub event_with : List ℕ → Option (List Element) → List ℕ
event_with text None = text
event_with text (Some elements) = replaced 0 text elements

-- a text without such elements is unchanged
unfoldable pub ddb_event : List ℕ → List ℕ
ddb_event text = event_with text (event_elements text)
