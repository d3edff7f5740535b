-- The JSON text of an item's keys and images: RFC 8259 without white space, the members of an object in the order of
-- their names. No attribute value has a JSON number, so nothing is written for one.
use Rattle.std.specs.Prelude.{◌≡◌, ℕ, List, [], ◌++◌, codes, Bool, true, false, if◌then◌else◌, Some, option_map}
use Rattle.serde_json.specs.Data.{Data, null, boolean, number, string, array, object, Items, no_items, item, Members, no_members, member}
use Rattle.esm_model.specs.Json.{read_json}
use Rattle.esm_model.specs.JsonText.{quoted, truth_text}

-- a comma, unless this is the first
abbrev pub comma_if : Bool → List ℕ
comma_if later = if later then codes "," else []

abbrev mutual
  pub value_text : Data → List ℕ
  value_text null = codes "null"
  value_text (boolean b) = truth_text b
  value_text (number n) = []
  value_text (string s) = quoted s
  value_text (array ds) = codes "[" ++ items_text false ds
  value_text (object ms) = codes "{" ++ members_text false ms

  -- with the closing bracket
  pub items_text : Bool → Items → List ℕ
  items_text later no_items = codes "]"
  items_text later (item d more) = comma_if later ++ (value_text d ++ items_text true more)

  pub members_text : Bool → Members → List ℕ
  members_text later no_members = codes "}"
  members_text later (member name d more) = comma_if later ++ (quoted name ++ (codes ":" ++ (value_text d ++ members_text true more)))

-- an example: members are in the order of their names' bytes, whatever their order in the text that is read; if a name
-- occurs twice, the last value counts
abbrev pub AreNamesInOrder : Type 0
AreNamesInOrder =
    option_map value_text (read_json (codes "{\"ab\":{\"S\":\"x\"},\"a\":{\"N\":\"1\"}, \"B\":{\"BOOL\":true},\"a\":{\"N\":\"2\"}}"))
    ≡ Some (codes "{\"B\":{\"BOOL\":true},\"a\":{\"N\":\"2\"},\"ab\":{\"S\":\"x\"}}")
