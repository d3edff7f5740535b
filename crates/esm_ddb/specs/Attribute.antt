-- Attribute values, items and keys of a DynamoDB table. Source: the Amazon DynamoDB API Reference, `AttributeValue` and
-- `StreamRecord` (`Keys`, `NewImage`, `OldImage`).
use Rattle.std.specs.Prelude.{ℕ, List, Bool, true, false, ◌&&◌, ◌||◌, codes, is_some}
use Rattle.std.specs.Str.{bytes_eq}
use Rattle.serde_json.specs.Data.{Data, null, boolean, number, string, array, object, Items, no_items, item, Members, no_members, member}
use Rattle.serde_json.specs.Find.{as_str}

-- the types whose values are texts, then those whose values are sets of texts
abbrev pub is_text_type : List ℕ → Bool
is_text_type tag = bytes_eq tag (codes "S") || (bytes_eq tag (codes "N") || bytes_eq tag (codes "B"))

abbrev pub is_set_type : List ℕ → Bool
is_set_type tag = bytes_eq tag (codes "SS") || (bytes_eq tag (codes "NS") || bytes_eq tag (codes "BS"))

abbrev pub are_texts : Items → Bool
are_texts no_items = true
are_texts (item d more) = is_some (as_str d) && are_texts more

abbrev mutual
  -- an object with one member, named by the type of its value
  pub is_attribute : Data → Bool
  is_attribute null = false
  is_attribute (boolean b) = false
  is_attribute (number n) = false
  is_attribute (string s) = false
  is_attribute (array ds) = false
  is_attribute (object ms) = is_typed ms

  pub is_typed : Members → Bool
  is_typed no_members = false
  is_typed (member tag d no_members) = is_of_type tag d
  is_typed (member tag d (member other e more)) = false

  pub is_of_type : List ℕ → Data → Bool
  is_of_type tag null = false
  is_of_type tag (boolean b) = bytes_eq tag (codes "BOOL") || (b && bytes_eq tag (codes "NULL"))
  is_of_type tag (number n) = false
  is_of_type tag (string s) = is_text_type tag
  is_of_type tag (array ds) = (is_set_type tag && are_texts ds) || (bytes_eq tag (codes "L") && are_attributes ds)
  is_of_type tag (object ms) = bytes_eq tag (codes "M") && is_item ms

  pub are_attributes : Items → Bool
  are_attributes no_items = true
  are_attributes (item d more) = is_attribute d && are_attributes more

  -- each member is the name and the value of an attribute
  pub is_item : Members → Bool
  is_item no_members = true
  is_item (member name d more) = is_attribute d && is_item more

-- the value of a key attribute: of type S, N or B
abbrev pub is_key_typed : Members → Bool
is_key_typed no_members = false
is_key_typed (member tag d no_members) = is_text_type tag && is_some (as_str d)
is_key_typed (member tag d (member other e more)) = false

abbrev pub is_key_value : Data → Bool
is_key_value null = false
is_key_value (boolean b) = false
is_key_value (number n) = false
is_key_value (string s) = false
is_key_value (array ds) = false
is_key_value (object ms) = is_key_typed ms

abbrev pub are_key_values : Members → Bool
are_key_values no_members = true
are_key_values (member name d more) = is_key_value d && are_key_values more

-- one key or more
abbrev pub are_keys : Members → Bool
are_keys no_members = false
are_keys (member name d more) = is_key_value d && are_key_values more
