-- A JSON tree whose objects have their members in the order of their names, and the value that it is. Only this crate's
-- proofs cite this.
use Rattle.std.specs.Prelude.{ℕ, List, Bool, true, ◌&&◌, pos, Option, Some, None, is_some, unwrap_or, option_and_then, Result}
use Rattle.std.specs.Option.{ok_or}
use Rattle.std.specs.Cmp.Lexicographic.{slice_cmp}
use Rattle.std.specs.Ordering.{is_lt, nat_cmp}
use Rattle.json.specs.Json.{Json, null, boolean, number, string, array, object, Items, no_items, item, Members, no_members, member, if_last}
use Rattle.json.specs.Json as json
use Rattle.json.specs.Token.{Token}
use Rattle.serde_json.specs.Data as value
use Rattle.serde_json.specs.Data.{Data, Num, negative}
use Rattle.serde_json.specs.Read.{max_depth, number_of}
use Rattle.esm_ddb.specs.declared.error.DdbError.{DdbError}
use Rattle.esm_ddb.specs.declared.error.DdbError.TheVariants.{NotJson}

-- a number out of range has no value; a negative one takes its place, which no field accepts
abbrev pub number_in : List ℕ → Num
number_in s = unwrap_or (number_of s) (negative (pos 0))

abbrev mutual
  pub data_in : Json → Data
  data_in null = value.null
  data_in (boolean b) = value.boolean b
  data_in (number s) = value.number (number_in s)
  data_in (string s) = value.string s
  data_in (array js) = value.array (items_in js)
  data_in (object ms) = value.object (members_in ms)

  pub items_in : Items → value.Items
  items_in no_items = value.no_items
  items_in (item j js) = value.item (data_in j) (items_in js)

  pub members_in : Members → value.Members
  members_in no_members = value.no_members
  members_in (member k j ms) = value.member k (data_in j) (members_in ms)

abbrev pub is_before : List ℕ → List ℕ → Bool
is_before k l = is_lt (slice_cmp nat_cmp k l)

-- the name comes before that of the first member
abbrev pub is_first : List ℕ → Members → Bool
is_first k no_members = true
is_first k (member l j ms) = is_before k l

-- the name may follow the one before it, if there is one
abbrev pub follows : Option (List ℕ) → List ℕ → Bool
follows None k = true
follows (Some l) k = is_before l k

-- the first member's name may follow this one, if there is one
abbrev pub goes_on : Option (List ℕ) → Members → Bool
goes_on None ms = true
goes_on (Some k) ms = is_first k ms

abbrev mutual
  -- each number is in range, and the names of each object are in ascending order
  pub is_ordered : Json → Bool
  is_ordered null = true
  is_ordered (boolean b) = true
  is_ordered (number s) = is_some (number_of s)
  is_ordered (string s) = true
  is_ordered (array js) = are_ordered js
  is_ordered (object ms) = is_in_order ms

  pub are_ordered : Items → Bool
  are_ordered no_items = true
  are_ordered (item j js) = is_ordered j && are_ordered js

  pub is_in_order : Members → Bool
  is_in_order no_members = true
  is_in_order (member k j ms) = is_first k ms && (is_ordered j && is_in_order ms)

abbrev mutual
  -- each number is in range
  pub is_ranged : Json → Bool
  is_ranged null = true
  is_ranged (boolean b) = true
  is_ranged (number s) = is_some (number_of s)
  is_ranged (string s) = true
  is_ranged (array js) = are_ranged js
  is_ranged (object ms) = members_ranged ms

  pub are_ranged : Items → Bool
  are_ranged no_items = true
  are_ranged (item j js) = is_ranged j && are_ranged js

  pub members_ranged : Members → Bool
  members_ranged no_members = true
  members_ranged (member k j ms) = is_ranged j && members_ranged ms

-- the one value that the tokens are
abbrev pub whole_tree : List Token → Option Json
whole_tree ts = option_and_then (λ p. if_last p.0 p.1) (json.value max_depth ts)

abbrev pub tree_of : List Token → Result Json DdbError
tree_of ts = ok_or (whole_tree ts) NotJson
