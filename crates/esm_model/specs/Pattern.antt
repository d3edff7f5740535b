-- Filter patterns. Source: the EventBridge event pattern syntax, as the Lambda Developer Guide adopts it for filter criteria
-- (`Pattern`). Which operators there are, that numbers are whole, and the names of the refusals are this product's own.
use Rattle.std.specs.Result.{result_map_both}
use Rattle.std.specs.Prelude.{ℕ, ◌+◌, ℤ, List, [], ◌∷◌, codes, nat_lt, Bool, true, false, ◌&&◌, if◌then◌else◌, Option, Some, None, option_and_then, ok_or, Result, Ok, Err}
use Rattle.std.specs.Str.{bytes_eq}
use Rattle.serde_json.specs.Data.{Data, null, boolean, number, string, array, object, Items, no_items, item, Members, no_members, member}
use Rattle.serde_json.specs.Read.{read}
use Rattle.serde_json.specs.Find.{as_str, as_bool, as_number, as_i64}
use Rattle.esm_model.specs.declared.limits.TheConstants.{MAX_PATTERN}
use Rattle.esm_model.specs.Valid.{char_count}

-- ---- the tree of a pattern

pub data Comparison : Type 0 where
  equal : Comparison
  below : Comparison
  at_most : Comparison
  above : Comparison
  at_least : Comparison

-- a comparison with a whole number
pub data Bound : Type 0 where
  bound : Comparison → ℤ → Bound

-- what a leaf can be equal to
pub data Scalar : Type 0 where
  text : List ℕ → Scalar
  whole : ℤ → Scalar

pub data Test : Type 0 where
  equals : Scalar → Test
  truth : Bool → Test
  nothing : Test
  equals_ignore_case : List ℕ → Test
  anything_but : List Scalar → Test
  numeric : List Bound → Test
  prefix : List ℕ → Test
  suffix : List ℕ → Test
  exists : Bool → Test

-- What a field has to meet: a list of tests, or an object pattern. The key `$or` has a list of object patterns.
mutual
  pub data Rule : Type 0 where
    tests : List Test → Rule
    nested : Fields → Rule
    one_of : Choices → Rule

  -- an object pattern
  pub data Fields : Type 0 where
    no_fields : Fields
    field : List ℕ → Rule → Fields → Fields

  pub data Choices : Type 0 where
    no_choices : Choices
    choice : Fields → Choices → Choices

-- ---- reading

pub data Refusal : Type 0 where
  too_long : Refusal
  not_json : Refusal
  not_object : Refusal
  empty : Refusal
  bad_test : Refusal

-- what was read, or why nothing was
abbrev pub Reads : Type 0 → Type 0
Reads A = Result A Refusal

abbrev pub and_then : {A B : Type 0} → Reads A → (A → Reads B) → Reads B
and_then (Ok a) f = f a
and_then (Err e) f = Err e

abbrev pub reads_map : {A B : Type 0} → (A → B) → Reads A → Reads B
reads_map f (Ok a) = Ok (f a)
reads_map f (Err e) = Err e

-- why a value is refused that the grammar does not allow where it is
abbrev pub refusal_of : Data → Refusal
refusal_of null = bad_test
refusal_of (boolean b) = bad_test
refusal_of (number n) = bad_test
refusal_of (string s) = bad_test
refusal_of (array no_items) = empty
refusal_of (array (item d ds)) = bad_test
refusal_of (object no_members) = empty
refusal_of (object (member k d ms)) = bad_test

-- a whole number: without fraction and exponent, not written `-0`, and from -2^63 to 2^63-1
abbrev pub whole_of : Data → Option ℤ
whole_of d = option_and_then as_i64 (as_number d)

abbrev pub read_whole : Data → Reads ℤ
read_whole d = ok_or (whole_of d) (refusal_of d)

abbrev pub read_text : Data → Reads (List ℕ)
read_text d = ok_or (as_str d) (refusal_of d)

abbrev pub read_bool : Data → Reads Bool
read_bool d = ok_or (as_bool d) (refusal_of d)

abbrev pub read_scalar : Data → Reads Scalar
read_scalar null = Err bad_test
read_scalar (boolean b) = Err bad_test
read_scalar (number n) = reads_map whole (ok_or (as_i64 n) bad_test)
read_scalar (string s) = Ok (text s)
read_scalar (array ds) = Err (refusal_of (array ds))
read_scalar (object ms) = Err (refusal_of (object ms))

-- each element of a list, in order
abbrev pub read_all : {A : Type 0} → (Data → Reads A) → Items → Reads (List A)
read_all one no_items = Ok []
read_all one (item d ds) = and_then (one d) (λ x. reads_map (λ xs. x ∷ xs) (read_all one ds))

-- only where the list or the object is not empty
abbrev pub unless_no_items : {A : Type 0} → Items → Reads A → Reads A
unless_no_items no_items r = Err empty
unless_no_items (item d ds) r = r

abbrev pub unless_no_members : {A : Type 0} → Members → Reads A → Reads A
unless_no_members no_members r = Err empty
unless_no_members (member k d ms) r = r

-- one value to differ from, or a list of some
abbrev pub read_anything_but : Data → Reads (List Scalar)
read_anything_but null = Err bad_test
read_anything_but (boolean b) = Err bad_test
read_anything_but (number n) = reads_map (λ x. x ∷ []) (read_scalar (number n))
read_anything_but (string s) = Ok (text s ∷ [])
read_anything_but (array ds) = unless_no_items ds (read_all read_scalar ds)
read_anything_but (object ms) = Err (refusal_of (object ms))

abbrev pub comparison_named : List ℕ → Option Comparison
comparison_named s =
    if bytes_eq s (codes "=") then Some equal else (if bytes_eq s (codes "<") then Some below else (if bytes_eq s (codes "<=") then Some at_most
    else (if bytes_eq s (codes ">") then Some above else (if bytes_eq s (codes ">=") then Some at_least else None))))

abbrev pub read_comparison : Data → Reads Comparison
read_comparison d = ok_or (option_and_then comparison_named (as_str d)) (refusal_of d)

-- only an upper bound may follow a lower one
abbrev pub may_follow : Comparison → Comparison → Bool
may_follow above below = true
may_follow above at_most = true
may_follow at_least below = true
may_follow at_least at_most = true
may_follow _ _ = false

abbrev pub read_following : Comparison → Data → Reads Comparison
read_following first d = and_then (read_comparison d) (λ second. if may_follow first second then Ok second else Err bad_test)

-- what follows the first bound: nothing, or a second one
abbrev pub read_second : Comparison → ℤ → Items → Reads (List Bound)
read_second c z no_items = Ok (bound c z ∷ [])
read_second c z (item d no_items) = and_then (read_following c d) (λ e. Err bad_test)
read_second c z (item d (item n no_items)) = and_then (read_following c d) (λ e. reads_map (λ y. bound c z ∷ bound e y ∷ []) (read_whole n))
read_second c z (item d (item n (item more ds))) = and_then (read_following c d) (λ e. and_then (read_whole n) (λ y. Err (refusal_of more)))

abbrev pub read_bounds : Items → Reads (List Bound)
read_bounds no_items = Err empty
read_bounds (item d no_items) = and_then (read_comparison d) (λ c. Err bad_test)
read_bounds (item d (item n ds)) = and_then (read_comparison d) (λ c. and_then (read_whole n) (λ z. read_second c z ds))

abbrev pub read_numeric : Data → Reads (List Bound)
read_numeric null = Err bad_test
read_numeric (boolean b) = Err bad_test
read_numeric (number n) = Err bad_test
read_numeric (string s) = Err bad_test
read_numeric (array ds) = read_bounds ds
read_numeric (object ms) = Err (refusal_of (object ms))

-- the test with this name
abbrev pub read_named : List ℕ → Data → Reads Test
read_named name d =
    if bytes_eq name (codes "equals-ignore-case") then reads_map equals_ignore_case (read_text d)
    else (if bytes_eq name (codes "anything-but") then reads_map anything_but (read_anything_but d)
    else (if bytes_eq name (codes "numeric") then reads_map numeric (read_numeric d)
    else (if bytes_eq name (codes "prefix") then reads_map prefix (read_text d)
    else (if bytes_eq name (codes "suffix") then reads_map suffix (read_text d)
    else (if bytes_eq name (codes "exists") then reads_map exists (read_bool d)
    else Err bad_test)))))

-- the one member of a test
abbrev pub read_only : Members → Reads Test
read_only no_members = Err empty
read_only (member k d no_members) = read_named k d
read_only (member k d (member l e ms)) = Err bad_test

-- a text, a whole number, a truth value, null, or an object with one named test
abbrev pub read_test : Data → Reads Test
read_test null = Ok nothing
read_test (boolean b) = Ok (truth b)
read_test (number n) = reads_map equals (read_scalar (number n))
read_test (string s) = Ok (equals (text s))
read_test (array ds) = Err (refusal_of (array ds))
read_test (object ms) = read_only ms

-- A stream's pattern may not test the data of a record as a whole. This concerns the top alone, where `outer` holds.
abbrev pub is_data : Bool → List ℕ → Bool
is_data outer key = outer && bytes_eq key (codes "data")

abbrev pub is_or : List ℕ → Bool
is_or key = bytes_eq key (codes "$or")

-- Values are judged in order, the keys of an object and the elements of a list, and the first refusal counts.
abbrev mutual
  -- the rule of a value at its key
  pub read_rule : Bool → List ℕ → Data → Reads Rule
  read_rule outer key null = Err bad_test
  read_rule outer key (boolean b) = Err bad_test
  read_rule outer key (number n) = Err bad_test
  read_rule outer key (string s) = Err bad_test
  read_rule outer key (array ds) =
      unless_no_items ds
      (if is_or key then reads_map one_of (read_choices outer ds) else (if is_data outer key then Err bad_test else reads_map tests (read_all read_test ds)))
  read_rule outer key (object ms) = unless_no_members ms (if is_or key then Err bad_test else reads_map nested (read_fields false ms))

  pub read_fields : Bool → Members → Reads Fields
  read_fields outer no_members = Ok no_fields
  read_fields outer (member k d ms) = and_then (read_rule outer k d) (λ r. reads_map (field k r) (read_fields outer ms))

  pub read_choices : Bool → Items → Reads Choices
  read_choices outer no_items = Ok no_choices
  read_choices outer (item d ds) = and_then (read_choice outer d) (λ fs. reads_map (choice fs) (read_choices outer ds))

  pub read_choice : Bool → Data → Reads Fields
  read_choice outer null = Err bad_test
  read_choice outer (boolean b) = Err bad_test
  read_choice outer (number n) = Err bad_test
  read_choice outer (string s) = Err bad_test
  read_choice outer (array ds) = Err (refusal_of (array ds))
  read_choice outer (object ms) = unless_no_members ms (read_fields outer ms)

abbrev pub read_object : Bool → Data → Reads Fields
read_object outer null = Err not_object
read_object outer (boolean b) = Err not_object
read_object outer (number n) = Err not_object
read_object outer (string s) = Err not_object
read_object outer (array ds) = Err not_object
read_object outer (object ms) = read_choice outer (object ms)

abbrev pub read_value : Bool → Option Data → Reads Fields
read_value outer None = Err not_json
read_value outer (Some d) = read_object outer d

-- the pattern in a text, for a stream's records or for a queue's messages
unfoldable pub read_pattern : Bool → List ℕ → Reads Fields
read_pattern for_stream source = if nat_lt MAX_PATTERN (char_count source) then Err too_long else read_value for_stream (read source)

abbrev pub later : ℕ × Refusal → ℕ × Refusal
later e = (e.0 + 1, e.1)

abbrev pub with_first : Reads Fields → Result (List Fields) (ℕ × Refusal) → Result (List Fields) (ℕ × Refusal)
with_first (Err why) rest = Err (0, why)
with_first (Ok p) rest = result_map_both (λ ps. p ∷ ps) later rest

-- the patterns in these texts, or the index and the refusal of the first that is none
abbrev pub read_patterns : Bool → List (List ℕ) → Result (List Fields) (ℕ × Refusal)
read_patterns for_stream [] = Ok []
read_patterns for_stream (t ∷ ts) = with_first (read_pattern for_stream t) (read_patterns for_stream ts)
