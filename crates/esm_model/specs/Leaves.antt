-- The leaves of a field and the tests on them. Source: the EventBridge event pattern syntax; that a list without leaves
-- passes `"exists":false` is this product's own.
use Rattle.std.specs.Prelude.{if◌then◌else◌, ℤ, int_lt, int_le, List, [], ◌∷◌, filter, length, ◌==◌, nat_eq, Bool, true, false, not, Option, Some, None, option_map, unwrap_or, is_some}
use Rattle.std.specs.List.{list_any, list_all, starts_with, ends_with}
use Rattle.std.specs.Ordering.{int_eq}
use Rattle.std.specs.Bool.{beq}
use Rattle.std.specs.Str.{bytes_eq, str_eq_ignore_ascii_case}
use Rattle.serde_json.specs.Data.{Data, null, boolean, number, string, array, object, Items, no_items, item}
use Rattle.serde_json.specs.Find.{as_str, as_bool, as_null}
use Rattle.esm_model.specs.Pattern.{equal, below, at_most, above, at_least, Bound, bound, Scalar, text, whole, Test, equals, truth, nothing, equals_ignore_case, anything_but, numeric, prefix, suffix, exists, whole_of}

-- neither a list nor an object
abbrev pub is_leaf : Data → Bool
is_leaf null = true
is_leaf (boolean b) = true
is_leaf (number n) = true
is_leaf (string s) = true
is_leaf (array ds) = false
is_leaf (object ms) = false

abbrev pub items_list : Items → List Data
items_list no_items = []
items_list (item d ds) = d ∷ items_list ds

-- the leaves of a field's value; a field without a value has none
abbrev pub leaves : Option Data → List Data
leaves None = []
leaves (Some (array ds)) = filter is_leaf (items_list ds)
leaves (Some (object ms)) = []
leaves (Some d) = d ∷ []

-- there is a value, and it passes
abbrev pub some_passes : {A : Type 0} → (A → Bool) → Option A → Bool
some_passes p o = unwrap_or (option_map p o) false

abbrev pub meets : ℤ → Bound → Bool
meets z (bound equal y) = int_eq z y
meets z (bound below y) = int_lt z y
meets z (bound at_most y) = int_le z y
meets z (bound above y) = int_lt y z
meets z (bound at_least y) = int_le y z

abbrev pub is_scalar : Data → Scalar → Bool
is_scalar d (text s) = some_passes (λ t. bytes_eq t s) (as_str d)
is_scalar d (whole z) = some_passes (λ y. int_eq y z) (whole_of d)

-- one leaf passes the test; a leaf does not decide `exists`
abbrev pub leaf_passes : Test → Data → Bool
leaf_passes (equals x) d = is_scalar d x
leaf_passes (truth b) d = some_passes (λ c. beq c b) (as_bool d)
leaf_passes nothing d = is_some (as_null d)
leaf_passes (equals_ignore_case s) d = some_passes (λ t. str_eq_ignore_ascii_case t s) (as_str d)
leaf_passes (anything_but xs) d = not (list_any (is_scalar d) xs)
leaf_passes (numeric bs) d = some_passes (λ z. list_all (meets z) bs) (whole_of d)
leaf_passes (prefix s) d = some_passes (λ t. starts_with nat_eq t s) (as_str d)
leaf_passes (suffix s) d = some_passes (λ t. ends_with nat_eq t s) (as_str d)
leaf_passes (exists b) d = b

abbrev pub is_absence : Test → Bool
is_absence (equals x) = false
is_absence (truth b) = false
is_absence nothing = false
is_absence (equals_ignore_case s) = false
is_absence (anything_but xs) = false
is_absence (numeric bs) = false
is_absence (prefix s) = false
is_absence (suffix s) = false
is_absence (exists b) = not b

-- `"exists":false` passes where there is no leaf, each other test where it passes for one of them
abbrev pub test_passes : List Data → Test → Bool
test_passes ds t = if is_absence t then length ds == 0 else list_any (leaf_passes t) ds

-- a list of tests passes where one of them passes
abbrev pub tests_pass : List Test → List Data → Bool
tests_pass ts ds = list_any (test_passes ds) ts
