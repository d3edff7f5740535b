-- The names that occur in patterns, and what is kept of a document's fields with these names. Only this crate's proofs cite
-- this.
use Rattle.std.specs.Prelude.{◌≡◌, ℕ, List, length, Bool, true, false, ◌||◌, Option, Some, is_some}
use Rattle.std.specs.Borrow.{Bor}
use Rattle.std.specs.List.{list_any, AllByRecursion, IsDistinct}
use Rattle.std.specs.Str.{bytes_eq}
use Rattle.json.specs.Token.{Token}
use Rattle.json.specs.Json.{value, items, members}
use Rattle.serde_json.specs.Data.{Data, array, Items, Members, no_members}
use Rattle.serde_json.specs.Find.{get_member}
use Rattle.serde_json.specs.Read.{of_json, of_items, of_members, converted}
use Rattle.esm_model.specs.Filter.{fields_pass, in_object, is_text_body, members_in}
use Rattle.esm_model.specs.Leaves.{leaves}
use Rattle.esm_model.specs.Pattern.{Rule, tests, nested, one_of, Fields, no_fields, field, Choices, no_choices, choice}
use Rattle.esm_filter.specs.Found.{names_of}
use Rattle.esm_filter.specs.declared.found.Found.{Found}

abbrev mutual
  pub named_by_rule : List ℕ → Rule → Bool
  named_by_rule name (tests ts) = false
  named_by_rule name (nested fs) = named_in name fs
  named_by_rule name (one_of cs) = named_by_choices name cs

  -- a field of the object pattern has this name, at any depth
  pub named_in : List ℕ → Fields → Bool
  named_in name no_fields = false
  named_in name (field key r fs) = (bytes_eq name key || named_by_rule name r) || named_in name fs

  pub named_by_choices : List ℕ → Choices → Bool
  named_by_choices name no_choices = false
  named_by_choices name (choice fs cs) = named_in name fs || named_by_choices name cs

abbrev pub is_named : List Fields → List ℕ → Bool
is_named ps name = list_any (named_in name) ps

-- each name of the object pattern is among the names
abbrev pub Covers : (List ℕ → Bool) → Fields → Type 0
Covers names fs = (name : List ℕ) → named_in name fs ≡ true → names name ≡ true

-- no pattern with only these names distinguishes the two values
pub record Like (names : List ℕ → Bool) (o p : Option Data) : Type 0 where
  pub leaves : leaves o ≡ leaves p
  pub text : is_text_body o ≡ is_text_body p
  pub some : is_some o ≡ is_some p
  pub members : (fs : Fields) → Covers names fs → fields_pass fs (in_object (members_in o)) ≡ fields_pass fs (in_object (members_in p))

abbrev pub AreLike : (List ℕ → Bool) → Members → Members → Type 0
AreLike names ms ns = (name : List ℕ) → names name ≡ true → Like names (get_member name ms) (get_member name ns)

-- the tokens begin with a value, and the kept value, if it is kept, is like it
pub record KeepsValue (names : List ℕ → Bool) (kept : Bool) (depth : ℕ) (old : List Token) (d : Data) (new : List Token) : Type 0 where
  pub found : Data
  pub reads : converted of_json (value depth old) ≡ Some (found, new)
  pub like : kept ≡ true → Like names (Some found) (Some d)

-- the tokens begin with the items of a list and its bracket; the kept items, if they are kept, have the same leaves
pub record KeepsItems (kept : Bool) (depth : ℕ) (old : List Token) (ds : Items) (new : List Token) : Type 0 where
  pub found : Items
  pub reads : converted of_items (items (value depth) (length old) old) ≡ Some (found, new)
  pub same : kept ≡ true → leaves (Some (array found)) ≡ leaves (Some (array ds))

-- the tokens begin with the members of an object and its brace; the kept members, if they are kept, are like them
pub record KeepsMembers (names : List ℕ → Bool) (kept : Bool) (depth : ℕ) (old : List Token) (ms : Members) (new : List Token) : Type 0 where
  pub found : Members
  pub reads : converted (λ ns. of_members ns no_members) (members (value depth) (length old) old) ≡ Some (found, new)
  pub like : kept ≡ true → AreLike names found ms

-- no two of the members have one name, and each has one of the names: there are no more of them than names
pub record AreFew (names : List ℕ → Bool) (ms : List (Bor (List ℕ) × Found)) : Type 0 where
  pub apart : IsDistinct bytes_eq (names_of ms)
  pub named : AllByRecursion (λ n. names n ≡ true) (names_of ms)
