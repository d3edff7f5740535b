-- The pattern that the code's tree represents.
use Rattle.std.specs.Prelude.{List, [], ◌∷◌, map, String, string_bytes}
use Rattle.std.specs.declared.alloc.Global.{Global}
use Rattle.esm_model.specs.Pattern as spec
use Rattle.esm_filter.specs.declared.pattern.Comparison.{Comparison}
use Rattle.esm_filter.specs.declared.pattern.Comparison.TheVariants.{Equal, Below, AtMost, Above, AtLeast}
use Rattle.esm_filter.specs.declared.pattern.Bound.{Bound}
use Rattle.esm_filter.specs.declared.pattern.Scalar.{Scalar}
use Rattle.esm_filter.specs.declared.pattern.Scalar.TheVariants.{Text, Whole}
use Rattle.esm_filter.specs.declared.pattern.Test.{Test}
use Rattle.esm_filter.specs.declared.pattern.Test.TheVariants.{Equals, Truth, Nothing, EqualsIgnoreCase, AnythingBut, Numeric, Prefix, Suffix, Exists}
use Rattle.esm_filter.specs.declared.pattern.Rule.{Rule, fold-Rule}
use Rattle.esm_filter.specs.declared.pattern.Rule.TheOpen.{Rule-F}

abbrev pub comparison_view : Comparison → spec.Comparison
comparison_view Equal = spec.equal
comparison_view Below = spec.below
comparison_view AtMost = spec.at_most
comparison_view Above = spec.above
comparison_view AtLeast = spec.at_least

abbrev pub bound_view : Bound → spec.Bound
bound_view b = spec.bound (comparison_view b.comparison) b.value

abbrev pub scalar_view : Scalar → spec.Scalar
scalar_view (Text s) = spec.text (string_bytes s)
scalar_view (Whole z) = spec.whole z

abbrev pub test_view : Test → spec.Test
test_view (Equals x) = spec.equals (scalar_view x)
test_view (Truth b) = spec.truth b
test_view Nothing = spec.nothing
test_view (EqualsIgnoreCase s) = spec.equals_ignore_case (string_bytes s)
test_view (AnythingBut v) = spec.anything_but (map scalar_view v.items)
test_view (Numeric v) = spec.numeric (map bound_view v.items)
test_view (Prefix s) = spec.prefix (string_bytes s)
test_view (Suffix s) = spec.suffix (string_bytes s)
test_view (Exists b) = spec.exists b

abbrev pub fields_of : List (String Global × spec.Rule) → spec.Fields
fields_of [] = spec.no_fields
fields_of (m ∷ ms) = spec.field (string_bytes m.0) m.1 (fields_of ms)

-- the members of an object pattern; another rule has none
abbrev pub fields_in : spec.Rule → spec.Fields
fields_in (spec.tests ts) = spec.no_fields
fields_in (spec.nested fs) = fs
fields_in (spec.one_of cs) = spec.no_fields

abbrev pub choices_of : List spec.Rule → spec.Choices
choices_of [] = spec.no_choices
choices_of (r ∷ rs) = spec.choice (fields_in r) (choices_of rs)

-- one level, whose inner rules are represented already
abbrev pub rule_step : Rule-F spec.Rule → spec.Rule
rule_step (Rule-F.Tests v) = spec.tests (map test_view v.items)
rule_step (Rule-F.Nested v) = spec.nested (fields_of v.items)
rule_step (Rule-F.OneOf v) = spec.one_of (choices_of v.items)

abbrev pub rule_view : Rule → spec.Rule
rule_view = fold-Rule spec.Rule rule_step

abbrev pub fields_view : List (String Global × Rule) → spec.Fields
fields_view ms = fields_of (map (λ m. (m.0, rule_view m.1)) ms)

abbrev pub choices_view : List Rule → spec.Choices
choices_view rs = choices_of (map rule_view rs)
