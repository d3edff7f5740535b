-- What a record's own fields decide, whatever its data is. Only this crate's proofs cite this.
use Rattle.std.specs.Prelude.{List, ℕ, codes, Bool, true, false, ◌&&◌, ◌||◌, if◌then◌else◌, Option, Some, None}
use Rattle.std.specs.List.{list_any}
use Rattle.std.specs.Str.{bytes_eq}
use Rattle.esm_model.specs.Filter.{Seen, in_record, patterns_pass, rule_passes}
use Rattle.esm_model.specs.Pattern.{Rule, tests, nested, one_of, Fields, no_fields, field, Choices, no_choices, choice}
use Rattle.esm_model.specs.Records.{Record}

-- passing for a record seen without its data, where a rule on the data counts as one that may pass
abbrev mutual
  pub rule_may_pass : Rule → List ℕ → (List ℕ → Seen) → Bool
  rule_may_pass (tests ts) key found = bytes_eq key (codes "data") || rule_passes (tests ts) key found
  rule_may_pass (nested fs) key found = bytes_eq key (codes "data") || rule_passes (nested fs) key found
  rule_may_pass (one_of cs) key found = one_may_pass cs found

  pub fields_may_pass : Fields → (List ℕ → Seen) → Bool
  fields_may_pass no_fields found = true
  fields_may_pass (field key r fs) found = rule_may_pass r key found && fields_may_pass fs found

  pub one_may_pass : Choices → (List ℕ → Seen) → Bool
  one_may_pass no_choices found = false
  one_may_pass (choice fs cs) found = fields_may_pass fs found || one_may_pass cs found

-- whether the record passes, if its own fields decide that; `None` where none of the patterns passes yet and one may pass by
-- the data
abbrev pub decided_by_own : List Fields → Record → Option Bool
decided_by_own ps r = if patterns_pass ps (in_record r None) then Some true else (if list_any (λ p. fields_may_pass p (in_record r None)) ps then None else Some false)
