use Rattle.std.proofs.Common.{◌≡◌, drop}
use Rattle.esm_filter.specs.Named.{named_in, named_by_choices}
use Rattle.esm_filter.specs.View.{fields_view, choices_view}
use Rattle.esm_filter.proofs.names.+names.Given as goal

abbrev pub invariant-fields_name-loop-member : goal.invariant-fields_name-loop-member
invariant-fields_name-loop-member l = named_in l.name (fields_view (drop l.member-index l.member-items)) ≡ named_in l.name (fields_view l.member-items)

abbrev pub invariant-choices_name-loop-choice : goal.invariant-choices_name-loop-choice
invariant-choices_name-loop-choice l = named_by_choices l.name (choices_view (drop l.choice-index l.choice-items)) ≡ named_by_choices l.name (choices_view l.choice-items)
