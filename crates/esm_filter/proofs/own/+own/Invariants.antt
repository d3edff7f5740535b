use Rattle.std.proofs.Common.{◌≡◌, drop}
use Rattle.esm_filter.specs.Judged.{judged_view}
use Rattle.esm_filter.specs.Own.{fields_may_pass, one_may_pass}
use Rattle.esm_filter.specs.View.{fields_view, choices_view}
use Rattle.esm_filter.proofs.own.+own.Given as goal

abbrev pub invariant-fields_may_pass-loop-member : goal.invariant-fields_may_pass-loop-member
invariant-fields_may_pass-loop-member l =
    fields_may_pass (fields_view (drop l.member-index l.member-items)) (judged_view l.found) ≡ fields_may_pass (fields_view l.member-items) (judged_view l.found)

abbrev pub invariant-one_may_pass-loop-choice : goal.invariant-one_may_pass-loop-choice
invariant-one_may_pass-loop-choice l =
    one_may_pass (choices_view (drop l.choice-index l.choice-items)) (judged_view l.found) ≡ one_may_pass (choices_view l.choice-items) (judged_view l.found)
