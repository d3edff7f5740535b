use Rattle.std.proofs.Common.{◌≡◌, drop}
use Rattle.esm_model.specs.Filter.{fields_pass, one_passes}
use Rattle.esm_filter.specs.Judged.{judged_view}
use Rattle.esm_filter.specs.View.{fields_view, choices_view}
use Rattle.esm_filter.proofs.judge.+judge.Given as goal

abbrev pub invariant-fields_pass-loop-member : goal.invariant-fields_pass-loop-member
invariant-fields_pass-loop-member l =
    fields_pass (fields_view (drop l.member-index l.member-items)) (judged_view l.found) ≡ fields_pass (fields_view l.member-items) (judged_view l.found)

abbrev pub invariant-one_passes-loop-choice : goal.invariant-one_passes-loop-choice
invariant-one_passes-loop-choice l =
    one_passes (choices_view (drop l.choice-index l.choice-items)) (judged_view l.found) ≡ one_passes (choices_view l.choice-items) (judged_view l.found)
