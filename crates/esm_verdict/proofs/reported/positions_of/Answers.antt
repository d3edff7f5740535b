use Rattle.std.proofs.Common.{◌+◌, drop, ◌∙◌, Some, sym, ap}
use Rattle.serde_json.specs.View.{items_view}
use Rattle.esm_model.specs.Reading.{all_reported}
use Rattle.esm_verdict.specs.Reported.{then_positions}
use Rattle.esm_verdict.proofs.ReportedLemmas.{no_positions_yet, more_positions, no_position, all_positions}
use Rattle.esm_verdict.proofs.reported.positions_of.Goals as goal

pub loop-failure-init : goal.loop-failure-init
loop-failure-init c = λ ids indexes. rw c.new-positions.ensures.items (no_positions_yet (all_reported ids (items_view c.args.failures.now)))

pub loop-failure-preserved : goal.loop-failure-preserved
loop-failure-preserved c = λ ids indexes.
    let found = c.loop-failure.positions.items in
    let failures = c.args.failures.now in
    let i = c.loop-failure.failure-index in
    c.loop-failure.invariant ids indexes
    ∙ more_positions ids found failures i c.failure-item.result c.in-Some.position c.loop-failure-test.true c.failure-item.is (c.in-Some.ensures ids indexes)
    ∙ ap (λ ps. then_positions ps (all_reported ids (items_view (drop (i + 1) failures)))) (sym c.in_ok-push-in-Some.ensures.items)

pub returns-in-None : goal.returns-in-None
returns-in-None c = λ ids indexes.
    sym (c.loop-failure.invariant ids indexes
    ∙ no_position ids c.loop-failure.positions.items c.args.failures.now c.loop-failure.failure-index c.failure-item.result c.loop-failure-test.true c.failure-item.is (c.in-None.ensures ids indexes))

pub returns : goal.returns
returns c = λ ids indexes.
    sym (c.loop-failure.invariant ids indexes
    ∙ all_positions ids c.loop-failure.positions.items c.args.failures.now c.loop-failure.failure-index c.loop-failure-test.false
    ∙ ap Some (sym c.from_vec.ensures))
