use Rattle.std.proofs.Common.{sym, ◌∙◌, None}
use Rattle.esm_model.specs.Filter.{in_record}
use Rattle.esm_filter.specs.Criteria.{patterns_view}
use Rattle.esm_filter.specs.Own.{fields_may_pass}
use Rattle.esm_filter.specs.View.{fields_view}
use Rattle.esm_filter.proofs.OwnLemmas.{own_passes, own_refused, own_waits, patterns_accepted, patterns_refused}
use Rattle.esm_filter.proofs.ViewLemmas.{any_view}
use Rattle.esm_filter.proofs.criteria.passes_without_data.Goals as goal

pub returns-then-passes : goal.returns-then-passes
returns-then-passes c =
    let ps = patterns_view c.args.patterns.now in
    let holds = sym c.patterns_pass-passes.ensures ∙ c.if-passes.true in
    record { right = λ json. sym (patterns_accepted c.args.item.now json ps holds); decided = own_passes ps c.args.item.now holds }

pub returns-then-may_pass : goal.returns-then-may_pass
returns-then-may_pass c =
    let ps = patterns_view c.args.patterns.now in
    let fails = sym c.patterns_pass-passes.ensures ∙ c.if-passes.false in
    let may_pass = any_view (λ fs. fields_may_pass fs (in_record c.args.item.now None)) (λ p. fields_view p.items) c.args.patterns.now ∙ sym c.one_pattern_may_pass-may_pass.ensures ∙ c.if-may_pass.true in
    record { right = tt; decided = own_waits ps c.args.item.now fails may_pass }

pub returns-else-may_pass : goal.returns-else-may_pass
returns-else-may_pass c =
    let ps = patterns_view c.args.patterns.now in
    let fails = sym c.patterns_pass-passes.ensures ∙ c.if-passes.false in
    let refused = any_view (λ fs. fields_may_pass fs (in_record c.args.item.now None)) (λ p. fields_view p.items) c.args.patterns.now ∙ sym c.one_pattern_may_pass-may_pass.ensures ∙ c.if-may_pass.false in
    record { right = λ json. sym (patterns_refused c.args.item.now json ps fails refused); decided = own_refused ps c.args.item.now fails refused }
