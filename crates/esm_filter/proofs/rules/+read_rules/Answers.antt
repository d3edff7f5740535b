use Rattle.std.proofs.Common.{◌+◌, drop, Ok, sym, ap, ◌∙◌, if◌then◌else◌, Err, false}
use Rattle.serde_json.specs.View.{view, items_view, members_view}
use Rattle.serde_json.proofs.Views.{Entry}
use Rattle.esm_model.specs.Pattern.{bad_test, is_data, is_or, nested, one_of, tests, reads_map, read_all, read_test, read_rule, read_fields, read_choices}
use Rattle.esm_filter.proofs.ReadLemmas.{some_items, some_members, then_fields, more_fields, all_fields, then_choices, more_choices, end_choices, view-Nested}
use Rattle.esm_filter.specs.View.{fields_in}
use Rattle.esm_filter.specs.declared.pattern.Rule.{Nested}
use Rattle.esm_filter.proofs.rules.+read_rules.Goals as goal

pub read_list_rule-returns : goal.read_list_rule-returns
read_list_rule-returns t c =
    rw (some_items c.args.items.now.items
    (if is_or c.args.key.now then reads_map one_of (read_choices c.args.outer (items_view c.args.items.now.items))
    else (if is_data c.args.outer c.args.key.now then Err bad_test else reads_map tests (read_all read_test (items_view c.args.items.now.items)))) c.has_no_items-none.result c.has_no_items-none.ensures c.if-none.false) c.read_items_rule.ensures

pub read_nested_rule-returns : goal.read_nested_rule-returns
read_nested_rule-returns t c =
    rw (some_members c.args.members.now.entries
    (if is_or c.args.key.now then Err bad_test else reads_map nested (read_fields false (members_view c.args.members.now.entries))) c.has_no_members-none.result c.has_no_members-none.ensures c.if-none.false) c.read_members_rule.ensures

pub read_some_fields-returns : goal.read_some_fields-returns
read_some_fields-returns t c =
    rw (some_members c.args.members.now.entries (read_fields c.args.outer (members_view c.args.members.now.entries)) c.has_no_members-none.result c.has_no_members-none.ensures c.if-none.false) c.read_fields.ensures

pub read_choices-loop-item-preserved : goal.read_choices-loop-item-preserved
read_choices-loop-item-preserved t c =
    let vs = c.deref-item-items.result.now in
    let rs = c.loop-item.choices.items in
    let i = c.loop-item.item-index in
    c.loop-item.invariant
    ∙ more_choices c.args.outer rs vs i c.item-item.result (Nested c.in_ok-choice.choice) c.loop-item-test.true c.item-item.is
    (c.in_ok-choice.ensures ∙ ap (λ r. Ok (fields_in r)) (sym (view-Nested c.in_ok-choice.choice)))
    ∙ ap (λ xs. then_choices xs (read_choices c.args.outer (items_view (drop (i + 1) vs)))) (sym c.in_ok-push.ensures.items)

pub read_choices-returns : goal.read_choices-returns
read_choices-returns t c =
    ap (λ vs. read_choices c.args.outer (items_view vs)) (sym c.deref-item-items.ensures.value)
    ∙ c.loop-item.invariant
    ∙ end_choices c.args.outer c.loop-item.choices.items c.deref-item-items.result.now c.loop-item.item-index c.loop-item-test.false

pub read_fields-loop-name-preserved : goal.read_fields-loop-name-preserved
read_fields-loop-name-preserved t c =
    let e : Entry = (c.in-Some.name.now, c.in-Some.value.now) in
    let left = c.next.new.self in
    let ms = c.loop-name.fields.items in
    c.loop-name.invariant
    ∙ ap (λ es. then_fields ms (read_fields c.args.outer (members_view es))) c.in-Some.ensures.steps
    ∙ more_fields c.args.outer ms e left c.in_ok-key.key c.in_ok-rule.rule c.in_ok-key.ensures.cases
    (ap (λ n. read_rule c.args.outer n (view e.1)) (sym c.as_str.ensures.value) ∙ c.in_ok-rule.ensures)
    ∙ ap (λ xs. then_fields xs (read_fields c.args.outer (members_view left))) (sym c.in_ok-push.ensures.items)

pub read_fields-returns : goal.read_fields-returns
read_fields-returns t c =
    c.loop-name.invariant
    ∙ ap (λ es. then_fields c.loop-name.fields.items (read_fields c.args.outer (members_view es))) c.in-None.ensures.steps.0
    ∙ ap Ok (all_fields c.loop-name.fields.items)
