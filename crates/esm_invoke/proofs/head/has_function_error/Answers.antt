use Rattle.std.proofs.Common.{ℕ, List, sym, ap, ◌∙◌, ◌||◌}
use Rattle.std.specs.List.{list_any}
use Rattle.std.specs.Prelude.{codes}
use Rattle.std.proofs.lemmas.List.{take_all}
use Rattle.std.proofs.lemmas.List.Folds.{list_any_at, list_any_more}
use Rattle.httparse.specs.Spans.{header_bytes}
use Rattle.http1.specs.Fields.{is_named}
use Rattle.esm_invoke.proofs.HeadLemmas.{list_any-map}
use Rattle.esm_invoke.proofs.head.has_function_error.Goals as goal

abbrev NAME : List ℕ
NAME = codes "X-Amz-Function-Error"

pub returns-then-is_error_header : goal.returns-then-is_error_header
returns-then-is_error_header c =
    let named = is_named NAME in
    let found = sym c.is_error_header.ensures ∙ c.if-is_error_header.true in
    sym (list_any-map named (header_bytes c.args.bytes.now) c.args.fields.now
    ∙ list_any_at (λ f. named (header_bytes c.args.bytes.now f)) c.args.fields.now c.loop-field.field-index _ c.loop-field-test.true found)

pub loop-field-preserved : goal.loop-field-preserved
loop-field-preserved c =
    let named = is_named NAME in
    let passed = sym c.is_error_header.ensures ∙ c.if-is_error_header.false in
    list_any_more (λ f. named (header_bytes c.args.bytes.now f)) c.args.fields.now c.loop-field.field-index _ c.loop-field-test.true
    ∙ (λ i. c.loop-field.invariant i || passed i)

pub returns : goal.returns
returns c =
    let named = is_named NAME in
    sym (list_any-map named (header_bytes c.args.bytes.now) c.args.fields.now
    ∙ ap (list_any (λ f. named (header_bytes c.args.bytes.now f))) (sym (take_all c.loop-field.field-index c.args.fields.now c.loop-field-test.false))
    ∙ c.loop-field.invariant)
