use Rattle.std.proofs.Common.{◌≡◌, ◌∙◌, ◌+◌, ◌++◌, ◌∷◌, [], Some, take, ap, subst, sym}
use Rattle.std.proofs.lemmas.List.{take_more}
use Rattle.esm_registry.specs.State.{IsFirstBad}
use Rattle.esm_registry.proofs.Histories.{taken_more, first_bad}
use Rattle.esm_registry.proofs.opening.table_of.Goals as goal

pub loop-index-init : goal.loop-index-init
loop-index-init c = record { said = ap Some (sym (ap (λ t. t.mappings) c.new-table.ensures)); free = ap (λ t. t.promised) c.new-table.ensures }

pub loop-index-preserved : goal.loop-index-preserved
loop-index-preserved c =
    let ps = c.args.payloads.now in
    let i = c.loop-index.index in
    let payload = c.as_slice.result.now in
    let more : take (i + 1) ps ≡ take i ps ++ payload ∷ [] =
    take_more ps i c.index-payloads-index.result c.loop-index-test.true
    ∙ ap (λ x. take i ps ++ x ∷ []) (sym c.index-payloads-index.is ∙ sym c.as_slice.ensures) in
    taken_more ps i payload c.loop-index.table c.take.new.table c.loop-index.invariant more (rw c.in-Ok-true.field-0-test at c.in-Ok-true.ensures.made)
    c.in-Ok-true.ensures.free

pub returns-in-Ok-false-clause-bad : goal.returns-in-Ok-false-clause-bad
returns-in-Ok-false-clause-bad c = λ n e.
    let ps = c.args.payloads.now in
    let i = c.loop-index.index in
    let payload = c.as_slice.result.now in
    let more : take (i + 1) ps ≡ take i ps ++ payload ∷ [] =
    take_more ps i c.index-payloads-index.result c.loop-index-test.true
    ∙ ap (λ x. take i ps ++ x ∷ []) (sym c.index-payloads-index.is ∙ sym c.as_slice.ensures) in
    let same : n ≡ i = c.bad_payload.ensures n e in
    subst (IsFirstBad ps) (sym same)
    (first_bad ps i payload c.loop-index.table c.loop-index.invariant more (rw c.in-Ok-false.field-0-test at c.in-Ok-false.ensures.made))
