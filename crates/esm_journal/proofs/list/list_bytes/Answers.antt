use Rattle.std.proofs.Common.{◌∙◌, ◌++◌, ap, List, ℕ}
use Rattle.esm_journal.proofs.Lists.{list_more}
use Rattle.esm_journal.proofs.list.list_bytes.Goals as goal

pub loop-payload-preserved : goal.loop-payload-preserved
loop-payload-preserved c =
    let bytes = c.as_slice-bytes.result.now in
    c.in_ok-extend_from_slice-2.ensures.items
    ∙ ap (λ (l : List ℕ). l ++ bytes) (c.in_ok-extend_from_slice.ensures.items ∙ ap (λ (l : List ℕ). l ++ c.to_be_bytes.result) c.in_ok-push.ensures.items)
    ∙ list_more c.args.payloads.now c.loop-payload.payload-index c.payload-item.result bytes c.to_be_bytes.result c.loop-payload.list.items c.loop-payload-test.true c.payload-item.is c.as_slice-bytes.ensures c.to_be_bytes.ensures c.loop-payload.invariant
