use Rattle.std.proofs.Common.{◌≡◌, ◌+◌, ◌-◌, ◌∙◌, map, drop, Some, if◌then◌else◌, sym, ap, ap₂, arith}
use Rattle.std.specs.List.{position_from}
use Rattle.std.specs.Str.{bytes_eq}
use Rattle.esm_verdict.proofs.IndexLemmas.{one_item_before, all_indexed}
use Rattle.esm_verdict.proofs.index.Index.of.Goals as goal

pub loop-at-preserved : goal.loop-at-preserved
loop-at-preserved g c =
    let id_of = g.T.Identified.identifier in
    let batch = c.args.batch.now in
    let at = c.loop-at.at in
    let next : at ≡ at - 1 + 1 = omega arith in
    record {
      within = omega arith;
      indexed = λ id.
          c.in_ok-put.ensures id
          ∙ ap₂ (λ b found. if b then Some (at - 1) else found) (ap (λ t. bytes_eq t id) c.id.ensures)
          (c.loop-at.invariant.indexed id ∙ ap (λ k. position_from (λ i. bytes_eq i id) k (drop k (map id_of batch))) next)
          ∙ sym (one_item_before id_of batch (at - 1) c.index-batch-at.result id (omega arith) c.index-batch-at.is);
    }

pub returns : goal.returns
returns g c = λ id. c.loop-at.invariant.indexed id ∙ all_indexed (map g.T.Identified.identifier c.args.batch.now) c.loop-at.at id (omega arith)
