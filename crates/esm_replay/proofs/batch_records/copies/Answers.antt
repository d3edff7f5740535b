use Rattle.std.proofs.Common.{◌∙◌, ◌++◌, ◌∷◌, [], List, ap₂, sym}
use Rattle.esm_model.specs.Records.{Record}
use Rattle.esm_replay.proofs.Gathered.{records_more}
use Rattle.esm_replay.proofs.batch_records.copies.Goals as goal

pub loop-i-preserved : goal.loop-i-preserved
loop-i-preserved c =
    c.in_ok-push.ensures.items
    ∙ ap₂ (λ (xs : List Record) (r : Record). xs ++ r ∷ []) c.loop-i.invariant c.in_ok-copy.ensures
    ∙ sym (records_more c.args.records.now c.args.named.now c.loop-i.i c.record_named.result.now c.record_named.ensures)
