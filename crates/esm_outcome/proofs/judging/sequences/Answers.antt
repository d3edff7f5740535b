use Rattle.std.proofs.Common.{◌∙◌, ◌++◌, List, ℕ, sym, ap}
use Rattle.esm_ledger.specs.Ledger.{setting_of}
use Rattle.esm_outcome.specs.Parts.{sequence_in}
use Rattle.esm_outcome.proofs.Verdicts.{sequences_more}
use Rattle.std.specs.Prelude.{option_copied}
use Rattle.esm_outcome.proofs.judging.sequences.Goals as goal

pub loop-place-preserved : goal.loop-place-preserved
loop-place-preserved c =
    c.in_ok-push_sequence.ensures
    ∙ ap (λ (ys : List (List ℕ)). ys ++ sequence_in (option_copied c.record.result)) c.loop-place.invariant
    ∙ sym (sequences_more (setting_of c.args.ledger.now) c.args.shard c.args.places.now c.loop-place.place-index (option_copied c.record.result) c.loop-place-test.true c.record.ensures)
