use Rattle.std.proofs.Common.{◌≤◌, ◌≡◌, ◌∙◌, List, ℕ, length, sym, subst, arith}
use Rattle.std.proofs.lemmas.Result.{IfOk-weaker}
use Rattle.esm_model.specs.declared.limits.TheConstants.{MAX_BATCH}
use Rattle.esm_model.specs.declared.verdict.Answer.{Answer}
use Rattle.esm_model.specs.Setting.{sequences_at}
use Rattle.esm_verdict.specs.Readings.{IsWithin}
use Rattle.esm_ledger.specs.Ledger.{setting_of}
use Rattle.esm_outcome.proofs.Verdicts.{sequences_few, within_more}
use Rattle.esm_outcome.proofs.judging.batch_answer.Goals as goal

pub read_stream-requires-2 : goal.read_stream-requires-2
read_stream-requires-2 c =
    let are : c.as_slice.result.now ≡ sequences_at (setting_of c.args.ledger.now) c.args.shard c.args.places.now = c.as_slice.ensures.value ∙ c.in_ok-batch.ensures.sequences in
    let less = sequences_few (setting_of c.args.ledger.now) c.args.shard c.args.places.now in
    let few = c.requires.few in
    subst (λ (xs : List (List ℕ)). length xs ≤ MAX_BATCH) (sym are) (omega (arith, less, few))

pub returns-clause-within : goal.returns-clause-within
returns-clause-within c =
    let are : c.as_slice.result.now ≡ sequences_at (setting_of c.args.ledger.now) c.args.shard c.args.places.now = c.as_slice.ensures.value ∙ c.in_ok-batch.ensures.sequences in
    let less : length c.as_slice.result.now ≤ length c.args.places.now = subst (λ (xs : List (List ℕ)). length xs ≤ length c.args.places.now) (sym are) (sequences_few (setting_of c.args.ledger.now) c.args.shard c.args.places.now) in
    IfOk-weaker c.read_stream-2.result (λ (a : Answer). IsWithin (length c.as_slice.result.now) a.reading) (λ (a : Answer). IsWithin (length c.args.places.now) a.reading)
    (λ a is. within_more (length c.as_slice.result.now) (length c.args.places.now) a.reading less is) c.read_stream-2.ensures.within
