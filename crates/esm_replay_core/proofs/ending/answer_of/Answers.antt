use Rattle.std.proofs.Common.{◌≡◌, ◌≤◌, ◌∙◌, ℕ, List, length, sym, subst}
use Rattle.std.specs.Prelude.{IfOk}
use Rattle.esm_model.specs.declared.limits.TheConstants.{MAX_BATCH}
use Rattle.esm_model.specs.declared.verdict.Answer.{Answer}
use Rattle.esm_verdict.specs.Readings.{IsWithin}
use Rattle.esm_replay_core.proofs.ending.answer_of.Goals as goal

pub read_stream-requires-2 : goal.read_stream-requires-2
read_stream-requires-2 c =
    let are : c.as_slice.result.now ≡ c.args.names.now = c.as_slice.ensures.value ∙ c.in_ok-numbers.ensures in
    subst (λ (xs : List (List ℕ)). length xs ≤ MAX_BATCH) (sym are) c.requires.few

pub returns-clause-within : goal.returns-clause-within
returns-clause-within c =
    let are : c.as_slice.result.now ≡ c.args.names.now = c.as_slice.ensures.value ∙ c.in_ok-numbers.ensures in
    subst (λ (xs : List (List ℕ)). IfOk c.read_stream-2.result (λ (a : Answer). IsWithin (length xs) a.reading)) are c.read_stream-2.ensures.within
