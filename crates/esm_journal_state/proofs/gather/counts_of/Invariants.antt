use Rattle.std.proofs.Common.{◌≡◌, ◌+◌, ◌==◌, ℕ, length}
use Rattle.std.specs.Prelude.{filter}
use Rattle.esm_journal_state.specs.View.{number_with}
use Rattle.esm_journal_state.proofs.gather.counts_of.Given as goal

abbrev pub invariant-loop-place : goal.invariant-loop-place
invariant-loop-place l = (n : ℕ) → number_with l.counts l.hand n + length (filter (λ e. e.0.0 == n) l.place-iterator) ≡ length (filter (λ e. e.0.0 == n) l.fates.entries)
