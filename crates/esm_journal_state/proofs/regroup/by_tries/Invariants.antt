use Rattle.std.proofs.Common.{◌≡◌, true, None}
use Rattle.std.specs.BTreeMap as map
use Rattle.esm_journal_state.specs.Pieces.{Key, key_cmp}
use Rattle.esm_journal_state.proofs.Regrouping.{regrouped}
use Rattle.esm_journal_state.proofs.regroup.by_tries.Given as goal

abbrev pub invariant-loop-place : goal.invariant-loop-place
invariant-loop-place l = (q : Key) → regrouped (λ e. true) (λ e. ((e.0.0, e.1.tries), e.0.1)) (λ e. e.1.text) (map.get key_cmp l.named q) l.place-iterator q ≡ regrouped (λ e. true) (λ e. ((e.0.0, e.1.tries), e.0.1)) (λ e. e.1.text) None l.tries.entries q
