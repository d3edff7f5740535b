use Rattle.std.proofs.Common.{◌≡◌, None}
use Rattle.std.specs.BTreeMap as map
use Rattle.std.specs.BTreeSet as set
use Rattle.esm_journal_state.specs.Pieces.{Key, key_cmp}
use Rattle.esm_journal_state.specs.Table.{pair_cmp}
use Rattle.esm_journal_state.proofs.Regrouping.{regrouped}
use Rattle.esm_journal_state.proofs.regroup.by_replay.Given as goal

abbrev pub invariant-loop-place : goal.invariant-loop-place
invariant-loop-place l = (q : Key) → regrouped (λ e. set.contains pair_cmp l.replays e.0) (λ e. ((e.0.0, 0), e.0.1)) (λ e. e.1.text) (map.get key_cmp l.named q) l.place-iterator q ≡ regrouped (λ e. set.contains pair_cmp l.replays e.0) (λ e. ((e.0.0, 0), e.0.1)) (λ e. e.1.text) None l.fates.entries q
