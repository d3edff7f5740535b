use Rattle.std.proofs.Common.{◌≡◌, ◌≤◌, ℕ, length, drop}
use Rattle.esm_shard_index.specs.Windows.{state_in}
use Rattle.esm_ledger.specs.Measuring.{state_from}
use Rattle.esm_ledger.proofs.found.load_states.Given as goal

abbrev pub invariant-loop-index : goal.invariant-loop-index
invariant-loop-index l = record {
  within : l.index ≤ length l.states;
  states : (w : ℕ) → state_in l.windows w ≡ state_from (drop l.index l.states) l.shard w (state_in l.initial.windows w);
  opened : l.windows.opened ≡ l.initial.windows.opened;
  tries : l.windows.tries ≡ l.initial.windows.tries;
  last : l.windows.last ≡ l.initial.windows.last;
}

abbrev pub decreases-loop-index : goal.decreases-loop-index
decreases-loop-index l = l.index
