use Rattle.std.proofs.Common.{◌≡◌, ◌≤◌, ℕ, length, drop}
use Rattle.esm_shard_index.specs.Windows.{tries_in}
use Rattle.esm_ledger.specs.Measuring.{tries_from}
use Rattle.esm_ledger.proofs.found.load_tries.Given as goal

abbrev pub invariant-loop-index : goal.invariant-loop-index
invariant-loop-index l = record {
  within : l.index ≤ length l.tries;
  tries : (w : ℕ) → tries_in l.windows w ≡ tries_from (drop l.index l.tries) w (tries_in l.initial.windows w);
  opened : l.windows.opened ≡ l.initial.windows.opened;
  states : l.windows.states ≡ l.initial.windows.states;
  last : l.windows.last ≡ l.initial.windows.last;
}

abbrev pub decreases-loop-index : goal.decreases-loop-index
decreases-loop-index l = l.index
