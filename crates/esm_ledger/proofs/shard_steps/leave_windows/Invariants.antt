use Rattle.std.proofs.Common.{◌≡◌, ℕ, ◌-◌, take}
use Rattle.esm_shard_index.specs.Windows.{open_in, times}
use Rattle.esm_ledger.specs.Shard.{windows_at}
use Rattle.esm_ledger.proofs.shard_steps.leave_windows.Given as goal

abbrev pub invariant-loop-place : goal.invariant-loop-place
invariant-loop-place l = record {
  opened : (w : ℕ) → open_in l.windows w ≡ open_in l.initial.windows w - times (windows_at l.measures (take l.place-index l.places)) w;
  tries : l.windows.tries ≡ l.initial.windows.tries;
  states : l.windows.states ≡ l.initial.windows.states;
  last : l.windows.last ≡ l.initial.windows.last;
}
