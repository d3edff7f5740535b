use Rattle.std.proofs.Common.{◌≡◌, ℕ, ◌-◌, take}
use Rattle.esm_shard_index.specs.Windows.{open_in, times}
use Rattle.esm_shard_index.proofs.windows.Windows.fated.Given as goal

abbrev pub invariant-loop-window : goal.invariant-loop-window
invariant-loop-window l = record {
  opened : (w : ℕ) → open_in l.self w ≡ open_in l.initial.self w - times (take l.window-index l.windows) w;
  last : l.self.last ≡ l.initial.self.last;
  states : l.self.states ≡ l.initial.self.states;
  tries : l.self.tries ≡ l.initial.self.tries;
}
