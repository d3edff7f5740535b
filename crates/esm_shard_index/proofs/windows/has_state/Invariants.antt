use Rattle.std.proofs.Common.{◌≡◌}
use Rattle.esm_shard_index.specs.Windows.{some_text}
use Rattle.esm_shard_index.proofs.windows.has_state.Given as goal

abbrev pub invariant-loop-window : goal.invariant-loop-window
invariant-loop-window l = some_text l.states.entries ≡ some_text l._window-iterator
