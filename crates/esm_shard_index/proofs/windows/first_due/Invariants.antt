use Rattle.std.proofs.Common.{◌≡◌}
use Rattle.esm_shard_index.specs.Windows.{due_from}
use Rattle.esm_shard_index.proofs.windows.first_due.Given as goal

abbrev pub invariant-loop-window : goal.invariant-loop-window
invariant-loop-window l = due_from l.opened l.last l.shut l.states.entries ≡ due_from l.opened l.last l.shut l.window-iterator
