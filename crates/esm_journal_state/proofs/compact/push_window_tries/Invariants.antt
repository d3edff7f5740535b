use Rattle.std.proofs.Common.{◌≡◌, ◌++◌}
use Rattle.std.specs.Prelude.{map}
use Rattle.esm_journal_state.specs.Compact.{tried_of_window}
use Rattle.esm_journal_state.proofs.compact.push_window_tries.Given as goal

abbrev pub invariant-loop-key : goal.invariant-loop-key
invariant-loop-key l = l.saids.items ++ map (tried_of_window l.moment) l.key-iterator ≡ l.initial.saids.items ++ map (tried_of_window l.moment) l.window_tries.entries
