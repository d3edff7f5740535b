use Rattle.std.proofs.Common.{◌≡◌, ◌++◌}
use Rattle.std.specs.Prelude.{map}
use Rattle.esm_journal_state.specs.Compact.{state_of_window}
use Rattle.esm_journal_state.proofs.compact.push_states.Given as goal

abbrev pub invariant-loop-key : goal.invariant-loop-key
invariant-loop-key l = l.saids.items ++ map (state_of_window l.moment) l.key-iterator ≡ l.initial.saids.items ++ map (state_of_window l.moment) l.states.entries
