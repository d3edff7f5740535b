use Rattle.std.proofs.Common.{◌≡◌, ◌++◌}
use Rattle.esm_journal_state.proofs.fate_row.row_of.Given as goal

abbrev pub invariant-loop-entry : goal.invariant-loop-entry
invariant-loop-entry l = l.row.items ++ l.entry-iterator ≡ l.fn.fates.entries
