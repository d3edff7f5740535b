use Rattle.std.proofs.Common.{◌≡◌, ◌++◌}
use Rattle.esm_journal_state.proofs.gather.numbers_of.Given as goal

abbrev pub invariant-loop-number : goal.invariant-loop-number
invariant-loop-number l = l.list.items ++ l.number-iterator ≡ l.numbers.keys
