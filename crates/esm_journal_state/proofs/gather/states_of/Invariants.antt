use Rattle.std.proofs.Common.{◌≡◌, ◌++◌}
use Rattle.std.specs.Prelude.{map}
use Rattle.esm_journal_state.specs.View.{stated}
use Rattle.esm_journal_state.proofs.gather.states_of.Given as goal

abbrev pub invariant-loop-shard : goal.invariant-loop-shard
invariant-loop-shard l = l.list.items ++ map stated l.shard-iterator ≡ map stated l.fn.states.entries
