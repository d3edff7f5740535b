use Rattle.std.proofs.Common.{◌≡◌, ◌+◌, ◌≤◌, ◌++◌, length, reverse, vec_len, vec_capacity}
use Rattle.esm_run.specs.Under.{callers_under}
use Rattle.esm_run.proofs.ddb_callers.wrap.Given as goal

abbrev pub invariant-loop-caller : goal.invariant-loop-caller
invariant-loop-caller g l =
    (vec_len l.wrapped + length l.callers.items ≤ vec_capacity l.wrapped)
    × (l.callers.items ++ callers_under (reverse l.wrapped.items) ≡ l.fn.callers.items)
    × (vec_capacity l.callers ≡ vec_capacity l.fn.callers)

abbrev pub decreases-loop-caller : goal.decreases-loop-caller
decreases-loop-caller g l = length l.callers.items
