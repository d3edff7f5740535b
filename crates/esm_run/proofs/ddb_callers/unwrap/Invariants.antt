use Rattle.std.proofs.Common.{◌≡◌, ◌+◌, ◌≤◌, ◌++◌, length, reverse, vec_len, vec_capacity}
use Rattle.esm_run.specs.Under.{callers_under}
use Rattle.esm_run.proofs.ddb_callers.unwrap.Given as goal

abbrev pub invariant-loop-caller : goal.invariant-loop-caller
invariant-loop-caller g l =
    (vec_len l.callers + length l.wrapped.items ≤ vec_capacity l.callers)
    × (l.callers.items ++ callers_under (reverse l.wrapped.items) ≡ callers_under l.fn.wrapped.items)

abbrev pub decreases-loop-caller : goal.decreases-loop-caller
decreases-loop-caller g l = length l.wrapped.items
