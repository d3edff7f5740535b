use Rattle.std.proofs.Common.{◌≡◌, ◌+◌, ◌≤◌, ◌++◌, length, map, reverse, vec_len, vec_capacity}
use Rattle.esm_trace.proofs.replies.newest_first.Given as goal

abbrev pub invariant-loop-list : goal.invariant-loop-list
invariant-loop-list l =
    (vec_len l.turned + length l.lists.items ≤ vec_capacity l.turned)
    × (map (λ replies. reverse replies.items) l.lists.items ++ reverse (map (λ replies. replies.items) l.turned.items) ≡ map (λ replies. reverse replies.items) l.fn.kept.items)

abbrev pub decreases-loop-list : goal.decreases-loop-list
decreases-loop-list l = length l.lists.items
