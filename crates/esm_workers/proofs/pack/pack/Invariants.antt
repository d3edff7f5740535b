use Rattle.std.proofs.Common.{◌≡◌, ◌+◌, ◌≤◌, ◌++◌, length, reverse, vec_len, vec_capacity}
use Rattle.esm_workers.specs.Packs.{seats_of, callers_of}
use Rattle.esm_workers.proofs.pack.pack.Given as goal

abbrev pub invariant-loop-caller : goal.invariant-loop-caller
invariant-loop-caller g l =
    (length l.seats.items ≡ length l.callers.items + 1)
    × (vec_len l.hands + length l.callers.items ≤ vec_capacity l.hands)
    × (l.seats.items ++ seats_of (reverse l.hands.items) ≡ l.fn.seats.items)
    × (l.callers.items ++ callers_of (reverse l.hands.items) ≡ l.fn.callers.items)
    × (vec_capacity l.seats ≡ vec_capacity l.fn.seats)
    × (vec_capacity l.callers ≡ vec_capacity l.fn.callers)

abbrev pub decreases-loop-caller : goal.decreases-loop-caller
decreases-loop-caller g l = length l.callers.items
