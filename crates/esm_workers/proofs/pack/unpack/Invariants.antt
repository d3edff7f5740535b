use Rattle.std.proofs.Common.{◌≡◌, ◌+◌, ◌≤◌, ◌∷◌, ◌++◌, length, reverse, vec_len, vec_capacity}
use Rattle.esm_workers.specs.Packs.{seats_of, callers_of}
use Rattle.esm_workers.proofs.pack.unpack.Given as goal

abbrev pub invariant-loop-hand : goal.invariant-loop-hand
invariant-loop-hand g l =
    (vec_len l.seats + length l.worked.items ≤ vec_capacity l.seats)
    × (vec_len l.callers + length l.worked.items ≤ vec_capacity l.callers)
    × (l.seats.items ++ seats_of (reverse l.worked.items) ≡ l.fn.first ∷ seats_of l.fn.worked.items)
    × (l.callers.items ++ callers_of (reverse l.worked.items) ≡ callers_of l.fn.worked.items)

abbrev pub decreases-loop-hand : goal.decreases-loop-hand
decreases-loop-hand g l = length l.worked.items
