-- Pieces of what is left.
use Rattle.std.proofs.Common.{◌≡◌, ℕ, ◌+◌, ◌≤◌, List, ◌++◌, length, take, drop, arith}
use Rattle.std.proofs.lemmas.Grind.{common_steps}
use Rattle.std.proofs.lemmas.List.{take-append-drop, length-take}

-- the first n bytes, copied over a front, and the rest
pub given_front : (n at : ℕ) (bytes front rest : List ℕ) → n ≤ length (drop at bytes) → front ≡ take n (drop at bytes) → drop at bytes ≡ take n (front ++ rest) ++ drop (at + n) bytes
given_front n at bytes front rest le e = grind (arith, common_steps, take-append-drop n (drop at bytes), length-take n (drop at bytes))
