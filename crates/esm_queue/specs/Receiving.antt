-- What a receipt copies. This product's own; cited by this crate's proofs alone.
use Rattle.std.specs.Prelude.{ℕ, ◌≤◌, ◌+◌, List, [], ◌∷◌, Option, option_map, slice_get}
use Rattle.esm_model.specs.declared.received.Received.{Received}
use Rattle.esm_queue_model.specs.declared.stored.Stored.{Stored}
use Rattle.esm_queue_model.specs.Queue.{seen_at, received_once}

-- the message at the place as its receiver sees it after one more receipt
abbrev pub received_at : ℕ → List Stored → ℕ → Option Received
received_at m messages i = option_map (λ (x : Stored). seen_at i (received_once m x)) (slice_get messages i)

-- the places rise, from the lower bound on
abbrev pub IsRising : ℕ → List ℕ → Type 0
IsRising low [] = Unit {0}
IsRising low (i ∷ places) = (low ≤ i) × IsRising (i + 1) places
