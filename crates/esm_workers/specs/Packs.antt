-- Hands, as they are assembled and taken apart. Only this crate's proofs cite this.
use Rattle.std.specs.Prelude.{List, [], ◌∷◌}
use Rattle.esm_turn.specs.Seats.{SeatView}
use Rattle.esm_workers.specs.declared.hand.Hand.{Hand}

-- the seats of these hands
abbrev pub seats_of : {T F : Type 0} → List (Hand T F) → List SeatView
seats_of [] = []
seats_of (h ∷ hs) = h.seat ∷ seats_of hs

-- their callers
abbrev pub callers_of : {T F : Type 0} → List (Hand T F) → List F
callers_of [] = []
callers_of (h ∷ hs) = h.caller ∷ callers_of hs
