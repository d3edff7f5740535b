-- What a crash may leave of a disk while a fresh file is made on it.
use Rattle.std.specs.Prelude.{◌≡◌, ◌⊎◌, ℕ, List, []}
use Rattle.esm_journal.specs.File.{Holding, opened_rest}

-- no payload is found in the file, whatever its header
abbrev pub HoldsNone : List ℕ → Type 0
HoldsNone bytes = (epoch : ℕ) (payloads : List (List ℕ)) → opened_rest bytes ≡ Holding epoch payloads → payloads ≡ []

-- an image from before the call, or one in which no payload is found
abbrev pub WasOrHoldsNone : (List ℕ → Type 0) → List ℕ → Type 0
WasOrHoldsNone before bytes = before bytes ⊎ HoldsNone bytes
