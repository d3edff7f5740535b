-- What an outside object holds or has left, if it shows that to contracts: `None` shows nothing. This product's own.
use Rattle.std.specs.Prelude.{◌≡◌, ◌⊎◌, ℕ, List, ◌++◌, ◌∷◌, [], Option, Some, None}

-- these were taken from the front of what was left
abbrev pub TakesFront : {A : Type 0} → Option (List A) → Option (List A) → List A → Type 0
TakesFront None new front = new ≡ None
TakesFront {A} (Some old) new front = (rest : List A) × (old ≡ front ++ rest) × (new ≡ Some rest)

-- the list grew by these at its end
abbrev pub Grows : {A : Type 0} → Option (List A) → Option (List A) → List A → Type 0
Grows None new more = new ≡ None
Grows (Some old) new more = new ≡ Some (old ++ more)

-- nothing is left
abbrev pub IsAtEnd : {A : Type 0} → Option (List A) → Type 0
IsAtEnd None = Unit {0}
IsAtEnd (Some left) = left ≡ []

-- what is left reads as these lines, or as these and one more
abbrev pub IsEither : (List ℕ → List (List ℕ) → Type 0) → List (List ℕ) → List ℕ → List ℕ → Type 0
IsEither reads_as held more left = reads_as left held ⊎ reads_as left (held ++ more ∷ [])
