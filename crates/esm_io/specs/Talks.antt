-- What went over a connection, if it shows that. This product's own.
use Rattle.std.specs.Prelude.{◌≡◌, ℕ, List, [], ◌∷◌, ◌++◌, Option, Some, None}

-- the bytes that a connection has read, those left to read, and those written
pub record Talk : Type 0 where
  pub read : List ℕ
  pub left : List ℕ
  pub written : List ℕ

-- a closed connection: what went over it, and its count of faults
pub record Closed : Type 0 where
  pub talk : Talk
  pub faults : ℕ

-- these bytes were read from the front of what was left
abbrev pub Reads : Option Talk → Option Talk → List ℕ → Type 0
Reads None new bytes = new ≡ None
Reads (Some t) new bytes = (rest : List ℕ) × (t.left ≡ bytes ++ rest) × (new ≡ Some (record { read = t.read ++ bytes; left = rest; written = t.written }))

-- these bytes were written after the others
abbrev pub Writes : Option Talk → Option Talk → List ℕ → Type 0
Writes None new bytes = new ≡ None
Writes (Some t) new bytes = new ≡ Some (record { read = t.read; left = t.left; written = t.written ++ bytes })

-- nothing is left to read
abbrev pub IsReadOut : Option Talk → Type 0
IsReadOut None = Unit {0}
IsReadOut (Some t) = t.left ≡ []

-- nothing was read or written
abbrev pub IsFresh : Option Talk → Type 0
IsFresh None = Unit {0}
IsFresh (Some t) = (t.read ≡ []) × (t.written ≡ [])

-- the list of closed connections grew by this one at its end
abbrev pub Closes : Option (List Closed) → Option (List Closed) → Option Talk → ℕ → Type 0
Closes None new talk faults = new ≡ None
Closes (Some old) new talk faults = (t : Talk) × (talk ≡ Some t) × (new ≡ Some (old ++ record { talk = t; faults = faults } ∷ []))
