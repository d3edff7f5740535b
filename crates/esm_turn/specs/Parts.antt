-- What seats know, part by part. A seat has one part. While the seats are dealt, the first one has the parts of all that
-- have none yet; while they are gathered, the last one has the parts of all gathered so far. This product's own.
use Rattle.std.specs.Prelude.{◌≡◌, ℕ, zero, suc, ◌==◌, ◌⊎◌, if◌then◌else◌, false, List, [], ◌∷◌, Option, None}
use Rattle.esm_model.specs.declared.book.Change.{Change}
use Rattle.esm_model.specs.declared.setup.Setup.{Setup}
use Rattle.esm_model.specs.declared.setup.Told.{Told}
use Rattle.esm_model.specs.Kept.{entries_of}
use Rattle.esm_model.specs.Setup.{no_setup}
use Rattle.esm_turn.specs.declared.part.Part.{Part}

-- the part of seat n, which has seen the history h, with its own entries in it, and the change
abbrev pub begun_part : (Setup → List Told → Told → ℕ) → Setup → List Told → Option Change → ℕ → Part
begun_part author setup h change n = record { setup = setup; number = n; seen = h; mine = entries_of (author setup) n h; mark = false; change = change; holds = false }

-- the parts of `count` seats, from seat n on
abbrev pub begun_parts : (Setup → List Told → Told → ℕ) → Setup → List Told → Option Change → ℕ → ℕ → List Part
begun_parts author setup h change n zero = []
begun_parts author setup h change n (suc count) = begun_part author setup h change n ∷ begun_parts author setup h change (suc n) count

-- the parts that are not seat n's
abbrev pub parts_but : ℕ → List Part → List Part
parts_but n [] = []
parts_but n (p ∷ ps) = if p.number == n then parts_but n ps else p ∷ parts_but n ps

-- the parts that are not of the first part's seat
abbrev pub but_first : List Part → List Part
but_first [] = []
but_first (p ∷ ps) = parts_but p.number ps

-- the first part alone
abbrev pub first_of_parts : List Part → List Part
first_of_parts [] = []
first_of_parts (p ∷ ps) = p ∷ []

-- a placeholder for a list without a part
abbrev pub no_part : Part
no_part = record { setup = no_setup; number = 0; seen = []; mine = []; mark = false; change = None; holds = false }

-- the part of a seat, which has exactly one
abbrev pub first_part : List Part → Part
first_part [] = no_part
first_part (p ∷ ps) = p

-- P holds of each part
abbrev pub Each : (Part → Type 0) → List Part → Type 0
Each P [] = Unit {0}
Each P (p ∷ ps) = P p × Each P ps

-- p is one of these parts
abbrev pub Within : Part → List Part → Type 0
Within p [] = ⊥
Within p (q ∷ qs) = (p ≡ q) ⊎ Within p qs
