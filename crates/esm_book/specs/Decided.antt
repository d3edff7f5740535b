-- What a core's decisions mean to the devices: which bytes are written for its entries. This product's own.
use Rattle.std.specs.Prelude.{◌≡◌, ◌≤◌, ℕ, ◌-◌, List, [], ◌∷◌, Option, length, take, reverse}
use Rattle.std.specs.List.{filter_map}
use Rattle.esm_model.specs.declared.book.Change.{Change}
use Rattle.esm_book.specs.declared.error.Refusal.{Refusal}
use Rattle.esm_book.specs.declared.error.Refusal.TheVariants.{Changed, OutOfMemory}

-- what is written of the entries, in their order: the payloads, or the lines
abbrev pub written_of : {E : Type 0} → (E → Option (List ℕ)) → List E → List (List ℕ)
written_of text entries = filter_map text entries

-- the lengths of payloads, as room is made for them
abbrev pub lengths_of : List (List ℕ) → List ℕ
lengths_of [] = []
lengths_of (payload ∷ payloads) = length payload ∷ lengths_of payloads

-- there is at most one line, of at most `bound` bytes
abbrev pub IsLineWithin : List (List ℕ) → ℕ → Type 0
IsLineWithin [] bound = Unit {0}
IsLineWithin (line ∷ lines) bound = (length line ≤ bound) × (lines ≡ [])

-- the entries that a history has now, newest first, beyond those from before: oldest first
abbrev pub added : {E : Type 0} → List E → List E → List E
added before now = reverse (take (length now - length before) now)

-- why a call was refused: for such a change, given twice, or since an allocation failed
abbrev pub IsRefused : (Change → Type 0) → Refusal → Type 0
IsRefused found (Changed told kept) = found told × (kept ≡ told)
IsRefused found OutOfMemory = Unit {0}
