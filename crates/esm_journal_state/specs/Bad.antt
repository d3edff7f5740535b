-- Which payload of a list is the first bad one.
use Rattle.std.specs.Prelude.{ℕ, ◌+◌, ◌≡◌, ◌<◌, true, false, List, length, take, reverse}
use Rattle.esm_journal_state.specs.declared.error.SaysError.{SaysError}
use Rattle.esm_journal_state.specs.declared.error.SaysError.TheVariants.{BadPayload, OutOfMemory}
use Rattle.esm_journal_state.specs.Meaning.{are_good}

-- the payloads before it are good, and it is not; the oldest payload is first
abbrev pub IsFirstBad : List (List ℕ) → SaysError → Type 0
IsFirstBad payloads (BadPayload i) =
    (i < length payloads) × (are_good (reverse (take i payloads)) ≡ true) × (are_good (reverse (take (i + 1) payloads)) ≡ false)
IsFirstBad payloads OutOfMemory = Unit {0}

-- it names this index, or memory ran out
abbrev pub IsAt : ℕ → SaysError → Type 0
IsAt index (BadPayload i) = i ≡ index
IsAt index OutOfMemory = Unit {0}
