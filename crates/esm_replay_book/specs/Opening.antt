-- What opening a replay's book finds in its journal and in the lines of the failure file.
use Rattle.std.specs.Prelude.{◌≡◌, ◌++◌, ◌∷◌, [], ℕ, Bool, true, false, List, map, take, reverse, slice_get, Some, None, IsSome}
use Rattle.std.specs.List.{All}
use Rattle.esm_journal.specs.Pair.{PairState}
use Rattle.esm_model.specs.declared.config.Config.{Config}
use Rattle.esm_journal_state.specs.declared.error.SaysError.TheVariants as error
use Rattle.esm_journal_state.specs.Bad.{IsFirstBad}
use Rattle.esm_journal_state.specs.Meaning.{history, are_good}
use Rattle.esm_journal_state.specs.SaidLists.{SaidLists, IsInOrder}
use Rattle.esm_journal_state.specs.Tells.{Tells}
use Rattle.esm_replay_model.specs.declared.range.Range.{Range}
use Rattle.esm_replay_model.specs.FailureRange.{failure_range}
use Rattle.esm_replay_model.specs.ReplaySetting.{replay_config}
use Rattle.esm_replay_core.specs.View.{ReplayView, new_view}
use Rattle.esm_replay_book.specs.declared.opening.ReplayOpen.{ReplayOpen}
use Rattle.esm_replay_book.specs.declared.opening.ReplayOpen.TheVariants.{BadPayload, BadLine, OutOfMemory}
use Rattle.esm_replay_book.specs.Books.{BookState}

-- each line names its range, in order
abbrev pub GiveRanges : List (List ℕ) → List Range → Type 0
GiveRanges lines ranges = map failure_range lines ≡ map Some ranges

-- the line with this index is the first that names no range
pub record IsFirstBadLine (lines : List (List ℕ)) (i : ℕ) : Type 0 where
  pub before : All (λ (line : List ℕ). IsSome (failure_range line)) (take i lines)
  pub line : List ℕ
  pub at : slice_get lines i ≡ Some line
  pub bad : failure_range line ≡ None

-- A core in which no record has arrived. No payload is bad, and it was opened with what the payloads say and with the
-- ranges that the lines name.
pub record IsCoreOver (config : Config) (calls : ℕ) (payloads lines : List (List ℕ)) (v : ReplayView) : Type 0 where
  pub good : are_good (reverse payloads) ≡ true
  pub said : SaidLists
  pub tells : Tells said (history (reverse payloads))
  pub order : IsInOrder said
  pub ranges : List Range
  pub given : GiveRanges lines ranges
  pub is : v ≡ new_view (record { config = replay_config config; calls = calls; said = said; ranges = ranges })

-- A core in which no record has arrived, opened with what the journal said and with the ranges that the lines name.
pub record IsCoreOf (config : Config) (calls : ℕ) (said : SaidLists) (lines : List (List ℕ)) (v : ReplayView) : Type 0 where
  pub ranges : List Range
  pub given : GiveRanges lines ranges
  pub is : v ≡ new_view (record { config = replay_config config; calls = calls; said = said; ranges = ranges })

-- a book over this journal with such a core
pub record IsOpenedOver {D : Type 0} (config : Config) (calls : ℕ) (said : SaidLists) (pair : PairState D) (lines : List (List ℕ)) (b : BookState D) : Type 0 where
  pub core : IsCoreOf config calls said lines b.core
  pub pair_is : b.pair ≡ pair
  pub found : b.found ≡ pair
  pub trouble : b.trouble ≡ None

-- a book over this journal with a core over its payloads
pub record IsOpened {D : Type 0} (config : Config) (calls : ℕ) (pair : PairState D) (lines : List (List ℕ)) (b : BookState D) : Type 0 where
  pub core : IsCoreOver config calls pair.payloads lines b.core
  pub pair_is : b.pair ≡ pair
  pub found : b.found ≡ pair
  pub trouble : b.trouble ≡ None

-- the payload with this index is the first that is bad for a book
abbrev pub IsBadPayloads : List (List ℕ) → ReplayOpen → Type 0
IsBadPayloads payloads (BadPayload i) = IsFirstBad payloads (error.BadPayload i)
IsBadPayloads payloads (BadLine i) = ⊥
IsBadPayloads payloads OutOfMemory = Unit {0}

-- the line with this index is the first that names no range
abbrev pub IsBadLines : List (List ℕ) → ReplayOpen → Type 0
IsBadLines lines (BadPayload i) = ⊥
IsBadLines lines (BadLine i) = IsFirstBadLine lines i
IsBadLines lines OutOfMemory = Unit {0}

-- the line names a range, which was added behind the others; or it names none
abbrev pub IsTaken : List ℕ → (before after : List Range) → Bool → Type 0
IsTaken line before after true = (range : Range) × (failure_range line ≡ Some range) × (after ≡ before ++ range ∷ [])
IsTaken line before after false = failure_range line ≡ None

-- the error names this line, or an allocation failed
abbrev pub IsLineError : ℕ → ReplayOpen → Type 0
IsLineError index (BadPayload i) = ⊥
IsLineError index (BadLine i) = i ≡ index
IsLineError index OutOfMemory = Unit {0}

-- the payload with this index is the first that is bad for a book; or no payload is bad, and the line with this index is
-- the first that names no range
abbrev pub IsNotOpened : (payloads lines : List (List ℕ)) → ReplayOpen → Type 0
IsNotOpened payloads lines (BadPayload i) = IsFirstBad payloads (error.BadPayload i)
IsNotOpened payloads lines (BadLine i) = (are_good (reverse payloads) ≡ true) × IsFirstBadLine lines i
IsNotOpened payloads lines OutOfMemory = Unit {0}
