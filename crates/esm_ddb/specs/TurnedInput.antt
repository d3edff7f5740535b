-- An input of a DynamoDB stream that was read and turned. This product's own.
use Rattle.std.specs.Prelude.{◌≡◌, ◌≤◌, ℕ, List, ◌++◌, Option, Some, None}
use Rattle.esm_io.specs.Faults.{Rose}
use Rattle.esm_io.specs.Told.{TakesFront, IsAtEnd}
use Rattle.esm_ddb.specs.Translation.{translation_of, translation_so_far}
use Rattle.esm_ddb.specs.declared.error.DdbLine.{DdbLine}
use Rattle.esm_ddb.specs.declared.input.InputTurned.{InputTurned}
use Rattle.esm_ddb.specs.declared.input.InputTurned.TheVariants as ends
use Rattle.esm_ddb.specs.declared.source.Source.{Source}

-- all lines of the bytes were turned into this text, and this is their first bad line
pub record IsWhole (s : Source) (bytes text : List ℕ) (bad : Option DdbLine) : Type 0 where
  pub text_is : text ≡ (translation_of s bytes).text
  pub bad_is : (translation_of s bytes).bad ≡ bad

-- the ended lines of the bytes were turned into this text, and none of them is bad
pub record IsGoodSoFar (s : Source) (bytes text : List ℕ) : Type 0 where
  pub text_is : text ≡ (translation_so_far s bytes).text
  pub good : (translation_so_far s bytes).bad ≡ None

-- Why the reading ended after these bytes: the source ended; or a line is bad, and what is left of the source, where it
-- shows that, changes nothing; or a read of the source failed.
abbrev pub EndsSo : {S : Type 0} → (faults : S → ℕ) (left : S → Option (List ℕ)) → Source → (old new : S) → (taken text : List ℕ) → InputTurned → Type 0
EndsSo faults left s old new taken text ends.Ended = IsAtEnd (left new) × IsWhole s taken text None
EndsSo faults left s old new taken text (ends.BadLine line) =
    IsWhole s taken text (Some line) × ((rest : List ℕ) → left new ≡ Some rest → translation_of s (taken ++ rest) ≡ translation_of s taken)
EndsSo faults left s old new taken text ends.Failed = Rose (faults old) (faults new) × IsGoodSoFar s taken text

-- these bytes were taken from the source, and its count of faults did not fall
pub record IsTaken {S : Type 0} (faults : S → ℕ) (left : S → Option (List ℕ)) (old new : S) (taken : List ℕ) : Type 0 where
  pub front : TakesFront (left old) (left new) taken
  pub count : faults old ≤ faults new

-- the source was read, and what was taken from it was turned into this text
pub record IsTurnedInput {S : Type 0} (faults : S → ℕ) (left : S → Option (List ℕ)) (s : Source) (old new : S) (text : List ℕ) (end : InputTurned) : Type 0 where
  pub bytes : List ℕ
  pub taken : IsTaken faults left old new bytes
  pub ended : EndsSo faults left s old new bytes text end
