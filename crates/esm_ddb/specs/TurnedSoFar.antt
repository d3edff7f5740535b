-- What is known while an input is read and turned piece by piece. Only this crate's proofs cite this.
use Rattle.std.specs.Prelude.{◌≡◌, ℕ, Bool, true, false, List, Option, Some, None}
use Rattle.esm_io.specs.Faults.{IsCount}
use Rattle.esm_io.specs.Told.{TakesFront}
use Rattle.esm_ddb.specs.Translating.{Translating, IsFed}
use Rattle.esm_ddb.specs.Translation.{Translation, translation_of, translation_so_far}
use Rattle.esm_ddb.specs.TurnedInput.{IsGoodSoFar, IsTaken, IsTurnedInput}
use Rattle.esm_ddb.specs.declared.error.DdbLine.{DdbLine}
use Rattle.esm_ddb.specs.declared.input.InputTurned.{InputTurned}
use Rattle.esm_ddb.specs.declared.input.InputTurned.TheVariants as ends
use Rattle.esm_ddb.specs.declared.source.Source.{Source}

-- the bytes turned: all their lines if the source ended, otherwise those that ended, and an unfinished one that is too
-- long
abbrev pub translation_read : Source → (whole : Bool) → List ℕ → Translation
translation_read s true bytes = translation_of s bytes
translation_read s false bytes = translation_so_far s bytes

-- why the reading ends, if it does: a bad line counts before the end of the source
abbrev pub end_by : (whole : Bool) → Option DdbLine → Option InputTurned
end_by whole (Some line) = Some (ends.BadLine line)
end_by true None = Some ends.Ended
end_by false None = None

-- these bytes were read from the source
pub record IsRead {S : Type 0} (faults : S → ℕ) (left : S → Option (List ℕ)) (old new : S) (bytes : List ℕ) : Type 0 where
  pub front : TakesFront (left old) (left new) bytes
  pub count : IsCount (faults old) (faults new)

-- the translator was fed what was taken, and no line is bad
pub record IsTurnedSoFar {S : Type 0} (faults : S → ℕ) (left : S → Option (List ℕ)) (s : Source) (old now : S) (t : Translating) (text : List ℕ) : Type 0 where
  pub bytes : List ℕ
  pub taken : IsTaken faults left old now bytes
  pub going : t.finished ≡ false
  pub fed : IsFed bytes t.state
  pub source : t.state.source ≡ s
  pub so_far : IsGoodSoFar s bytes text

-- after one more piece
abbrev pub StandsSo : {S : Type 0} → (faults : S → ℕ) (left : S → Option (List ℕ)) → Source → (old now : S) → Translating → (text : List ℕ) → Option InputTurned → Type 0
StandsSo faults left s old now t text None = IsTurnedSoFar faults left s old now t text
StandsSo faults left s old now t text (Some end) = IsTurnedInput faults left s old now text end
