-- What was read of an input, what it hands out, and why its reading ended. This product's own.
use Rattle.std.specs.Prelude.{◌≡◌, ℕ, Bool, true, false, List, [], Option, Some, None}
use Rattle.esm_io.specs.Told.{TakesFront, IsAtEnd}
use Rattle.esm_io.specs.Faults.{Rose}
use Rattle.esm_model.specs.declared.config.Start.{Start}
use Rattle.esm_record.specs.declared.error.BadLine.{BadLine}
use Rattle.esm_model.specs.declared.item.Item.{Item}
use Rattle.esm_model.specs.declared.item.LineKind.{LineKind}
use Rattle.esm_record.specs.Input.{Input, input_so_far, input_of}
use Rattle.esm_input.specs.Limits.{Limited, limited_after}
use Rattle.esm_input.specs.Positions.{from_start}
use Rattle.esm_input.specs.declared.ending.InputEnd.{InputEnd}
use Rattle.esm_input.specs.declared.ending.InputEnd.TheVariants as ends

-- the input in the bytes read: all lines if the source ended; otherwise those that ended, and a last one that is too long
abbrev pub input_read : LineKind → Bool → List ℕ → Input
input_read kind true bytes = input_of kind bytes
input_read kind false bytes = input_so_far kind bytes

-- the items of these lines, as far as they are within the limits
abbrev pub items_read : LineKind → (factor : ℕ) → Bool → List ℕ → Limited
items_read kind factor whole bytes = limited_after factor [] (input_read kind whole bytes).items

-- no line is bad, and no item exceeds a limit
pub record IsGood (kind : LineKind) (factor : ℕ) (whole : Bool) (bytes : List ℕ) : Type 0 where
  pub no_bad_line : (input_read kind whole bytes).bad ≡ None
  pub no_limit : (items_read kind factor whole bytes).limit ≡ None

-- this is the first bad line, and no item before it exceeds a limit
pub record IsBad (kind : LineKind) (factor : ℕ) (whole : Bool) (bytes : List ℕ) (bad : BadLine) : Type 0 where
  pub first : (input_read kind whole bytes).bad ≡ Some bad
  pub no_limit : (items_read kind factor whole bytes).limit ≡ None

-- why the reading ended; `faults_before` and `faults_now` are the source's counts of faults
abbrev pub EndsBy : LineKind → (factor faults_before faults_now : ℕ) → Bool → List ℕ → InputEnd → Type 0
EndsBy kind factor before now whole bytes ends.End = (whole ≡ true) × IsGood kind factor whole bytes
EndsBy kind factor before now whole bytes (ends.BadLine bad) = IsBad kind factor whole bytes bad
EndsBy kind factor before now whole bytes ends.Fault = (whole ≡ false) × Rose before now × IsGood kind factor whole bytes
EndsBy kind factor before now whole bytes (ends.Limit limit) = (items_read kind factor whole bytes).limit ≡ Some limit

-- while the reading goes on, no line that ended is bad, and no item exceeds a limit
abbrev pub StandsSo : LineKind → (factor faults_before faults_now : ℕ) → Bool → List ℕ → Option InputEnd → Type 0
StandsSo kind factor before now whole bytes None = (whole ≡ false) × IsGood kind factor whole bytes
StandsSo kind factor before now whole bytes (Some end) = EndsBy kind factor before now whole bytes end

-- what an input was made with, the source as it was then and as it is now, the bytes that were read, whether the source
-- ended, why the reading ended, if it did, and whether memory ran out, after which nothing more is read
pub record InputState (S : Type 0) : Type 0 where
  pub kind : LineKind
  pub factor : ℕ
  pub start : Start
  pub found : S
  pub source : S
  pub bytes : List ℕ
  pub whole : Bool
  pub end : Option InputEnd
  pub failed : Bool

-- the items that were handed out: those that were read within the limits, from the starting position on
abbrev pub handed : {S : Type 0} → InputState S → List Item
handed i = from_start i.start (items_read i.kind i.factor i.whole i.bytes).items

-- what holds of every input
pub record IsInput {S : Type 0} (faults : S → ℕ) (left : S → Option (List ℕ)) (i : InputState S) : Type 0 where
  pub taken : TakesFront (left i.found) (left i.source) i.bytes
  pub at_end : i.whole ≡ true → IsAtEnd (left i.source)
  pub stands : i.failed ≡ false → StandsSo i.kind i.factor (faults i.found) (faults i.source) i.whole i.bytes i.end
