-- A turned line reads back as the record of its change.
use Rattle.std.specs.Prelude.{◌≡◌, ◌≤◌, ℕ, nat_lt, List, [], ◌∷◌, length, Bool, true, false, Result, Ok}
use Rattle.std.specs.List.{list_all}
use Rattle.std.specs.Option.{ok_or}
use Rattle.esm_model.specs.Json.{read_json}
use Rattle.esm_model.specs.declared.limits.TheConstants.{MAX_LINE}
use Rattle.esm_record.specs.Input.{is_blank, lines_of}
use Rattle.esm_record.specs.Line.{line_of, only_object, record_of}
use Rattle.esm_ddb.specs.Change.{◌>>=◌, Change, change_of}
use Rattle.esm_ddb.specs.Turned.{turned, turned_record}
use Rattle.esm_ddb.specs.declared.error.DdbError.{DdbError}
use Rattle.esm_ddb.specs.declared.error.DdbError.TheVariants.{NotJson}
use Rattle.esm_ddb.specs.declared.source.Source.{Source}

abbrev pub is_byte : ℕ → Bool
is_byte b = nat_lt b 256

-- the change that a line states
abbrev pub change_in : List ℕ → Result Change DdbError
change_in line = ok_or (only_object (read_json line)) NotJson >>= change_of

-- an input reads the text as one line, which is neither blank nor too long
pub record IsOneLine (text : List ℕ) : Type 0 where
  pub one : lines_of text ≡ text ∷ []
  pub seen : is_blank text ≡ false
  pub short : length text ≤ MAX_LINE

-- the region and the ARN of the stream are lists of bytes
pub record IsOfBytes (s : Source) : Type 0 where
  pub region : list_all is_byte s.region ≡ true
  pub arn : list_all is_byte s.arn ≡ true

-- a line that is not blank states a change, and it was turned into the line of that change's record
pub record ReadsBack (s : Source) (line text : List ℕ) : Type 0 where
  pub change : Change
  pub told : change_in line ≡ Ok change
  pub stands : IsOneLine text
  pub reads : line_of record_of text ≡ Ok (turned_record s change)

abbrev pub IsReadBack : Type 0
IsReadBack = (s : Source) (line text : List ℕ) → IsOfBytes s → is_blank line ≡ false → turned s line ≡ Ok text → ReadsBack s line text
