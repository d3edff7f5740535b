-- The lines of the turned text are those of the input, each at its position, and its records are those of the changes
-- that these lines state, in their order.
use Rattle.std.specs.Prelude.{◌≡◌, ◌≤◌, ℕ, List, [], ◌∷◌, ◌++◌, drop, flat_map, if◌then◌else◌, length, map, take, Result, Ok, Err, None}
use Rattle.std.specs.List.{All, AllZip}
use Rattle.esm_model.specs.declared.item.Item.{Item}
use Rattle.esm_model.specs.declared.item.Item.TheVariants.{Stream}
use Rattle.esm_model.specs.declared.item.LineKind.TheVariants as kinds
use Rattle.esm_model.specs.Records.{Record}
use Rattle.esm_record.specs.Input.{input_of, input_so_far, is_blank, lines_of}
use Rattle.esm_ddb.specs.Change.{Change}
use Rattle.esm_ddb.specs.ReadsBack.{IsOfBytes, change_in}
use Rattle.esm_ddb.specs.Translation.{Translation, translation_of}
use Rattle.esm_ddb.specs.Turned.{turned, turned_record}
use Rattle.esm_ddb.specs.declared.error.DdbError.{DdbError}
use Rattle.esm_ddb.specs.declared.source.Source.{Source}

-- ---- lines

-- an empty line follows the good lines of a text if a bad one followed in the input: each good line ends with a line feed
abbrev pub behind : List (List ℕ) → List (List ℕ)
behind [] = []
behind (line ∷ lines) = [] ∷ []

-- each good line of the input was turned into the line of the text at the same position
pub record IsLineByLine (s : Source) (bytes : List ℕ) (t : Translation) : Type 0 where
  pub many : t.lines ≤ length (lines_of bytes)
  pub texts : List (List ℕ)
  pub each : AllZip (λ line text. turned s line ≡ Ok text) (take t.lines (lines_of bytes)) texts
  pub are : lines_of t.text ≡ texts ++ behind (drop t.lines (lines_of bytes))
  -- all of them if none is bad
  pub all : t.bad ≡ None → drop t.lines (lines_of bytes) ≡ []

abbrev pub IsTurnedLineByLine : Type 0
IsTurnedLineByLine = (s : Source) (bytes : List ℕ) → IsOfBytes s → IsLineByLine s bytes (translation_of s bytes)

-- ---- records

-- the record is that of the change that this line states
pub record IsOfChange (s : Source) (r : Record) : Type 0 where
  pub line : List ℕ
  pub change : Change
  pub told : change_in line ≡ Ok change
  pub is : r ≡ turned_record s change

abbrev pub record_told : Source → Result Change DdbError → List Record
record_told s (Ok change) = turned_record s change ∷ []
record_told s (Err why) = []

-- a blank line states none
abbrev pub record_in : Source → List ℕ → List Record
record_in s line = if is_blank line then [] else record_told s (change_in line)

-- the records of these lines, in their order
abbrev pub records_of : Source → List (List ℕ) → List Record
records_of s lines = flat_map (record_in s) lines

-- the records of the input's good lines
abbrev pub good_records : Source → List ℕ → List Record
good_records s bytes = records_of s (take (translation_of s bytes).lines (lines_of bytes))

-- the items are the first of these records, in their order
abbrev pub AreFirst : List Item → List Record → Type 0
AreFirst items records = (more : List Item) × (map Stream records ≡ items ++ more)

-- A text that is the turned input or a prefix of it reads as the first records of the input's good lines, in their order.
-- This also holds if the text is read as if more followed; a line that is cut off is refused.
pub record HasRecordsOf (s : Source) (bytes text : List ℕ) : Type 0 where
  pub so_far : AreFirst (input_so_far kinds.Stream text).items (good_records s bytes)
  pub whole : AreFirst (input_of kinds.Stream text).items (good_records s bytes)
  -- all of them, if the text is whole and none is refused
  pub all : text ≡ (translation_of s bytes).text → (input_of kinds.Stream text).bad ≡ None → (input_of kinds.Stream text).items ≡ map Stream (good_records s bytes)

abbrev pub HasRecordsOfLines : Type 0
HasRecordsOfLines = (s : Source) (bytes text rest : List ℕ) → IsOfBytes s → (translation_of s bytes).text ≡ text ++ rest → HasRecordsOf s bytes text

abbrev pub AreOfChanges : Type 0
AreOfChanges = (s : Source) (lines : List (List ℕ)) → All (IsOfChange s) (records_of s lines)
