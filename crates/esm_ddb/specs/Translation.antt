-- What an input of a DynamoDB stream is turned into, as the input of a stream, and its first bad line. Source: JSON Lines
-- for the lines; that nothing is read after the first bad line is this product's own.
use Rattle.std.specs.Prelude.{ℕ, ◌+◌, List, [], ◌∷◌, ◌++◌, fold, Option, Some, None, is_some, Result, Ok, Err, if◌then◌else◌}
use Rattle.esm_record.specs.Input.{begun, ended, lines_of, too_long}
use Rattle.esm_ddb.specs.Turned.{turned}
use Rattle.esm_ddb.specs.declared.error.DdbError.{DdbError}
use Rattle.esm_ddb.specs.declared.error.DdbLine.{DdbLine}
use Rattle.esm_ddb.specs.declared.source.Source.{Source}

-- the number of good lines so far, what they were turned into, and the first bad line
pub record Translation : Type 0 where
  pub lines : ℕ
  pub text : List ℕ
  pub bad : Option DdbLine

abbrev pub nothing_turned : Translation
nothing_turned = record { lines = 0; text = []; bad = None }

abbrev pub line_feed : List ℕ
line_feed = 10 ∷ []

-- the turned line is followed by `end`
abbrev pub after_line : List ℕ → Translation → Result (List ℕ) DdbError → Translation
after_line end t (Ok line) = record t { lines = t.lines + 1; text = t.text ++ (line ++ end) }
after_line end t (Err why) = record t { bad = Some (record { line = t.lines + 1; why = why }) }

-- the next line; nothing is read after a bad one
abbrev pub add_line : Source → List ℕ → Translation → List ℕ → Translation
add_line s end t line = if is_some t.bad then t else after_line end t (turned s line)

-- lines that ended, each turned and followed by a line feed
abbrev pub turned_lines : Source → List (List ℕ) → Translation
turned_lines s lines = fold (add_line s line_feed) nothing_turned lines

-- all lines of the bytes, including a last one without a line feed
unfoldable pub translation_of : Source → List ℕ → Translation
translation_of s bytes = add_line s [] (turned_lines s (ended (lines_of bytes))) (begun (lines_of bytes))

-- the lines of the bytes that ended, and an unfinished one that is already too long
unfoldable pub translation_so_far : Source → List ℕ → Translation
translation_so_far s bytes = turned_lines s (ended (lines_of bytes) ++ too_long (begun (lines_of bytes)))
