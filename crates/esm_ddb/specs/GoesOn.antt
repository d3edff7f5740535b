-- What the first bytes of an input were turned into remains when more bytes follow.
use Rattle.std.specs.Prelude.{◌≡◌, ℕ, List, [], ◌++◌, Some}
use Rattle.esm_record.specs.Input.{begun, ended, lines_of}
use Rattle.esm_ddb.specs.Translation.{translation_of, translation_so_far}
use Rattle.esm_ddb.specs.declared.error.DdbLine.{DdbLine}
use Rattle.esm_ddb.specs.declared.source.Source.{Source}

-- the text of the whole input begins with that of its first bytes, and a bad line among these is the bad line of the
-- whole
pub record GoesOn (s : Source) (bytes more : List ℕ) : Type 0 where
  pub rest : List ℕ
  pub text : (translation_of s (bytes ++ more)).text ≡ (translation_so_far s bytes).text ++ rest
  pub bad : (line : DdbLine) → (translation_so_far s bytes).bad ≡ Some line → translation_of s (bytes ++ more) ≡ translation_so_far s bytes

abbrev pub IsCarriedOn : Type 0
IsCarriedOn = (s : Source) (bytes more : List ℕ) → GoesOn s bytes more

-- the bytes up to the last line feed: they have the lines that ended, and no unfinished one
pub record UpToLastFeed (bytes : List ℕ) : Type 0 where
  pub front : List ℕ
  pub rest : List ℕ
  pub parts : bytes ≡ front ++ rest
  pub lines : ended (lines_of front) ≡ ended (lines_of bytes)
  pub none_begun : begun (lines_of front) ≡ []

-- what the ended lines of an input were turned into is all that the bytes up to its last line feed are turned into
abbrev pub IsWholeOfFront : Type 0
IsWholeOfFront = (s : Source) (bytes : List ℕ) → (up : UpToLastFeed bytes) × ((translation_of s up.front).text ≡ (translation_so_far s bytes).text)
