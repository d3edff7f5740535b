-- The state of a translator, by what it was fed.
use Rattle.std.specs.Prelude.{◌≡◌, ℕ, ◌≤◌, Bool, List, [], ◌++◌, length, Option, IsNone}
use Rattle.esm_model.specs.declared.config.Config.{Config}
use Rattle.esm_model.specs.declared.limits.TheConstants.{MAX_LINE}
use Rattle.esm_record.specs.Input.{begun, lines_of}
use Rattle.esm_ddb.specs.Translation.{Translation, translation_so_far}
use Rattle.esm_ddb.specs.declared.error.DdbLine.{DdbLine}
use Rattle.esm_ddb.specs.declared.source.Source.{Source}

abbrev pub source_of : Config → Source
source_of c = record { region = c.region; arn = c.source_arn }

-- the number of good lines so far, the unfinished line, and the first bad line
pub record State : Type 0 where
  pub source : Source
  pub good : ℕ
  pub begun : List ℕ
  pub bad : Option DdbLine

-- it is at the end of this translation, whose text is that before the call and then that of the call
pub record Stands (t : Translation) (before given : List ℕ) (s : State) : Type 0 where
  pub text : t.text ≡ before ++ given
  pub bad : t.bad ≡ s.bad
  pub lines : IsNone s.bad → t.lines ≡ s.good

-- it was fed these bytes
pub record HasRead (bytes before given : List ℕ) (s : State) : Type 0 where
  pub stands : Stands (translation_so_far s.source bytes) before given s
  pub line : IsNone s.bad → begun (lines_of bytes) ≡ s.begun
  pub short : IsNone s.bad → length s.begun ≤ MAX_LINE

abbrev pub IsFed : List ℕ → State → Type 0
IsFed bytes s = HasRead bytes [] (translation_so_far s.source bytes).text s

-- what contracts see of a translator
pub record Translating : Type 0 where
  pub state : State
  -- a call ran out of memory
  pub failed : Bool
  pub finished : Bool
