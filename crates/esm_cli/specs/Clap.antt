-- The command of `clap` that represents a list of options, and what its matches hold. Only this crate's proofs cite this.
use Rattle.std.specs.Prelude.{◌≡◌, ℕ, Bool, true, false, List, [], map, codes, Option, Some, None, if◌then◌else◌}
use Rattle.clap.specs.Words.{App, Rule, Shape, first_value, found_of, new_app, new_rule}
use Rattle.clap.specs.declared.builder.action.ArgAction.TheVariants.{Set, SetTrue}
use Rattle.clap.specs.declared.builder.value_parser.ValueParser.TheVariants.{NonEmptyString}
use Rattle.clap.specs.declared.parser.matches.ArgMatches.{ArgMatches}
use Rattle.esm_cli.specs.Spelling.{Options}
use Rattle.esm_cli.specs.Tables.{has_value, option_name}
use Rattle.esm_cli.specs.Words.{Values}

-- an option with a value that is not empty, or a flag
abbrev pub raw_by : List ℕ → Bool → Rule
raw_by name true = record (new_rule name) { long = Some name; action = Some Set; parser = Some NonEmptyString }
raw_by name false = record (new_rule name) { long = Some name; action = Some SetTrue }

abbrev pub raw_rule : List ℕ × Bool → Rule
raw_rule o = raw_by o.0 o.1

abbrev pub top : Options → Shape
top options = record (new_app (codes "esm")).top { rules = map raw_rule options; disable_help_flag = true }

abbrev pub app : Options → App
app options = record { top = top options; subs = [] }

-- what a getter of a flag returns for the text
pub record FlagReads (text : Option (List ℕ)) (answer : Bool) : Type 0 where
  pub none : text ≡ None → answer ≡ false
  pub value : text ≡ Some (codes "true") → answer ≡ true
  pub other : text ≡ Some (codes "false") → answer ≡ false

-- the value that the matches hold for each option; a flag has none
abbrev pub values_found : ArgMatches → Values
values_found m name = if has_value name then first_value (found_of m) (option_name name) else None
