-- The command that words spell. The command line is this product's own.
use Rattle.std.specs.Prelude.{◌≡◌, ◌≤◌, ℕ, List, ◌∷◌, Option, Some, None, option_and_then, ⊤}
use Rattle.std.specs.Fmt.{decimal}
use Rattle.uuid.specs.Text.{parsed_hyphenated}
use Rattle.esm_cli.specs.Spelling.{Given, AreOptions, is_given, value_of}
use Rattle.esm_cli.specs.Tables.{verb_name, option_name, options_of, listing}
use Rattle.esm_cli.specs.declared.command.Command.{Command}
use Rattle.esm_cli.specs.declared.command.Command.TheVariants.{Init, Run, Show, Failures, Gen, Compact, Serve, Migrate, Ddb, Redrive, Replay}
use Rattle.esm_cli.specs.declared.command.Flags.{Flags}
use Rattle.esm_cli.specs.declared.command.RunWords.{RunWords}
use Rattle.esm_cli.specs.declared.command.Which.{Which}
use Rattle.esm_cli.specs.declared.command.Which.TheVariants.{Config, Mapping}
use Rattle.esm_cli.specs.declared.table.NumberRule.{NumberRule}
use Rattle.esm_cli.specs.declared.table.OptionName.{OptionName}
use Rattle.esm_cli.specs.declared.table.OptionName.TheVariants as option
use Rattle.esm_cli.specs.declared.table.TheConstants.{CALLS, VISIBILITY, TIMEOUT, RECORDS, REQUESTS, MAX_RECEIVES}
use Rattle.esm_cli.specs.declared.table.Verb.{Verb}
use Rattle.esm_cli.specs.declared.table.Verb.TheVariants as verb

-- the value that is given for each option
abbrev pub Values : Type 0
Values = OptionName → Option (List ℕ)

-- the number of an option: its value in decimal digits, `0` or digits that do not begin with `0`, within the bounds; its
-- default if the option is absent
abbrev pub IsNumberFrom : NumberRule → Option (List ℕ) → ℕ → Type 0
IsNumberFrom rule (Some text) n = (text ≡ decimal n) × (rule.least ≤ n) × (n ≤ rule.greatest)
IsNumberFrom rule None n = rule.default ≡ Some n

abbrev pub IsNumber : NumberRule → Values → ℕ → Type 0
IsNumber rule value n = IsNumberFrom rule (value rule.option) n

abbrev pub IsText : OptionName → Values → List ℕ → Type 0
IsText name value text = value name ≡ Some text

-- the mapping's text is given, or its id in the hyphenated form, and not both
abbrev pub IsWhich : Values → Which → Type 0
IsWhich value (Config text) = (value option.Config ≡ Some text) × (value option.Mapping ≡ None)
IsWhich value (Mapping id) = (value option.Config ≡ None) × (option_and_then parsed_hyphenated (value option.Mapping) ≡ Some id)

-- these options of `run`
pub record IsRun (value : Values) (flags : Flags) (r : RunWords) : Type 0 where
  pub which : IsWhich value r.which
  pub calls : IsNumber CALLS value r.calls
  pub visibility : IsNumber VISIBILITY value r.visibility
  pub timeout : IsNumber TIMEOUT value r.timeout
  pub read_first : r.read_first ≡ flags.read_first
  pub trace : r.trace ≡ flags.trace

-- the values and the flags are those of the command
abbrev pub IsSaid : Values → Flags → Command → Type 0
IsSaid value flags Init = ⊤
IsSaid value flags (Run r) = IsRun value flags r
IsSaid value flags Show = ⊤
IsSaid value flags Failures = ⊤
IsSaid value flags (Gen records) = IsNumber RECORDS value records
IsSaid value flags Compact = ⊤
IsSaid value flags (Serve requests) = IsNumber REQUESTS value requests
IsSaid value flags Migrate = ⊤
IsSaid value flags (Ddb config calls timeout trace) = IsText option.Config value config × IsNumber CALLS value calls
    × IsNumber TIMEOUT value timeout × (trace ≡ flags.trace)
IsSaid value flags (Redrive config max_receives calls visibility timeout trace) = IsText option.Config value config
    × IsNumber MAX_RECEIVES value max_receives × IsNumber CALLS value calls × IsNumber VISIBILITY value visibility
    × IsNumber TIMEOUT value timeout × (trace ≡ flags.trace)
IsSaid value flags (Replay config calls timeout trace) = IsText option.Config value config × IsNumber CALLS value calls
    × IsNumber TIMEOUT value timeout × (trace ≡ flags.trace)

abbrev pub verb_of : Command → Verb
verb_of Init = verb.Init
verb_of (Run r) = verb.Run
verb_of Show = verb.Show
verb_of Failures = verb.Failures
verb_of (Gen records) = verb.Gen
verb_of Compact = verb.Compact
verb_of (Serve requests) = verb.Serve
verb_of Migrate = verb.Migrate
verb_of (Ddb config calls timeout trace) = verb.Ddb
verb_of (Redrive config max_receives calls visibility timeout trace) = verb.Redrive
verb_of (Replay config calls timeout trace) = verb.Replay

-- the first word is the command's name, and the others are spellings of its options, each at most once
pub record IsCommand (verb : Verb) (gs : List Given) (words : List (List ℕ)) : Type 0 where
  pub rest : List (List ℕ)
  pub first : words ≡ verb_name verb ∷ rest
  pub others : AreOptions (listing (options_of verb)) gs rest

abbrev pub values_in : List Given → Values
values_in gs name = value_of (option_name name) gs

-- whether `--read-first` and `--trace` are given
abbrev pub flags_in : List Given → Flags
flags_in gs = record { read_first = is_given (option_name option.ReadFirst) gs; trace = is_given (option_name option.Trace) gs }

-- the words spell the command, with these options
abbrev pub spells : List (List ℕ) → Command → Type 0
spells words c = (gs : List Given) × IsCommand (verb_of c) gs words × IsSaid (values_in gs) (flags_in gs) c
