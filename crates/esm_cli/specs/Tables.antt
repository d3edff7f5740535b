-- The commands by their names, the options that each takes, and the options by their names. The command line is this
-- product's own.
use Rattle.std.specs.Prelude.{ℕ, Bool, true, false, List, [], ◌∷◌, map, codes, Option, find}
use Rattle.std.specs.Str.{bytes_eq}
use Rattle.esm_cli.specs.Spelling.{Options}
use Rattle.esm_cli.specs.declared.table.Verb.{Verb}
use Rattle.esm_cli.specs.declared.table.Verb.TheVariants.{Init, Run, Show, Failures, Gen, Compact, Serve, Migrate, Ddb, Redrive, Replay}
use Rattle.esm_cli.specs.declared.table.OptionName.{OptionName}
use Rattle.esm_cli.specs.declared.table.OptionName.TheVariants.{Config, Mapping, Calls, Visibility, Timeout, ReadFirst, Trace, Records, Requests, MaxReceives}
use Rattle.esm_cli.specs.declared.table.TheConstants.{NO_OPTIONS, RUN_OPTIONS, GEN_OPTIONS, SERVE_OPTIONS, DDB_OPTIONS, REDRIVE_OPTIONS, REPLAY_OPTIONS}

abbrev pub verb_name : Verb → List ℕ
verb_name Init = codes "init"
verb_name Run = codes "run"
verb_name Show = codes "show"
verb_name Failures = codes "failures"
verb_name Gen = codes "gen"
verb_name Compact = codes "compact"
verb_name Serve = codes "serve"
verb_name Migrate = codes "migrate"
verb_name Ddb = codes "ddb"
verb_name Redrive = codes "redrive"
verb_name Replay = codes "replay"

abbrev pub verbs : List Verb
verbs = Init ∷ Run ∷ Show ∷ Failures ∷ Gen ∷ Compact ∷ Serve ∷ Migrate ∷ Ddb ∷ Redrive ∷ Replay ∷ []

-- the command of this name
abbrev pub verb_named : List ℕ → Option Verb
verb_named word = find (λ v. bytes_eq word (verb_name v)) verbs

abbrev pub option_name : OptionName → List ℕ
option_name Config = codes "config"
option_name Mapping = codes "mapping"
option_name Calls = codes "calls"
option_name Visibility = codes "visibility"
option_name Timeout = codes "timeout"
option_name ReadFirst = codes "read-first"
option_name Trace = codes "trace"
option_name Records = codes "records"
option_name Requests = codes "requests"
option_name MaxReceives = codes "max-receives"

abbrev pub has_value : OptionName → Bool
has_value ReadFirst = false
has_value Trace = false
has_value _ = true

-- the options that the command takes
abbrev pub options_of : Verb → List OptionName
options_of Run = RUN_OPTIONS
options_of Gen = GEN_OPTIONS
options_of Serve = SERVE_OPTIONS
options_of Ddb = DDB_OPTIONS
options_of Redrive = REDRIVE_OPTIONS
options_of Replay = REPLAY_OPTIONS
options_of _ = NO_OPTIONS

-- as they are spelled: each name, and whether it has a value
abbrev pub listing : List OptionName → Options
listing options = map (λ o. (option_name o, has_value o)) options
