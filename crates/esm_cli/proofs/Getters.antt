-- The options of each command, as the code reads them.
use Rattle.std.proofs.Common.{◌≡◌, ◌∙◌, ◌&&◌, ◌||◌, ◌+◌, ◌<◌, ℕ, Bool, true, false, not, refl, sym, ap, ap₂, subst, List, [], ◌∷◌, ◌++◌, map, take, length, get_or, true≢false}
use Rattle.std.proofs.Math.Path.{fun_ext}
use Rattle.std.proofs.lemmas.List.{map-append, take_more}
use Rattle.std.specs.List.{list_all}
use Rattle.std.specs.Prelude.{Some, option_and_then}
use Rattle.std.specs.Str.{bytes_eq}
use Rattle.clap.specs.Walk.{Row, Text, first_of, one_of, row_text}
use Rattle.clap.specs.Words.{App, found_of, first_value, one_text, rows_of, with_rule, Rule}
use Rattle.clap.proofs.WalkLemmas.{first_value-rows, one_text-rows}
use Rattle.clap.specs.declared.parser.matches.ArgMatches.{ArgMatches}
use Rattle.esm_cli.specs.Clap.{FlagReads, app, raw_rule, values_found}
use Rattle.esm_cli.specs.Spelling.{Given, Options, AreOptions, is_listed, listed}
use Rattle.esm_cli.specs.Tables.{has_value, listing, option_name, options_of}
use Rattle.esm_cli.specs.Words.{flags_in, values_in}
use Rattle.esm_cli.specs.declared.command.Flags.{Flags}
use Rattle.esm_cli.specs.declared.table.OptionName.{OptionName}
use Rattle.esm_cli.specs.declared.table.OptionName.TheVariants.{Config, Mapping, Calls, Visibility, Timeout, ReadFirst, Trace, Records, Requests, MaxReceives}
use Rattle.esm_cli.specs.declared.table.Verb.{Verb}
use Rattle.esm_cli.specs.declared.table.Verb.TheVariants as verb
use Rattle.esm_cli.proofs.Rules.{second_of}
use Rattle.esm_cli.proofs.Uses.{row}
use Rattle.esm_cli.proofs.Finished.{default_is, is_flag, no_flag, no_value, one_flag, other_flag, plus, row_at, value_found, with_defaults}

-- the parser is made option by option

with_more : (os : Options) (o : Text × Bool) → with_rule (app os) (raw_rule o) ≡ app (os ++ o ∷ [])
with_more os o = ap app_with (sym (map-append raw_rule os (o ∷ [])))
  where
    app_with : List Rule → App
    app_with rs = record (app []) { top = record (app []).top { rules = rs } }

abbrev listed_as : OptionName → Text × Bool
listed_as name = (option_name name, has_value name)

pub made_more : (names : List OptionName) (i : ℕ) (d : OptionName) (a : App) (r : Rule) → i < length names → a ≡ app (listing (take i names))
    → r ≡ raw_rule (option_name (get_or names i d), has_value (get_or names i d)) → with_rule a r ≡ app (listing (take (i + 1) names))
made_more names i d a r within so_far is =
    ap₂ with_rule so_far is
    ∙ with_more (listing (take i names)) (listed_as (get_or names i d))
    ∙ ap app (sym (ap listing (take_more names i d within) ∙ map-append listed_as (take i names) (get_or names i d ∷ [])))

-- no option with a value has a flag's name

and_false : (b : Bool) → (b && false) ≡ false
and_false true = refl
and_false false = refl

never_flag : (n o : OptionName) → has_value o ≡ true → (bytes_eq (option_name n) (option_name o) && not (has_value n)) ≡ false
never_flag ReadFirst Config h = refl
never_flag ReadFirst Mapping h = refl
never_flag ReadFirst Calls h = refl
never_flag ReadFirst Visibility h = refl
never_flag ReadFirst Timeout h = refl
never_flag ReadFirst ReadFirst h = absurd (true≢false (sym h))
never_flag ReadFirst Trace h = absurd (true≢false (sym h))
never_flag ReadFirst Records h = refl
never_flag ReadFirst Requests h = refl
never_flag ReadFirst MaxReceives h = refl
never_flag Trace Config h = refl
never_flag Trace Mapping h = refl
never_flag Trace Calls h = refl
never_flag Trace Visibility h = refl
never_flag Trace Timeout h = refl
never_flag Trace ReadFirst h = absurd (true≢false (sym h))
never_flag Trace Trace h = absurd (true≢false (sym h))
never_flag Trace Records h = refl
never_flag Trace Requests h = refl
never_flag Trace MaxReceives h = refl
never_flag n o h = and_false (bytes_eq (option_name n) (option_name o))

no_flag_name : (names : List OptionName) (o : OptionName) → has_value o ≡ true → is_flag (listing names) (option_name o) ≡ false
no_flag_name [] o h = refl
no_flag_name (n ∷ names) o h = ap (λ b. b || is_flag (listing names) (option_name o)) (never_flag n o h) ∙ no_flag_name names o h

-- the values

abbrev all_listed : Verb → List Given → Type 0
all_listed v gs = list_all (is_listed (listing (options_of v))) gs ≡ true

-- a flag has no value

never_valued : (v : Verb) → second_of (listed (listing (options_of v)) (option_name ReadFirst)) ≡ false
never_valued verb.Run = refl
never_valued verb.Gen = refl
never_valued verb.Serve = refl
never_valued verb.Ddb = refl
never_valued verb.Redrive = refl
never_valued verb.Replay = refl
never_valued _ = refl

trace_never_valued : (v : Verb) → second_of (listed (listing (options_of v)) (option_name Trace)) ≡ false
trace_never_valued verb.Run = refl
trace_never_valued verb.Gen = refl
trace_never_valued verb.Serve = refl
trace_never_valued verb.Ddb = refl
trace_never_valued verb.Redrive = refl
trace_never_valued verb.Replay = refl
trace_never_valued _ = refl

abbrev found_rows : Verb → List Given → List Row
found_rows v gs = with_defaults (map row gs) (listing (options_of v))

value_is : (v : Verb) (gs : List Given) (m : ArgMatches) (o : OptionName) → all_listed v gs → rows_of (found_of m) ≡ found_rows v gs → has_value o ≡ true
    → values_in gs o ≡ first_value (found_of m) (option_name o)
value_is v gs m o all rows has =
    sym (first_value-rows (found_of m) (option_name o) ∙ ap (first_of (option_name o)) rows
    ∙ value_found (listing (options_of v)) (option_name o) gs (no_flag_name (options_of v) o has) all)

each_value : (v : Verb) (gs : List Given) (m : ArgMatches) (o : OptionName) → all_listed v gs → rows_of (found_of m) ≡ found_rows v gs → values_in gs o ≡ values_found m o
each_value v gs m ReadFirst all rows = no_value (listing (options_of v)) (option_name ReadFirst) gs (never_valued v) all
each_value v gs m Trace all rows = no_value (listing (options_of v)) (option_name Trace) gs (trace_never_valued v) all
each_value v gs m Config all rows = value_is v gs m Config all rows refl
each_value v gs m Mapping all rows = value_is v gs m Mapping all rows refl
each_value v gs m Calls all rows = value_is v gs m Calls all rows refl
each_value v gs m Visibility all rows = value_is v gs m Visibility all rows refl
each_value v gs m Timeout all rows = value_is v gs m Timeout all rows refl
each_value v gs m Records all rows = value_is v gs m Records all rows refl
each_value v gs m Requests all rows = value_is v gs m Requests all rows refl
each_value v gs m MaxReceives all rows = value_is v gs m MaxReceives all rows refl

pub same_values : (v : Verb) (gs : List Given) (m : ArgMatches) (ws : List Text) → AreOptions (listing (options_of v)) gs ws → rows_of (found_of m) ≡ found_rows v gs → values_in gs ≡ values_found m
same_values v gs m ws options rows = fun_ext (λ o. each_value v gs m o options.listed rows)

-- the flags

abbrev defaults : List Row → List OptionName → List Row
defaults rs names = with_defaults rs (listing names)

skip : (o : OptionName) (rs : List Row) (names : List OptionName) → has_value o ≡ true → defaults rs (o ∷ names) ≡ defaults rs names
skip o rs names has = ap (λ all. defaults all names) (default_is (option_name o) (has_value o) rs ∙ ap (λ b. plus (option_name o) b rs) has)

last_flag : (rs : List Row) → defaults rs (Trace ∷ []) ≡ plus (option_name Trace) false rs
last_flag rs = default_is (option_name Trace) false rs

run_defaults : (rs : List Row) → defaults rs (options_of verb.Run) ≡ plus (option_name Trace) false (plus (option_name ReadFirst) false rs)
run_defaults rs =
    skip Config rs (Mapping ∷ Calls ∷ Visibility ∷ Timeout ∷ ReadFirst ∷ Trace ∷ []) refl
    ∙ skip Mapping rs (Calls ∷ Visibility ∷ Timeout ∷ ReadFirst ∷ Trace ∷ []) refl
    ∙ skip Calls rs (Visibility ∷ Timeout ∷ ReadFirst ∷ Trace ∷ []) refl
    ∙ skip Visibility rs (Timeout ∷ ReadFirst ∷ Trace ∷ []) refl
    ∙ skip Timeout rs (ReadFirst ∷ Trace ∷ []) refl
    ∙ ap (λ all. defaults all (Trace ∷ [])) (default_is (option_name ReadFirst) false rs)
    ∙ last_flag (plus (option_name ReadFirst) false rs)

ddb_defaults : (rs : List Row) → defaults rs (options_of verb.Ddb) ≡ plus (option_name Trace) false rs
ddb_defaults rs = skip Config rs (Calls ∷ Timeout ∷ Trace ∷ []) refl ∙ skip Calls rs (Timeout ∷ Trace ∷ []) refl ∙ skip Timeout rs (Trace ∷ []) refl ∙ last_flag rs

redrive_defaults : (rs : List Row) → defaults rs (options_of verb.Redrive) ≡ plus (option_name Trace) false rs
redrive_defaults rs =
    skip Config rs (MaxReceives ∷ Calls ∷ Visibility ∷ Timeout ∷ Trace ∷ []) refl
    ∙ skip MaxReceives rs (Calls ∷ Visibility ∷ Timeout ∷ Trace ∷ []) refl
    ∙ skip Calls rs (Visibility ∷ Timeout ∷ Trace ∷ []) refl
    ∙ skip Visibility rs (Timeout ∷ Trace ∷ []) refl
    ∙ skip Timeout rs (Trace ∷ []) refl
    ∙ last_flag rs

replay_defaults : (rs : List Row) → defaults rs (options_of verb.Replay) ≡ plus (option_name Trace) false rs
replay_defaults rs = skip Config rs (Calls ∷ Timeout ∷ Trace ∷ []) refl ∙ skip Calls rs (Timeout ∷ Trace ∷ []) refl ∙ skip Timeout rs (Trace ∷ []) refl ∙ last_flag rs

first_is : (v : Verb) (gs : List Given) (answer : Bool) → all_listed v gs → FlagReads (one_of (option_name ReadFirst) (found_rows v gs)) answer → (flags_in gs).read_first ≡ answer
first_is verb.Run gs answer all reads = one_flag (listing (options_of verb.Run)) (option_name ReadFirst) gs (map row gs) answer refl refl all
    (subst (λ o. FlagReads (option_and_then row_text o) answer)
    (ap (row_at (option_name ReadFirst)) (run_defaults (map row gs)) ∙ other_flag (option_name ReadFirst) (option_name Trace) (plus (option_name ReadFirst) false (map row gs)) refl) reads)
first_is verb.Gen gs answer all reads = no_flag (listing (options_of verb.Gen)) (option_name ReadFirst) gs answer refl refl all reads
first_is verb.Serve gs answer all reads = no_flag (listing (options_of verb.Serve)) (option_name ReadFirst) gs answer refl refl all reads
first_is verb.Ddb gs answer all reads = no_flag (listing (options_of verb.Ddb)) (option_name ReadFirst) gs answer refl refl all reads
first_is verb.Redrive gs answer all reads = no_flag (listing (options_of verb.Redrive)) (option_name ReadFirst) gs answer refl refl all reads
first_is verb.Replay gs answer all reads = no_flag (listing (options_of verb.Replay)) (option_name ReadFirst) gs answer refl refl all reads
first_is v gs answer all reads = no_flag (listing (options_of v)) (option_name ReadFirst) gs answer refl refl all reads

-- of a command whose last option is `--trace`, where the defaults before it leave these rows
last_is : (v : Verb) (gs : List Given) (rs : List Row) (answer : Bool) → listed (listing (options_of v)) (option_name Trace) ≡ Some (option_name Trace, false)
    → found_rows v gs ≡ plus (option_name Trace) false rs → row_at (option_name Trace) rs ≡ row_at (option_name Trace) (map row gs)
    → all_listed v gs → FlagReads (one_of (option_name Trace) (found_rows v gs)) answer → (flags_in gs).trace ≡ answer
last_is v gs rs answer found defaults_are same all reads =
    one_flag (listing (options_of v)) (option_name Trace) gs rs answer found same all (subst (λ xs. FlagReads (one_of (option_name Trace) xs) answer) defaults_are reads)

trace_is : (v : Verb) (gs : List Given) (answer : Bool) → all_listed v gs → FlagReads (one_of (option_name Trace) (found_rows v gs)) answer → (flags_in gs).trace ≡ answer
trace_is verb.Run gs answer all reads = last_is verb.Run gs (plus (option_name ReadFirst) false (map row gs)) answer refl (run_defaults (map row gs))
    (other_flag (option_name Trace) (option_name ReadFirst) (map row gs) refl) all reads
trace_is verb.Ddb gs answer all reads = last_is verb.Ddb gs (map row gs) answer refl (ddb_defaults (map row gs)) refl all reads
trace_is verb.Redrive gs answer all reads = last_is verb.Redrive gs (map row gs) answer refl (redrive_defaults (map row gs)) refl all reads
trace_is verb.Replay gs answer all reads = last_is verb.Replay gs (map row gs) answer refl (replay_defaults (map row gs)) refl all reads
trace_is verb.Gen gs answer all reads = no_flag (listing (options_of verb.Gen)) (option_name Trace) gs answer refl refl all reads
trace_is verb.Serve gs answer all reads = no_flag (listing (options_of verb.Serve)) (option_name Trace) gs answer refl refl all reads
trace_is v gs answer all reads = no_flag (listing (options_of v)) (option_name Trace) gs answer refl refl all reads

read_in : (m : ArgMatches) (v : Verb) (gs : List Given) (name : OptionName) (answer : Bool) → rows_of (found_of m) ≡ found_rows v gs
    → FlagReads (one_text (found_of m) (option_name name)) answer → FlagReads (one_of (option_name name) (found_rows v gs)) answer
read_in m v gs name answer rows reads = subst (λ t. FlagReads t answer) (one_text-rows (found_of m) (option_name name) ∙ ap (one_of (option_name name)) rows) reads

pub same_flags : (v : Verb) (gs : List Given) (m : ArgMatches) (ws : List Text) (answer : Flags) → AreOptions (listing (options_of v)) gs ws → rows_of (found_of m) ≡ found_rows v gs
    → FlagReads (one_text (found_of m) (option_name ReadFirst)) answer.read_first → FlagReads (one_text (found_of m) (option_name Trace)) answer.trace → flags_in gs ≡ answer
same_flags v gs m ws answer options rows first trace =
    ap₂ (λ x y. record answer { read_first = x; trace = y })
    (first_is v gs answer.read_first options.listed (read_in m v gs ReadFirst answer.read_first rows first))
    (trace_is v gs answer.trace options.listed (read_in m v gs Trace answer.trace rows trace))
