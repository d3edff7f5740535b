-- What one word does to `clap`'s walk over the words of a command with a list of options.
use Rattle.std.proofs.Common.{◌≡◌, ◌∙◌, ℕ, Bool, false, refl, ap, List, [], ◌∷◌, Option, Some, None}
use Rattle.std.specs.Prelude.{fold, option_map}
use Rattle.clap.specs.Lexer.{name_and_value}
use Rattle.clap.specs.Walk.{Held, Row, Rule, Text, Walk, Waiting, idle, option, positional, walked, settled, finished, long_met, after_flag, after_step, arg_by_long}
use Rattle.clap.specs.Kinds.{Kinds, or_else}
use Rattle.clap.specs.Faults.{walk_fault, turn_fault, settle_fault, defaults_fault, check_fault, long_fault, step_fault}
use Rattle.esm_cli.specs.Spelling.{Options, listed}
use Rattle.esm_cli.proofs.Rules.{rule, rules, shape, long_is}

-- a walk that has these rows and nothing else

abbrev pub at : Held → Waiting → Walk
at h waiting = record { held = h; waiting = waiting; position = 1; is_trailing = false; stopped = None }

-- what a walk over further words comes to: the rows, where nothing fails

abbrev pub outcome : Kinds → List Row → Option (List Row)
outcome [] rows = Some rows
outcome (k ∷ ks) rows = None

abbrev pub end_fault : Options → Held → Kinds
end_fault os h = or_else (settle_fault (rules os) false h)
    (or_else (defaults_fault (settled (rules os) h).rows (rules os)) (check_fault (shape os) (finished (rules os) h) false))

abbrev pub end_of : Options → Walk → List Text → Held
end_of os w ws = (fold (walked (rules os) []) w ws).held

pub ran : Options → Walk → List Text → Option (List Row)
ran os w ws = outcome (or_else (walk_fault (shape os) [] w ws) (end_fault os (end_of os w ws))) (settled (rules os) (end_of os w ws)).rows

abbrev after : Kinds → Option (List Row) → Option (List Row)
after [] next = next
after (k ∷ ks) next = None

step_by : (turn walk end : Kinds) (rows : List Row) → outcome (or_else (or_else turn walk) end) rows ≡ after turn (outcome (or_else walk end) rows)
step_by [] walk end rows = refl
step_by (k ∷ ks) walk end rows = refl

step : (os : Options) (w : Walk) (word : Text) (ws : List Text) → ran os w (word ∷ ws) ≡ after (turn_fault (shape os) [] w word) (ran os (walked (rules os) [] w word) ws)
unfolding ran walk_fault
step os w word ws =
    step_by (turn_fault (shape os) [] w word) (walk_fault (shape os) [] (walked (rules os) [] w word) ws) (end_fault os (end_of os (walked (rules os) [] w word) ws)) _

pub takes : (os : Options) (w next : Walk) (word : Text) (ws : List Text) → turn_fault (shape os) [] w word ≡ [] → walked (rules os) [] w word ≡ next
    → ran os w (word ∷ ws) ≡ ran os next ws
takes os w next word ws no_fault to =
    step os w word ws ∙ ap (λ k. after k (ran os (walked (rules os) [] w word) ws)) no_fault ∙ ap (λ n. ran os n ws) to

abbrev pub IsFault : Kinds → Type 0
IsFault [] = ⊥
IsFault (k ∷ ks) = Unit {0}

after_fault : (kinds : Kinds) (next : Option (List Row)) → IsFault kinds → after kinds next ≡ None
after_fault [] next h = absurd h
after_fault (k ∷ ks) next h = refl

pub refuses : (os : Options) (w : Walk) (word : Text) (ws : List Text) → IsFault (turn_fault (shape os) [] w word) → ran os w (word ∷ ws) ≡ None
refuses os w word ws h = step os w word ws ∙ after_fault _ _ h

pub ran_end : (os : Options) (w : Walk) → ran os w [] ≡ outcome (end_fault os w.held) (settled (rules os) w.held).rows
unfolding ran walk_fault
ran_end os w = refl

pub ran_is : (os : Options) (w : Walk) (ws : List Text) → ran os w ws ≡ outcome (or_else (walk_fault (shape os) [] w ws) (end_fault os (end_of os w ws))) (settled (rules os) (end_of os w ws)).rows
unfolding ran
ran_is os w ws = refl

-- a word `--name` or `--name=value`: its fault and the walk after it, by the rule of the name

abbrev pub met : Options → Waiting → Text → Held → Option Rule → Option Text → Walk
met os waiting word h r v =
    let m = after_flag (rules os) waiting word (long_met (rules os) r v h).0 (long_met (rules os) r v h).1 in
    after_step (rules os) word (at h waiting) m.0 m.1

abbrev pub fault_met : Options → Waiting → Text → Held → Option Rule → Option Text → Kinds
fault_met os waiting word h r v =
    let m = after_flag (rules os) waiting word (long_met (rules os) r v h).0 (long_met (rules os) r v h).1 in
    or_else (long_fault (rules os) false r v h) (step_fault (shape os) 1 m.0 m.1)

abbrev pub long : ℕ → Text → Text
long c rest = 45 ∷ 45 ∷ c ∷ rest

turn_is : (os : Options) (h : Held) (waiting : Waiting) (c : ℕ) (rest : Text) → turn_fault (shape os) [] (at h waiting) (long c rest)
    ≡ fault_met os waiting (long c rest) h (arg_by_long (rules os) (name_and_value (c ∷ rest)).0) (name_and_value (c ∷ rest)).1
turn_is os h idle c rest = refl
turn_is os h (option id) c rest = refl
turn_is os h positional c rest = refl

walk_is : (os : Options) (h : Held) (waiting : Waiting) (c : ℕ) (rest : Text) → walked (rules os) [] (at h waiting) (long c rest)
    ≡ met os waiting (long c rest) h (arg_by_long (rules os) (name_and_value (c ∷ rest)).0) (name_and_value (c ∷ rest)).1
unfolding walked
walk_is os h idle c rest = refl
walk_is os h (option id) c rest = refl
walk_is os h positional c rest = refl

-- the word is `--name`, or `--name=value`
abbrev pub IsLong : ℕ → Text → Text → Option Text → Type 0
IsLong c rest name v = name_and_value (c ∷ rest) ≡ (name, v)

pub turn_named : (os : Options) (h : Held) (waiting : Waiting) (c : ℕ) (rest name : Text) (v : Option Text) (o : Option (Text × Bool)) → IsLong c rest name v
    → listed os name ≡ o → turn_fault (shape os) [] (at h waiting) (long c rest) ≡ fault_met os waiting (long c rest) h (option_map rule o) v
turn_named os h waiting c rest name v o is found =
    turn_is os h waiting c rest
    ∙ ap (λ (p : Text × Option Text). fault_met os waiting (long c rest) h (arg_by_long (rules os) p.0) p.1) is
    ∙ ap (λ r. fault_met os waiting (long c rest) h r v) (long_is os name ∙ ap (option_map rule) found)

pub walk_named : (os : Options) (h : Held) (waiting : Waiting) (c : ℕ) (rest name : Text) (v : Option Text) (o : Option (Text × Bool)) → IsLong c rest name v
    → listed os name ≡ o → walked (rules os) [] (at h waiting) (long c rest) ≡ met os waiting (long c rest) h (option_map rule o) v
walk_named os h waiting c rest name v o is found =
    walk_is os h waiting c rest
    ∙ ap (λ (p : Text × Option Text). met os waiting (long c rest) h (arg_by_long (rules os) p.0) p.1) is
    ∙ ap (λ r. met os waiting (long c rest) h r v) (long_is os name ∙ ap (option_map rule) found)
