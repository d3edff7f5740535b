-- Which words `clap`'s walk over the words of a command refuses.
use Rattle.std.proofs.Common.{◌≡◌, ◌∙◌, ℕ, Bool, true, false, sym, ap, subst, List, [], ◌∷◌, Option, Some, None, true≢false}
use Rattle.std.specs.Option.{option_map_or}
use Rattle.clap.specs.Walk.{Held, Row, Text, Waiting, idle, option, arg_by_index, settled, has_row}
use Rattle.clap.specs.Kinds.{Kinds, or_else}
use Rattle.clap.specs.Faults.{turn_fault, positional_fault, settle_fault, stray_fault, use_fault, repeat_fault, values_fault}
use Rattle.esm_cli.specs.Spelling.{Given, Options, begins_dash, has_its_value, is_given, listed}
use Rattle.esm_cli.proofs.Rules.{none_placed, rules, rule_by, shape}
use Rattle.esm_cli.proofs.Steps.{IsFault, IsLong, at, fault_met, long, turn_named}
use Rattle.esm_cli.proofs.Uses.{Ready, fault_one, has_row-rows, uses, starved_fault, waiting_for}
use Rattle.esm_cli.proofs.WordKinds.{WordKind, plain, named, other}

first_fault : (a b : Kinds) → IsFault a → IsFault (or_else a b)
first_fault [] b h = absurd h
first_fault (k ∷ ks) b h = h

then_fault : (a b : Kinds) → IsFault b → IsFault (or_else a b)
then_fault [] b h = h
then_fault (k ∷ ks) b h = tt

fault_as : (a b : Kinds) → a ≡ b → IsFault b → IsFault a
fault_as a b e h = subst IsFault (sym e) h

abbrev pub IsFaultOn : Options → Held → Waiting → Text → Type 0
IsFaultOn os h waiting word = IsFault (turn_fault (shape os) [] (at h waiting) word)

-- no option is known by its position
stray : (os : Options) (h : Held) → IsFault (option_map_or (λ a. positional_fault (rules os) false a h) (arg_by_index (rules os) 1) (stray_fault (shape os)))
stray os h = subst (λ r. IsFault (option_map_or (λ a. positional_fault (rules os) false a h) r (stray_fault (shape os)))) (sym (none_placed os 1)) tt

pub plain_fault : (os : Options) (h : Held) (word : Text) → begins_dash word ≡ false → IsFaultOn os h idle word
plain_fault os h [] e = stray os h
plain_fault os h (x ∷ xs) e = rw (e, e) (stray os h)

pub other_fault : (os : Options) (h : Held) (waiting : Waiting) (c : ℕ) (rest name : Text) (v : Option Text) → IsLong c rest name v → listed os name ≡ None
    → IsFaultOn os h waiting (long c rest)
other_fault os h waiting c rest name v is none = fault_as _ _ (turn_named os h waiting c rest name v None is none) tt

-- a listed option, of which what it does to the walk has a fault
pub named_fault : (os : Options) (h : Held) (waiting : Waiting) (c : ℕ) (rest name : Text) (b : Bool) (v : Option Text) → IsLong c rest name v
    → listed os name ≡ Some (name, b) → IsFault (fault_met os waiting (long c rest) h (Some (rule_by name b)) v) → IsFaultOn os h waiting (long c rest)
named_fault os h waiting c rest name b v is found bad = fault_as _ _ (turn_named os h waiting c rest name v (Some (name, b)) is found) bad

-- what is held cannot settle, so each word with dashes fails
unsettled : (os : Options) (h : Held) (waiting : Waiting) (word name : Text) (b : Bool) (v : Option Text) → IsFault (settle_fault (rules os) false h)
    → IsFault (fault_met os waiting word h (Some (rule_by name b)) v)
unsettled os h waiting word name true (Some v) bad =
    first_fault (or_else (settle_fault (rules os) false h) (use_fault false (rule_by name true) (v ∷ []) (settled (rules os) h).rows)) []
    (first_fault (settle_fault (rules os) false h) _ bad)
unsettled os h waiting word name true None bad = first_fault (settle_fault (rules os) false h) [] bad
unsettled os h waiting word name false (Some v) bad = tt
unsettled os h waiting word name false None bad =
    first_fault (or_else (settle_fault (rules os) false h) (use_fault false (rule_by name false) [] (settled (rules os) h).rows)) []
    (first_fault (settle_fault (rules os) false h) _ bad)

pub doomed : (os : Options) (h : Held) (word : Text) → IsFault (settle_fault (rules os) false h) → WordKind os word → IsFaultOn os h idle word
doomed os h word bad (plain e) = plain_fault os h word e
doomed os h word bad (named c rest name b v e is found) = subst (IsFaultOn os h idle) (sym e)
    (named_fault os h idle c rest name b v is found (unsettled os h idle (long c rest) name b v bad))
doomed os h word bad (other c rest name v e is none) = subst (IsFaultOn os h idle) (sym e) (other_fault os h idle c rest name v is none)

unfed : (os : Options) (h : Held) (name : Text) → listed os name ≡ Some (name, true) → IsFault (settle_fault (rules os) false (waiting_for os name h))
unfed os h name found = fault_as _ _ (starved_fault os name h found) tt

-- an option that waits for its value gets none from a word that begins with a dash
pub starved : (os : Options) (h : Held) (name word : Text) → listed os name ≡ Some (name, true) → begins_dash word ≡ true → WordKind os word
    → IsFaultOn os (waiting_for os name h) (option name) word
starved os h name word found dash (plain e) = absurd (true≢false (sym dash ∙ e))
starved os h name word found dash (named c rest other_name b v e is listed_other) = subst (IsFaultOn os (waiting_for os name h) (option name)) (sym e)
    (named_fault os (waiting_for os name h) (option name) c rest other_name b v is listed_other
    (unsettled os (waiting_for os name h) (option name) (long c rest) other_name b v (unfed os h name found)))
starved os h name word found dash (other c rest other_name v e is none) = subst (IsFaultOn os (waiting_for os name h) (option name)) (sym e)
    (other_fault os (waiting_for os name h) (option name) c rest other_name v is none)

-- a second use, an empty value, a flag with a value

has_it : (os : Options) (name : Text) (h : Held) (gs : List Given) → Ready os h gs → is_given name gs ≡ true → has_row name (settled (rules os) h).rows ≡ true
has_it os name h gs r again = ap (has_row name) r.rows ∙ has_row-rows name gs ∙ again

repeated : (name : Text) (b : Bool) (v : Option Text) (rs : List Row) → has_its_value b v ≡ true → has_row name rs ≡ true → IsFault (use_fault false (rule_by name b) (uses v) rs)
repeated name true (Some v) rs fits found = rw found tt
repeated name true None rs fits found = absurd (true≢false (sym fits))
repeated name false (Some v) rs fits found = absurd (true≢false (sym fits))
repeated name false None rs fits found = rw found tt

pub repeats : (os : Options) (h : Held) (gs : List Given) (name : Text) (b : Bool) (v : Option Text) → Ready os h gs → has_its_value b v ≡ true → is_given name gs ≡ true
    → IsFault (use_fault false (rule_by name b) (uses v) (settled (rules os) h).rows)
repeats os h gs name b v r fits again = repeated name b v (settled (rules os) h).rows fits (has_it os name h gs r again)

pub empty_value : (name : Text) (rs : List Row) → IsFault (use_fault false (rule_by name true) ([] ∷ []) rs)
empty_value name rs = then_fault (repeat_fault false name rs) (values_fault (rule_by name true) ([] ∷ [])) tt

pub use_fails : (os : Options) (h : Held) (c : ℕ) (rest name : Text) (b : Bool) (v : Option Text) → IsLong c rest name v → listed os name ≡ Some (name, b)
    → has_its_value b v ≡ true → IsFault (use_fault false (rule_by name b) (uses v) (settled (rules os) h).rows) → IsFaultOn os h idle (long c rest)
use_fails os h c rest name b v is found fits bad = named_fault os h idle c rest name b v is found
    (fault_as _ _ (fault_one os idle (long c rest) h name b v fits)
    (first_fault (or_else (settle_fault (rules os) false h) (use_fault false (rule_by name b) (uses v) (settled (rules os) h).rows)) []
    (then_fault (settle_fault (rules os) false h) (use_fault false (rule_by name b) (uses v) (settled (rules os) h).rows) bad)))

pub flag_with_value : (os : Options) (h : Held) (c : ℕ) (rest name v : Text) → IsLong c rest name (Some v) → listed os name ≡ Some (name, false)
    → IsFaultOn os h idle (long c rest)
flag_with_value os h c rest name v is found = named_fault os h idle c rest name false (Some v) is found tt
