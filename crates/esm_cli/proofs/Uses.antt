-- What the options of a command do to the rows of `clap`'s walk.
use Rattle.std.proofs.Common.{◌≡◌, ◌∙◌, ◌||◌, ℕ, Bool, cond, codes, true, false, refl, sym, ap, List, [], ◌∷◌, ◌++◌, map, length, Option, Some, None, true≢false, append-nil}
use Rattle.std.proofs.lemmas.List.{map-append}
use Rattle.std.specs.Prelude.{unwrap_or, nat_lt, option_map}
use Rattle.std.specs.Option.{option_map_or}
use Rattle.std.specs.Str.{bytes_eq}
use Rattle.std.proofs.lemmas.Slice.Eq.{bytes_eq-Decides}
use Rattle.clap.specs.Walk.{Held, Row, Rule, Text, Waiting, Walk, idle, option, option_word, arg_by_id, walked, settled, has_row, used, used_by_id, at_row, reacted, more_values}
use Rattle.clap.specs.Kinds.{Kinds, or_else}
use Rattle.clap.specs.Faults.{turn_fault, settle_fault, use_fault}
use Rattle.clap.specs.declared.builder.value_parser.Reading.TheVariants.{AsWritten}
use Rattle.clap.specs.declared.parser.matches.ValueSource.TheVariants.{CommandLine}
use Rattle.esm_cli.specs.Spelling.{Given, Options, begins_dash, is_given, has_its_value, listed}
use Rattle.esm_cli.proofs.Rules.{rule, rules, rule_by, shape, id_is}
use Rattle.esm_cli.proofs.Steps.{IsLong, at, fault_met, long, met, ran, takes, turn_named, walk_named}

abbrev pub row : Given → Row
row g = record { id = g.name; values = unwrap_or g.value (codes "true") ∷ []; count = None; source = Some CommandLine; reading = AsWritten }

abbrev pub rows : List Given → List Row
rows gs = map row gs

abbrev pub given : Text → Option Text → Given
given name v = record { name = name; value = v }

-- the values of a use
abbrev pub uses : Option Text → List Text
uses None = []
uses (Some v) = v ∷ []

abbrev pub is_full : Option Text → Bool
is_full None = true
is_full (Some v) = nat_lt 0 (length v)

pub has_row-rows : (id : Text) (gs : List Given) → has_row id (rows gs) ≡ is_given id gs
has_row-rows id [] = refl
has_row-rows id (g ∷ gs) = ap (λ b. bytes_eq g.name id || b) (has_row-rows id gs)

pub at_fresh : (id : Text) (change : Row → List Row) (missing rs : List Row) → has_row id rs ≡ false → at_row id change missing rs ≡ rs ++ missing
at_fresh id change missing [] h = refl
at_fresh id change missing (r ∷ rs) h =
    (elim (bytes_eq r.id id) as (λ b. (b || has_row id rs) ≡ false → cond b (change r ++ rs) (r ∷ at_row id change missing rs) ≡ r ∷ (rs ++ missing)) [
      | true ↦ λ e. absurd (true≢false e)
      | false ↦ λ e. ap (λ xs. r ∷ xs) (at_fresh id change missing rs e)
    ]) h

used_fresh : (id : Text) (remove change : Row → List Row) (new : List Row) (rs : List Row) → has_row id rs ≡ false
    → at_row id change new (at_row id remove [] rs) ≡ rs ++ new
used_fresh id remove change new rs h =
    ap (at_row id change new) (at_fresh id remove [] rs h ∙ append-nil rs) ∙ at_fresh id change new rs h

pub used_given : (name : Text) (b : Bool) (v : Option Text) (rs : List Row) → has_its_value b v ≡ true → has_row name rs ≡ false
    → used (rule_by name b) (uses v) rs ≡ rs ++ row (given name v) ∷ []
used_given name true (Some v) rs fits h = used_fresh name (λ x. []) (more_values CommandLine (v ∷ [])) (row (given name (Some v)) ∷ []) rs h
used_given name true None rs fits h = absurd (true≢false (sym fits))
used_given name false (Some v) rs fits h = absurd (true≢false (sym fits))
used_given name false None rs fits h = used_fresh name (λ x. []) (more_values CommandLine (codes "true" ∷ [])) (row (given name None) ∷ []) rs h

pub use_passes : (name : Text) (b : Bool) (v : Option Text) (rs : List Row) → has_its_value b v ≡ true → has_row name rs ≡ false → is_full v ≡ true
    → use_fault false (rule_by name b) (uses v) rs ≡ []
use_passes name true (Some v) rs fits fresh full = rw (fresh, full) refl
use_passes name true None rs fits fresh full = absurd (true≢false (sym fits))
use_passes name false (Some v) rs fits fresh full = absurd (true≢false (sym fits))
use_passes name false None rs fits fresh full = rw fresh refl

-- what is held settles to the rows of these options
pub record Ready (os : Options) (h : Held) (gs : List Given) : Type 0 where
  pub fault : settle_fault (rules os) false h ≡ []
  pub rows : (settled (rules os) h).rows ≡ map row gs

pub none_given : (os : Options) (name : Text) (h : Held) (gs : List Given) → Ready os h gs → is_given name gs ≡ false → has_row name (settled (rules os) h).rows ≡ false
none_given os name h gs r fresh = ap (has_row name) r.rows ∙ has_row-rows name gs ∙ fresh

-- one option more
pub record IsNew (os : Options) (gs : List Given) (name : Text) (b : Bool) (v : Option Text) : Type 0 where
  pub found : listed os name ≡ Some (name, b)
  pub fits : has_its_value b v ≡ true
  pub fresh : is_given name gs ≡ false
  pub full : is_full v ≡ true

more_rows : (os : Options) (h : Held) (gs : List Given) (name : Text) (b : Bool) (v : Option Text) → Ready os h gs → IsNew os gs name b v
    → used (rule_by name b) (uses v) (settled (rules os) h).rows ≡ map row (gs ++ given name v ∷ [])
more_rows os h gs name b v r new =
    used_given name b v (settled (rules os) h).rows new.fits (none_given os name h gs r new.fresh)
    ∙ ap (λ xs. xs ++ row (given name v) ∷ []) r.rows ∙ sym (map-append row gs (given name v ∷ []))

more_passes : (os : Options) (h : Held) (gs : List Given) (name : Text) (b : Bool) (v : Option Text) → Ready os h gs → IsNew os gs name b v
    → use_fault false (rule_by name b) (uses v) (settled (rules os) h).rows ≡ []
more_passes os h gs name b v r new = use_passes name b v (settled (rules os) h).rows new.fits (none_given os name h gs r new.fresh) new.full

-- in one word

abbrev pub with_given : Options → Text → Bool → Option Text → Held → Held
with_given os name b v h = reacted (rules os) (rule_by name b) (uses v) h

pub ready_given : (os : Options) (h : Held) (gs : List Given) (name : Text) (b : Bool) (v : Option Text) → Ready os h gs → IsNew os gs name b v
    → Ready os (with_given os name b v h) (gs ++ given name v ∷ [])
ready_given os h gs name b v r new = record { fault = refl; rows = more_rows os h gs name b v r new }

both_empty : (a b : Kinds) → a ≡ [] → b ≡ [] → or_else (or_else a b) [] ≡ []
both_empty a b p q = ap (λ x. or_else (or_else x b) []) p ∙ ap (λ x. or_else x []) q

-- the fault of a use in one word
abbrev pub given_fault : Options → Text → Bool → Option Text → Held → Kinds
given_fault os name b v h = or_else (or_else (settle_fault (rules os) false h) (use_fault false (rule_by name b) (uses v) (settled (rules os) h).rows)) []

pub fault_one : (os : Options) (waiting : Waiting) (word : Text) (h : Held) (name : Text) (b : Bool) (v : Option Text) → has_its_value b v ≡ true
    → fault_met os waiting word h (Some (rule_by name b)) v ≡ given_fault os name b v h
fault_one os waiting word h name true (Some v) fits = refl
fault_one os waiting word h name true None fits = absurd (true≢false (sym fits))
fault_one os waiting word h name false (Some v) fits = absurd (true≢false (sym fits))
fault_one os waiting word h name false None fits = refl

met_one : (os : Options) (waiting : Waiting) (word : Text) (h : Held) (name : Text) (b : Bool) (v : Option Text) → has_its_value b v ≡ true
    → met os waiting word h (Some (rule_by name b)) v ≡ at (with_given os name b v h) idle
met_one os waiting word h name true (Some v) fits = refl
met_one os waiting word h name true None fits = absurd (true≢false (sym fits))
met_one os waiting word h name false (Some v) fits = absurd (true≢false (sym fits))
met_one os waiting word h name false None fits = refl

pub step_given : (os : Options) (h : Held) (gs : List Given) (c : ℕ) (rest name : Text) (b : Bool) (v : Option Text) (ws : List Text) → Ready os h gs
    → IsNew os gs name b v → IsLong c rest name v → ran os (at h idle) (long c rest ∷ ws) ≡ ran os (at (with_given os name b v h) idle) ws
step_given os h gs c rest name b v ws r new is =
    takes os (at h idle) (at (with_given os name b v h) idle) (long c rest) ws
    (turn_named os h idle c rest name v (Some (name, b)) is new.found ∙ fault_one os idle (long c rest) h name b v new.fits
    ∙ both_empty _ _ r.fault (more_passes os h gs name b v r new))
    (walk_named os h idle c rest name v (Some (name, b)) is new.found ∙ met_one os idle (long c rest) h name b v new.fits)

-- in two words

abbrev pub waiting_for : Options → Text → Held → Held
waiting_for os name h = record (settled (rules os) h) { pending = Some (name, []) }

abbrev pub holding : Options → Text → Text → Held → Held
holding os name v h = record (settled (rules os) h) { pending = Some (name, v ∷ []) }

id_found : (os : Options) (name : Text) (b : Bool) → listed os name ≡ Some (name, b) → arg_by_id (rules os) name ≡ Some (rule_by name b)
id_found os name b found = id_is os name ∙ ap (option_map rule) found

pub held_fault : (os : Options) (name v : Text) (h : Held) → listed os name ≡ Some (name, true)
    → settle_fault (rules os) false (holding os name v h) ≡ use_fault false (rule_by name true) (v ∷ []) (settled (rules os) h).rows
held_fault os name v h found = ap (λ r. option_map_or (λ a. use_fault false a (v ∷ []) (settled (rules os) h).rows) r []) (id_found os name true found)

pub starved_fault : (os : Options) (name : Text) (h : Held) → listed os name ≡ Some (name, true)
    → settle_fault (rules os) false (waiting_for os name h) ≡ use_fault false (rule_by name true) [] (settled (rules os) h).rows
starved_fault os name h found = ap (λ r. option_map_or (λ a. use_fault false a [] (settled (rules os) h).rows) r []) (id_found os name true found)

pub ready_holding : (os : Options) (h : Held) (gs : List Given) (name v : Text) → Ready os h gs → IsNew os gs name true (Some v)
    → Ready os (holding os name v h) (gs ++ given name (Some v) ∷ [])
ready_holding os h gs name v r new = record {
  fault = held_fault os name v h new.found ∙ more_passes os h gs name true (Some v) r new;
  rows = ap (λ r. used_by_id r (v ∷ []) (settled (rules os) h).rows) (id_found os name true new.found) ∙ more_rows os h gs name true (Some v) r new;
}

pub step_wait : (os : Options) (h : Held) (c : ℕ) (rest name : Text) (ws : List Text) → settle_fault (rules os) false h ≡ []
    → listed os name ≡ Some (name, true) → IsLong c rest name None
    → ran os (at h idle) (long c rest ∷ ws) ≡ ran os (at (waiting_for os name h) (option name)) ws
step_wait os h c rest name ws none found is =
    takes os (at h idle) (at (waiting_for os name h) (option name)) (long c rest) ws
    (turn_named os h idle c rest name None (Some (name, true)) is found ∙ ap (λ x. or_else x []) none)
    (walk_named os h idle c rest name None (Some (name, true)) is found)

waited_fault : (os : Options) (name v : Text) (h : Held) → begins_dash v ≡ false → turn_fault (shape os) [] (at (waiting_for os name h) (option name)) v ≡ []
waited_fault os name [] h plain = refl
waited_fault os name (x ∷ xs) h plain = rw (plain, plain) refl

abbrev after_value : Text → Text → Held → Option Rule → Walk
after_value name v h r = at (option_word r name v h).0 (option_word r name v h).1

waited_walk : (os : Options) (name v : Text) (h : Held) → begins_dash v ≡ false
    → walked (rules os) [] (at (waiting_for os name h) (option name)) v ≡ after_value name v (waiting_for os name h) (arg_by_id (rules os) name)
unfolding walked
waited_walk os name [] h plain = refl
waited_walk os name (x ∷ xs) h plain = rw (plain, plain) refl

one_value : (os : Options) (name v : Text) (h : Held) → after_value name v (waiting_for os name h) (Some (rule_by name true)) ≡ at (holding os name v h) idle
one_value os name v h =
    ap (λ b. at (holding os name v h) (cond (nat_lt (cond b 1 0) 1) (option name) idle)) ((bytes_eq-Decides name name).1 refl)

pub step_value : (os : Options) (name v : Text) (h : Held) (ws : List Text) → listed os name ≡ Some (name, true) → begins_dash v ≡ false
    → ran os (at (waiting_for os name h) (option name)) (v ∷ ws) ≡ ran os (at (holding os name v h) idle) ws
step_value os name v h ws found plain = takes os _ _ v ws (waited_fault os name v h plain)
    (waited_walk os name v h plain ∙ ap (after_value name v (waiting_for os name h)) (id_found os name true found) ∙ one_value os name v h)
