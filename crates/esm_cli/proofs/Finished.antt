-- What `clap`'s getters give of the rows of a command's options, with the defaults of its flags.
use Rattle.std.proofs.Common.{◌≡◌, ◌∙◌, ◌&&◌, ◌||◌, Bool, cond, codes, true, false, not, refl, sym, ap, subst, List, [], ◌∷◌, ◌++◌, map, Option, Some, None, inl, inr, true≢false, is_some}
use Rattle.std.specs.Prelude.{fold, find, option_and_then, slice_get, unwrap_or}
use Rattle.std.specs.List.{list_all, list_any}
use Rattle.std.specs.Str.{bytes_eq}
use Rattle.std.proofs.lemmas.Slice.Eq.{bytes_eq-Decides}
use Rattle.clap.specs.Walk.{Row, Text, has_row, with_default, first_of, one_of, more_values, row_text}
use Rattle.clap.specs.declared.builder.value_parser.Reading.TheVariants.{AsWritten}
use Rattle.clap.specs.declared.parser.matches.ValueSource.TheVariants.{DefaultValue}
use Rattle.esm_cli.specs.Clap.{FlagReads}
use Rattle.esm_cli.specs.Spelling.{Given, Options, has_its_value, is_given, is_listed, listed, value_of}
use Rattle.esm_cli.proofs.Bools.{either, not_false, or_left, or_right}
use Rattle.esm_cli.proofs.Rules.{rules, rule_by, same_second, second_of}
use Rattle.esm_cli.proofs.Uses.{at_fresh, has_row-rows, row}
use Rattle.esm_cli.proofs.Parse.{Fits, all_fit}

abbrev is_row : Text → Row → Bool
is_row id r = bytes_eq r.id id

abbrev pub row_at : Text → List Row → Option Row
row_at id rs = find (is_row id) rs

abbrev default_row : Text → Row
default_row id = record { id = id; values = codes "false" ∷ []; count = None; source = Some DefaultValue; reading = AsWritten }

-- each default adds a row of its own or changes nothing

abbrev pub plus : Text → Bool → List Row → List Row
plus name true rs = rs
plus name false rs = cond (has_row name rs) rs (rs ++ default_row name ∷ [])

default_by : (name : Text) (rs : List Row) (b : Bool) → has_row name rs ≡ b → with_default rs (rule_by name false) ≡ cond b rs (rs ++ default_row name ∷ [])
default_by name rs true there = rw there refl
default_by name rs false absent = rw absent (at_fresh name (more_values DefaultValue (codes "false" ∷ [])) (default_row name ∷ []) rs absent)

pub default_is : (name : Text) (b : Bool) (rs : List Row) → with_default rs (rule_by name b) ≡ plus name b rs
default_is name true rs = elim (has_row name rs) as (λ b. cond b rs rs ≡ rs) [ true ↦ refl | false ↦ refl ]
default_is name false rs = default_by name rs (has_row name rs) refl

abbrev pub with_defaults : List Row → Options → List Row
with_defaults rs os = fold with_default rs (rules os)

-- a row of another id behind changes nothing
other_behind : (id : Text) (rs : List Row) (r : Row) → is_row id r ≡ false → row_at id (rs ++ r ∷ []) ≡ row_at id rs
other_behind id [] r h = ap (λ b. cond b (Some r) None) h
other_behind id (x ∷ rs) r h = ap (λ o. cond (is_row id x) (Some x) o) (other_behind id rs r h)

found_behind : (id : Text) (rs more : List Row) → has_row id rs ≡ false → row_at id (rs ++ more) ≡ row_at id more
found_behind id [] more h = refl
found_behind id (r ∷ rs) more h =
    (elim (is_row id r) as (λ b. (b || has_row id rs) ≡ false → cond b (Some r) (row_at id (rs ++ more)) ≡ row_at id more) [
      | true ↦ λ e. absurd (true≢false e)
      | false ↦ λ e. found_behind id rs more e
    ]) h

-- the command has a flag of this name
abbrev pub is_flag : Options → Text → Bool
is_flag os id = list_any (λ o. bytes_eq o.0 id && not o.1) os

same_one : (id name : Text) (b : Bool) (rs : List Row) → (bytes_eq name id && not b) ≡ false → row_at id (plus name b rs) ≡ row_at id rs
same_one id name true rs h = refl
same_one id name false rs h = elim (has_row name rs) as (λ b. row_at id (cond b rs (rs ++ default_row name ∷ [])) ≡ row_at id rs) [
  | true ↦ refl
  | false ↦ other_behind id rs (default_row name) (not_and (bytes_eq name id) h)
]
  where
    not_and : (a : Bool) → (a && true) ≡ false → a ≡ false
    not_and true e = e
    not_and false e = refl

-- the defaults change no row of an id that is no flag's
same_row : (id : Text) (rs : List Row) (os : Options) → is_flag os id ≡ false → row_at id (with_defaults rs os) ≡ row_at id rs
same_row id rs [] h = refl
same_row id rs (o ∷ os) h =
    ap (λ all. row_at id (with_defaults all os)) (default_is o.0 o.1 rs)
    ∙ same_row id (plus o.0 o.1 rs) os (or_right (bytes_eq o.0 id && not o.1) (is_flag os id) h)
    ∙ same_one id o.0 o.1 rs (or_left (bytes_eq o.0 id && not o.1) (is_flag os id) h)

-- a listed option that is no flag has a value
valued_by : (b : Bool) (o p : Text × Bool) (os : Options) (name : Text) → (b && not o.1) ≡ false → (listed os name ≡ Some p → p.1 ≡ true) → cond b (Some o) (listed os name) ≡ Some p
    → p.1 ≡ true
valued_by true o p os name here later e =
    let same : o ≡ p = cc in
    ap (λ (q : Text × Bool). q.1) (sym same) ∙ not_false o.1 here
valued_by false o p os name here later e = later e

valued : (os : Options) (name : Text) (p : Text × Bool) → is_flag os name ≡ false → listed os name ≡ Some p → p.1 ≡ true
valued [] name p h e = absurd (true≢false (sym (ap is_some e)))
valued (o ∷ os) name p h e = valued_by (bytes_eq o.0 name) o p os name (or_left (bytes_eq o.0 name && not o.1) (is_flag os name) h)
    (valued os name p (or_right (bytes_eq o.0 name && not o.1) (is_flag os name) h)) e

some_value : (g : Given) (b : Bool) → has_its_value b g.value ≡ true → b ≡ true → option_and_then (λ (r : Row). slice_get r.values 0) (Some (row g)) ≡ g.value
some_value g b fits has = go g.value (subst (λ x. has_its_value x g.value ≡ true) has fits)
  where
    go : (v : Option Text) → is_some v ≡ true → Some (unwrap_or v (codes "true")) ≡ v
    go None e = absurd (true≢false (sym e))
    go (Some v) e = refl

-- the value of an option that is no flag's, of the rows of the options
abbrev first_value_of : Option Row → Option Text
first_value_of o = option_and_then (λ (r : Row). slice_get r.values 0) o

abbrev given_value_of : Option Given → Option Text
given_value_of o = option_and_then (λ (g : Given). g.value) o

first_by : (b : Bool) (g : Given) (row_of_rest : Option Row) (given_of_rest : Option Given) → (b ≡ true → first_value_of (Some (row g)) ≡ g.value)
    → first_value_of row_of_rest ≡ given_value_of given_of_rest
    → first_value_of (cond b (Some (row g)) row_of_rest) ≡ given_value_of (cond b (Some g) given_of_rest)
first_by true g r s here later = here refl
first_by false g r s here later = later

first_rows : (os : Options) (id : Text) (gs : List Given) → is_flag os id ≡ false → list_all (is_listed os) gs ≡ true → first_of id (map row gs) ≡ value_of id gs
first_rows os id [] h all = refl
first_rows os id (g ∷ gs) h all =
    let f : Fits os g = (all_fit os g gs all).0 in
    first_by (bytes_eq g.name id) g (row_at id (map row gs)) (find (λ (x : Given). bytes_eq x.name id) gs)
    (λ t. some_value g f.has f.fits (valued os g.name (g.name, f.has) (subst (λ n. is_flag os n ≡ false) (sym ((bytes_eq-Decides g.name id).0 t)) h) f.found))
    (first_rows os id gs h (all_fit os g gs all).1)

pub value_found : (os : Options) (id : Text) (gs : List Given) → is_flag os id ≡ false → list_all (is_listed os) gs ≡ true
    → first_of id (with_defaults (map row gs) os) ≡ value_of id gs
value_found os id gs h all = ap first_value_of (same_row id (map row gs) os h) ∙ first_rows os id gs h all

-- a name that is no option's with a value has none
none_by : (b : Bool) (g : Given) (rest : Option Given) → (b ≡ true → g.value ≡ None) → given_value_of rest ≡ None → given_value_of (cond b (Some g) rest) ≡ None
none_by true g rest here later = here refl
none_by false g rest here later = later

no_text : (b : Bool) (v : Option Text) → has_its_value b v ≡ true → b ≡ false → v ≡ None
no_text true v fits e = absurd (true≢false e)
no_text false None fits e = refl
no_text false (Some v) fits e = absurd (true≢false (sym fits))

pub no_value : (os : Options) (id : Text) (gs : List Given) → second_of (listed os id) ≡ false → list_all (is_listed os) gs ≡ true → value_of id gs ≡ None
no_value os id [] h all = refl
no_value os id (g ∷ gs) h all =
    let f : Fits os g = (all_fit os g gs all).0 in
    none_by (bytes_eq g.name id) g (find (λ (x : Given). bytes_eq x.name id) gs)
    (λ t. no_text f.has g.value f.fits (sym (ap second_of (subst (λ n. listed os n ≡ Some (n, f.has)) ((bytes_eq-Decides g.name id).0 t) f.found)) ∙ h))
    (no_value os id gs h (all_fit os g gs all).1)

-- a flag

flag_by : (g : Given) (b : Bool) → has_its_value b g.value ≡ true → b ≡ false → row_text (row g) ≡ Some (codes "true")
flag_by g b fits has = go g.value (subst (λ x. has_its_value x g.value ≡ true) has fits)
  where
    go : (v : Option Text) → not (is_some v) ≡ true → Some (unwrap_or v (codes "true")) ≡ Some (codes "true")
    go None e = refl
    go (Some v) e = absurd (true≢false (sym e))

abbrev text_of : Option Row → Option Text
text_of o = option_and_then row_text o

text_by : (b : Bool) (g : Given) (rest : Option Row) → (b ≡ true → row_text (row g) ≡ Some (codes "true")) → (b ≡ false → text_of rest ≡ Some (codes "true"))
    → text_of (cond b (Some (row g)) rest) ≡ Some (codes "true")
text_by true g rest here later = here refl
text_by false g rest here later = later refl

flag_rows : (os : Options) (id : Text) (gs : List Given) → listed os id ≡ Some (id, false) → list_all (is_listed os) gs ≡ true → is_given id gs ≡ true
    → one_of id (map row gs) ≡ Some (codes "true")
flag_rows os id [] found all there = absurd (true≢false (sym there))
flag_rows os id (g ∷ gs) found all there =
    let f : Fits os g = (all_fit os g gs all).0 in
    text_by (bytes_eq g.name id) g (row_at id (map row gs))
    (λ t. flag_by g f.has f.fits (same_second id f.has false
    (sym (subst (λ n. listed os n ≡ Some (n, f.has)) ((bytes_eq-Decides g.name id).0 t) f.found) ∙ found)))
    (λ miss. flag_rows os id gs found (all_fit os g gs all).1 (ap (λ b. b || is_given id gs) (sym miss) ∙ there))

-- a name that the command does not have is not given
none_given : (os : Options) (id : Text) (gs : List Given) → listed os id ≡ None → list_all (is_listed os) gs ≡ true → is_given id gs ≡ false
none_given os id [] none all = refl
none_given os id (g ∷ gs) none all =
    let f : Fits os g = (all_fit os g gs all).0 in
    elim (either (bytes_eq g.name id)) [
      | inl t ↦ absurd (true≢false (ap is_some (sym (subst (λ n. listed os n ≡ Some (n, f.has)) ((bytes_eq-Decides g.name id).0 t) f.found) ∙ none)))
      | inr miss ↦ ap (λ b. b || is_given id gs) miss ∙ none_given os id gs none (all_fit os g gs all).1
    ]

-- of a command that has no such name
pub no_flag : (os : Options) (id : Text) (gs : List Given) (answer : Bool) → listed os id ≡ None → is_flag os id ≡ false → list_all (is_listed os) gs ≡ true
    → FlagReads (one_of id (with_defaults (map row gs) os)) answer → is_given id gs ≡ answer
no_flag os id gs answer none h all reads =
    let absent = none_given os id gs none all in
    let nothing : row_at id (map row gs) ≡ None = no_row id (map row gs) (has_row-rows id gs ∙ absent) in
    absent ∙ sym (reads.none (ap text_of (same_row id (map row gs) os h ∙ nothing)))
  where
    no_row : (id : Text) (rs : List Row) → has_row id rs ≡ false → row_at id rs ≡ None
    no_row id [] h = refl
    no_row id (r ∷ rs) h = ap (λ b. cond b (Some r) (row_at id rs)) (or_left (is_row id r) (has_row id rs) h) ∙ no_row id rs (or_right (is_row id r) (has_row id rs) h)

-- whether an id has a row
has_by : (id : Text) (rs : List Row) → has_row id rs ≡ is_some (row_at id rs)
has_by id [] = refl
has_by id (r ∷ rs) =
    ap (λ b. is_row id r || b) (has_by id rs)
    ∙ (elim (is_row id r) as (λ b. (b || is_some (row_at id rs)) ≡ is_some (cond b (Some r) (row_at id rs))) [ true ↦ refl | false ↦ refl ])

-- the default of another flag changes nothing
pub other_flag : (id name : Text) (rs : List Row) → bytes_eq name id ≡ false → row_at id (plus name false rs) ≡ row_at id rs
other_flag id name rs h = same_one id name false rs (ap (λ b. b && true) h)

-- of a command with this flag's default, over rows that are the given ones of its id
pub one_flag : (os : Options) (id : Text) (gs : List Given) (rs : List Row) (answer : Bool) → listed os id ≡ Some (id, false) → row_at id rs ≡ row_at id (map row gs)
    → list_all (is_listed os) gs ≡ true → FlagReads (one_of id (plus id false rs)) answer → is_given id gs ≡ answer
one_flag os id gs rs answer found same all reads = elim (either (is_given id gs)) [
  | inl there ↦
      let rows : plus id false rs ≡ rs = ap (λ b. cond b rs (rs ++ default_row id ∷ [])) (has ∙ there) in
      there ∙ sym (reads.value (ap (one_of id) rows ∙ ap text_of same ∙ flag_rows os id gs found all there))
  | inr absent ↦
      let no = has ∙ absent in
      let rows : plus id false rs ≡ rs ++ default_row id ∷ [] = ap (λ b. cond b rs (rs ++ default_row id ∷ [])) no in
      let last : row_at id (default_row id ∷ []) ≡ Some (default_row id) = ap (λ b. cond b (Some (default_row id)) None) ((bytes_eq-Decides id id).1 refl) in
      absent ∙ sym (reads.other (ap (one_of id) rows ∙ ap text_of (found_behind id rs (default_row id ∷ []) no ∙ last)))
]
  where
    has : has_row id rs ≡ is_given id gs
    has = has_by id rs ∙ ap is_some same ∙ sym (has_by id (map row gs)) ∙ has_row-rows id gs
