-- `clap`'s walk over the words of a command comes to rows exactly where the words spell options, and then to theirs.
use Rattle.std.proofs.Common.{◌≡◌, ◌∙◌, ◌&&◌, ◌||◌, ◌⊎◌, ℕ, Bool, cond, codes, true, false, refl, sym, ap, subst, arith, List, [], ◌∷◌, ◌++◌, map, length, Option, Some, None, inl, inr, true≢false, append_assoc, append-nil, is_some, lt-ltb}
use borrow.Author.Tests.{ltb-true}
use Rattle.std.specs.Prelude.{nat_lt}
use Rattle.std.specs.List.{list_any, list_all, IsDistinct, AllByRecursion}
use Rattle.std.specs.Option.{option_map_or}
use Rattle.std.specs.Str.{bytes_eq}
use Rattle.clap.specs.Walk.{Held, Row, Text, Waiting, idle, option, settled, finished, has_row, with_default}
use Rattle.clap.specs.Kinds.{Kinds, or_else, check_kinds}
use Rattle.clap.specs.Faults.{settle_fault, use_fault, defaults_fault, default_fault, given_default_fault, check_fault}
use Rattle.esm_cli.specs.Spelling.{Options, begins_dash, dashed, has_its_value, is_stray_dash, is_given, is_listed, listed, Given, AreSpelled, IsSpelled}
use Rattle.esm_cli.proofs.Bools.{either, and_left, and_right, or_left, or_right}
use Rattle.esm_cli.proofs.Rules.{rules, rule_by, shape, none_needed, listed_name}
use Rattle.esm_cli.proofs.Steps.{IsFault, IsLong, long, at, ran, ran_end, refuses, outcome, end_fault}
use Rattle.esm_cli.proofs.Uses.{IsNew, Ready, row, given, holding, held_fault, ready_given, ready_holding, step_given, step_value, step_wait, is_full, starved_fault, uses, waiting_for, with_given}
use Rattle.esm_cli.proofs.WordKinds.{AreNamedWell, LongWord, WordKind, listed_well, long_word, named, other, parts_of, plain, word_kind, word_of}
use Rattle.esm_cli.proofs.Refusals.{doomed, empty_value, flag_with_value, other_fault, plain_fault, repeats, starved, use_fails}

-- names, each at most once

abbrev pub names : List Given → List Text
names gs = map (λ (g : Given). g.name) gs

all_push : (P : Text → Type 0) (gs : List Given) (g : Given) → AllByRecursion P (names gs) → P g.name → AllByRecursion P (names (gs ++ g ∷ []))
all_push P [] g all h = (h, tt)
all_push P (x ∷ xs) g all h = (all.0, all_push P xs g all.1 h)

all_at : (P : Text → Type 0) (gs : List Given) (g : Given) (more : List Given) → AllByRecursion P (names (gs ++ g ∷ more)) → P g.name
all_at P [] g more all = all.0
all_at P (x ∷ xs) g more all = all_at P xs g more all.1

distinct_push : (gs : List Given) (g : Given) → IsDistinct bytes_eq (names gs) → is_given g.name gs ≡ false → IsDistinct bytes_eq (names (gs ++ g ∷ []))
unfolding IsDistinct
distinct_push [] g d h = (tt, tt)
distinct_push (x ∷ xs) g d h = (
  all_push (λ y. bytes_eq x.name y ≡ false) xs g d.0 (or_left (bytes_eq x.name g.name) (is_given g.name xs) h),
  distinct_push xs g d.1 (or_right (bytes_eq x.name g.name) (is_given g.name xs) h),
)

distinct_fresh : (gs : List Given) (g : Given) (more : List Given) → IsDistinct bytes_eq (names (gs ++ g ∷ more)) → is_given g.name gs ≡ false
unfolding IsDistinct
distinct_fresh [] g more d = refl
distinct_fresh (x ∷ xs) g more d =
    ap (λ b. b || is_given g.name xs) (all_at (λ y. bytes_eq x.name y ≡ false) xs g more d.0) ∙ distinct_fresh xs g more d.1

-- an option that the command takes
pub record Fits (os : Options) (g : Given) : Type 0 where
  pub has : Bool
  pub found : listed os g.name ≡ Some (g.name, has)
  pub fits : has_its_value has g.value ≡ true

fits_by : (os : Options) (g : Given) (o : Option (Text × Bool)) → listed os g.name ≡ o → option_map_or (λ p. has_its_value p.1 g.value) o false ≡ true → Fits os g
fits_by os g None e h = absurd (true≢false (sym h))
fits_by os g (Some p) e h = record { has = p.1; found = e ∙ ap (λ n. Some (n, p.1)) (listed_name os g.name p e); fits = h }

pub fits_of : (os : Options) (g : Given) → is_listed os g ≡ true → Fits os g
fits_of os g h = fits_by os g (listed os g.name) refl h

pub all_fit : (os : Options) (g : Given) (gs : List Given) → list_all (is_listed os) (g ∷ gs) ≡ true → Fits os g × (list_all (is_listed os) gs ≡ true)
all_fit os g gs h = (fits_of os g (and_left (is_listed os g) (list_all (is_listed os) gs) h), and_right (is_listed os g) (list_all (is_listed os) gs) h)

listed_given : (os : Options) (name : Text) (b : Bool) (v : Option Text) → listed os name ≡ Some (name, b) → has_its_value b v ≡ true → is_listed os (given name v) ≡ true
listed_given os name b v found fits = ap (λ o. option_map_or (λ (p : Text × Bool). has_its_value p.1 v) o false) found ∙ fits

-- the end of the words

default_one : (rs : List Row) (name : Text) (b : Bool) → default_fault rs (rule_by name b) ≡ []
default_one rs name true = elim (has_row name rs) as (λ b. cond (b || true) [] (given_default_fault (rule_by name true) []) ≡ []) [ true ↦ refl | false ↦ refl ]
default_one rs name false =
    elim (has_row name rs) as (λ b. cond (b || false) [] (given_default_fault (rule_by name false) (codes "false" ∷ [])) ≡ []) [ true ↦ refl | false ↦ refl ]

pub no_default : (rs : List Row) (os : Options) → defaults_fault rs (rules os) ≡ []
unfolding defaults_fault
no_default rs [] = refl
no_default rs (o ∷ os) =
    ap (λ k. or_else k (defaults_fault (with_default rs (rule_by o.0 o.1)) (rules os))) (default_one rs o.0 o.1) ∙ no_default (with_default rs (rule_by o.0 o.1)) os

no_check : (os : Options) (rows : List Row) → check_fault (shape os) rows false ≡ []
no_check os rows = ap (check_kinds false false) (none_needed rows os)

ends_well : (a b c : Kinds) (rs : List Row) → a ≡ [] → b ≡ [] → c ≡ [] → outcome (or_else a (or_else b c)) rs ≡ Some rs
ends_well a b c rs p q r = ap (λ x. outcome (or_else x (or_else b c)) rs) p ∙ ap (λ x. outcome (or_else x c) rs) q ∙ ap (λ x. outcome x rs) r

ready_end : (os : Options) (h : Held) (gs : List Given) → Ready os h gs → ran os (at h idle) [] ≡ Some (map row gs)
ready_end os h gs r =
    ran_end os (at h idle)
    ∙ ends_well (settle_fault (rules os) false h) (defaults_fault (settled (rules os) h).rows (rules os)) (check_fault (shape os) (finished (rules os) h) false)
    (settled (rules os) h).rows r.fault (no_default (settled (rules os) h).rows os) (no_check os (finished (rules os) h))
    ∙ ap (λ (rs : List Row). Some rs) r.rows

fault_ends : (kinds : Kinds) (rs : List Row) → IsFault kinds → outcome kinds rs ≡ None
fault_ends [] rs h = absurd h
fault_ends (k ∷ ks) rs h = refl

or_fault : (a b : Kinds) → IsFault a → IsFault (or_else a b)
or_fault [] b h = absurd h
or_fault (k ∷ ks) b h = h

doomed_end : (os : Options) (h : Held) (w : Waiting) → IsFault (settle_fault (rules os) false h) → ran os (at h w) [] ≡ None
doomed_end os h w bad = ran_end os (at h w) ∙ fault_ends (end_fault os h) (settled (rules os) h).rows (or_fault (settle_fault (rules os) false h) _ bad)

doomed_ran : (os : Options) (h : Held) (ws : List Text) → IsFault (settle_fault (rules os) false h) → list_any is_stray_dash ws ≡ false → ran os (at h idle) ws ≡ None
doomed_ran os h [] bad clean = doomed_end os h idle bad
doomed_ran os h (word ∷ ws) bad clean = refuses os (at h idle) word ws
    (doomed os h word bad (word_kind os word (or_left (is_stray_dash word) (list_any is_stray_dash ws) clean)))

-- where the walk comes to rows, the words spell options

pub record Found (os : Options) (gs : List Given) (ws : List Text) (final : List Row) : Type 0 where
  pub more : List Given
  pub spelled : AreSpelled more ws
  pub listed : list_all (is_listed os) more ≡ true
  pub once : IsDistinct bytes_eq (names (gs ++ more))
  pub rows : final ≡ map row (gs ++ more)

-- the facts from which the walk goes on
record Going (os : Options) (h : Held) (gs : List Given) (ws : List Text) : Type 0 where
  ready : Ready os h gs
  once : IsDistinct bytes_eq (names gs)
  clean : list_any is_stray_dash ws ≡ false

abbrev Sound : Options → List Text → Type 0
Sound os ws = (h : Held) (gs : List Given) (final : List Row) → Going os h gs ws → ran os (at h idle) ws ≡ Some final → Found os gs ws final

-- the same after `--name` of an option with a value
abbrev SoundWaiting : Options → List Text → Type 0
SoundWaiting os ws = (name : Text) (h : Held) (gs : List Given) (final : List Row) → listed os name ≡ Some (name, true) → Going os h gs ws
    → ran os (at (waiting_for os name h) (option name)) ws ≡ Some final → Found os gs (word_of name None ∷ ws) final

never : {P : Type 0} (o : Option (List Row)) (final : List Row) → o ≡ None → o ≡ Some final → P
never o final none some = absurd (true≢false (ap is_some (sym some ∙ none)))

pub some_rows : (a b : List Row) → Some a ≡ Some b → a ≡ b
some_rows a b e = cc

-- one option more at the front
found_more : (os : Options) (g : Given) (gs : List Given) (mine rest ws : List Text) (final : List Row) → ws ≡ mine ++ rest → IsSpelled g.name g.value mine
    → is_listed os g ≡ true → Found os (gs ++ g ∷ []) rest final → Found os gs ws final
found_more os g gs mine rest ws final cut spelled listed f =
    let whole : (gs ++ g ∷ []) ++ f.more ≡ gs ++ (g ∷ f.more) = append_assoc gs (g ∷ []) f.more in
    record {
      more = g ∷ f.more;
      spelled = (mine, rest, cut, spelled, f.spelled);
      listed = ap (λ b. b && list_all (is_listed os) f.more) listed ∙ f.listed;
      once = subst (λ all. IsDistinct bytes_eq (names all)) whole f.once;
      rows = f.rows ∙ ap (λ all. map row all) whole;
    }

sound_end : (os : Options) → Sound os []
sound_end os h gs final go e =
    let none : gs ++ [] ≡ gs = append-nil gs in
    record {
      more = [];
      spelled = refl;
      listed = refl;
      once = subst (λ all. IsDistinct bytes_eq (names all)) (sym none) go.once;
      rows = some_rows final (map row gs) (sym e ∙ ready_end os h gs go.ready) ∙ ap (λ all. map row all) (sym none);
    }

unfed : (os : Options) (h : Held) (name : Text) → listed os name ≡ Some (name, true) → IsFault (settle_fault (rules os) false (waiting_for os name h))
unfed os h name found = subst IsFault (sym (starved_fault os name h found)) tt

waiting_end : (os : Options) → SoundWaiting os []
waiting_end os name h gs final found go e = never (ran os (at (waiting_for os name h) (option name)) []) final
    (doomed_end os (waiting_for os name h) (option name) (unfed os h name found)) e

going : (os : Options) (h next : Held) (gs : List Given) (g : Given) (word : Text) (ws : List Text) → Going os h gs (word ∷ ws) → is_given g.name gs ≡ false
    → Ready os next (gs ++ g ∷ []) → Going os next (gs ++ g ∷ []) ws
going os h next gs g word ws go fresh ready = record {
  ready = ready;
  once = distinct_push gs g go.once fresh;
  clean = or_right (is_stray_dash word) (list_any is_stray_dash ws) go.clean;
}

-- the use fails, or the option is a new one
use_or_new : (os : Options) (h : Held) (gs : List Given) (name : Text) (b : Bool) (v : Option Text) → Ready os h gs → listed os name ≡ Some (name, b) → has_its_value b v ≡ true
    → IsFault (use_fault false (rule_by name b) (uses v) (settled (rules os) h).rows) ⊎ IsNew os gs name b v
use_or_new os h gs name true None r found fits = absurd (true≢false (sym fits))
use_or_new os h gs name true (Some []) r found fits = inl (empty_value name (settled (rules os) h).rows)
use_or_new os h gs name true (Some (x ∷ xs)) r found fits = elim (either (is_given name gs)) [
  | inl t ↦ inl (repeats os h gs name true (Some (x ∷ xs)) r fits t)
  | inr f ↦ inr (record { found = found; fits = fits; fresh = f; full = lt-ltb 0 (length (x ∷ xs)) (omega arith) })
]
use_or_new os h gs name false v r found fits = elim (either (is_given name gs)) [
  | inl t ↦ inl (repeats os h gs name false v r fits t)
  | inr f ↦ inr (record { found = found; fits = fits; fresh = f; full = flag_full v fits })
]
  where
    flag_full : (v : Option Text) → has_its_value false v ≡ true → is_full v ≡ true
    flag_full None h = refl
    flag_full (Some v) h = absurd (true≢false (sym h))

-- the spellings of an option in one word

attached : (name v : Text) → word_of name (Some v) ≡ dashed name ++ codes "=" ++ v
attached name v = sym (append_assoc (dashed name) (codes "=") v)

one_word : (os : Options) (gs : List Given) (name : Text) (b : Bool) (v : Option Text) → IsNew os gs name b v → IsSpelled name v (word_of name v ∷ [])
one_word os gs name b None new = ap (λ n. (45 ∷ 45 ∷ n) ∷ []) (append-nil name)
one_word os gs name b (Some v) new = (ltb-true 0 (length v) new.full, inl (ap (λ w. w ∷ []) (attached name v)))

word_is : (c : ℕ) (rest name : Text) (v : Option Text) → IsLong c rest name v → long c rest ≡ word_of name v
word_is c rest name v is = ap (λ t. 45 ∷ 45 ∷ t) (parts_of c rest name v is)

sound_use : (os : Options) (c : ℕ) (rest name : Text) (b : Bool) (v : Option Text) (ws : List Text) → IsLong c rest name v → listed os name ≡ Some (name, b)
    → has_its_value b v ≡ true → Sound os ws → Sound os (long c rest ∷ ws)
sound_use os c rest name b v ws is found fits ih h gs final go e = elim (use_or_new os h gs name b v go.ready found fits) [
  | inl bad ↦ never (ran os (at h idle) (long c rest ∷ ws)) final (refuses os (at h idle) (long c rest) ws (use_fails os h c rest name b v is found fits bad)) e
  | inr new ↦
      let on = going os h (with_given os name b v h) gs (given name v) (long c rest) ws go new.fresh (ready_given os h gs name b v go.ready new) in
      found_more os (given name v) gs (long c rest ∷ []) ws (long c rest ∷ ws) final refl
      (subst (λ w. IsSpelled name v (w ∷ [])) (sym (word_is c rest name v is)) (one_word os gs name b v new)) (listed_given os name b v found fits)
      (ih (with_given os name b v h) (gs ++ given name v ∷ []) final on (sym (step_given os h gs c rest name b v ws go.ready new is) ∙ e))
]

two_words : (name v : Text) → nat_lt 0 (length v) ≡ true → begins_dash v ≡ false → IsSpelled name (Some v) (word_of name None ∷ v ∷ [])
two_words name v full plain_value = (ltb-true 0 (length v) full, inr (ap (λ n. (45 ∷ 45 ∷ n) ∷ v ∷ []) (append-nil name), plain_value))

sound_value : (os : Options) (v : Text) (ws : List Text) → Sound os ws → SoundWaiting os (v ∷ ws)
sound_value os v ws ih name h gs final found go e = elim (either (begins_dash v)) [
  | inl dash ↦ never (ran os (at (waiting_for os name h) (option name)) (v ∷ ws)) final
      (refuses os (at (waiting_for os name h) (option name)) v ws
      (starved os h name v found dash (word_kind os v (or_left (is_stray_dash v) (list_any is_stray_dash ws) go.clean)))) e
  | inr plain_value ↦
      let came : ran os (at (holding os name v h) idle) ws ≡ Some final = sym (step_value os name v h ws found plain_value) ∙ e in
      elim (use_or_new os h gs name true (Some v) go.ready found refl) [
        | inl bad ↦ never (ran os (at (holding os name v h) idle) ws) final
            (doomed_ran os (holding os name v h) ws (subst IsFault (sym (held_fault os name v h found)) bad) (or_right (is_stray_dash v) (list_any is_stray_dash ws) go.clean)) came
        | inr new ↦
            let on = going os h (holding os name v h) gs (given name (Some v)) v ws go new.fresh (ready_holding os h gs name v go.ready new) in
            found_more os (given name (Some v)) gs (word_of name None ∷ v ∷ []) ws (word_of name None ∷ v ∷ ws) final refl
            (two_words name v new.full plain_value) (listed_given os name true (Some v) found refl)
            (ih (holding os name v h) (gs ++ given name (Some v) ∷ []) final on came)
      ]
]

sound_wait : (os : Options) (c : ℕ) (rest name : Text) (ws : List Text) → IsLong c rest name None → listed os name ≡ Some (name, true) → SoundWaiting os ws
    → Sound os (long c rest ∷ ws)
sound_wait os c rest name ws is found ih h gs final go e =
    let on : Going os h gs ws = record { ready = go.ready; once = go.once; clean = or_right (is_stray_dash (long c rest)) (list_any is_stray_dash ws) go.clean } in
    subst (λ w. Found os gs (w ∷ ws) final) (sym (word_is c rest name None is))
    (ih name h gs final found on (sym (step_wait os h c rest name ws go.ready.fault found is) ∙ e))

sound_named : (os : Options) (c : ℕ) (rest name : Text) (b : Bool) (v : Option Text) (ws : List Text) → IsLong c rest name v → listed os name ≡ Some (name, b)
    → Sound os ws → SoundWaiting os ws → Sound os (long c rest ∷ ws)
sound_named os c rest name true (Some v) ws is found ih after = sound_use os c rest name true (Some v) ws is found refl ih
sound_named os c rest name true None ws is found ih after = sound_wait os c rest name ws is found after
sound_named os c rest name false (Some v) ws is found ih after = λ h gs final go e.
    never (ran os (at h idle) (long c rest ∷ ws)) final (refuses os (at h idle) (long c rest) ws (flag_with_value os h c rest name v is found)) e
sound_named os c rest name false None ws is found ih after = sound_use os c rest name false None ws is found refl ih

sound_word : (os : Options) (word : Text) (ws : List Text) → WordKind os word → Sound os ws → SoundWaiting os ws → Sound os (word ∷ ws)
sound_word os word ws (plain p) ih after = λ h gs final go e. never (ran os (at h idle) (word ∷ ws)) final (refuses os (at h idle) word ws (plain_fault os h word p)) e
sound_word os word ws (named c rest name b v e is found) ih after = subst (λ w. Sound os (w ∷ ws)) (sym e) (sound_named os c rest name b v ws is found ih after)
sound_word os word ws (other c rest name v e is none) ih after = subst (λ w. Sound os (w ∷ ws)) (sym e)
    (λ h gs final go came. never (ran os (at h idle) (long c rest ∷ ws)) final (refuses os (at h idle) (long c rest) ws (other_fault os h idle c rest name v is none)) came)

sound_both : (os : Options) (ws : List Text) → Sound os ws × SoundWaiting os ws
sound_both os [] = (sound_end os, waiting_end os)
sound_both os (word ∷ ws) = (
  λ h gs final go e. sound_word os word ws (word_kind os word (or_left (is_stray_dash word) (list_any is_stray_dash ws) go.clean)) (sound_both os ws).0 (sound_both os ws).1 h gs final go e,
  sound_value os word ws (sound_both os ws).0,
)

-- where the words spell options, the walk comes to their rows

record Spelling (os : Options) (h : Held) (gs more : List Given) (ws : List Text) : Type 0 where
  ready : Ready os h gs
  spelled : AreSpelled more ws
  listed : list_all (is_listed os) more ≡ true
  once : IsDistinct bytes_eq (names (gs ++ more))

abbrev Complete : Options → List Given → Type 0
Complete os more = (h : Held) (gs : List Given) (ws : List Text) → Spelling os h gs more ws → ran os (at h idle) ws ≡ Some (map row (gs ++ more))

complete_end : (os : Options) → Complete os []
complete_end os h gs ws s =
    ap (λ words. ran os (at h idle) words) s.spelled ∙ ready_end os h gs s.ready ∙ ap (λ all. Some (map row all)) (sym (append-nil gs))

-- the walk after the first option
goes_on : (os : Options) (g : Given) (more : List Given) (h next : Held) (gs : List Given) (rest ws : List Text) → Complete os more → Spelling os h gs (g ∷ more) ws
    → AreSpelled more rest → Ready os next (gs ++ g ∷ []) → ran os (at next idle) rest ≡ Some (map row (gs ++ (g ∷ more)))
goes_on os g more h next gs rest ws ih s spelled ready =
    let whole : (gs ++ g ∷ []) ++ more ≡ gs ++ (g ∷ more) = append_assoc gs (g ∷ []) more in
    ih next (gs ++ g ∷ []) rest (record {
      ready = ready;
      spelled = spelled;
      listed = and_right (is_listed os g) (list_all (is_listed os) more) s.listed;
      once = subst (λ all. IsDistinct bytes_eq (names all)) (sym whole) s.once;
    }) ∙ ap (λ all. Some (map row all)) whole

-- how the walk goes over the words of one option
record OneMore (os : Options) (h : Held) (gs : List Given) (g : Given) (mine rest : List Text) : Type 0 where
  next : Held
  ready : Ready os next (gs ++ g ∷ [])
  goes : ran os (at h idle) (mine ++ rest) ≡ ran os (at next idle) rest

in_one_word : (os : Options) (h : Held) (gs : List Given) (name : Text) (b : Bool) (v : Option Text) (rest : List Text) → Ready os h gs → IsNew os gs name b v
    → LongWord (word_of name v) name v → OneMore os h gs (given name v) (word_of name v ∷ []) rest
in_one_word os h gs name b v rest r new w = record {
  next = with_given os name b v h;
  ready = ready_given os h gs name b v r new;
  goes = ap (λ word. ran os (at h idle) (word ∷ rest)) w.is_word ∙ step_given os h gs w.first w.rest name b v rest r new w.parts;
}

in_two_words : (os : Options) (h : Held) (gs : List Given) (name v : Text) (rest : List Text) → Ready os h gs → IsNew os gs name true (Some v) → begins_dash v ≡ false
    → LongWord (word_of name None) name None → OneMore os h gs (given name (Some v)) (word_of name None ∷ v ∷ []) rest
in_two_words os h gs name v rest r new plain_value w = record {
  next = holding os name v h;
  ready = ready_holding os h gs name v r new;
  goes = ap (λ word. ran os (at h idle) (word ∷ v ∷ rest)) w.is_word ∙ step_wait os h w.first w.rest name (v ∷ rest) r.fault new.found w.parts
      ∙ step_value os name v h rest new.found plain_value;
}

one_more : (os : Options) (h : Held) (gs : List Given) (name : Text) (v : Option Text) (mine rest : List Text) → AreNamedWell os → Ready os h gs → Fits os (given name v)
    → is_given name gs ≡ false → IsSpelled name v mine → OneMore os h gs (given name v) mine rest
one_more os h gs name None mine rest well r f fresh spelled =
    let new : IsNew os gs name f.has None = record { found = f.found; fits = f.fits; fresh = fresh; full = refl } in
    let word : mine ≡ word_of name None ∷ [] = spelled ∙ ap (λ n. (45 ∷ 45 ∷ n) ∷ []) (sym (append-nil name)) in
    subst (λ m. OneMore os h gs (given name None) m rest) (sym word)
    (in_one_word os h gs name f.has None rest r new (long_word name f.has None (listed_well os name (name, f.has) well f.found)))
one_more os h gs name (Some v) mine rest well r f fresh spelled =
    let has : f.has ≡ true = must_have f.has v f.fits in
    let found : listed os name ≡ Some (name, true) = f.found ∙ ap (λ b. Some (name, b)) has in
    let new : IsNew os gs name true (Some v) = record { found = found; fits = refl; fresh = fresh; full = lt-ltb 0 (length v) spelled.0 } in
    let is_well = listed_well os name (name, true) well found in
    elim spelled.1 [
      | inl one ↦
          let word : mine ≡ word_of name (Some v) ∷ [] = one ∙ ap (λ w. w ∷ []) (sym (attached name v)) in
          subst (λ m. OneMore os h gs (given name (Some v)) m rest) (sym word) (in_one_word os h gs name true (Some v) rest r new (long_word name true (Some v) is_well))
      | inr two ↦
          let both : mine ≡ word_of name None ∷ v ∷ [] = two.0 ∙ ap (λ n. (45 ∷ 45 ∷ n) ∷ v ∷ []) (sym (append-nil name)) in
          subst (λ m. OneMore os h gs (given name (Some v)) m rest) (sym both) (in_two_words os h gs name v rest r new two.1 (long_word name true None is_well))
    ]
  where
    must_have : (b : Bool) (v : Text) → has_its_value b (Some v) ≡ true → b ≡ true
    must_have true v e = refl
    must_have false v e = absurd (true≢false (sym e))

complete_more : (os : Options) (g : Given) (more : List Given) → AreNamedWell os → Complete os more → Complete os (g ∷ more)
complete_more os g more well ih h gs ws s =
    let f = fits_of os g (and_left (is_listed os g) (list_all (is_listed os) more) s.listed) in
    let m = one_more os h gs g.name g.value s.spelled.0 s.spelled.1 well s.ready f (distinct_fresh gs g more s.once) s.spelled.3 in
    ap (λ all. ran os (at h idle) all) s.spelled.2 ∙ m.goes ∙ goes_on os g more h m.next gs s.spelled.1 ws ih s s.spelled.4 m.ready

complete_all : (os : Options) (more : List Given) → AreNamedWell os → Complete os more
complete_all os [] well = complete_end os
complete_all os (g ∷ more) well = λ h gs ws s. complete_more os g more well (complete_all os more well) h gs ws s

pub sound : (os : Options) (h : Held) (ws : List Text) (final : List Row) → Ready os h [] → list_any is_stray_dash ws ≡ false → ran os (at h idle) ws ≡ Some final
    → Found os [] ws final
unfolding IsDistinct
sound os h ws final r clean e = (sound_both os ws).0 h [] final (record { ready = r; once = tt; clean = clean }) e

pub complete : (os : Options) (h : Held) (gs : List Given) (ws : List Text) → AreNamedWell os → Ready os h [] → AreSpelled gs ws → list_all (is_listed os) gs ≡ true
    → IsDistinct bytes_eq (names gs) → ran os (at h idle) ws ≡ Some (map row gs)
complete os h gs ws well r spelled listed once = complete_all os gs well h [] ws (record { ready = r; spelled = spelled; listed = listed; once = once })
