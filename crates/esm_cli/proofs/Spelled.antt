-- What `clap` gives for a command: the options that the words spell.
use Rattle.std.proofs.Common.{◌≡◌, ◌∙◌, ◌&&◌, ◌||◌, Bool, codes, true, false, not, refl, sym, ap, ap₂, subst, append_assoc, append-nil, List, [], ◌∷◌, ◌++◌, map, drop, Option, Some, None, inl, inr, true≢false, is_some}
use Rattle.std.specs.Prelude.{◌==◌, unwrap_or}
use Rattle.std.specs.List.{list_any, list_all}
use Rattle.std.proofs.lemmas.List.Folds.{list_any-append}
use Rattle.clap.specs.Walk.{Row, Text, idle, settled, nothing_held, walk, rows_after}
use Rattle.clap.specs.Simple.{Shape, entered, matches_of}
use Rattle.clap.specs.Kinds.{Kinds, or_else}
use Rattle.clap.specs.Faults.{fault_of, built_fault, entered_fault, level_fault, walk_fault}
use Rattle.clap.specs.Words.{App, HasKind, HasMatchesOf, found_of, is_simple_and_free, kind_of, rows_of}
use Rattle.clap.specs.declared.parser.matches.ArgMatches.{ArgMatches}
use Rattle.clap.specs.declared.error.Error.{Error}
use Rattle.clap.specs.declared.error.kind.ErrorKind.TheVariants.{OutOfMemory}
use Rattle.esm_cli.specs.Clap.{app}
use Rattle.esm_cli.specs.Spelling.{Given, Options, AreOptions, AreSpelled, IsSpelled, begins_dash, dashed, has_its_value, is_stray_dash, is_listed, listed}
use Rattle.esm_cli.proofs.Bools.{or_right}
use Rattle.esm_cli.proofs.Rules.{filled_is, rules, same_second, shape, simple, simple_and_free, top_is}
use Rattle.esm_cli.proofs.Steps.{at, end_fault, end_of, outcome, ran, ran_is}
use Rattle.esm_cli.proofs.Uses.{Ready, given, row}
use Rattle.esm_cli.proofs.WordKinds.{AreNamedWell, is_named_well, listed_well}
use Rattle.esm_cli.proofs.Parse.{Fits, all_fit, complete, some_rows, sound}
use Rattle.esm_cli.proofs.Finished.{with_defaults}

start : (os : Options) → Ready os nothing_held []
start os = record { fault = refl; rows = refl }

abbrev one_level : Shape → App
one_level s = record { top = s; subs = [] }

none_entered : (s : Shape) (stop : Option (Text × List Text)) → is_some (entered (one_level s) stop) ≡ false
none_entered s None = refl
none_entered s (Some p) = refl

none_below : (s : Shape) (stop : Option (Text × List Text)) → entered_fault (one_level s) stop ≡ []
none_below s None = refl
none_below s (Some p) = refl

abbrev whole_fault : Options → List Text → Kinds
whole_fault os ws = or_else (walk_fault (shape os) [] (at nothing_held idle) ws) (end_fault os (end_of os (at nothing_held idle) ws))

level_is : (s : Shape) (ws : List Text) → built_fault (one_level s) nothing_held ws ≡ level_fault s [] nothing_held ws false []
level_is s ws =
    let stop = (walk s.rules [] nothing_held ws).stopped in
    ap (λ b. level_fault s [] nothing_held ws b (entered_fault (one_level s) stop)) (none_entered s stop)
    ∙ ap (λ k. level_fault s [] nothing_held ws false k) (none_below s stop)

fault_is : (os : Options) (words : List Text) → fault_of (app os) words ≡ whole_fault os (drop 1 words)
fault_is os words = ap (λ s. built_fault (one_level s) nothing_held (drop 1 words)) (top_is os) ∙ level_is (shape os) (drop 1 words)

stays_clean : (words : List Text) → list_any is_stray_dash words ≡ false → list_any is_stray_dash (drop 1 words) ≡ false
stays_clean [] h = refl
stays_clean (w ∷ ws) h = or_right (is_stray_dash w) (list_any is_stray_dash ws) h

no_kinds : (kinds : Kinds) (rs final : List Row) → outcome kinds rs ≡ Some final → kinds ≡ []
no_kinds [] rs final h = refl
no_kinds (k ∷ ks) rs final h = absurd (true≢false (ap is_some (sym h)))

-- where `clap` finds no fault, the words spell options, and its rows are theirs with the defaults
pub record Spelled (os : Options) (words : List Text) : Type 0 where
  pub gs : List Given
  pub options : AreOptions os gs (drop 1 words)
  pub rows : matches_of (app os) words ≡ with_defaults (map row gs) os

pub words_spelled : (os : Options) (words : List Text) → list_any is_stray_dash words ≡ false → fault_of (app os) words ≡ [] → Spelled os words
words_spelled os words clean none =
    let ws = drop 1 words in
    let final = (settled (rules os) (end_of os (at nothing_held idle) ws)).rows in
    let came : ran os (at nothing_held idle) ws ≡ Some final = ran_is os (at nothing_held idle) ws ∙ ap (λ k. outcome k final) (sym (fault_is os words) ∙ none) in
    let f = sound os nothing_held ws final (start os) (stays_clean words clean) came in
    record {
      gs = f.more;
      options = record { spelled = f.spelled; listed = f.listed; once = f.once };
      rows = ap (λ rs. rows_after rs [] ws) (filled_is 1 os) ∙ ap (λ rs. with_defaults rs os) f.rows;
    }

pub spelled_passes : (os : Options) (words : List Text) (gs : List Given) → AreNamedWell os → AreOptions os gs (drop 1 words) → fault_of (app os) words ≡ []
spelled_passes os words gs well o =
    let ws = drop 1 words in
    fault_is os words ∙ no_kinds (whole_fault os ws) (settled (rules os) (end_of os (at nothing_held idle) ws)).rows (map row gs)
    (sym (ran_is os (at nothing_held idle) ws) ∙ complete os nothing_held gs ws well (start os) o.spelled o.listed o.once)

-- as the code reads them

pub given_by : (os : Options) (words : List Text) (made : App) (m : ArgMatches) → list_any is_stray_dash words ≡ false → made ≡ app os → HasMatchesOf made words m
    → (is_simple_and_free made ≡ true → fault_of made words ≡ [])
    → (gs : List Given) × AreOptions os gs (drop 1 words) × (rows_of (found_of m) ≡ with_defaults (map row gs) os)
given_by os words made m clean is matches kinds =
    let none : fault_of (app os) words ≡ [] = subst (λ a. is_simple_and_free a ≡ true → fault_of a words ≡ []) is kinds (simple_and_free os) in
    let found : rows_of (found_of m) ≡ matches_of (app os) words = (subst (λ a. HasMatchesOf a words m) is matches (simple os)).0 in
    let s = words_spelled os words clean none in
    (s.gs, s.options, found ∙ s.rows)

pub refused_by : (os : Options) (words : List Text) (made : App) (e : Error) → AreNamedWell os → made ≡ app os
    → (is_simple_and_free made ≡ true → HasKind (fault_of made words) e)
    → (kind_of e ≡ OutOfMemory → ⊥) → (gs : List Given) → AreOptions os gs (drop 1 words) → ⊥
refused_by os words made e well is kinds other gs options =
    let fails : HasKind (fault_of (app os) words) e = subst (λ a. is_simple_and_free a ≡ true → HasKind (fault_of a words) e) is kinds (simple_and_free os) in
    let passed : HasKind [] e = subst (λ k. HasKind k e) (spelled_passes os words gs well options) fails in
    elim passed [ inl memory ↦ other memory | inr none ↦ none ]

-- a spelling has no word with a stray dash

plain_clean : (v : Text) → begins_dash v ≡ false → is_stray_dash v ≡ false
plain_clean [] h = refl
plain_clean (a ∷ []) h = h
plain_clean (a ∷ b ∷ []) h = h
plain_clean (a ∷ b ∷ c ∷ rest) h = ap (λ x. x && not (b == 45)) h

clean_dashed : (name : Text) (b : Bool) (more : Text) → is_named_well (name, b) ≡ true → is_stray_dash (dashed name ++ more) ≡ false
clean_dashed [] b more h = absurd (true≢false (sym h))
clean_dashed (x ∷ xs) b more h = refl

clean_mine : (name : Text) (b : Bool) (v : Option Text) (mine : List Text) → is_named_well (name, b) ≡ true → IsSpelled name v mine → list_any is_stray_dash mine ≡ false
clean_mine name b None mine well s =
    ap (list_any is_stray_dash) s ∙ ap (λ w. list_any is_stray_dash (w ∷ [])) (sym (append-nil (dashed name)))
    ∙ ap (λ x. x || false) (clean_dashed name b [] well)
clean_mine name b (Some v) mine well s = elim s.1 [
  | inl one ↦ ap (list_any is_stray_dash) one ∙ ap (λ w. list_any is_stray_dash (w ∷ [])) (append_assoc (dashed name) (codes "=") v)
      ∙ ap (λ x. x || false) (clean_dashed name b (codes "=" ++ v) well)
  | inr two ↦ ap (list_any is_stray_dash) two.0 ∙ ap (λ w. list_any is_stray_dash (w ∷ v ∷ [])) (sym (append-nil (dashed name)))
      ∙ ap (λ x. x || (is_stray_dash v || false)) (clean_dashed name b [] well) ∙ ap (λ x. x || false) (plain_clean v two.1)
]

both_clean : (a b : List Text) → list_any is_stray_dash a ≡ false → list_any is_stray_dash b ≡ false → list_any is_stray_dash (a ++ b) ≡ false
both_clean a b p q = list_any-append is_stray_dash a b ∙ ap (λ x. x || list_any is_stray_dash b) p ∙ q

pub clean_spelled : (os : Options) (gs : List Given) (ws : List Text) → AreNamedWell os → list_all (is_listed os) gs ≡ true → AreSpelled gs ws → list_any is_stray_dash ws ≡ false
clean_spelled os [] ws well l s = ap (list_any is_stray_dash) s
clean_spelled os (g ∷ gs) ws well l s =
    let both = all_fit os g gs l in
    let f : Fits os g = both.0 in
    ap (list_any is_stray_dash) s.2
    ∙ both_clean s.0 s.1 (clean_mine g.name f.has g.value s.0 (listed_well os g.name (g.name, f.has) well f.found) s.3) (clean_spelled os gs s.1 well both.1 s.4)

-- the words spell one list of options

same_value : (b : Bool) (v w : Option Text) → has_its_value b v ≡ true → has_its_value b w ≡ true → unwrap_or v (codes "true") ≡ unwrap_or w (codes "true") → v ≡ w
same_value true (Some v) (Some w) p q e = ap (λ t. Some t) e
same_value true None w p q e = absurd (true≢false (sym p))
same_value true (Some v) None p q e = absurd (true≢false (sym q))
same_value false None None p q e = refl
same_value false (Some v) w p q e = absurd (true≢false (sym p))
same_value false None (Some w) p q e = absurd (true≢false (sym q))

same_given : (os : Options) (g d : Given) → Fits os g → Fits os d → row g ≡ row d → g ≡ d
same_given os g d f e same =
    let name : g.name ≡ d.name = ap (λ (r : Row). r.id) same in
    let has : f.has ≡ e.has = same_second d.name f.has e.has (sym (subst (λ n. listed os n ≡ Some (n, f.has)) name f.found) ∙ e.found) in
    let value : g.value ≡ d.value = same_value e.has g.value d.value (subst (λ b. has_its_value b g.value ≡ true) has f.fits) e.fits
    (first_same (unwrap_or g.value (codes "true")) (unwrap_or d.value (codes "true")) (ap (λ (r : Row). r.values) same)) in
    ap₂ given name value
  where
    first_same : (a b : Text) → a ∷ [] ≡ b ∷ [] → a ≡ b
    first_same a b e = cc

same_list : (os : Options) (gs ds : List Given) → list_all (is_listed os) gs ≡ true → list_all (is_listed os) ds ≡ true → map row gs ≡ map row ds → gs ≡ ds
same_list os [] [] l k e = refl
same_list os [] (d ∷ ds) l k e = (cc)
same_list os (g ∷ gs) [] l k e = (cc)
same_list os (g ∷ gs) (d ∷ ds) l k e =
    let one = all_fit os g gs l in
    let other = all_fit os d ds k in
    let heads : row g ≡ row d = cc in
    let tails : map row gs ≡ map row ds = cc in
    ap₂ (λ (x : Given) (xs : List Given). x ∷ xs) (same_given os g d one.0 other.0 heads) (same_list os gs ds one.1 other.1 tails)

pub same_options : (os : Options) (ws : List Text) (gs ds : List Given) → AreNamedWell os → AreOptions os gs ws → AreOptions os ds ws → gs ≡ ds
same_options os ws gs ds well a b = same_list os gs ds a.listed b.listed
    (some_rows (map row gs) (map row ds)
    (sym (complete os nothing_held gs ws well (start os) a.spelled a.listed a.once) ∙ complete os nothing_held ds ws well (start os) b.spelled b.listed b.once))
