-- The command of `clap` that stands for a list of options: what it is once it is built, and that it is simple.
use Rattle.std.proofs.Common.{◌≡◌, ◌∙◌, ◌&&◌, ◌||◌, ℕ, Bool, cond, true, false, not, refl, sym, ap, ap₂, List, [], ◌∷◌, map, Option, Some, None, true≢false, is_some}
use Rattle.std.specs.List.{list_all, list_any}
use Rattle.std.specs.Prelude.{◌==◌, option_map}
use Rattle.std.specs.Option.{option_map_or}
use Rattle.std.specs.Str.{bytes_eq}
use Rattle.std.proofs.lemmas.Slice.Eq.{bytes_eq-Decides}
use Rattle.clap.specs.Walk.{Row, Rule, Text, arg_by_id, arg_by_index, arg_by_long, has_long, is_early_multiple}
use Rattle.clap.specs.Simple.{Shape, built, filled, filled_from, index_after, with_index, is_simple, is_in_order, has_simple_rules}
use Rattle.clap.specs.Faults.{is_simple_and_free, has_free_rules}
use Rattle.clap.specs.Takes.{is_given}
use Rattle.esm_cli.specs.Spelling.{Options, listed}
use Rattle.esm_cli.specs.Clap.{app, raw_by, raw_rule}

abbrev pub rule_by : Text → Bool → Rule
rule_by name true = filled (raw_by name true)
rule_by name false = filled (raw_by name false)

abbrev pub rule : Text × Bool → Rule
rule o = rule_by o.0 o.1

abbrev pub rules : Options → List Rule
rules os = map rule os

-- the command once it is built

abbrev empty : Shape
empty = (built (app [])).top

abbrev pub shape_with : List Rule → Shape
shape_with rs = record empty { rules = rs }

abbrev pub shape : Options → Shape
shape os = shape_with (rules os)

filled_one : (i : ℕ) (name : Text) (b : Bool) → with_index i (filled (raw_by name b)) ≡ rule_by name b
filled_one i name true = refl
filled_one i name false = refl

index_stays : (i : ℕ) (name : Text) (b : Bool) → index_after i (raw_by name b) ≡ i
index_stays i name true = refl
index_stays i name false = refl

pub filled_is : (i : ℕ) (os : Options) → filled_from i (map raw_rule os) ≡ rules os
filled_is i [] = refl
filled_is i (o ∷ os) = ap₂ (λ (r : Rule) (rs : List Rule). r ∷ rs) (filled_one i o.0 o.1)
    (ap (λ j. filled_from j (map raw_rule os)) (index_stays i o.0 o.1) ∙ filled_is i os)

pub top_is : (os : Options) → (built (app os)).top ≡ shape os
top_is os = ap shape_with (filled_is 1 os)

-- it is simple, and no option has a rule on another

simple_one : (name : Text) (b rest : Bool) → rest ≡ true → ((raw_by name b).is_simple && rest) ≡ true
simple_one name true rest h = h
simple_one name false rest h = h

raw_simple : (os : Options) → list_all (λ a. a.is_simple) (map raw_rule os) ≡ true
raw_simple [] = refl
raw_simple (o ∷ os) = simple_one o.0 o.1 (list_all (λ a. a.is_simple) (map raw_rule os)) (raw_simple os)

built_simple_one : (name : Text) (b rest : Bool) → rest ≡ true → ((rule_by name b).is_simple && rest) ≡ true
built_simple_one name true rest h = h
built_simple_one name false rest h = h

built_simple : (os : Options) → list_all (λ a. a.is_simple) (rules os) ≡ true
built_simple [] = refl
built_simple (o ∷ os) = built_simple_one o.0 o.1 (list_all (λ a. a.is_simple) (rules os)) (built_simple os)

free_one : (name : Text) (b rest : Bool) → rest ≡ true → ((rule_by name b).is_free && rest) ≡ true
free_one name true rest h = h
free_one name false rest h = h

built_free : (os : Options) → list_all (λ a. a.is_free) (rules os) ≡ true
built_free [] = refl
built_free (o ∷ os) = free_one o.0 o.1 (list_all (λ a. a.is_free) (rules os)) (built_free os)

late_one : (n : ℕ) (name : Text) (b rest : Bool) → rest ≡ false → (is_early_multiple n (rule_by name b) || rest) ≡ false
late_one n name true rest h = h
late_one n name false rest h = h

none_early : (n : ℕ) (os : Options) → list_any (is_early_multiple n) (rules os) ≡ false
none_early n [] = refl
none_early n (o ∷ os) = late_one n o.0 o.1 (list_any (is_early_multiple n) (rules os)) (none_early n os)

in_order : (os : Options) → is_in_order (rules os) ≡ true
in_order os = ap not (none_early _ os)

and_true : (a b : Bool) → a ≡ true → b ≡ true → (a && b) ≡ true
and_true a b p q = ap (λ x. x && b) p ∙ q

abbrev is_ready_shape : Shape → Bool
is_ready_shape s = has_simple_rules s && is_in_order s.rules

ready : (os : Options) → is_ready_shape (shape os) ≡ true
ready os = and_true _ _ (built_simple os) (in_order os)

pub simple : (os : Options) → is_simple (app os) ≡ true
simple os = and_true _ _ (and_true _ _ (raw_simple os) refl)
    (and_true _ _ (ap is_ready_shape (top_is os) ∙ ready os) refl)

pub simple_and_free : (os : Options) → is_simple_and_free (app os) ≡ true
simple_and_free os = and_true _ _ (simple os) (and_true _ _ (ap has_free_rules (top_is os) ∙ built_free os) refl)

-- the rule of a name

or_false : (b : Bool) → (b || false) ≡ b
or_false true = refl
or_false false = refl

abbrev is_called : Text → Rule → Bool
is_called word a = not (is_some a.index) && has_long a word

long_one : (word name : Text) (b : Bool) → is_called word (rule_by name b) ≡ bytes_eq name word
long_one word name true = or_false (bytes_eq name word)
long_one word name false = or_false (bytes_eq name word)

abbrev next_rule : Bool → Text × Bool → Option Rule → Option Rule
next_rule b o rest = cond b (Some (rule o)) rest

mapped : (b : Bool) (o : Text × Bool) (rest : Option (Text × Bool)) → next_rule b o (option_map rule rest) ≡ option_map rule (cond b (Some o) rest)
mapped true o rest = refl
mapped false o rest = refl

pub long_is : (os : Options) (word : Text) → arg_by_long (rules os) word ≡ option_map rule (listed os word)
long_is [] word = refl
long_is (o ∷ os) word =
    ap (λ b. next_rule b o (arg_by_long (rules os) word)) (long_one word o.0 o.1)
    ∙ ap (next_rule (bytes_eq o.0 word) o) (long_is os word)
    ∙ mapped (bytes_eq o.0 word) o (listed os word)

id_one : (word name : Text) (b : Bool) → bytes_eq (rule_by name b).id word ≡ bytes_eq name word
id_one word name true = refl
id_one word name false = refl

pub id_is : (os : Options) (word : Text) → arg_by_id (rules os) word ≡ option_map rule (listed os word)
id_is [] word = refl
id_is (o ∷ os) word =
    ap (λ b. next_rule b o (arg_by_id (rules os) word)) (id_one word o.0 o.1)
    ∙ ap (next_rule (bytes_eq o.0 word) o) (id_is os word)
    ∙ mapped (bytes_eq o.0 word) o (listed os word)

place_one : (i : ℕ) (name : Text) (b : Bool) (rest : Option Rule) → rest ≡ None → cond (option_map_or (λ k. k == i) (rule_by name b).index false) (Some (rule_by name b)) rest ≡ None
place_one i name true rest h = h
place_one i name false rest h = h

pub none_placed : (os : Options) (i : ℕ) → arg_by_index (rules os) i ≡ None
none_placed [] i = refl
none_placed (o ∷ os) i = place_one i o.0 o.1 (arg_by_index (rules os) i) (none_placed os i)

-- the listed option of a name has that name
by_test : (b : Bool) (o : Text × Bool) (word : Text) (rest : Option (Text × Bool)) (p : Text × Bool) → (b ≡ true → o.0 ≡ word)
    → (rest ≡ Some p → p.0 ≡ word) → cond b (Some o) rest ≡ Some p → p.0 ≡ word
by_test true o word rest p here later e = (let same : o ≡ p = cc in ap (λ (q : Text × Bool). q.0) (sym same) ∙ here refl)
by_test false o word rest p here later e = later e

pub listed_name : (os : Options) (word : Text) (p : Text × Bool) → listed os word ≡ Some p → p.0 ≡ word
listed_name [] word p e = absurd (true≢false (sym (ap is_some e)))
listed_name (o ∷ os) word p e =
    by_test (bytes_eq o.0 word) o word (listed os word) p (bytes_eq-Decides o.0 word).0 (listed_name os word p) e

-- whether a listed option has a value, where one is listed
abbrev pub second_of : Option (Text × Bool) → Bool
second_of o = option_map_or (λ p. p.1) o false

pub same_second : (name : Text) (a b : Bool) → ◌≡◌ {A = Option (Text × Bool)} (Some (name, a)) (Some (name, b)) → a ≡ b
same_second name a b e = ap second_of e

-- no option is needed
not_needed : (rows : List Row) (name : Text) (b rest : Bool) → rest ≡ false → (((rule_by name b).required && not (is_given (rule_by name b).id rows)) || rest) ≡ false
not_needed rows name true rest h = h
not_needed rows name false rest h = h

pub none_needed : (rows : List Row) (os : Options) → list_any (λ a. a.required && not (is_given a.id rows)) (rules os) ≡ false
none_needed rows [] = refl
none_needed rows (o ∷ os) = not_needed rows o.0 o.1 (list_any (λ a. a.required && not (is_given a.id rows)) (rules os)) (none_needed rows os)
