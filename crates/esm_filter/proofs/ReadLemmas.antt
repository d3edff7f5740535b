-- Reading a list one element after another.
use Rattle.std.proofs.Common.{◌≡◌, ℕ, zero, suc, ◌+◌, ◌<◌, ◌≤◌, arith, List, [], ◌∷◌, ◌++◌, length, ◌==◌, get_or, drop, Bool, false, if◌then◌else◌, Ok, Err, String, Vec, string_bytes, Global, rules, refl, ap, ◌∙◌, sym, append_assoc, add-one, drop-cons}
use Rattle.serde_json.specs.Data.{Data, array, object}
use Rattle.serde_json.specs.View.{view, items_view, members_view}
use Rattle.serde_json.specs.declared.value.Value.{Value}
use Rattle.serde_json.proofs.Views.{Entry}
use Rattle.esm_model.specs.Pattern.{Refusal, empty, bad_test, Reads, and_then, reads_map, read_all, refusal_of, unless_no_items, unless_no_members, read_rule, read_fields, read_choices, read_choice}
use Rattle.esm_model.specs.Pattern as spec
use Rattle.esm_filter.specs.View.{rule_view, fields_view, fields_in, choices_view}
use Rattle.esm_filter.specs.declared.pattern.Rule.{Rule, Nested, the_lemmas}

pub none_of_some : {X : Type 0} (x : X) (xs : List X) → (length (x ∷ xs) == 0) ≡ false
none_of_some x xs = search rules

pub list_refusal : (vs : List Value) (r : Refusal) → r ≡ (if length vs == 0 then empty else bad_test) → r ≡ refusal_of (array (items_view vs))
list_refusal [] r h = h
list_refusal (v ∷ vs) r h = h ∙ ap (λ b. if b then empty else bad_test) (none_of_some v vs)

pub object_refusal : (es : List Entry) (r : Refusal) → r ≡ (if length es == 0 then empty else bad_test) → r ≡ refusal_of (object (members_view es))
object_refusal [] r h = h
object_refusal (e ∷ es) r h = h ∙ ap (λ b. if b then empty else bad_test) (none_of_some e es)

pub some_items : {B : Type 0} (vs : List Value) (r : Reads B) (b : Bool) → b ≡ (length vs == 0) → b ≡ false → unless_no_items (items_view vs) r ≡ r
some_items [] r b is not' = absurd (cc)
some_items (v ∷ vs) r b is not' = refl

pub some_members : {B : Type 0} (es : List Entry) (r : Reads B) (b : Bool) → b ≡ (length es == 0) → b ≡ false → unless_no_members (members_view es) r ≡ r
some_members [] r b is not' = absurd (cc)
some_members (e ∷ es) r b is not' = refl

-- what was read, and then the rest
abbrev pub goes_on : {A : Type 0} → List A → Reads (List A) → Reads (List A)
goes_on xs r = reads_map (λ ys. xs ++ ys) r

pub goes_on_none : {A : Type 0} (r : Reads (List A)) → goes_on [] r ≡ r
goes_on_none (Ok ys) = refl
goes_on_none (Err e) = refl

one_more : {A : Type 0} (xs : List A) (x : A) (r : Reads (List A)) → goes_on xs (reads_map (λ ys. x ∷ ys) r) ≡ goes_on (xs ++ x ∷ []) r
one_more xs x (Ok ys) = ap Ok (sym (append_assoc xs (x ∷ []) ys))
one_more xs x (Err e) = refl

module _ {A : Type 0} (one : Data → Reads A) where
  pub read_more : (vs : List Value) (i : ℕ) (v : Value) (xs : List A) (x : A) → i < length vs → v ≡ get_or vs i v → one (view v) ≡ Ok x
      → goes_on xs (read_all one (items_view (drop i vs))) ≡ goes_on (xs ++ x ∷ []) (read_all one (items_view (drop (i + 1) vs)))
  read_more vs i v xs x within is e =
      ap (λ ws. goes_on xs (read_all one (items_view ws))) (drop-cons vs i v within ∙ ap (λ w. w ∷ drop (suc i) vs) (sym is))
      ∙ ap (λ o. goes_on xs (and_then o (λ y. reads_map (λ ys. y ∷ ys) (read_all one (items_view (drop (suc i) vs)))))) e
      ∙ one_more xs x (read_all one (items_view (drop (suc i) vs)))
      ∙ ap (λ n. goes_on (xs ++ x ∷ []) (read_all one (items_view (drop n vs)))) (sym (add-one i))

  pub read_refused : (vs : List Value) (i : ℕ) (v : Value) (xs : List A) (why : Refusal) → i < length vs → v ≡ get_or vs i v → one (view v) ≡ Err why
      → goes_on xs (read_all one (items_view (drop i vs))) ≡ Err why
  read_refused vs i v xs why within is e =
      ap (λ ws. goes_on xs (read_all one (items_view ws))) (drop-cons vs i v within ∙ ap (λ w. w ∷ drop (suc i) vs) (sym is))
      ∙ ap (λ o. goes_on xs (and_then o (λ y. reads_map (λ ys. y ∷ ys) (read_all one (items_view (drop (suc i) vs)))))) e

abbrev pub Field : Type 0
Field = String Global × Rule

-- the fields that were read, and then more
abbrev pub with_fields : List Field → spec.Fields → spec.Fields
with_fields [] more = more
with_fields (m ∷ ms) more = spec.field (string_bytes m.0) (rule_view m.1) (with_fields ms more)

pub all_fields : (ms : List Field) → with_fields ms spec.no_fields ≡ fields_view ms
all_fields [] = refl
all_fields (m ∷ ms) = ap (spec.field (string_bytes m.0) (rule_view m.1)) (all_fields ms)

one_field : (ms : List Field) (m : Field) (more : spec.Fields) → with_fields ms (spec.field (string_bytes m.0) (rule_view m.1) more) ≡ with_fields (ms ++ m ∷ []) more
one_field [] m more = refl
one_field (x ∷ ms) m more = ap (spec.field (string_bytes x.0) (rule_view x.1)) (one_field ms m more)

abbrev pub then_fields : List Field → Reads spec.Fields → Reads spec.Fields
then_fields ms r = reads_map (with_fields ms) r

pub no_fields_yet : (r : Reads spec.Fields) → r ≡ then_fields [] r
no_fields_yet (Ok fs) = refl
no_fields_yet (Err e) = refl

next_field : (ms : List Field) (m : Field) (r : Reads spec.Fields) → then_fields ms (reads_map (spec.field (string_bytes m.0) (rule_view m.1)) r) ≡ then_fields (ms ++ m ∷ []) r
next_field ms m (Ok fs) = ap Ok (one_field ms m fs)
next_field ms m (Err e) = refl

abbrev and_fields : Bool → List Field → List ℕ → List Entry → Reads spec.Rule → Reads spec.Fields
and_fields outer ms k left o = then_fields ms (and_then o (λ x. reads_map (spec.field k x) (read_fields outer (members_view left))))

pub more_fields : (outer : Bool) (ms : List Field) (e : Entry) (left : List Entry) (k : String Global) (r : Rule) → string_bytes k ≡ string_bytes e.0
    → read_rule outer (string_bytes e.0) (view e.1) ≡ Ok (rule_view r) → then_fields ms (read_fields outer (members_view (e ∷ left))) ≡ then_fields (ms ++ (k, r) ∷ []) (read_fields outer (members_view left))
more_fields outer ms e left k r named e1 =
    ap (and_fields outer ms (string_bytes e.0) left) e1
    ∙ ap (λ n. and_fields outer ms n left (Ok (rule_view r))) (sym named)
    ∙ next_field ms (k, r) (read_fields outer (members_view left))

pub refused_field : (outer : Bool) (ms : List Field) (e : Entry) (left : List Entry) (why : Refusal) → read_rule outer (string_bytes e.0) (view e.1) ≡ Err why
    → then_fields ms (read_fields outer (members_view (e ∷ left))) ≡ Err why
refused_field outer ms e left why e1 = ap (and_fields outer ms (string_bytes e.0) left) e1

-- the choices that were read, and then more
abbrev pub with_choices : List Rule → spec.Choices → spec.Choices
with_choices [] more = more
with_choices (r ∷ rs) more = spec.choice (fields_in (rule_view r)) (with_choices rs more)

pub all_choices : (rs : List Rule) → with_choices rs spec.no_choices ≡ choices_view rs
all_choices [] = refl
all_choices (r ∷ rs) = ap (spec.choice (fields_in (rule_view r))) (all_choices rs)

one_choice : (rs : List Rule) (r : Rule) (more : spec.Choices) → with_choices rs (spec.choice (fields_in (rule_view r)) more) ≡ with_choices (rs ++ r ∷ []) more
one_choice [] r more = refl
one_choice (x ∷ rs) r more = ap (spec.choice (fields_in (rule_view x))) (one_choice rs r more)

abbrev pub then_choices : List Rule → Reads spec.Choices → Reads spec.Choices
then_choices rs r = reads_map (with_choices rs) r

pub no_choices_yet : (r : Reads spec.Choices) → r ≡ then_choices [] r
no_choices_yet (Ok cs) = refl
no_choices_yet (Err e) = refl

next_choice : (rs : List Rule) (x : Rule) (r : Reads spec.Choices) → then_choices rs (reads_map (spec.choice (fields_in (rule_view x))) r) ≡ then_choices (rs ++ x ∷ []) r
next_choice rs x (Ok cs) = ap Ok (one_choice rs x cs)
next_choice rs x (Err e) = refl

abbrev and_choices : Bool → List Rule → List Value → Reads spec.Fields → Reads spec.Choices
and_choices outer rs left o = then_choices rs (and_then o (λ fs. reads_map (spec.choice fs) (read_choices outer (items_view left))))

pub more_choices : (outer : Bool) (rs : List Rule) (vs : List Value) (i : ℕ) (v : Value) (x : Rule) → i < length vs → v ≡ get_or vs i v → read_choice outer (view v) ≡ Ok (fields_in (rule_view x))
    → then_choices rs (read_choices outer (items_view (drop i vs))) ≡ then_choices (rs ++ x ∷ []) (read_choices outer (items_view (drop (i + 1) vs)))
more_choices outer rs vs i v x within is e =
    ap (λ ws. then_choices rs (read_choices outer (items_view ws))) (drop-cons vs i v within ∙ ap (λ w. w ∷ drop (suc i) vs) (sym is))
    ∙ ap (and_choices outer rs (drop (suc i) vs)) e
    ∙ next_choice rs x (read_choices outer (items_view (drop (suc i) vs)))
    ∙ ap (λ n. then_choices (rs ++ x ∷ []) (read_choices outer (items_view (drop n vs)))) (sym (add-one i))

pub refused_choice : (outer : Bool) (rs : List Rule) (vs : List Value) (i : ℕ) (v : Value) (why : Refusal) → i < length vs → v ≡ get_or vs i v → read_choice outer (view v) ≡ Err why
    → then_choices rs (read_choices outer (items_view (drop i vs))) ≡ Err why
refused_choice outer rs vs i v why within is e =
    ap (λ ws. then_choices rs (read_choices outer (items_view ws))) (drop-cons vs i v within ∙ ap (λ w. w ∷ drop (suc i) vs) (sym is)) ∙ ap (and_choices outer rs (drop (suc i) vs)) e

none_left : {X : Type 0} (xs : List X) (i : ℕ) → length xs ≤ i → drop i xs ≡ []
none_left [] zero h = refl
none_left [] (suc i) h = refl
none_left (x ∷ xs) zero h = absurd (omega arith)
none_left (x ∷ xs) (suc i) h = none_left xs i (omega arith)

pub end_choices : (outer : Bool) (rs : List Rule) (vs : List Value) (i : ℕ) → length vs ≤ i → then_choices rs (read_choices outer (items_view (drop i vs))) ≡ Ok (choices_view rs)
end_choices outer rs vs i h = ap (λ ws. then_choices rs (read_choices outer (items_view ws))) (none_left vs i h) ∙ ap Ok (all_choices rs)

pub view-Nested : (v : Vec Field Global) → rule_view (Nested v) ≡ spec.nested (fields_view v.items)
view-Nested v = search (rules, the_lemmas)
