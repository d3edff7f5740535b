-- Lists of patterns and of members, read and written one after another.
use Rattle.std.proofs.Common.{◌≡◌, ◌∙◌, ℕ, zero, suc, ◌+◌, ◌<◌, ◌≤◌, arith, Bool, true, false, refl, sym, ap, subst, List, [], ◌∷◌, ◌++◌, append_assoc, append-nil, add-one, drop-cons, length, get_or, drop, codes, Option, Some, None, option_map, option_and_then}
use Rattle.std.proofs.lemmas.Bool.{or_parts}
use Rattle.json.specs.Print.{quoted}
use Rattle.serde_json.specs.Data.{string, Items, no_items, item}
use Rattle.serde_json.specs.View.{view, items_view}
use Rattle.serde_json.specs.Written.{comma_if, compact_text, has_float, members_have_float, members_text}
use Rattle.serde_json.specs.declared.value.Value.{Value}
use Rattle.esm_config.specs.Fields.{data_pattern_of, data_patterns, pattern_text, pattern_texts, reports_of}
use Rattle.esm_config.specs.Member.{members_of}
use Rattle.esm_config.specs.Text.{one_member, pattern_items}
use Rattle.esm_config.specs.declared.member.Member.{Member}

pub none_left : {X : Type 0} (xs : List X) (i : ℕ) → length xs ≤ i → drop i xs ≡ []
none_left [] zero h = refl
none_left [] (suc i) h = refl
none_left (x ∷ xs) zero h = absurd (omega arith)
none_left (x ∷ xs) (suc i) h = none_left xs i (omega arith)

next : {X : Type 0} (xs : List X) (i : ℕ) (x : X) → i < length xs → x ≡ get_or xs i x → drop i xs ≡ x ∷ drop (i + 1) xs
next xs i x within is = drop-cons xs i x within ∙ (ap (λ y. y ∷ drop (suc i) xs) (sym is) ∙ ap (λ n. x ∷ drop n xs) (sym (add-one i)))

-- reading patterns

abbrev pub after : List (List ℕ) → Option (List (List ℕ)) → Option (List (List ℕ))
after ts o = option_map (λ us. ts ++ us) o

pub after_none : (o : Option (List (List ℕ))) → o ≡ after [] o
after_none None = refl
after_none (Some us) = refl

one_after : (ts : List (List ℕ)) (t : List ℕ) (o : Option (List (List ℕ))) → after ts (option_map (λ us. t ∷ us) o) ≡ after (ts ++ t ∷ []) o
one_after ts t None = refl
one_after ts t (Some us) = ap Some (sym (append_assoc ts (t ∷ []) us))

abbrev joined : List (List ℕ) → Option (List ℕ) → List Value → Option (List (List ℕ))
joined ts o left = after ts (option_and_then (λ t. option_map (λ us. t ∷ us) (pattern_texts (items_view left))) o)

pub more_texts : (vs : List Value) (i : ℕ) (v : Value) (ts : List (List ℕ)) (t : List ℕ) → i < length vs → v ≡ get_or vs i v → Some t ≡ pattern_text (view v)
    → after ts (pattern_texts (items_view (drop i vs))) ≡ after (ts ++ t ∷ []) (pattern_texts (items_view (drop (i + 1) vs)))
more_texts vs i v ts t within is e =
    ap (λ ws. after ts (pattern_texts (items_view ws))) (next vs i v within is)
    ∙ (ap (λ o. joined ts o (drop (i + 1) vs)) (sym e) ∙ one_after ts t (pattern_texts (items_view (drop (i + 1) vs))))

pub no_text : (vs : List Value) (i : ℕ) (v : Value) (ts : List (List ℕ)) → i < length vs → v ≡ get_or vs i v → None ≡ pattern_text (view v)
    → after ts (pattern_texts (items_view (drop i vs))) ≡ None
no_text vs i v ts within is e =
    ap (λ ws. after ts (pattern_texts (items_view ws))) (next vs i v within is) ∙ ap (λ o. joined ts o (drop (i + 1) vs)) (sym e)

pub all_texts : (vs : List Value) (i : ℕ) (ts : List (List ℕ)) → length vs ≤ i → after ts (pattern_texts (items_view (drop i vs))) ≡ Some ts
all_texts vs i ts h = ap (λ ws. after ts (pattern_texts (items_view ws))) (none_left vs i h) ∙ ap Some (append-nil ts)

-- keeping patterns over the data of a record

abbrev joined_patterns : List (List ℕ) → Option (List ℕ) → List (List ℕ) → Option (List (List ℕ))
joined_patterns ps o left = after ps (option_and_then (λ p. option_map (λ us. p ∷ us) (data_patterns left)) o)

pub more_patterns : (ts : List (List ℕ)) (i : ℕ) (t : List ℕ) (ps : List (List ℕ)) (p : List ℕ) → i < length ts → t ≡ get_or ts i t → Some p ≡ data_pattern_of t
    → after ps (data_patterns (drop i ts)) ≡ after (ps ++ p ∷ []) (data_patterns (drop (i + 1) ts))
more_patterns ts i t ps p within is e =
    ap (λ us. after ps (data_patterns us)) (next ts i t within is)
    ∙ (ap (λ o. joined_patterns ps o (drop (i + 1) ts)) (sym e) ∙ one_after ps p (data_patterns (drop (i + 1) ts)))

pub no_pattern : (ts : List (List ℕ)) (i : ℕ) (t : List ℕ) (ps : List (List ℕ)) → i < length ts → t ≡ get_or ts i t → None ≡ data_pattern_of t
    → after ps (data_patterns (drop i ts)) ≡ None
no_pattern ts i t ps within is e =
    ap (λ us. after ps (data_patterns us)) (next ts i t within is) ∙ ap (λ o. joined_patterns ps o (drop (i + 1) ts)) (sym e)

pub all_patterns : (ts : List (List ℕ)) (i : ℕ) (ps : List (List ℕ)) → length ts ≤ i → after ps (data_patterns (drop i ts)) ≡ Some ps
all_patterns ts i ps h = ap (λ us. after ps (data_patterns us)) (none_left ts i h) ∙ ap Some (append-nil ps)

pub two_reports : (vs : List Value) → 2 ≤ length vs → reports_of (items_view vs) ≡ None
two_reports [] h = absurd (omega arith)
two_reports (v ∷ []) h = absurd (omega arith)
two_reports (v ∷ (w ∷ vs)) h = refl

-- making patterns

abbrev pub then_items : List Value → Items → Items
then_items [] more = more
then_items (v ∷ vs) more = item (view v) (then_items vs more)

then_one : (vs : List Value) (v : Value) (more : Items) → then_items vs (item (view v) more) ≡ then_items (vs ++ v ∷ []) more
then_one [] v more = refl
then_one (x ∷ vs) v more = ap (item (view x)) (then_one vs v more)

pub more_items : (ts : List (List ℕ)) (i : ℕ) (t : List ℕ) (vs : List Value) (v : Value) → i < length ts → t ≡ get_or ts i t → view v ≡ one_member (codes "Pattern") (string t)
    → then_items vs (pattern_items (drop i ts)) ≡ then_items (vs ++ v ∷ []) (pattern_items (drop (i + 1) ts))
more_items ts i t vs v within is e =
    ap (λ us. then_items vs (pattern_items us)) (next ts i t within is)
    ∙ (ap (λ d. then_items vs (item d (pattern_items (drop (i + 1) ts)))) (sym e) ∙ then_one vs v (pattern_items (drop (i + 1) ts)))

then_none : (vs : List Value) → then_items vs no_items ≡ items_view vs
then_none [] = refl
then_none (v ∷ vs) = ap (item (view v)) (then_none vs)

pub all_items : (ts : List (List ℕ)) (i : ℕ) (vs : List Value) → length ts ≤ i → then_items vs (pattern_items (drop i ts)) ≡ items_view vs
all_items ts i vs h = ap (λ us. then_items vs (pattern_items us)) (none_left ts i h) ∙ then_none vs

-- writing members

abbrev pub member_text : Bool → Member → List ℕ
member_text later m = comma_if later ++ (quoted m.name.now ++ (58 ∷ compact_text (view m.value)))

regroup : (c q a b : List ℕ) → c ++ (q ++ 58 ∷ (a ++ b)) ≡ (c ++ (q ++ (58 ∷ a))) ++ b
regroup c q a b = simp append_assoc

pub one_text : (later : Bool) (m : Member) (ms : List Member) → members_text later (members_of (m ∷ ms)) ≡ member_text later m ++ members_text true (members_of ms)
one_text later m ms = regroup (comma_if later) (quoted m.name.now) (compact_text (view m.value)) (members_text true (members_of ms))

pub more_text : (ms : List Member) (i : ℕ) (m : Member) (later : Bool) (out new : List ℕ) → i < length ms → m ≡ get_or ms i m → new ≡ out ++ member_text later m
    → out ++ members_text later (members_of (drop i ms)) ≡ new ++ members_text true (members_of (drop (i + 1) ms))
more_text ms i m later out new within is e =
    ap (λ left. out ++ members_text later (members_of left)) (next ms i m within is)
    ∙ (ap (λ t. out ++ t) (one_text later m (drop (i + 1) ms))
    ∙ (sym (append_assoc out (member_text later m) (members_text true (members_of (drop (i + 1) ms))))
    ∙ ap (λ t. t ++ members_text true (members_of (drop (i + 1) ms))) (sym e)))

pub all_text : (ms : List Member) (i : ℕ) (later : Bool) (out : List ℕ) → length ms ≤ i → out ++ members_text later (members_of (drop i ms)) ≡ out ++ 125 ∷ []
all_text ms i later out h = ap (λ left. out ++ members_text later (members_of left)) (none_left ms i h)

pub first_float : (ms : List Member) (i : ℕ) (m : Member) → i < length ms → m ≡ get_or ms i m → members_have_float (members_of (drop i ms)) ≡ false
    → (has_float (view m.value) ≡ false) × (members_have_float (members_of (drop (i + 1) ms)) ≡ false)
first_float ms i m within is h =
    or_parts (has_float (view m.value)) (members_have_float (members_of (drop (i + 1) ms)))
    (subst (λ (left : List Member). members_have_float (members_of left) ≡ false) (next ms i m within is) h)
