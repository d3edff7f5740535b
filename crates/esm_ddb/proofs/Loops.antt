-- The loops over items, members and a failure line.
use Rattle.std.proofs.Common.{◌≡◌, ◌∙◌, ℕ, zero, suc, ◌+◌, ◌-◌, ◌<◌, ◌≤◌, arith, Bool, true, false, cond, refl, sym, ap, List, [], ◌∷◌, length, get_or, take, drop, drop-cons, length-drop, add-one, Option, Some, None, option_map, ◌&&◌}
use Rattle.std.proofs.lemmas.List.{take_all}
use Rattle.std.specs.Prelude.{is_some, nat_eq}
use Rattle.std.specs.List.{starts_with}
use Rattle.std.specs.Borrow.{Bor}
use Rattle.std.specs.declared.alloc.Global.{Global}
use Rattle.json.specs.Value.{items_view, members_view, value_view}
use Rattle.json.specs.declared.value.Value.{Value}
use Rattle.serde_json.specs.Find.{as_str}
use Rattle.esm_ddb.specs.Attribute.{are_attributes, are_key_values, are_keys, are_texts, is_attribute, is_item, is_key_value}
use Rattle.esm_ddb.specs.FailureLine.{first_place, stream_part}
use Rattle.esm_ddb.specs.Tree.{data_in, items_in, members_in}

pub none_left : {X : Type 0} (xs : List X) (i : ℕ) → length xs ≤ i → drop i xs ≡ []
none_left [] zero h = refl
none_left [] (suc i) h = refl
none_left (x ∷ xs) zero h = absurd (omega arith)
none_left (x ∷ xs) (suc i) h = none_left xs i (omega arith)

pub next : {X : Type 0} (xs : List X) (i : ℕ) (x : X) → i < length xs → x ≡ get_or xs i x → drop i xs ≡ x ∷ drop (i + 1) xs
next xs i x within is = drop-cons xs i x within ∙ (ap (λ y. y ∷ drop (suc i) xs) (sym is) ∙ ap (λ n. x ∷ drop n xs) (sym (add-one i)))

-- the bytes from a place on, as a slice
pub rest_is : (line : List ℕ) (at : ℕ) → take (length line - at) (drop at line) ≡ drop at line
rest_is line at = take_all (length line - at) (drop at line) (omega (arith, length-drop at line))

-- items

abbrev Member : Type 0
Member = Bor (List ℕ) × Value Global

pub good_item : (vs : List (Value Global)) (i : ℕ) (v : Value Global) → i < length vs → v ≡ get_or vs i v → is_attribute (data_in (value_view v)) ≡ true
    → are_attributes (items_in (items_view (drop i vs))) ≡ are_attributes (items_in (items_view (drop (i + 1) vs)))
good_item vs i v within is e =
    ap (λ (ws : List (Value Global)). are_attributes (items_in (items_view ws))) (next vs i v within is) ∙ ap (λ b. b && are_attributes (items_in (items_view (drop (i + 1) vs)))) e

pub bad_item : (vs : List (Value Global)) (i : ℕ) (v : Value Global) → i < length vs → v ≡ get_or vs i v → is_attribute (data_in (value_view v)) ≡ false
    → are_attributes (items_in (items_view (drop i vs))) ≡ false
bad_item vs i v within is e =
    ap (λ (ws : List (Value Global)). are_attributes (items_in (items_view ws))) (next vs i v within is) ∙ ap (λ b. b && are_attributes (items_in (items_view (drop (i + 1) vs)))) e

pub all_items : (vs : List (Value Global)) (i : ℕ) → length vs ≤ i → are_attributes (items_in (items_view (drop i vs))) ≡ true
all_items vs i h = ap (λ (ws : List (Value Global)). are_attributes (items_in (items_view ws))) (none_left vs i h)

pub good_text : (vs : List (Value Global)) (i : ℕ) (v : Value Global) → i < length vs → v ≡ get_or vs i v → is_some (as_str (data_in (value_view v))) ≡ true
    → are_texts (items_in (items_view (drop i vs))) ≡ are_texts (items_in (items_view (drop (i + 1) vs)))
good_text vs i v within is e =
    ap (λ (ws : List (Value Global)). are_texts (items_in (items_view ws))) (next vs i v within is) ∙ ap (λ b. b && are_texts (items_in (items_view (drop (i + 1) vs)))) e

pub bad_text : (vs : List (Value Global)) (i : ℕ) (v : Value Global) → i < length vs → v ≡ get_or vs i v → is_some (as_str (data_in (value_view v))) ≡ false
    → are_texts (items_in (items_view (drop i vs))) ≡ false
bad_text vs i v within is e =
    ap (λ (ws : List (Value Global)). are_texts (items_in (items_view ws))) (next vs i v within is) ∙ ap (λ b. b && are_texts (items_in (items_view (drop (i + 1) vs)))) e

pub all_texts : (vs : List (Value Global)) (i : ℕ) → length vs ≤ i → are_texts (items_in (items_view (drop i vs))) ≡ true
all_texts vs i h = ap (λ (ws : List (Value Global)). are_texts (items_in (items_view ws))) (none_left vs i h)

-- members

pub good_member : (vs : List Member) (i : ℕ) (v : Member) → i < length vs → v ≡ get_or vs i v → is_attribute (data_in (value_view v.1)) ≡ true
    → is_item (members_in (members_view (drop i vs))) ≡ is_item (members_in (members_view (drop (i + 1) vs)))
good_member vs i v within is e =
    ap (λ (ws : List Member). is_item (members_in (members_view ws))) (next vs i v within is) ∙ ap (λ b. b && is_item (members_in (members_view (drop (i + 1) vs)))) e

pub bad_member : (vs : List Member) (i : ℕ) (v : Member) → i < length vs → v ≡ get_or vs i v → is_attribute (data_in (value_view v.1)) ≡ false
    → is_item (members_in (members_view (drop i vs))) ≡ false
bad_member vs i v within is e =
    ap (λ (ws : List Member). is_item (members_in (members_view ws))) (next vs i v within is) ∙ ap (λ b. b && is_item (members_in (members_view (drop (i + 1) vs)))) e

pub all_members : (vs : List Member) (i : ℕ) → length vs ≤ i → is_item (members_in (members_view (drop i vs))) ≡ true
all_members vs i h = ap (λ (ws : List Member). is_item (members_in (members_view ws))) (none_left vs i h)

pub good_key : (vs : List Member) (i : ℕ) (v : Member) → i < length vs → v ≡ get_or vs i v → is_key_value (data_in (value_view v.1)) ≡ true
    → are_key_values (members_in (members_view (drop i vs))) ≡ are_key_values (members_in (members_view (drop (i + 1) vs)))
good_key vs i v within is e =
    ap (λ (ws : List Member). are_key_values (members_in (members_view ws))) (next vs i v within is) ∙ ap (λ b. b && are_key_values (members_in (members_view (drop (i + 1) vs)))) e

pub bad_key : (vs : List Member) (i : ℕ) (v : Member) → i < length vs → v ≡ get_or vs i v → is_key_value (data_in (value_view v.1)) ≡ false
    → are_key_values (members_in (members_view (drop i vs))) ≡ false
bad_key vs i v within is e =
    ap (λ (ws : List Member). are_key_values (members_in (members_view ws))) (next vs i v within is) ∙ ap (λ b. b && are_key_values (members_in (members_view (drop (i + 1) vs)))) e

pub all_keys : (vs : List Member) (i : ℕ) → length vs ≤ i → are_key_values (members_in (members_view (drop i vs))) ≡ true
all_keys vs i h = ap (λ (ws : List Member). are_key_values (members_in (members_view ws))) (none_left vs i h)

-- places

map_suc : (k : ℕ) (o : Option ℕ) → option_map (λ n. k + n) (option_map suc o) ≡ option_map (λ n. (k + 1) + n) o
map_suc k None = refl
map_suc k (Some n) = ap Some (omega arith)

map_zero : (o : Option ℕ) → o ≡ option_map (λ n. 0 + n) o
map_zero None = refl
map_zero (Some n) = ap Some (omega arith)

pub first_start : (line : List ℕ) → first_place stream_part line ≡ option_map (λ k. 0 + k) (first_place stream_part (drop 0 line))
first_start line = map_zero (first_place stream_part line)

place_at : (b : Bool) (k : ℕ) (o : Option ℕ) → b ≡ true → option_map (λ n. k + n) (cond b (Some 0) (option_map suc o)) ≡ Some k
place_at true k o h = ap Some (omega arith)
place_at false k o h = absurd (cc)

place_after : (b : Bool) (k : ℕ) (o : Option ℕ) → b ≡ false → option_map (λ n. k + n) (cond b (Some 0) (option_map suc o)) ≡ option_map (λ n. (k + 1) + n) o
place_after true k o h = absurd (cc)
place_after false k o h = map_suc k o

here : (line : List ℕ) (at : ℕ) → at < length line → drop at line ≡ get_or line at 0 ∷ drop (at + 1) line
here line at within = drop-cons line at 0 within ∙ ap (λ n. get_or line at 0 ∷ drop n line) (sym (add-one at))

pub place_found : (line : List ℕ) (at : ℕ) → at < length line → starts_with nat_eq (drop at line) stream_part ≡ true
    → option_map (λ k. at + k) (first_place stream_part (drop at line)) ≡ Some at
place_found line at within h =
    let is = here line at within in
    ap (λ t. option_map (λ k. at + k) (first_place stream_part t)) is
    ∙ place_at (starts_with nat_eq (get_or line at 0 ∷ drop (at + 1) line) stream_part) at (first_place stream_part (drop (at + 1) line))
    (ap (λ t. starts_with nat_eq t stream_part) (sym is) ∙ h)

pub place_later : (line : List ℕ) (at : ℕ) → at < length line → starts_with nat_eq (drop at line) stream_part ≡ false
    → option_map (λ k. at + k) (first_place stream_part (drop at line)) ≡ option_map (λ k. (at + 1) + k) (first_place stream_part (drop (at + 1) line))
place_later line at within h =
    let is = here line at within in
    ap (λ t. option_map (λ k. at + k) (first_place stream_part t)) is
    ∙ place_after (starts_with nat_eq (get_or line at 0 ∷ drop (at + 1) line) stream_part) at (first_place stream_part (drop (at + 1) line))
    (ap (λ t. starts_with nat_eq t stream_part) (sym is) ∙ h)

pub no_place : (line : List ℕ) (at : ℕ) → length line ≤ at → option_map (λ k. at + k) (first_place stream_part (drop at line)) ≡ None
no_place line at h = ap (λ t. option_map (λ k. at + k) (first_place stream_part t)) (none_left line at h)

-- keys

pub some_keys : (es : List Member) → 0 < length es → are_keys (members_in (members_view es)) ≡ are_key_values (members_in (members_view es))
some_keys [] h = absurd (omega arith)
some_keys (e ∷ es) h = refl
