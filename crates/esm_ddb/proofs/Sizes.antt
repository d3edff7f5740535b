-- Of how many lexemes lists and objects consist.
use Rattle.std.proofs.Common.{◌≡◌, ℕ, ◌+◌, ◌<◌, ◌≤◌, arith, refl, ap, List, get_or, length, drop, max}
use Rattle.std.specs.Borrow.{Bor}
use Rattle.std.specs.declared.alloc.Global.{Global}
use Rattle.json.specs.Json.{Items, no_items, item, Members, no_members, member}
use Rattle.json.specs.Value.{items_view, members_view, value_view}
use Rattle.json.specs.declared.value.Value.{Value}
use Rattle.esm_model.specs.State.{items_size, members_size, size}
use Rattle.esm_ddb.specs.Lexemes.{items_sum, members_sum}
use Rattle.esm_ddb.proofs.Loops.{next, none_left}

pub items_total : (js : Items) → 1 + items_size js ≡ max (1 + items_sum js) 2
items_total no_items = refl
items_total (item j no_items) = omega arith
items_total (item j (item k js)) = let more = items_total (item k js) in omega arith

pub members_total : (ms : Members) → 1 + members_size ms ≡ max (1 + members_sum ms) 2
members_total no_members = refl
members_total (member k j no_members) = omega arith
members_total (member k j (member l i ms)) = let more = members_total (member l i ms) in omega arith

pub items_more : (vs : List (Value Global)) (i : ℕ) (v : Value Global) → i < length vs → v ≡ get_or vs i v
    → items_sum (items_view (drop i vs)) ≡ size (value_view v) + 1 + items_sum (items_view (drop (i + 1) vs))
items_more vs i v within is = ap (λ (ws : List (Value Global)). items_sum (items_view ws)) (next vs i v within is)

pub items_done : (vs : List (Value Global)) (i : ℕ) → length vs ≤ i → items_sum (items_view (drop i vs)) ≡ 0
items_done vs i h = ap (λ (ws : List (Value Global)). items_sum (items_view ws)) (none_left vs i h)

pub members_more : (vs : List (Bor (List ℕ) × Value Global)) (i : ℕ) (v : Bor (List ℕ) × Value Global) → i < length vs → v ≡ get_or vs i v
    → members_sum (members_view (drop i vs)) ≡ size (value_view v.1) + 3 + members_sum (members_view (drop (i + 1) vs))
members_more vs i v within is = ap (λ (ws : List (Bor (List ℕ) × Value Global)). members_sum (members_view ws)) (next vs i v within is)

pub members_done : (vs : List (Bor (List ℕ) × Value Global)) (i : ℕ) → length vs ≤ i → members_sum (members_view (drop i vs)) ≡ 0
members_done vs i h = ap (λ (ws : List (Bor (List ℕ) × Value Global)). members_sum (members_view ws)) (none_left vs i h)
