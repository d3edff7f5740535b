-- Counts of items, and the limits that they pass.
use Rattle.std.proofs.Common.{◌≡◌, ◌+◌, ◌*◌, ◌<◌, ◌≤◌, ℕ, Bool, true, false, List, [], ◌∷◌, ◌++◌, length, get_or, take, drop, sym, ap, ◌∙◌, subst, arith, append_assoc, Option, Some, None}
use Rattle.std.specs.Prelude.{◌==◌, nat_le, nat_lt, if◌then◌else◌}
use Rattle.std.specs.List.{list_any}
use Rattle.std.proofs.lemmas.List.{append-nil, length-append, take_more, drop_more, take_all, drop_all}
use Rattle.esm_model.specs.declared.limits.TheConstants.{MAX_RECORDS, MAX_INPUT, MAX_SHARDS, MAX_LANES}
use Rattle.esm_model.specs.Records.{Record}
use Rattle.esm_model.specs.declared.item.Item.{Item}
use Rattle.esm_model.specs.declared.item.Item.TheVariants.{Stream}
use Rattle.esm_model.specs.declared.names.LimitName.{LimitName}
use Rattle.esm_model.specs.declared.names.LimitName.TheVariants.{Records, Bytes, Shards, Lanes}
use Rattle.esm_input.specs.Limits.{item_bytes, data_bytes, shards_with, passed, limited_after}
use Rattle.esm_input.specs.Counting.{IsCountOf, CountsMore, passed_by}
use Rattle.esm_input.specs.declared.counted.Counted.{Counted}
use Rattle.esm_input.proofs.Limiting.{data_more, shards_more, taken_next, taken_to}

-- the shard of the item came before
pub held_same : (shards found : List ℕ) (x : Item) (r : Record) (b : Bool) → found ≡ shards → x ≡ Stream r → b ≡ list_any (λ y. y == r.shard) found → b ≡ true → shards_with shards x ≡ shards
held_same shards found x r b same is value held =
    let before : list_any (λ y. y == r.shard) shards ≡ true = ap (λ l. list_any (λ y. y == r.shard) l) (sym same) ∙ sym value ∙ held in
    ap (shards_with shards) is ∙ ap (λ t. if t then shards else shards ++ r.shard ∷ []) before

pub held_length : (shards found : List ℕ) (x : Item) (r : Record) (n : ℕ) (b : Bool) → found ≡ shards → x ≡ Stream r → b ≡ list_any (λ y. y == r.shard) found → b ≡ true → n ≡ length found → n ≡ length (shards_with shards x)
held_length shards found x r n b same is value held count = count ∙ ap (λ l. length l) (same ∙ sym (held_same shards found x r b same is value held))

-- it did not
pub new_same : (shards found : List ℕ) (x : Item) (r : Record) (b : Bool) → found ≡ shards → x ≡ Stream r → b ≡ list_any (λ y. y == r.shard) found → b ≡ false → shards_with shards x ≡ shards ++ r.shard ∷ []
new_same shards found x r b same is value new =
    let before : list_any (λ y. y == r.shard) shards ≡ false = ap (λ l. list_any (λ y. y == r.shard) l) (sym same) ∙ sym value ∙ new in
    ap (shards_with shards) is ∙ ap (λ t. if t then shards else shards ++ r.shard ∷ []) before

pub new_length : (shards found : List ℕ) (x : Item) (r : Record) (n : ℕ) (b : Bool) → found ≡ shards → x ≡ Stream r → b ≡ list_any (λ y. y == r.shard) found → b ≡ false → n ≡ length found → n + 1 ≡ length (shards_with shards x)
new_length shards found x r n b same is value new count =
    let long : length (shards ++ r.shard ∷ []) ≡ length shards + 1 = length-append shards (r.shard ∷ []) in
    let all : length found ≡ length shards = ap (λ l. length l) same in
    rw (new_same shards found x r b same is value new) (omega (arith, long, all, count))

abbrev passed_at : (factor items bytes : ℕ) (shards : List ℕ) (x : Item) → Option LimitName
passed_at factor items bytes shards x =
    if nat_le MAX_RECORDS items then Some Records
    else if nat_lt MAX_INPUT (bytes + item_bytes x) then Some Bytes
    else if nat_lt MAX_SHARDS (length (shards_with shards x)) then Some Shards
    else if nat_lt MAX_LANES (length (shards_with shards x) * factor) then Some Lanes
    else None

-- what the counts pass, the items pass
pub passed_same : (factor : ℕ) (c : Counted) (xs : List Item) (x : Item) → IsCountOf c xs → passed_by factor c x ≡ passed factor xs x
passed_same factor c xs x is =
    ap (λ n. passed_at factor n c.bytes c.shards.items x) is.items ∙ ap (λ n. passed_at factor (length xs) n c.shards.items x) is.bytes ∙ ap (λ l. passed_at factor (length xs) (data_bytes xs) l x) is.shards

pub count_more : (c d : Counted) (xs : List Item) (x : Item) → IsCountOf c xs → CountsMore c d x → IsCountOf d (xs ++ x ∷ [])
count_more c d xs x is more =
    let long : length (xs ++ x ∷ []) ≡ length xs + 1 = length-append xs (x ∷ []) in
    record {
      items = omega (arith, long, is.items, more.items);
      bytes = more.bytes ∙ ap (λ n. n + item_bytes x) is.bytes ∙ sym (data_more xs x);
      shards = more.shards ∙ ap (λ l. shards_with l x) is.shards ∙ sym (shards_more xs x);
    }

-- so far the items of a list are counted, and the others are judged after them
pub record IsSoFar (factor : ℕ) (now : Counted) (xs items : List Item) (i : ℕ) : Type 0 where
  pub counted : IsCountOf now (xs ++ take i items)
  pub rest : limited_after factor xs items ≡ limited_after factor (xs ++ take i items) (drop i items)

pub so_far_none : (factor : ℕ) (c : Counted) (xs items : List Item) → IsCountOf c xs → IsSoFar factor c xs items 0
so_far_none factor c xs items is = record {
  counted = subst (IsCountOf c) (sym (append-nil xs)) is;
  rest = ap (λ l. limited_after factor l items) (sym (append-nil xs));
}

pub so_far_more : (factor : ℕ) (c d : Counted) (xs items : List Item) (i : ℕ) (x : Item) → i < length items → x ≡ get_or items i x → passed_by factor c x ≡ None → CountsMore c d x
    → IsSoFar factor c xs items i → IsSoFar factor d xs items (i + 1)
so_far_more factor c d xs items i x within here none more was =
    let front : (xs ++ take i items) ++ x ∷ [] ≡ xs ++ take (i + 1) items =
    append_assoc xs (take i items) (x ∷ []) ∙ ap (λ l. xs ++ l) (ap (λ y. take i items ++ y ∷ []) here ∙ sym (take_more items i x within)) in
    let rest : drop i items ≡ x ∷ drop (i + 1) items = drop_more items i x within ∙ ap (λ y. y ∷ drop (i + 1) items) (sym here) in
    let passes : passed factor (xs ++ take i items) x ≡ None = sym (passed_same factor c (xs ++ take i items) x was.counted) ∙ none in
    record {
      counted = subst (IsCountOf d) front (count_more c d (xs ++ take i items) x was.counted more);
      rest = was.rest ∙ ap (limited_after factor (xs ++ take i items)) rest ∙ taken_next factor (xs ++ take i items) (drop (i + 1) items) x passes
          ∙ ap (λ l. limited_after factor l (drop (i + 1) items)) front;
    }

pub so_far_stops : (factor : ℕ) (c : Counted) (xs items : List Item) (i : ℕ) (x : Item) (limit : LimitName) → i < length items → x ≡ get_or items i x → passed_by factor c x ≡ Some limit
    → IsSoFar factor c xs items i → limited_after factor xs items ≡ record { items = xs ++ take i items; limit = Some limit }
so_far_stops factor c xs items i x limit within here stops was =
    let rest : drop i items ≡ x ∷ drop (i + 1) items = drop_more items i x within ∙ ap (λ y. y ∷ drop (i + 1) items) (sym here) in
    let passes : passed factor (xs ++ take i items) x ≡ Some limit = sym (passed_same factor c (xs ++ take i items) x was.counted) ∙ stops in
    was.rest ∙ ap (limited_after factor (xs ++ take i items)) rest ∙ taken_to factor (xs ++ take i items) (drop (i + 1) items) x limit passes

pub so_far_all : (factor : ℕ) (c : Counted) (xs items : List Item) (i n : ℕ) → length items ≤ i → n ≡ length items → IsSoFar factor c xs items i
    → limited_after factor xs items ≡ record { items = xs ++ take n items; limit = None }
so_far_all factor c xs items i n all count was =
    let same : take i items ≡ take n items = take_all i items all ∙ sym (take_all n items (omega (arith, count))) in
    was.rest ∙ ap (limited_after factor (xs ++ take i items)) (drop_all i items all) ∙ ap (λ l. record { items = xs ++ l; limit = None }) same

pub so_far_counted : (factor : ℕ) (c : Counted) (xs items : List Item) (i : ℕ) → length items ≤ i → IsSoFar factor c xs items i → IsCountOf c (xs ++ items)
so_far_counted factor c xs items i all was = subst (λ l. IsCountOf c (xs ++ l)) (take_all i items all) was.counted
