-- Items that are taken up to the first that passes a limit.
use Rattle.std.proofs.Common.{◌≡◌, ◌+◌, ℕ, List, [], ◌∷◌, ◌++◌, sym, ap, ◌∙◌, arith, append_assoc, Option, Some, None}
use Rattle.std.proofs.lemmas.List.{append-nil}
use Rattle.std.proofs.lemmas.List.Sums.{fold_push}
use Rattle.esm_model.specs.declared.item.Item.{Item}
use Rattle.esm_model.specs.declared.names.LimitName.{LimitName}
use Rattle.esm_input.specs.Limits.{item_bytes, data_bytes, shards_with, shards_in, passed, Limited, stop_at, limited_after}

pub data_more : (xs : List Item) (x : Item) → data_bytes (xs ++ x ∷ []) ≡ data_bytes xs + item_bytes x
data_more [] x = omega arith
data_more (y ∷ xs) x = let more = data_more xs x in omega (arith, more)

pub shards_more : (xs : List Item) (x : Item) → shards_in (xs ++ x ∷ []) ≡ shards_with (shards_in xs) x
shards_more xs x = fold_push shards_with [] xs x

pub taken_next : (factor : ℕ) (a more : List Item) (x : Item) → passed factor a x ≡ None → limited_after factor a (x ∷ more) ≡ limited_after factor (a ++ x ∷ []) more
taken_next factor a more x none = ap (λ o. stop_at a o (limited_after factor (a ++ x ∷ []) more)) none

pub taken_to : (factor : ℕ) (a more : List Item) (x : Item) (limit : LimitName) → passed factor a x ≡ Some limit → limited_after factor a (x ∷ more) ≡ record { items = a; limit = Some limit }
taken_to factor a more x limit stops = ap (λ o. stop_at a o (limited_after factor (a ++ x ∷ []) more)) stops

stop_more : (a m : List Item) (o : Option LimitName) (x y z : Limited) → (x ≡ record { items = m; limit = None } → y ≡ z) → stop_at a o x ≡ record { items = m; limit = None } → stop_at a o y ≡ z
stop_more a m None x y z more is = more is
stop_more a m (Some l) x y z more is = (let none : Some l ≡ None = ap (λ (v : Limited). v.limit) is in absurd (cc))

-- where the first ones pass no limit, the others are judged after them
pub limited_more : (factor : ℕ) (a xs ys m : List Item) → limited_after factor a xs ≡ record { items = m; limit = None } → limited_after factor a (xs ++ ys) ≡ limited_after factor m ys
limited_more factor a [] ys m is = ap (λ (v : Limited). limited_after factor v.items ys) is
limited_more factor a (x ∷ xs) ys m is = stop_more a m (passed factor a x) (limited_after factor (a ++ x ∷ []) xs) (limited_after factor (a ++ x ∷ []) (xs ++ ys)) (limited_after factor m ys)
    (limited_more factor (a ++ x ∷ []) xs ys m) is

-- without a limit all of them are taken
pub limited_all : (factor : ℕ) (a xs : List Item) → (limited_after factor a xs).limit ≡ None → limited_after factor a xs ≡ record { items = a ++ xs; limit = None }
limited_all factor a [] none = ap (λ is. record { items = is; limit = None }) (sym (append-nil a))
limited_all factor a (x ∷ xs) none = all_at a x xs (passed factor a x) (limited_after factor (a ++ x ∷ []) xs) (limited_all factor (a ++ x ∷ []) xs) none
  where
    all_at : (a : List Item) (x : Item) (xs : List Item) (o : Option LimitName) (more : Limited) → (more.limit ≡ None → more ≡ record { items = (a ++ x ∷ []) ++ xs; limit = None }) → (stop_at a o more).limit ≡ None → stop_at a o more ≡ record { items = a ++ x ∷ xs; limit = None }
    all_at a x xs None more all none = all none ∙ ap (λ is. record { items = is; limit = None }) (append_assoc a (x ∷ []) xs)
    all_at a x xs (Some l) more all none = absurd (cc)
