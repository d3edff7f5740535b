-- The items that arrived in a book, shard by shard. This product's own.
use Rattle.std.specs.Prelude.{◌≡◌, ℕ, ◌==◌, ◌≤◌, Bool, List, ◌++◌, length, filter}
use Rattle.esm_model.specs.declared.limits.TheConstants.{MAX_RECORDS}
use Rattle.esm_model.specs.declared.item.Item.{Item}
use Rattle.esm_model.specs.declared.item.Item.TheVariants.{Stream, Queue}

-- the item is of the shard; a queue is shard 0
abbrev pub is_of : ℕ → Item → Bool
is_of n (Stream r) = r.shard == n
is_of n (Queue m) = n == 0

-- the items of the shard, in their order
abbrev pub items_of : ℕ → List Item → List Item
items_of n items = filter (is_of n) items

-- in each shard, the list's items of that shard arrived after those that had arrived before
abbrev pub Come : (before after : ℕ → List Item) → List Item → Type 0
Come before after list = (n : ℕ) → after n ≡ before n ++ items_of n list

-- or only the first of them arrived
abbrev pub SomeCome : (before after : ℕ → List Item) → List Item → Type 0
SomeCome before after list = (n : ℕ) → (rest : List Item) × (before n ++ items_of n list ≡ after n ++ rest)

-- no item arrived, and none is gone
abbrev pub StayAsTheyAre : (before after : ℕ → List Item) → Type 0
StayAsTheyAre before after = (n : ℕ) → after n ≡ before n

-- with the list's items no shard is longer than an input may be
abbrev pub FitBehind : (before : ℕ → List Item) → List Item → Type 0
FitBehind before list = (n : ℕ) → length (before n ++ items_of n list) ≤ MAX_RECORDS

-- exactly these items arrived: in each shard those of the list, in its order
abbrev pub AreCome : (came : ℕ → List Item) → List Item → Type 0
AreCome came list = (n : ℕ) → came n ≡ items_of n list

-- or only the first of them arrived
abbrev pub AreSomeCome : (came : ℕ → List Item) → List Item → Type 0
AreSomeCome came list = (n : ℕ) → (rest : List Item) × (items_of n list ≡ came n ++ rest)
