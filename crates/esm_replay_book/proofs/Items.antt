-- The items of a stream's input: their records, and the items that came to a replay's book.
use Rattle.std.proofs.Common.{◌≡◌, ℕ, Bool, true, false, List, [], ◌∷◌, ◌++◌, map, refl, sym, ap, ◌∙◌, subst, append_assoc}
use Rattle.std.specs.Prelude.{◌==◌, All}
use Rattle.std.proofs.lemmas.List.{map-append}
use Rattle.std.proofs.lemmas.List.Elements.{All-head, All-tail, All-cons, All-nil, filter-append}
use Rattle.esm_model.specs.Records.{Record}
use Rattle.esm_model.specs.declared.item.Message.{Message}
use Rattle.esm_model.specs.declared.item.Item.{Item}
use Rattle.esm_model.specs.declared.item.Item.TheVariants.{Stream, Queue}
use Rattle.esm_model.specs.declared.item.LineKind.TheVariants as kinds
use Rattle.esm_model.specs.Items.{IsValidItem}
use Rattle.esm_model.specs.Valid.{IsValidRecord}
use Rattle.esm_model.specs.Coming.{items_of}
use Rattle.esm_replay.specs.Records.{of_shard}
use Rattle.esm_replay_book.specs.Serving.{IsRecord, item_of, records_in_items}

abbrev pub valid_item : Item → Type 0
valid_item item = IsValidItem kinds.Stream item

is_record : (item : Item) → valid_item item → IsRecord item
is_record (Stream r) valid = tt
is_record (Queue m) valid = valid

pub are_records : (list : List Item) → All valid_item list → All IsRecord list
are_records [] all = All-nil IsRecord
are_records (x ∷ xs) all = All-cons IsRecord x xs (is_record x (All-head valid_item x xs all)) (are_records xs (All-tail valid_item x xs all))

pub valid_records : (list : List Item) → All valid_item list → All IsValidRecord (records_in_items list)
valid_records [] all = All-nil IsValidRecord
valid_records (Stream r ∷ xs) all = All-cons IsValidRecord r (records_in_items xs) (All-head valid_item (Stream r) xs all) (valid_records xs (All-tail valid_item (Stream r) xs all))
valid_records (Queue m ∷ xs) all = valid_records xs (All-tail valid_item (Queue m) xs all)

pub items-append : (xs ys : List Item) → records_in_items (xs ++ ys) ≡ records_in_items xs ++ records_in_items ys
items-append [] ys = refl
items-append (Stream r ∷ xs) ys = ap (λ (rs : List Record). r ∷ rs) (items-append xs ys)
items-append (Queue m ∷ xs) ys = items-append xs ys

pub shard-append : (n : ℕ) (xs ys : List Record) → of_shard n (xs ++ ys) ≡ of_shard n xs ++ of_shard n ys
shard-append n xs ys = filter-append (λ (r : Record). r.shard == n) xs ys

-- one of the shard, or of another
one_of : (n : ℕ) (r : Record) (rs : List Record) (xs : List Item) (own : Bool) → (r.shard == n) ≡ own → map item_of (of_shard n rs) ≡ items_of n xs → map item_of (of_shard n (r ∷ rs)) ≡ items_of n (Stream r ∷ xs)
one_of n r rs xs true is rest = rw is (ap (λ (ys : List Item). Stream r ∷ ys) rest)
one_of n r rs xs false is rest = rw is rest

-- those of the shard are the items of its records
pub of_items : (n : ℕ) (xs : List Item) → All IsRecord xs → map item_of (of_shard n (records_in_items xs)) ≡ items_of n xs
of_items n [] all = refl
of_items n (Stream r ∷ xs) all = one_of n r (records_in_items xs) xs (r.shard == n) refl (of_items n xs (All-tail IsRecord (Stream r) xs all))
of_items n (Queue m ∷ xs) all = absurd (All-head IsRecord (Queue m) xs all)

-- behind those that came
pub come_behind : (n : ℕ) (rs : List Record) (xs : List Item) → All IsRecord xs → map item_of (of_shard n (rs ++ records_in_items xs)) ≡ map item_of (of_shard n rs) ++ items_of n xs
come_behind n rs xs all =
    ap (map item_of) (shard-append n rs (records_in_items xs))
    ∙ (map-append item_of (of_shard n rs) (of_shard n (records_in_items xs))
    ∙ ap (λ (ys : List Item). map item_of (of_shard n rs) ++ ys) (of_items n xs all))

pub items_rest : (item : Item) (before rest : List Item) → before ≡ item ∷ rest → All IsRecord before → All IsRecord rest
items_rest item before rest steps all = All-tail IsRecord item rest (subst (All IsRecord) steps all)

-- one item after another
pub one_record : (so_far all : List Record) (item : Item) (r : Record) (before rest : List Item) → before ≡ item ∷ rest → item ≡ Stream r → so_far ++ records_in_items before ≡ all
    → (so_far ++ r ∷ []) ++ records_in_items rest ≡ all
one_record so_far all item r before rest steps is given =
    append_assoc so_far (r ∷ []) (records_in_items rest)
    ∙ (ap (λ (x : Item). so_far ++ records_in_items (x ∷ rest)) (sym is)
    ∙ (ap (λ (xs : List Item). so_far ++ records_in_items xs) (sym steps) ∙ given))

-- the records of items that a book has

records_back : (rs : List Record) → records_in_items (map item_of rs) ≡ rs
records_back [] = refl
records_back (r ∷ rs) = ap (λ (xs : List Record). r ∷ xs) (records_back rs)

of_one : (n : ℕ) (r : Record) (xs : List Item) (own : Bool) → (r.shard == n) ≡ own → records_in_items (items_of n xs) ≡ of_shard n (records_in_items xs) → records_in_items (items_of n (Stream r ∷ xs)) ≡ of_shard n (r ∷ records_in_items xs)
of_one n r xs true is rest = rw is (ap (λ (rs : List Record). r ∷ rs) rest)
of_one n r xs false is rest = rw is rest

of_queue : (n : ℕ) (m : Message) (xs : List Item) (own : Bool) → (n == 0) ≡ own → records_in_items (items_of n xs) ≡ of_shard n (records_in_items xs) → records_in_items (items_of n (Queue m ∷ xs)) ≡ of_shard n (records_in_items xs)
of_queue n m xs true is rest = rw is rest
of_queue n m xs false is rest = rw is rest

records_of_items : (n : ℕ) (xs : List Item) → records_in_items (items_of n xs) ≡ of_shard n (records_in_items xs)
records_of_items n [] = refl
records_of_items n (Stream r ∷ xs) = of_one n r xs (r.shard == n) refl (records_of_items n xs)
records_of_items n (Queue m ∷ xs) = of_queue n m xs (n == 0) refl (records_of_items n xs)

-- the items that came are those of a list, of each shard; so are the records
pub records_come : (rs : List Record) (xs : List Item) (n : ℕ) → map item_of (of_shard n rs) ≡ items_of n xs → of_shard n rs ≡ of_shard n (records_in_items xs)
records_come rs xs n come = sym (records_back (of_shard n rs)) ∙ (ap records_in_items come ∙ records_of_items n xs)

-- or the first of them
pub some_records_come : (rs : List Record) (xs rest : List Item) (n : ℕ) → items_of n xs ≡ map item_of (of_shard n rs) ++ rest → of_shard n (records_in_items xs) ≡ of_shard n rs ++ records_in_items rest
some_records_come rs xs rest n come =
    sym (records_of_items n xs)
    ∙ (ap records_in_items come
    ∙ (items-append (map item_of (of_shard n rs)) rest
    ∙ ap (λ (ys : List Record). ys ++ records_in_items rest) (records_back (of_shard n rs))))
