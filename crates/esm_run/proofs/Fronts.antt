-- The records or messages of the first items of an input are the first of its own, also from a starting position on.
use Rattle.std.proofs.Common.{◌≡◌, ℕ, zero, suc, Bool, true, false, List, [], ◌∷◌, ◌++◌, refl, sym, ap, ◌∙◌, append_assoc, Option, Some, None}
use Rattle.std.specs.Prelude.{slice_get, if◌then◌else◌}
use Rattle.std.proofs.lemmas.List.{append-nil}
use Rattle.esm_model.specs.declared.config.Start.{Start}
use Rattle.esm_model.specs.declared.config.Start.TheVariants.{TrimHorizon, Latest, At}
use Rattle.esm_model.specs.declared.item.Item.{Item}
use Rattle.esm_model.specs.declared.item.Item.TheVariants.{Stream, Queue}
use Rattle.esm_model.specs.declared.names.LimitName.{LimitName}
use Rattle.esm_input.specs.Limits.{Limited, limited_after, passed, shards_with, stop_at}
use Rattle.esm_input.specs.Positions.{from_moment, from_start, has_begun}
use Rattle.esm_runner.specs.Coming.{records_in_items}
use Rattle.esm_runner.specs.QueueComing.{messages_in_items}

-- the list goes on from the first one
abbrev pub IsFront : {A : Type 0} → List A → List A → Type 0
IsFront {A} xs ys = (more : List A) × (ys ≡ xs ++ more)

pub front_same : {A : Type 0} (xs : List A) → IsFront xs xs
front_same xs = ([], sym (append-nil xs))

front_next : {A : Type 0} (x : A) (xs ys : List A) → IsFront xs ys → IsFront (x ∷ xs) (x ∷ ys)
front_next x xs ys front = (front.0, ap (λ l. x ∷ l) front.1)

-- within the limits

stopped_front : (a : List Item) (o : Option LimitName) (x : Limited) (y : Item) → IsFront (a ++ y ∷ []) x.items → IsFront a (stop_at a o x).items
stopped_front a None x y front = (y ∷ front.0, front.1 ∙ append_assoc a (y ∷ []) front.0)
stopped_front a (Some limit) x y front = front_same a

limited_front : (factor : ℕ) (a ys : List Item) → IsFront a (limited_after factor a ys).items
limited_front factor a [] = front_same a
limited_front factor a (y ∷ ys) = stopped_front a (passed factor a y) (limited_after factor (a ++ y ∷ []) ys) y (limited_front factor (a ++ y ∷ []) ys)

both_stopped : (a : List Item) (o : Option LimitName) (x y : Limited) → IsFront x.items y.items → IsFront (stop_at a o x).items (stop_at a o y).items
both_stopped a None x y front = front
both_stopped a (Some limit) x y front = front_same a

pub limited_more : (factor : ℕ) (a xs ys : List Item) → IsFront (limited_after factor a xs).items (limited_after factor a (xs ++ ys)).items
limited_more factor a [] ys = limited_front factor a ys
limited_more factor a (x ∷ xs) ys =
    both_stopped a (passed factor a x) (limited_after factor (a ++ x ∷ []) xs) (limited_after factor (a ++ x ∷ []) (xs ++ ys))
    (limited_more factor (a ++ x ∷ []) xs ys)

-- behind an item that passes a limit nothing is taken

stop_same : (a : List Item) (o : Option LimitName) (x y : Limited) (l : LimitName) → (x.limit ≡ Some l → y ≡ x) → (stop_at a o x).limit ≡ Some l → stop_at a o y ≡ stop_at a o x
stop_same a None x y l same is = same is
stop_same a (Some m) x y l same is = refl

pub limit_stays : (factor : ℕ) (a xs ys : List Item) (l : LimitName) → (limited_after factor a xs).limit ≡ Some l → limited_after factor a (xs ++ ys) ≡ limited_after factor a xs
limit_stays factor a [] ys l is = absurd (cc)
limit_stays factor a (x ∷ xs) ys l is =
    stop_same a (passed factor a x) (limited_after factor (a ++ x ∷ []) xs) (limited_after factor (a ++ x ∷ []) (xs ++ ys)) l
    (limit_stays factor (a ++ x ∷ []) xs ys l) is

-- from a starting position on

begun_front : (b : Bool) (x : Item) (xs ys us vs : List Item) → IsFront xs ys → IsFront us vs → IsFront (if b then x ∷ xs else us) (if b then x ∷ ys else vs)
begun_front true x xs ys us vs one other = front_next x xs ys one
begun_front false x xs ys us vs one other = other

moment_front : (moment : ℕ) (begun : List ℕ) (xs ys : List Item) → IsFront (from_moment moment begun xs) (from_moment moment begun (xs ++ ys))
moment_front moment begun [] ys = (from_moment moment begun ys, refl)
moment_front moment begun (x ∷ xs) ys =
    begun_front (has_begun moment begun x) x
    (from_moment moment (shards_with begun x) xs) (from_moment moment (shards_with begun x) (xs ++ ys)) (from_moment moment begun xs) (from_moment moment begun (xs ++ ys))
    (moment_front moment (shards_with begun x) xs ys) (moment_front moment begun xs ys)

start_more : (start : Start) (xs ys : List Item) → IsFront (from_start start xs) (from_start start (xs ++ ys))
start_more TrimHorizon xs ys = (ys, refl)
start_more Latest xs ys = (ys, refl)
start_more (At moment) xs ys = moment_front moment [] xs ys

pub start_front : (start : Start) (xs ys : List Item) → IsFront xs ys → IsFront (from_start start xs) (from_start start ys)
start_front start xs ys front = (let more = start_more start xs front.0 in (more.0, ap (λ items. from_start start items) front.1 ∙ more.1))

-- the records and the messages

records_more : (xs ys : List Item) → records_in_items (xs ++ ys) ≡ records_in_items xs ++ records_in_items ys
records_more [] ys = refl
records_more (Stream r ∷ xs) ys = ap (λ rs. r ∷ rs) (records_more xs ys)
records_more (Queue m ∷ xs) ys = records_more xs ys

pub records_front : (xs ys : List Item) → IsFront xs ys → IsFront (records_in_items xs) (records_in_items ys)
records_front xs ys front = (records_in_items front.0, ap records_in_items front.1 ∙ records_more xs front.0)

messages_more : (xs ys : List Item) → messages_in_items (xs ++ ys) ≡ messages_in_items xs ++ messages_in_items ys
messages_more [] ys = refl
messages_more (Stream r ∷ xs) ys = messages_more xs ys
messages_more (Queue m ∷ xs) ys = ap (λ ms. m ∷ ms) (messages_more xs ys)

pub messages_front : (xs ys : List Item) → IsFront xs ys → IsFront (messages_in_items xs) (messages_in_items ys)
messages_front xs ys front = (messages_in_items front.0, ap messages_in_items front.1 ∙ messages_more xs front.0)

-- an element of a front stands there in the list

get_front : {A : Type 0} (xs more : List A) (i : ℕ) (r : A) → slice_get xs i ≡ Some r → slice_get (xs ++ more) i ≡ Some r
get_front [] more i r is = absurd (cc)
get_front (x ∷ xs) more zero r is = is
get_front (x ∷ xs) more (suc i) r is = get_front xs more i r is

pub place_front : {A : Type 0} (xs ys : List A) (i : ℕ) (r : A) → IsFront xs ys → slice_get xs i ≡ Some r → slice_get ys i ≡ Some r
place_front xs ys i r front is = ap (λ l. slice_get l i) front.1 ∙ get_front xs front.0 i r is
