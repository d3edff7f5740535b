-- The messages of an input have different ids.
use Rattle.std.proofs.Common.{◌≡◌, ◌∙◌, ℕ, zero, suc, Bool, true, false, cond, List, [], ◌∷◌, ◌++◌, map, Result, Ok, Err, Option, Some, None, ap, append-nil, append_assoc, inl, inr, refl, subst, sym}
use Rattle.std.specs.Prelude.{◌⊎◌, ⊤, ◌||◌, fold, is_some, nat_lt, slice_get, length}
use Rattle.std.specs.Str.{bytes_eq}
use Rattle.std.proofs.lemmas.Option.{none-some, same_Some}
use Rattle.std.proofs.lemmas.Slice.Eq.{bytes_eq-Decides}
use Rattle.esm_model.specs.declared.config.Start.{Start}
use Rattle.esm_model.specs.declared.config.Start.TheVariants.{TrimHorizon, Latest, At}
use Rattle.esm_model.specs.declared.limits.TheConstants.{MAX_LINE}
use Rattle.esm_model.specs.declared.item.Item.{Item}
use Rattle.esm_model.specs.declared.item.Item.TheVariants.{Stream, Queue}
use Rattle.esm_model.specs.declared.item.LineKind.{LineKind}
use Rattle.esm_model.specs.declared.item.LineKind.TheVariants as kinds
use Rattle.esm_model.specs.declared.item.Message.{Message}
use Rattle.esm_model.specs.Records.{Record}
use Rattle.esm_model.specs.declared.names.LimitName.{LimitName}
use Rattle.esm_record.specs.declared.error.LineError.{LineError}
use Rattle.esm_record.specs.declared.error.LineError.TheVariants.{LineTooLong}
use Rattle.esm_record.specs.Input.{Input, add_line, after_line, as_new, begun, ended, has_stood, input_of, input_so_far, is_blank, item_of, last_number, lines_of, next_record, nothing_read, read_after, some_item, too_long}
use Rattle.esm_record.specs.Line.{◌>>=◌, line_of, message_of}
use Rattle.esm_input.specs.Limits.{Limited, limited_after, passed, shards_with, stop_at}
use Rattle.esm_input.specs.Positions.{from_moment, from_start, has_begun}
use Rattle.esm_input.specs.Reading.{input_read, items_read}
use Rattle.esm_queue_book.specs.Coming.{messages_in_items}
use Rattle.esm_redrive_model.specs.RedriveLaws.{EachOnce}

-- texts of which each stands once

abbrev pub AllApart : List (List ℕ) → Type 0
AllApart [] = ⊤
AllApart (x ∷ xs) = ((i : ℕ) → slice_get xs i ≡ Some x → ⊥) × AllApart xs

pub each_once : (xs : List (List ℕ)) → AllApart xs → EachOnce xs
each_once [] apart i j id first second = absurd (none-some id first)
each_once (x ∷ xs) apart zero zero id first second = refl
each_once (x ∷ xs) apart zero (suc j) id first second = absurd (apart.0 j (second ∙ sym first))
each_once (x ∷ xs) apart (suc i) zero id first second = absurd (apart.0 i (first ∙ sym second))
each_once (x ∷ xs) apart (suc i) (suc j) id first second = ap (λ (n : ℕ). suc n) (each_once xs apart.1 i j id first second)

last_or : (xs : List (List ℕ)) (y x : List ℕ) (i : ℕ) → slice_get (xs ++ y ∷ []) i ≡ Some x → (slice_get xs i ≡ Some x) ⊎ (y ≡ x)
last_or [] y x zero at = inr (same_Some y x at)
last_or [] y x (suc i) at = absurd (none-some x at)
last_or (z ∷ xs) y x zero at = inl at
last_or (z ∷ xs) y x (suc i) at = last_or xs y x i at

apart_more : (xs : List (List ℕ)) (y : List ℕ) → AllApart xs → ((i : ℕ) → slice_get xs i ≡ Some y → ⊥) → AllApart (xs ++ y ∷ [])
apart_more [] y apart new = ((λ i at. none-some y at), tt)
apart_more (x ∷ xs) y apart new =
    ((λ i at. elim (last_or xs y x i at) [ inl here ↦ apart.0 i here | inr same ↦ new zero (ap (λ (t : List ℕ). Some t) (sym same)) ]), apart_more xs y apart.1 (λ i at. new (suc i) at))

get_on : (xs ys : List (List ℕ)) (i : ℕ) (x : List ℕ) → slice_get xs i ≡ Some x → slice_get (xs ++ ys) i ≡ Some x
get_on [] ys i x at = absurd (none-some x at)
get_on (z ∷ xs) ys zero x at = at
get_on (z ∷ xs) ys (suc i) x at = get_on xs ys i x at

pub apart_front : (xs ys : List (List ℕ)) → AllApart (xs ++ ys) → AllApart xs
apart_front [] ys apart = tt
apart_front (x ∷ xs) ys apart = ((λ i at. apart.0 i (get_on xs ys i x at)), apart_front xs ys apart.1)

-- the ids of messages

abbrev pub ids_in : List Message → List (List ℕ)
ids_in messages = map (λ (m : Message). m.id) messages

abbrev ids_of : List Item → List (List ℕ)
ids_of items = ids_in (messages_in_items items)

ids_both : (xs ys : List Item) → ids_of (xs ++ ys) ≡ ids_of xs ++ ids_of ys
ids_both [] ys = refl
ids_both (Stream r ∷ xs) ys = ids_both xs ys
ids_both (Queue m ∷ xs) ys = ap (λ (l : List (List ℕ)). m.id ∷ l) (ids_both xs ys)

pub ids_front : (ms ns : List Message) → ids_in (ms ++ ns) ≡ ids_in ms ++ ids_in ns
ids_front [] ns = refl
ids_front (m ∷ ms) ns = ap (λ (l : List (List ℕ)). m.id ∷ l) (ids_front ms ns)

right_of : (a b : Bool) → (a || b) ≡ false → b ≡ false
right_of true b is = absurd (let clash : true ≡ false = is in cc)
right_of false b is = is

stood_new : (items : List Item) (id : List ℕ) → has_stood id items ≡ false → (i : ℕ) → slice_get (ids_of items) i ≡ Some id → ⊥
stood_new [] id none i at = none-some id at
stood_new (Stream r ∷ items) id none i at = stood_new items id none i at
stood_new (Queue m ∷ items) id none zero at =
    let is : bytes_eq m.id id ≡ true = (bytes_eq-Decides m.id id).1 (same_Some m.id id at) in
    let clash : true ≡ false = sym (ap (λ (b : Bool). b || has_stood id items) is) ∙ none in
    cc
stood_new (Queue m ∷ items) id none (suc i) at = stood_new items id (right_of (bytes_eq m.id id) (has_stood id items) none) i at

-- a message that a line reads as has an id that did not stand before

abbrev IsNew : List Item → Result (Option Item) LineError → Type 0
IsNew items (Ok (Some (Queue m))) = has_stood m.id items ≡ false
IsNew items (Ok (Some (Stream r))) = ⊤
IsNew items (Ok None) = ⊤
IsNew items (Err why) = ⊤

new_either : (items : List Item) (b : Bool) (one other : Result (Option Item) LineError) → IsNew items one → IsNew items other → IsNew items (cond b one other)
new_either items true one other is is_other = is
new_either items false one other is is_other = is_other

new_stream : (items : List Item) (r : Result Record LineError) → IsNew items (some_item Stream r)
new_stream items (Ok x) = tt
new_stream items (Err why) = tt

new_if : (items : List Item) (m : Message) (stood : Bool) → has_stood m.id items ≡ stood → IsNew items (some_item Queue (as_new stood m))
new_if items m true is = tt
new_if items m false is = is

new_queue : (items : List Item) (r : Result Message LineError) → IsNew items (some_item Queue (r >>= λ m. as_new (has_stood m.id items) m))
new_queue items (Ok m) = new_if items m (has_stood m.id items) refl
new_queue items (Err why) = tt

new_item : (kind : LineKind) (items : List Item) (line : List ℕ) → IsNew items (item_of kind items line)
new_item kinds.Stream items line = new_stream items (next_record (λ shard. last_number shard items) line)
new_item (kinds.Queue fifo) items line = new_queue items (line_of (message_of fifo) line)

new_after : (kind : LineKind) (items : List Item) (line : List ℕ) → IsNew items (read_after kind items line)
new_after kind items line =
    new_either items (nat_lt MAX_LINE (length line)) (Err LineTooLong) (cond (is_blank line) (Ok None) (item_of kind items line)) tt
    (new_either items (is_blank line) (Ok None) (item_of kind items line) tt (new_item kind items line))

-- the lines of an input

after_apart : (input : Input) (r : Result (Option Item) LineError) → IsNew input.items r → AllApart (ids_of input.items) → AllApart (ids_of (after_line input r).items)
after_apart input (Ok None) new apart = apart
after_apart input (Ok (Some (Stream r))) new apart = subst AllApart (sym (ids_both input.items (Stream r ∷ []) ∙ append-nil (ids_of input.items))) apart
after_apart input (Ok (Some (Queue m))) new apart = subst AllApart (sym (ids_both input.items (Queue m ∷ []))) (apart_more (ids_of input.items) m.id apart (stood_new input.items m.id new))
after_apart input (Err why) new apart = apart

apart_either : (b : Bool) (one other : Input) → AllApart (ids_of one.items) → AllApart (ids_of other.items) → AllApart (ids_of (cond b one other).items)
apart_either true one other is is_other = is
apart_either false one other is is_other = is_other

add_apart : (kind : LineKind) (input : Input) (line : List ℕ) → AllApart (ids_of input.items) → AllApart (ids_of (add_line kind input line).items)
add_apart kind input line apart =
    apart_either (is_some input.bad) input (after_line input (read_after kind input.items line)) apart
    (after_apart input (read_after kind input.items line) (new_after kind input.items line) apart)

lines_apart : (kind : LineKind) (input : Input) (lines : List (List ℕ)) → AllApart (ids_of input.items) → AllApart (ids_of (fold (add_line kind) input lines).items)
lines_apart kind input [] apart = apart
lines_apart kind input (line ∷ lines) apart = lines_apart kind (add_line kind input line) lines (add_apart kind input line apart)

whole_apart : (kind : LineKind) (bytes : List ℕ) → AllApart (ids_of (input_of kind bytes).items)
unfolding input_of
whole_apart kind bytes = lines_apart kind nothing_read (lines_of bytes) tt

so_far_apart : (kind : LineKind) (bytes : List ℕ) → AllApart (ids_of (input_so_far kind bytes).items)
unfolding input_so_far
so_far_apart kind bytes = lines_apart kind nothing_read (ended (lines_of bytes) ++ too_long (begun (lines_of bytes))) tt

read_apart : (kind : LineKind) (whole : Bool) (bytes : List ℕ) → AllApart (ids_of (input_read kind whole bytes).items)
read_apart kind true bytes = whole_apart kind bytes
read_apart kind false bytes = so_far_apart kind bytes

-- those within the limits, from the starting position on

stopped_front : (before : List Item) (x : Item) (xs : List Item) (more : Limited) (o : Option LimitName) → (rest : List Item) × ((before ++ x ∷ []) ++ xs ≡ more.items ++ rest)
    → (rest : List Item) × (before ++ x ∷ xs ≡ (stop_at before o more).items ++ rest)
stopped_front before x xs more (Some limit) on = (x ∷ xs, refl)
stopped_front before x xs more None on = (on.0, sym (append_assoc before (x ∷ []) xs) ∙ on.1)

limited_front : (factor : ℕ) (before xs : List Item) → (rest : List Item) × (before ++ xs ≡ (limited_after factor before xs).items ++ rest)
limited_front factor before [] = ([], refl)
limited_front factor before (x ∷ xs) = stopped_front before x xs (limited_after factor (before ++ x ∷ []) xs) (passed factor before x) (limited_front factor (before ++ x ∷ []) xs)

same_either : (b : Bool) (one other : List Item) (ms : List Message) → messages_in_items one ≡ ms → messages_in_items other ≡ ms → messages_in_items (cond b one other) ≡ ms
same_either true one other ms is is_other = is
same_either false one other ms is is_other = is_other

from_moment_same : (moment : ℕ) (begun_shards : List ℕ) (xs : List Item) → messages_in_items (from_moment moment begun_shards xs) ≡ messages_in_items xs
from_moment_same moment shards [] = refl
from_moment_same moment shards (Stream r ∷ xs) =
    same_either (has_begun moment shards (Stream r)) (Stream r ∷ from_moment moment (shards_with shards (Stream r)) xs) (from_moment moment shards xs) (messages_in_items xs)
    (from_moment_same moment (shards_with shards (Stream r)) xs) (from_moment_same moment shards xs)
from_moment_same moment shards (Queue m ∷ xs) = ap (λ (l : List Message). m ∷ l) (from_moment_same moment shards xs)

from_start_same : (start : Start) (xs : List Item) → messages_in_items (from_start start xs) ≡ messages_in_items xs
from_start_same TrimHorizon xs = refl
from_start_same Latest xs = refl
from_start_same (At moment) xs = from_moment_same moment [] xs

pub handed_apart : (start : Start) (kind : LineKind) (factor : ℕ) (whole : Bool) (bytes : List ℕ) → AllApart (ids_in (messages_in_items (from_start start (items_read kind factor whole bytes).items)))
handed_apart start kind factor whole bytes =
    let read : List Item = (input_read kind whole bytes).items in
    let front = limited_front factor [] read in
    let items : List Item = (items_read kind factor whole bytes).items in
    let parts : ids_of read ≡ ids_of items ++ ids_of front.0 = ap ids_of front.1 ∙ ids_both items front.0 in
    subst (λ (ms : List Message). AllApart (ids_in ms)) (sym (from_start_same start items))
    (apart_front (ids_of items) (ids_of front.0) (subst AllApart parts (read_apart kind whole bytes)))

-- so have those that came
pub came_apart : (own all rest : List Message) → AllApart (ids_in all) → all ≡ own ++ rest → EachOnce (ids_in own)
came_apart own all rest apart is =
    each_once (ids_in own) (apart_front (ids_in own) (ids_in rest) (subst AllApart (ap ids_in is ∙ ids_front own rest) apart))
