-- The items of an input that came to a stream's book as records, shard by shard, and the record that brought a change.
use Rattle.std.proofs.Common.{◌≡◌, ℕ, zero, suc, ◌+◌, List, [], ◌∷◌, ◌++◌, length, refl, sym, ap, ◌∙◌, subst, inl, inr, append_assoc, Option, Some, None}
use Rattle.std.specs.Prelude.{◌==◌, map, slice_get, option_map, if◌then◌else◌}
use Rattle.std.specs.List.{All}
use Rattle.std.specs.Option.{option_or}
use Rattle.std.proofs.lemmas.Bool.{cases_Bool, eq-eqb}
use Rattle.std.proofs.lemmas.List.{append-nil, length-append}
use Rattle.std.proofs.lemmas.List.Elements.{All-nil, All-cons, All-head, All-tail, filter-append}
use Rattle.esm_model.specs.Records.{Record}
use Rattle.esm_model.specs.declared.book.Change.{Change}
use Rattle.esm_model.specs.declared.entry.Entry.{Entry}
use Rattle.esm_model.specs.declared.setup.Setup.{Setup}
use Rattle.esm_model.specs.declared.setup.Told.{Told}
use Rattle.esm_model.specs.Setting.{Setting, Stream, records_in}
use Rattle.esm_model.specs.Entries.{came_count}
use Rattle.esm_model.specs.Books.{entries_told, records_told, setting_told, IsOfStream}
use Rattle.esm_model.proofs.BookLaws.{count_told}
use Rattle.esm_model.proofs.TellingFacts.{records_in_told}
use Rattle.esm_model.specs.declared.item.Item.{Item}
use Rattle.esm_model.specs.declared.item.Item.TheVariants.{Queue, Stream as StreamItem}
use Rattle.esm_ingest.specs.Coming.{of_shard}
use Rattle.esm_ingest.specs.Changes.{first_change_from, change_at, change_of, place_after, kept_otherwise}
use Rattle.esm_input.specs.Reading.{InputState, handed}
use Rattle.esm_model.specs.Coming.{items_of, AreCome, AreSomeCome}
use Rattle.esm_stream_book.specs.Items.{item_of, items_told, records_in_items, DiffersTold}
use Rattle.esm_stream_core.specs.Told.{told_of}
use Rattle.esm_stream_book.specs.Books.{BookState}
use Rattle.esm_stream_book.specs.Keeping.{IsSound}
use Rattle.esm_pool.specs.Ran.{IsChangeOf}
use Rattle.esm_runner.specs.Coming.{HaveCome, SomeCame}
use Rattle.esm_runner.specs.Ran.{IsOfRecord}

-- items and their records

pub items_both : (xs ys : List Item) → records_in_items (xs ++ ys) ≡ records_in_items xs ++ records_in_items ys
items_both [] ys = refl
items_both (StreamItem r ∷ xs) ys = ap (λ l. r ∷ l) (items_both xs ys)
items_both (Queue m ∷ xs) ys = items_both xs ys

pub shard_both : (n : ℕ) (xs ys : List Record) → of_shard n (xs ++ ys) ≡ of_shard n xs ++ of_shard n ys
shard_both n xs ys = filter-append (λ (r : Record). r.shard == n) xs ys

pub get_front : (xs ys : List Record) (i : ℕ) (r : Record) → slice_get xs i ≡ Some r → slice_get (xs ++ ys) i ≡ Some r
get_front [] ys i r at = absurd (cc)
get_front (x ∷ xs) ys zero r at = at
get_front (x ∷ xs) ys (suc i) r at = get_front xs ys i r at

records_back : (rs : List Record) → records_in_items (map item_of rs) ≡ rs
records_back [] = refl
records_back (r ∷ rs) = ap (λ l. r ∷ l) (records_back rs)

of_items : (n : ℕ) (xs : List Item) → records_in_items (items_of n xs) ≡ of_shard n (records_in_items xs)
of_items n [] = refl
of_items n (StreamItem r ∷ xs) = elim (cases_Bool (r.shard == n)) [
  | inl here ↦ rw here (ap (λ l. r ∷ l) (of_items n xs))
  | inr off ↦ rw off (of_items n xs)
]
of_items n (Queue m ∷ xs) = elim (cases_Bool (n == 0)) [
  | inl here ↦ rw here (of_items n xs)
  | inr off ↦ rw off (of_items n xs)
]

-- told of a history

pub told_come : (h : List Told) (xs : List Item) → AreCome (items_told h) xs → (n : ℕ) → records_told n h ≡ of_shard n (records_in_items xs)
told_come h xs come n = sym (records_back (records_told n h)) ∙ ap records_in_items (come n) ∙ of_items n xs

told_some : (h : List Told) (xs : List Item) → AreSomeCome (items_told h) xs → (n : ℕ) → (rest : List Record) × (of_shard n (records_in_items xs) ≡ records_told n h ++ rest)
told_some h xs some n =
    let rest = (some n).0 in (
      records_in_items rest,
      sym (of_items n xs) ∙ ap records_in_items (some n).1 ∙ items_both (items_told h n) rest ∙ ap (λ l. l ++ records_in_items rest) (records_back (records_told n h)),
    )

-- and of a book

pub come_is : {D T : Type 0} (v : BookState D T) (n : ℕ) → IsSound v → records_in v.core.setting.streams n ≡ records_told n (told_of v.core)
come_is v n sound = ap (λ (ts : List Stream). records_in ts n) sound.records ∙ records_in_told (told_of v.core) n

pub all_came : {D T : Type 0} (v : BookState D T) (xs : List Item) → IsSound v → AreCome (items_told (told_of v.core)) xs → HaveCome v (records_in_items xs)
all_came v xs sound come n = come_is v n sound ∙ told_come (told_of v.core) xs come n

pub some_came : {D T : Type 0} (v : BookState D T) (xs : List Item) → IsSound v → AreSomeCome (items_told (told_of v.core)) xs → SomeCame v (records_in_items xs)
some_came v xs sound some n =
    let told = told_some (told_of v.core) xs some n in
    (told.0, told.1 ∙ ap (λ l. l ++ told.0) (sym (come_is v n sound)))

pub some_of_all : {D T : Type 0} (v : BookState D T) (records : List Record) → HaveCome v records → SomeCame v records
some_of_all v records come n = ([], sym (come n) ∙ sym (append-nil (records_in v.core.setting.streams n)))

-- a record that differs from what was kept of it

record DiffersAt (h : List Entry) (before rs : List Record) (change : Change) : Type 0 where
  front : List Record
  item : Record
  rest : List Record
  split : before ++ rs ≡ front ++ item ∷ rest
  shard : change.shard ≡ item.shard
  place : change.place ≡ place_after h front item
  given : change.given ≡ item.seq

differs_here : (s : Setting) (h : List Entry) (before rs : List Record) (r : Record) (change : Change) (kept : Option (List ℕ)) → option_map (change_of r (place_after h before r)) kept ≡ Some change → DiffersAt h before (r ∷ rs) change
differs_here s h before rs r change None is = absurd (cc)
differs_here s h before rs r change (Some text) is =
    let same : change_of r (place_after h before r) text ≡ change = cc in
    record { front = before; item = r; rest = rs; split = refl; shard = ap (λ (c : Change). c.shard) (sym same); place = ap (λ (c : Change). c.place) (sym same); given = ap (λ (c : Change). c.given) (sym same) }

differs_first : (s : Setting) (h : List Entry) (before rs : List Record) (r : Record) (change : Change) (o : Option Change) → change_at s (place_after h before r) r ≡ o
    → (first_change_from s h (before ++ r ∷ []) rs ≡ Some change → DiffersAt h (before ++ r ∷ []) rs change) → option_or o (first_change_from s h (before ++ r ∷ []) rs) ≡ Some change → DiffersAt h before (r ∷ rs) change
differs_first s h before rs r change None at later is =
    let more = later is in
    record { front = more.front; item = more.item; rest = more.rest; split = sym (append_assoc before (r ∷ []) rs) ∙ more.split; shard = more.shard; place = more.place; given = more.given }
differs_first s h before rs r change (Some c) at later is = differs_here s h before rs r change (kept_otherwise s r.shard (place_after h before r) r.seq) (at ∙ is)

differs_at : (s : Setting) (h : List Entry) (before rs : List Record) (change : Change) → first_change_from s h before rs ≡ Some change → DiffersAt h before rs change
differs_at s h before [] change is = absurd (cc)
differs_at s h before (r ∷ rs) change is = differs_first s h before rs r change (change_at s (place_after h before r) r) refl (differs_at s h (before ++ r ∷ []) rs change) is

pub get_seam : (xs ys : List Record) (r : Record) → slice_get (xs ++ r ∷ ys) (length xs) ≡ Some r
get_seam [] ys r = refl
get_seam (x ∷ xs) ys r = get_seam xs ys r

pub front_of_stream : (xs ys : List Told) → All IsOfStream (xs ++ ys) → All IsOfStream xs
front_of_stream [] ys all = All-nil IsOfStream
front_of_stream (x ∷ xs) ys all = All-cons IsOfStream x xs (All-head IsOfStream x (xs ++ ys) all) (front_of_stream xs ys (All-tail IsOfStream x (xs ++ ys) all))

-- it is one of those that were handed out
pub change_is : {S : Type 0} (setup : Setup) (h : List Told) (i : InputState S) (change : Change) → All IsOfStream h → IsChangeOf items_told DiffersTold setup h i change → IsOfRecord (records_in_items (handed i)) change
change_is setup h i change of_stream of =
    let before = of.before in
    let list : List Record = records_in_items of.list in
    let at = differs_at (setting_told setup before) (entries_told before) [] list change of.differs_so in
    let n : ℕ = at.item.shard in
    let a : List Record = records_told n before in
    let b : List Record = of_shard n at.front in
    let first : of_shard n (at.item ∷ at.rest) ≡ at.item ∷ of_shard n at.rest = ap (λ c. if c then at.item ∷ of_shard n at.rest else of_shard n at.rest) (eq-eqb n n refl) in
    let list_is : a ++ of_shard n list ≡ (a ++ b) ++ at.item ∷ of_shard n at.rest =
    ap (λ l. a ++ of_shard n l) at.split ∙ ap (λ l. a ++ l) (shard_both n at.front (at.item ∷ at.rest)) ∙ ap (λ l. a ++ (b ++ l)) first ∙ sym (append_assoc a b _) in
    let count : came_count (entries_told before) n ≡ length a = count_told before n (front_of_stream before of.later (subst (All IsOfStream) of.history of_stream)) in
    let place : change.place ≡ length (a ++ b) = at.place ∙ ap (λ k. k + length b) count ∙ sym (length-append a b) in
    let there : slice_get (a ++ of_shard n list) change.place ≡ Some at.item =
    ap (λ l. slice_get l change.place) list_is ∙ ap (λ k. slice_get ((a ++ b) ++ at.item ∷ of_shard n at.rest) k) place ∙ get_seam (a ++ b) (of_shard n at.rest) at.item in
    let more : List Record = of_shard n (records_in_items of.rest) in
    let all_is : of_shard n (records_in_items (handed i)) ≡ (a ++ of_shard n list) ++ more =
    ap (λ xs. of_shard n (records_in_items xs)) of.handed_out
    ∙ ap (of_shard n) (items_both (of.front ++ of.list) of.rest ∙ ap (λ l. l ++ records_in_items of.rest) (items_both of.front of.list))
    ∙ shard_both n (records_in_items of.front ++ list) (records_in_items of.rest) ∙ ap (λ l. l ++ more) (shard_both n (records_in_items of.front) list)
    ∙ ap (λ l. (l ++ of_shard n list) ++ more) (sym (told_come before of.front of.came n)) in
    let here : slice_get (of_shard n (records_in_items (handed i))) change.place ≡ Some at.item =
    ap (λ l. slice_get l change.place) all_is ∙ get_front (a ++ of_shard n list) more change.place at.item there in
    record {
      item = at.item;
      at = subst (λ k. slice_get (of_shard k (records_in_items (handed i))) change.place ≡ Some at.item) (sym at.shard) here;
      given = sym at.given;
    }
