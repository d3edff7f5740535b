-- The messages of the items that came to a queue's book, and the change that one of them brought.
use Rattle.std.proofs.Common.{◌≡◌, ◌+◌, ℕ, zero, suc, Bool, cond, List, [], ◌∷◌, ◌++◌, length, map, refl, sym, ap, ◌∙◌, inl, inr, arith, append_assoc, Some}
use Rattle.std.specs.Prelude.{◌==◌, slice_get}
use Rattle.std.proofs.lemmas.Bool.{cases_Bool}
use Rattle.esm_model.specs.declared.book.Change.{Change}
use Rattle.esm_model.specs.declared.item.Message.{Message}
use Rattle.esm_model.specs.declared.setup.Setup.{Setup}
use Rattle.esm_model.specs.declared.setup.Told.{Told}
use Rattle.esm_model.specs.declared.item.Item.{Item}
use Rattle.esm_model.specs.declared.item.Item.TheVariants.{Stream, Queue}
use Rattle.esm_input.specs.Reading.{InputState, handed}
use Rattle.esm_model.specs.Coming.{items_of, AreCome, AreSomeCome}
use Rattle.esm_pool.specs.Ran as pool
use Rattle.esm_queue_model.specs.QueueBooks.{messages_told}
use Rattle.esm_queue_book.specs.Left.{queue_items}
use Rattle.esm_queue_core.specs.Told.{told_of}
use Rattle.esm_queue_book.specs.Books.{BookState}
use Rattle.esm_queue_book.specs.Coming.{QueueDiffers}
use Rattle.esm_queue_book.specs.Keeping.{IsSound}
use Rattle.esm_runner.specs.QueueComing.{messages_in_items, HaveCome, SomeCame}
use Rattle.esm_runner.specs.QueueRan.{IsOfMessage}

-- the messages of items

items_both : (xs ys : List Item) → messages_in_items (xs ++ ys) ≡ messages_in_items xs ++ messages_in_items ys
items_both [] ys = refl
items_both (Stream r ∷ xs) ys = items_both xs ys
items_both (Queue m ∷ xs) ys = ap (λ (l : List Message). m ∷ l) (items_both xs ys)

-- those of a queue's shard are all of them
own_messages : (xs : List Item) → messages_in_items (items_of 0 xs) ≡ messages_in_items xs
own_messages [] = refl
own_messages (Stream r ∷ xs) = elim (cases_Bool (r.shard == 0)) [
  | inl own ↦ ap (λ (b : Bool). messages_in_items (cond b (Stream r ∷ items_of 0 xs) (items_of 0 xs))) own ∙ own_messages xs
  | inr other ↦ ap (λ (b : Bool). messages_in_items (cond b (Stream r ∷ items_of 0 xs) (items_of 0 xs))) other ∙ own_messages xs
]
own_messages (Queue m ∷ xs) = ap (λ (l : List Message). m ∷ l) (own_messages xs)

messages_back : (ms : List Message) → messages_in_items (map Queue ms) ≡ ms
messages_back [] = refl
messages_back (m ∷ ms) = ap (λ (l : List Message). m ∷ l) (messages_back ms)

-- what came

all_told : (h : List Told) (items : List Item) → AreCome (queue_items h) items → messages_told h ≡ messages_in_items items
all_told h items come = sym (messages_back (messages_told h)) ∙ (ap messages_in_items (come 0) ∙ own_messages items)

some_told : (h : List Told) (items : List Item) → AreSomeCome (queue_items h) items → (rest : List Message) × (messages_in_items items ≡ messages_told h ++ rest)
some_told h items come =
    let rest : List Item = (come 0).0 in (
      messages_in_items (come 0).0,
      sym (own_messages items)
          ∙ (ap messages_in_items (come 0).1
          ∙ (items_both (map Queue (messages_told h)) rest
          ∙ ap (λ (l : List Message). l ++ messages_in_items rest) (messages_back (messages_told h)))),
    )

pub all_came : {D : Type 0} (b : BookState D) (items : List Item) → IsSound b → AreCome (queue_items (told_of b.core)) items → HaveCome b (messages_in_items items)
all_came b items sound come = sound.messages ∙ all_told (told_of b.core) items come

pub some_came : {D : Type 0} (b : BookState D) (items : List Item) → IsSound b → AreSomeCome (queue_items (told_of b.core)) items → SomeCame b (messages_in_items items)
some_came b items sound come =
    let told = some_told (told_of b.core) items come in
    (told.0, told.1 ∙ ap (λ (l : List Message). l ++ told.0) (sym sound.messages))

-- the change that was kept

pub get_behind : (xs ys : List Message) (j : ℕ) → slice_get (xs ++ ys) (length xs + j) ≡ slice_get ys j
get_behind [] ys j = (let same : 0 + j ≡ j = omega arith in ap (slice_get ys) same)
get_behind (x ∷ xs) ys j = (let same : suc (length xs) + j ≡ suc (length xs + j) = omega arith in ap (slice_get (x ∷ (xs ++ ys))) same ∙ get_behind xs ys j)

pub get_front : (xs ys : List Message) (i : ℕ) (m : Message) → slice_get xs i ≡ Some m → slice_get (xs ++ ys) i ≡ Some m
get_front [] ys i m at = absurd (cc)
get_front (x ∷ xs) ys zero m at = at
get_front (x ∷ xs) ys (suc i) m at = get_front xs ys i m at

-- what was handed out: what came before the list, the list, and what came behind it
pub handed_is : {S : Type 0} (setup : Setup) (h : List Told) (i : InputState S) (change : Change) (of : pool.IsChangeOf queue_items QueueDiffers setup h i change)
    → messages_in_items (handed i) ≡ messages_told of.before ++ (messages_in_items of.list ++ messages_in_items of.rest)
handed_is setup h i change of =
    ap messages_in_items of.handed_out
    ∙ (items_both (of.front ++ of.list) of.rest
    ∙ (ap (λ (l : List Message). l ++ messages_in_items of.rest) (items_both of.front of.list)
    ∙ (append_assoc (messages_in_items of.front) (messages_in_items of.list) (messages_in_items of.rest)
    ∙ ap (λ (l : List Message). l ++ (messages_in_items of.list ++ messages_in_items of.rest)) (sym (all_told of.before of.front of.came)))))

pub change_is : {S : Type 0} (setup : Setup) (h : List Told) (i : InputState S) (change : Change) → pool.IsChangeOf queue_items QueueDiffers setup h i change → IsOfMessage (messages_in_items (handed i)) change
change_is setup h i change of =
    let differs : QueueDiffers setup of.before of.list change = of.differs_so in
    let before : List Message = messages_told of.before in
    let list : List Message = messages_in_items of.list in
    let rest : List Message = messages_in_items of.rest in
    record {
      item = differs.message;
      at = ap (λ (l : List Message). slice_get l change.place) (handed_is setup h i change of)
          ∙ (ap (slice_get (before ++ (list ++ rest))) differs.change_is.place_is
          ∙ (get_behind before (list ++ rest) differs.position
          ∙ get_front list rest differs.position differs.message differs.at));
      given = sym differs.change_is.given;
    }
