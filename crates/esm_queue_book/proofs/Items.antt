-- The items of a queue's input: their messages, and the items that came to its book.
use Rattle.std.proofs.Common.{◌≡◌, ℕ, zero, suc, ◌+◌, ◌≤◌, Bool, false, cond, List, [], ◌∷◌, ◌++◌, length, map, refl, sym, ap, ap₂, ◌∙◌, subst, arith, append_assoc, ne_eqb}
use Rattle.std.specs.Prelude.{All}
use Rattle.std.proofs.lemmas.List.{length-append, length-map, map-append}
use Rattle.std.proofs.lemmas.List.Elements.{All-head, All-tail, All-cons, All-nil}
use Rattle.esm_model.specs.declared.config.Kind.{Kind}
use Rattle.esm_model.specs.declared.config.Kind.TheVariants as kind
use Rattle.esm_model.specs.declared.item.Message.{Message}
use Rattle.esm_model.specs.declared.setup.Told.{Told}
use Rattle.esm_model.specs.Valid.{is_stream}
use Rattle.esm_model.specs.ValidMessage.{IsValidMessage}
use Rattle.esm_model.specs.declared.item.Item.{Item}
use Rattle.esm_model.specs.declared.item.Item.TheVariants.{Stream, Queue}
use Rattle.esm_model.specs.declared.item.LineKind.TheVariants as lines
use Rattle.esm_model.specs.Items.{IsValidItem, queue_kind}
use Rattle.esm_model.specs.Coming.{items_of, Come, SomeCome, StayAsTheyAre, FitBehind}
use Rattle.esm_queue_model.specs.QueueSetting.{is_fifo}
use Rattle.esm_queue_model.specs.QueueBooks.{messages_told}
use Rattle.esm_queue_book.specs.Left.{queue_items}
use Rattle.esm_queue_book.specs.Coming.{IsMessage, messages_in_items}

-- items that are messages

abbrev valid_item : Bool → Item → Type 0
valid_item fifo item = IsValidItem (lines.Queue fifo) item

is_message : (fifo : Bool) (item : Item) → valid_item fifo item → IsMessage item
is_message fifo (Stream r) valid = valid
is_message fifo (Queue m) valid = tt

pub are_messages : (fifo : Bool) (list : List Item) → All (valid_item fifo) list → All IsMessage list
are_messages fifo [] all = All-nil IsMessage
are_messages fifo (x ∷ xs) all = All-cons IsMessage x xs (is_message fifo x (All-head (valid_item fifo) x xs all)) (are_messages fifo xs (All-tail (valid_item fifo) x xs all))

pub few_messages : (list : List Item) → length (messages_in_items list) ≤ length list
few_messages [] = omega arith
few_messages (Stream r ∷ xs) = (let rest = few_messages xs in omega (arith, rest))
few_messages (Queue m ∷ xs) = (let rest = few_messages xs in omega (arith, rest))

pub all_rest : (item : Item) (before rest : List Item) → before ≡ item ∷ rest → All IsMessage before → All IsMessage rest
all_rest item before rest steps all = All-tail IsMessage item rest (subst (All IsMessage) steps all)

-- the kind of a queue's lines

kind_back : (k : Kind) → is_stream k ≡ false → queue_kind (is_fifo k) ≡ k
kind_back kind.Stream queue = absurd (cc)
kind_back kind.Standard queue = refl
kind_back kind.Fifo queue = refl

valid_as : (fifo : Bool) (list : List Item) → All (valid_item fifo) list → All (IsValidMessage (queue_kind fifo)) (messages_in_items list)
valid_as fifo [] all = All-nil (IsValidMessage (queue_kind fifo))
valid_as fifo (Stream r ∷ xs) all = absurd (All-head (valid_item fifo) (Stream r) xs all)
valid_as fifo (Queue m ∷ xs) all =
    All-cons (IsValidMessage (queue_kind fifo)) m (messages_in_items xs) (All-head (valid_item fifo) (Queue m) xs all) (valid_as fifo xs (All-tail (valid_item fifo) (Queue m) xs all))

pub valid_messages : (k : Kind) (list : List Item) → is_stream k ≡ false → All (valid_item (is_fifo k)) list → All (IsValidMessage k) (messages_in_items list)
valid_messages k list queue all = subst (λ (j : Kind). All (IsValidMessage j) (messages_in_items list)) (kind_back k queue) (valid_as (is_fifo k) list all)

-- one item after another

pub one_message : (messages list : List Message) (item : Item) (m : Message) (before rest : List Item) → before ≡ item ∷ rest → item ≡ Queue m → messages ++ messages_in_items before ≡ list → (messages ++ m ∷ []) ++ messages_in_items rest ≡ list
one_message messages list item m before rest steps is so_far =
    append_assoc messages (m ∷ []) (messages_in_items rest)
    ∙ (ap (λ (x : Item). messages ++ messages_in_items (x ∷ rest)) (sym is)
    ∙ (ap (λ (xs : List Item). messages ++ messages_in_items xs) (sym steps) ∙ so_far))

-- shard by shard

own_shard : (list : List Item) → All IsMessage list → items_of 0 list ≡ map Queue (messages_in_items list)
own_shard [] all = refl
own_shard (Stream r ∷ xs) all = absurd (All-head IsMessage (Stream r) xs all)
own_shard (Queue m ∷ xs) all = ap (λ (ys : List Item). Queue m ∷ ys) (own_shard xs (All-tail IsMessage (Queue m) xs all))

other_shard : (n : ℕ) (list : List Item) → All IsMessage list → items_of (suc n) list ≡ []
other_shard n [] all = refl
other_shard n (Stream r ∷ xs) all = absurd (All-head IsMessage (Stream r) xs all)
other_shard n (Queue m ∷ xs) all =
    ap (λ (b : Bool). cond b (Queue m ∷ items_of (suc n) xs) (items_of (suc n) xs)) (ne_eqb (suc n) 0 (λ e. absurd (cc)))
    ∙ other_shard n xs (All-tail IsMessage (Queue m) xs all)

module _ (before after : List Told) (list : List Item) (all : All IsMessage list) where
  pub all_come : messages_told after ≡ messages_told before ++ messages_in_items list → Come (queue_items before) (queue_items after) list
  all_come is zero =
      ap (map Queue) is
      ∙ (map-append Queue (messages_told before) (messages_in_items list)
      ∙ ap (λ (xs : List Item). map Queue (messages_told before) ++ xs) (sym (own_shard list all)))
  all_come is (suc n) = sym (other_shard n list all)

  pub some_come : (rest : List Message) × (messages_told before ++ messages_in_items list ≡ messages_told after ++ rest) → SomeCome (queue_items before) (queue_items after) list
  some_come some zero = (
    map Queue some.0,
    ap (λ (xs : List Item). map Queue (messages_told before) ++ xs) (own_shard list all)
        ∙ (sym (map-append Queue (messages_told before) (messages_in_items list))
        ∙ (ap (map Queue) some.1 ∙ map-append Queue (messages_told after) some.0)),
  )
  some_come some (suc n) = ([], other_shard n list all)

  pub room_for : FitBehind (queue_items before) list → length (messages_told before) + length (messages_in_items list) ≤ 1000000
  room_for fits =
      let most : length (map Queue (messages_told before) ++ items_of 0 list) ≤ 1000000 = fits 0 in
      let long : length (map Queue (messages_told before) ++ items_of 0 list) ≡ length (messages_told before) + length (messages_in_items list) =
      ap (λ (xs : List Item). length (map Queue (messages_told before) ++ xs)) (own_shard list all)
      ∙ (length-append (map Queue (messages_told before)) (map Queue (messages_in_items list))
      ∙ ap₂ (λ (a b : ℕ). a + b) (length-map (messages_told before) Queue) (length-map (messages_in_items list) Queue)) in
      omega (arith, most, long)

pub stay_as : (before after : List Told) → messages_told after ≡ messages_told before → StayAsTheyAre (queue_items before) (queue_items after)
stay_as before after is zero = ap (map Queue) is
stay_as before after is (suc n) = refl
