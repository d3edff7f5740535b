-- The items of a redrive's input, their messages, and those that came to its book.
use Rattle.std.proofs.Common.{◌≡◌, ◌∙◌, ◌+◌, ◌<◌, ◌≤◌, ◌^◌, ℕ, zero, suc, Bool, true, false, cond, List, [], ◌∷◌, ◌++◌, length, map, ap, ap₂, arith, ne_eqb, refl, sym}
use Rattle.std.specs.Prelude.{All, ◌==◌}
use Rattle.std.proofs.lemmas.List.{length-append, length-map, map-append}
use Rattle.std.proofs.lemmas.List.Elements.{All-head, All-tail}
use Rattle.esm_model.specs.declared.item.Item.{Item}
use Rattle.esm_model.specs.declared.item.Item.TheVariants.{Stream, Queue}
use Rattle.esm_model.specs.declared.item.Message.{Message}
use Rattle.esm_model.specs.declared.limits.TheConstants.{MAX_RECORDS}
use Rattle.esm_model.specs.Coming.{items_of, AreCome, AreSomeCome, Come, SomeCome, StayAsTheyAre, FitBehind}
use Rattle.esm_queue_book.specs.Coming.{IsMessage, messages_in_items}
use Rattle.esm_redrive_run.specs.Book.{Book, items_in}

own_shard : (list : List Item) → All IsMessage list → items_of 0 list ≡ map Queue (messages_in_items list)
own_shard [] all = refl
own_shard (Stream r ∷ xs) all = absurd (All-head IsMessage (Stream r) xs all)
own_shard (Queue m ∷ xs) all = ap (λ (ys : List Item). Queue m ∷ ys) (own_shard xs (All-tail IsMessage (Queue m) xs all))

other_shard : (n : ℕ) (list : List Item) → All IsMessage list → items_of (suc n) list ≡ []
other_shard n [] all = refl
other_shard n (Stream r ∷ xs) all = absurd (All-head IsMessage (Stream r) xs all)
other_shard n (Queue m ∷ xs) all =
    ap (λ (b : Bool). cond b (Queue m ∷ items_of (suc n) xs) (items_of (suc n) xs)) (ne_eqb (suc n) 0 (λ e. absurd (cc)))
    ∙ other_shard n xs (All-tail IsMessage (Queue m) xs all)

module _ {D : Type 0} (before after : Book D) (list : List Item) (all : All IsMessage list) where
  pub all_come : after.core.setting.queue.messages ≡ before.core.setting.queue.messages ++ messages_in_items list → Come (items_in before) (items_in after) list
  all_come is zero =
      ap (map Queue) is
      ∙ (map-append Queue before.core.setting.queue.messages (messages_in_items list)
      ∙ ap (λ (xs : List Item). map Queue before.core.setting.queue.messages ++ xs) (sym (own_shard list all)))
  all_come is (suc n) = sym (other_shard n list all)

  pub some_come : (rest : List Message) × (before.core.setting.queue.messages ++ messages_in_items list ≡ after.core.setting.queue.messages ++ rest) → SomeCome (items_in before) (items_in after) list
  some_come some zero = (
    map Queue some.0,
    ap (λ (xs : List Item). map Queue before.core.setting.queue.messages ++ xs) (own_shard list all)
        ∙ (sym (map-append Queue before.core.setting.queue.messages (messages_in_items list))
        ∙ (ap (map Queue) some.1 ∙ map-append Queue after.core.setting.queue.messages some.0)),
  )
  some_come some (suc n) = ([], other_shard n list all)

  pub room_for : FitBehind (items_in before) list → length before.core.setting.queue.messages + length (messages_in_items list) ≤ 1000000
  room_for fits =
      let most : length (map Queue before.core.setting.queue.messages ++ items_of 0 list) ≤ 1000000 = fits 0 in
      let long : length (map Queue before.core.setting.queue.messages ++ items_of 0 list) ≡ length before.core.setting.queue.messages + length (messages_in_items list) =
      ap (λ (xs : List Item). length (map Queue before.core.setting.queue.messages ++ xs)) (own_shard list all)
      ∙ (length-append (map Queue before.core.setting.queue.messages) (map Queue (messages_in_items list))
      ∙ ap₂ (λ (a b : ℕ). a + b) (length-map before.core.setting.queue.messages Queue) (length-map (messages_in_items list) Queue)) in
      omega (arith, most, long)

pub stay_as : {D : Type 0} (before after : Book D) → after.core.setting.queue.messages ≡ before.core.setting.queue.messages → StayAsTheyAre (items_in before) (items_in after)
stay_as before after is zero = ap (map Queue) is
stay_as before after is (suc n) = refl

-- the messages of items

pub items_both : (xs ys : List Item) → messages_in_items (xs ++ ys) ≡ messages_in_items xs ++ messages_in_items ys
items_both [] ys = refl
items_both (Stream r ∷ xs) ys = items_both xs ys
items_both (Queue m ∷ xs) ys = ap (λ (l : List Message). m ∷ l) (items_both xs ys)

own_either : (b : Bool) (r : Item) (xs : List Item) → messages_in_items (r ∷ []) ≡ [] → messages_in_items (cond b (r ∷ xs) xs) ≡ messages_in_items xs
own_either true r xs none = items_both (r ∷ []) xs ∙ ap (λ (l : List Message). l ++ messages_in_items xs) none
own_either false r xs none = refl

-- those of a queue's shard are all of them
own_messages : (xs : List Item) → messages_in_items (items_of 0 xs) ≡ messages_in_items xs
own_messages [] = refl
own_messages (Stream r ∷ xs) = own_either (r.shard == 0) (Stream r) (items_of 0 xs) refl ∙ own_messages xs
own_messages (Queue m ∷ xs) = ap (λ (l : List Message). m ∷ l) (own_messages xs)

messages_back : (ms : List Message) → messages_in_items (map Queue ms) ≡ ms
messages_back [] = refl
messages_back (m ∷ ms) = ap (λ (l : List Message). m ∷ l) (messages_back ms)

pub all_told : {D : Type 0} (b : Book D) (items : List Item) → AreCome (items_in b) items → b.core.setting.queue.messages ≡ messages_in_items items
all_told b items come = sym (messages_back b.core.setting.queue.messages) ∙ (ap messages_in_items (come 0) ∙ own_messages items)

pub some_told : {D : Type 0} (b : Book D) (items : List Item) → AreSomeCome (items_in b) items → (rest : List Message) × (messages_in_items items ≡ b.core.setting.queue.messages ++ rest)
some_told b items come =
    let rest : List Item = (come 0).0 in (
      messages_in_items (come 0).0,
      sym (own_messages items)
          ∙ (ap messages_in_items (come 0).1
          ∙ (items_both (map Queue b.core.setting.queue.messages) rest
          ∙ ap (λ (l : List Message). l ++ messages_in_items rest) (messages_back b.core.setting.queue.messages))),
    )

-- the messages are as few as the items of an input

pub messages_few : (xs : List Item) → length (messages_in_items xs) ≤ length xs
messages_few [] = omega arith
messages_few (Stream r ∷ xs) = (let rest = messages_few xs in omega (arith, rest))
messages_few (Queue m ∷ xs) = (let rest = messages_few xs in omega (arith, rest))

pub few_of : (own rest : List Message) (items : List Item) → messages_in_items items ≡ own ++ rest → length items ≤ MAX_RECORDS → length own < 2 ^ 32
few_of own rest items split few =
    let all = messages_few items in
    let both : length (messages_in_items items) ≡ length own + length rest = ap (λ (l : List Message). length l) split ∙ length-append own rest in
    omega (arith, all, both, few)
