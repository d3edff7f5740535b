-- As many messages came to a book as its setting has; they are valid, and few.
use Rattle.std.proofs.Common.{◌≡◌, ◌∙◌, ◌+◌, ◌<◌, ◌≤◌, ◌^◌, ℕ, List, [], ◌∷◌, ◌++◌, length, take, drop, ap, arith, length-append, refl}
use Rattle.std.specs.Prelude.{reverse}
use Rattle.std.specs.List.{All}
use Rattle.std.proofs.lemmas.List.{append-nil, length-take, reverse-append}
use Rattle.std.proofs.lemmas.List.Elements.{All-append, All-head, All-nil, All-tail}
use Rattle.esm_model.specs.declared.config.Kind.{Kind}
use Rattle.esm_model.specs.declared.entry.Entry.{Entry}
use Rattle.esm_model.specs.declared.entry.Entry.TheVariants.{Came, Began, Ended, Gave, Tried, Closed, Replayed, Shut}
use Rattle.esm_model.specs.declared.item.Message.{Message}
use Rattle.esm_model.specs.declared.setup.Told.{Told}
use Rattle.esm_model.specs.ValidMessage.{IsValidMessage}
use Rattle.esm_queue_model.specs.QueueBooks.{IsOfQueue, MessagesStandWith, messages_told, messages_with}
use Rattle.esm_queue_model.specs.QueueEntries.{queue_count}
use Rattle.esm_queue_model.specs.QueueSetting.{QueueSetting}
use Rattle.esm_queue_model.specs.QueueStep.{LegalQueue}
use Rattle.esm_queue_model.proofs.MoreMessages.{count_within}
use Rattle.esm_queue_core.specs.Told.{told_entries}
use Rattle.esm_queue_core.proofs.ToldMessages.{messages-append, told-append}
use Rattle.esm_model.specs.declared.item.Item.{Item}
use Rattle.esm_model.specs.declared.item.Item.TheVariants.{Queue, Stream}
use Rattle.esm_queue_book.specs.Books.{BookState}
use Rattle.esm_runner.specs.QueueComing.{SomeCame, messages_in_items}

-- those that the entries tell, oldest entry first
abbrev told_in : List Message → List Entry → List Message
told_in all es = messages_told (told_entries all es)

told_more : (all : List Message) (e : Entry) (h : List Entry) → length (told_in all (reverse (e ∷ h))) ≡ length (told_in all (reverse h)) + length (told_in all (e ∷ []))
told_more all e h =
    ap (λ (es : List Entry). length (told_in all es)) (reverse-append (e ∷ []) h)
    ∙ (ap (λ (ts : List Told). length (messages_told ts)) (told-append all (reverse h) (e ∷ []))
    ∙ (ap (λ (ms : List Message). length ms) (messages-append (told_entries all (reverse h)) (told_entries all (e ∷ [])))
    ∙ length-append (told_in all (reverse h)) (told_in all (e ∷ []))))

told_few : (all : List Message) (first count : ℕ) → length (take count (drop first all) ++ []) ≤ count
told_few all first count =
    let same = ap (λ (ms : List Message). length ms) (append-nil (take count (drop first all))) in
    let short = length-take count (drop first all) in
    omega (arith, same, short)

-- with one more entry, that tells no message, or so many

told_none : (all : List Message) (e : Entry) (h : List Entry) → length (told_in all (e ∷ [])) ≡ 0 → queue_count (e ∷ h) ≡ queue_count h → length (told_in all (reverse h)) ≤ queue_count h → length (told_in all (reverse (e ∷ h))) ≤ queue_count (e ∷ h)
told_none all e h none same rest = let more = told_more all e h in omega (arith, none, same, rest, more)

told_some : (all : List Message) (e : Entry) (h : List Entry) (count : ℕ) → length (told_in all (e ∷ [])) ≤ count → queue_count (e ∷ h) ≡ count + queue_count h → length (told_in all (reverse h)) ≤ queue_count h → length (told_in all (reverse (e ∷ h))) ≤ queue_count (e ∷ h)
told_some all e h count few number rest = let more = told_more all e h in omega (arith, few, number, rest, more)

number_came : (h : List Entry) (shard first count m : ℕ) → shard ≡ 0 → queue_count (Came shard first count m ∷ h) ≡ count + queue_count h
number_came h shard first count m queue = rw queue refl

-- no more are told than are counted
told_within : (s : QueueSetting) (all : List Message) (h : List Entry) → LegalQueue s h → length (told_in all (reverse h)) ≤ queue_count h
told_within s all [] legal = omega arith
told_within s all (Came shard first count m ∷ h) legal = told_some all (Came shard first count m) h count (told_few all first count) (number_came h shard first count m legal.1.1.queue) (told_within s all h legal.0)
told_within s all (Began lane places closing m ∷ h) legal = told_none all (Began lane places closing m) h refl refl (told_within s all h legal.0)
told_within s all (Ended lane reply m ∷ h) legal = told_none all (Ended lane reply m) h refl refl (told_within s all h legal.0)
told_within s all (Gave by shard places f line state m ∷ h) legal = told_none all (Gave by shard places f line state m) h refl refl (told_within s all h legal.0)
told_within s all (Tried lane places closing tries m ∷ h) legal = told_none all (Tried lane places closing tries m) h refl refl (told_within s all h legal.0)
told_within s all (Closed lane window m ∷ h) legal = told_none all (Closed lane window m) h refl refl (told_within s all h legal.0)
told_within s all (Replayed shard places m ∷ h) legal = told_none all (Replayed shard places m) h refl refl (told_within s all h legal.0)
told_within s all (Shut m ∷ h) legal = told_none all (Shut m) h refl refl (told_within s all h legal.0)

pub came_all : (s : QueueSetting) (all : List Message) (h : List Entry) → LegalQueue s h → s.messages ≡ messages_told (told_entries all (reverse h)) → queue_count h ≡ length s.messages
came_all s all h legal told =
    let low = told_within s all h legal in
    let high = count_within s h legal in
    let same = ap (λ (ms : List Message). length ms) told in
    omega (arith, low, high, same)

-- they are valid

valid_with : (kind : Kind) (e : Entry) (messages : List Message) → MessagesStandWith kind e messages → All (IsValidMessage kind) (messages_with messages e)
valid_with kind (Came shard first count m) messages stand = stand.valid
valid_with kind (Began lane places closing m) messages stand = All-nil (IsValidMessage kind)
valid_with kind (Ended lane reply m) messages stand = All-nil (IsValidMessage kind)
valid_with kind (Gave by shard places f line state m) messages stand = All-nil (IsValidMessage kind)
valid_with kind (Tried lane places closing tries m) messages stand = All-nil (IsValidMessage kind)
valid_with kind (Closed lane window m) messages stand = All-nil (IsValidMessage kind)
valid_with kind (Replayed shard places m) messages stand = All-nil (IsValidMessage kind)
valid_with kind (Shut m) messages stand = All-nil (IsValidMessage kind)

pub valid_told : (kind : Kind) (history : List Told) → All (IsOfQueue kind) history → All (IsValidMessage kind) (messages_told history)
valid_told kind [] all = All-nil (IsValidMessage kind)
valid_told kind (t ∷ ts) all =
    All-append (IsValidMessage kind) (messages_with t.messages t.entry) (messages_told ts) (valid_with kind t.entry t.messages (All-head (IsOfQueue kind) t ts all).messages)
    (valid_told kind ts (All-tail (IsOfQueue kind) t ts all))

-- they are no more than the items of the input

messages_few : (xs : List Item) → length (messages_in_items xs) ≤ length xs
messages_few [] = omega arith
messages_few (Stream r ∷ xs) = let more = messages_few xs in omega (arith, more)
messages_few (Queue x ∷ xs) = let more = messages_few xs in omega (arith, more)

pub some_few : {D : Type 0} (b : BookState D) (xs : List Item) → SomeCame b (messages_in_items xs) → length xs ≤ 1000000 → length b.core.setting.messages < 2 ^ 32
some_few b xs came few =
    let long : length (messages_in_items xs) ≡ length (b.core.setting.messages ++ came.0) = ap (λ (ms : List Message). length ms) came.1 in
    let both = length-append b.core.setting.messages came.0 in
    let fewer = messages_few xs in
    omega (arith, long, both, few, fewer)
