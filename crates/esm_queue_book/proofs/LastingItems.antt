-- What the entries of batchers leave of the items that came.
use Rattle.std.proofs.Common.{◌≡◌, ◌≢◌, ℕ, zero, suc, List, [], ◌∷◌, ◌++◌, refl, sym, ap, ap₂, ◌∙◌, append-nil, append_assoc}
use Rattle.std.specs.Prelude.{map}
use Rattle.esm_model.specs.declared.item.Message.{Message}
use Rattle.esm_model.specs.declared.entry.Entry.{Entry}
use Rattle.esm_model.specs.declared.entry.Entry.TheVariants.{Came, Began, Ended, Gave, Tried, Closed, Replayed, Shut}
use Rattle.esm_model.specs.declared.setup.Told.{Told}
use Rattle.esm_model.specs.declared.setup.Setup.{Setup}
use Rattle.esm_model.specs.Kept.{entries_after}
use Rattle.esm_model.specs.Entries.{is_shut}
use Rattle.esm_model.specs.Books.{entries_told, lane_of_entry}
use Rattle.esm_model.specs.declared.item.Item.TheVariants as items
use Rattle.esm_model.specs.Coming.{StayAsTheyAre}
use Rattle.esm_model.specs.GoingOn.{OthersFollow}
use Rattle.esm_queue_model.specs.QueueBooks.{messages_with, messages_told, queue_seat, queue_author, queue_may_follow}
use Rattle.esm_queue_book.specs.Left.{queue_items}
use Rattle.esm_queue_book.proofs.Telling.{entries_more, messages-append, none_of_author}

-- an entry of a batcher tells no messages
none_with : (messages : List Message) (e : Entry) → queue_seat (lane_of_entry e) ≢ 0 → messages_with messages e ≡ []
none_with messages (Came shard first count m) ne = absurd (ne refl)
none_with messages (Began lane places closing m) ne = refl
none_with messages (Ended lane reply m) ne = refl
none_with messages (Gave by shard places f line state m) ne = refl
none_with messages (Tried lane places closing tries m) ne = refl
none_with messages (Closed lane window m) ne = refl
none_with messages (Replayed shard places m) ne = refl
none_with messages (Shut m) ne = refl

none_told : (setup : Setup) (h es : List Told) → entries_after (queue_author setup) 0 h es ≡ [] → messages_told es ≡ []
none_told setup h [] none = refl
none_told setup h (t ∷ es) none =
    let parts = none_of_author (queue_author setup) 0 h t es none in
    ap₂ (λ (xs ys : List Message). xs ++ ys) (none_with t.messages t.entry parts.0) (none_told setup (h ++ t ∷ []) es parts.1)

same_told : (setup : Setup) (h es : List Told) → entries_after (queue_author setup) 0 h es ≡ [] → messages_told (h ++ es) ≡ messages_told h
same_told setup h es none = messages-append h es ∙ (ap (λ (ms : List Message). messages_told h ++ ms) (none_told setup h es none) ∙ append-nil (messages_told h))

pub items_last : (s : Setup) (h es : List Told) → OthersFollow queue_author queue_may_follow s 0 h es → StayAsTheyAre (queue_items h) (queue_items (h ++ es))
items_last s h es follow zero = ap (map items.Queue) (same_told s h es follow.others)
items_last s h es follow (suc n) = refl

pub none_first : (n : ℕ) → queue_items [] n ≡ []
none_first zero = refl
none_first (suc n) = refl

-- the end of the input

same_end : (h : List Entry) (e : Entry) → queue_seat (lane_of_entry e) ≢ 0 → is_shut (e ∷ h) ≡ is_shut h
same_end h (Came shard first count m) ne = refl
same_end h (Began lane places closing m) ne = refl
same_end h (Ended lane reply m) ne = refl
same_end h (Gave by shard places f line state m) ne = refl
same_end h (Tried lane places closing tries m) ne = refl
same_end h (Closed lane window m) ne = refl
same_end h (Replayed shard places m) ne = refl
same_end h (Shut m) ne = absurd (ne refl)

ends_same : (setup : Setup) (h es : List Told) → entries_after (queue_author setup) 0 h es ≡ [] → is_shut (entries_told (h ++ es)) ≡ is_shut (entries_told h)
ends_same setup h [] none = ap (λ (l : List Told). is_shut (entries_told l)) (append-nil h)
ends_same setup h (t ∷ es) none =
    let parts = none_of_author (queue_author setup) 0 h t es none in
    ap (λ (l : List Told). is_shut (entries_told l)) (sym (append_assoc h (t ∷ []) es))
    ∙ (ends_same setup (h ++ t ∷ []) es parts.1
    ∙ (ap is_shut (entries_more h t) ∙ same_end (entries_told h) t.entry parts.0))

pub shut_last : (s : Setup) (h es : List Told) → OthersFollow queue_author queue_may_follow s 0 h es → is_shut (entries_told (h ++ es)) ≡ is_shut (entries_told h)
shut_last s h es follow = ends_same s h es follow.others
