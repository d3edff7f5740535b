-- The entries of a redrive's history, and what is written of them, over the messages that came.
use Rattle.std.proofs.Common.{◌≡◌, ◌∙◌, ℕ, List, [], ◌∷◌, ◌++◌, map, reverse, Option, Some, None, ap, ap₂, append-nil, refl, sym}
use Rattle.std.specs.List.{cons_option}
use Rattle.std.proofs.lemmas.List.{map-append, reverse-append}
use Rattle.esm_model.specs.declared.book.Trouble.{Trouble}
use Rattle.esm_model.specs.declared.book.Trouble.TheVariants.{Disk, Dest, Changed}
use Rattle.esm_model.specs.declared.entry.Entry.{Entry}
use Rattle.esm_model.specs.declared.item.Message.{Message}
use Rattle.esm_model.specs.Books.{entry_line}
use Rattle.esm_book.specs.Decided.{written_of}
use Rattle.esm_book.specs.State.{in_delivery, in_hand}
use Rattle.esm_journal_record.specs.EntryPayload.{queue_payload}
use Rattle.esm_queue_book.specs.Books.{payloads_in}
use Rattle.esm_redrive_core.specs.declared.decisions.RedriveEntry.{RedriveEntry}
use Rattle.esm_redrive_core.specs.Ahead.{IsConsistent}
use Rattle.esm_redrive_core.specs.RedriveView.{all_messages}
use Rattle.esm_redrive_core.specs.Told.{redrive_entry, redrive_entries, history_of, owed_of}
use Rattle.esm_redrive_book.specs.Books.{payload_in, line_in}
use Rattle.esm_redrive_book.specs.Keeping.{IsSound, entries_left}
use Rattle.esm_redrive_run.specs.Book.{Book}
use Rattle.esm_redrive_run.specs.Headline.{dead_letters}

-- lists

map-reverse : {A B : Type 0} (f : A → B) (xs : List A) → map f (reverse xs) ≡ reverse (map f xs)
map-reverse f [] = refl
map-reverse {A} {B} f (x ∷ xs) =
    ap (map f) (reverse-append (x ∷ []) xs)
    ∙ (map-append f (reverse xs) (x ∷ [])
    ∙ (ap (λ (ys : List B). ys ++ f x ∷ []) (map-reverse f xs)
    ∙ sym (reverse-append (f x ∷ []) (map f xs))))

-- the parts of a list whose image is parted
pub parted : {A B : Type 0} (f : A → B) (es : List A) (front rest : List B) → front ++ rest ≡ map f es → (xs : List A) × (ys : List A) × (xs ++ ys ≡ es) × (map f xs ≡ front)
parted f es [] rest split = ([], es, refl, refl)
parted f [] (y ∷ front) rest split = absurd (let clash : y ∷ (front ++ rest) ≡ [] = split in cc)
parted {A} {B} f (e ∷ es) (y ∷ front) rest split =
    let whole : y ∷ (front ++ rest) ≡ f e ∷ map f es = split in
    let first : y ≡ f e = cc in
    let others : front ++ rest ≡ map f es = cc in
    let more = parted f es front rest others in
    (e ∷ more.0, more.1, ap (λ (l : List A). e ∷ l) more.2, ap₂ (λ (z : B) (l : List B). z ∷ l) (sym first) more.3)

pub sent_same : (lines : List (List ℕ)) → map (λ line. line) lines ≡ lines
sent_same [] = refl
sent_same (l ∷ lines) = ap (λ (ls : List (List ℕ)). l ∷ ls) (sent_same lines)

-- what is written

pub payloads_are : (messages : List Message) (es : List Entry) → written_of payload_in (redrive_entries messages es) ≡ payloads_in messages es
payloads_are messages [] = refl
payloads_are messages (e ∷ es) = ap (cons_option (queue_payload messages e)) (payloads_are messages es)

pub letters_are : (messages : List Message) (es : List Entry) → written_of line_in (redrive_entries messages es) ≡ dead_letters es
letters_are messages [] = refl
letters_are messages (e ∷ es) = ap (cons_option (entry_line e)) (letters_are messages es)

-- the first lines are those of the first entries

pub record AreLettersOf (es : List Entry) (lines : List (List ℕ)) : Type 0 where
  pub front : List Entry
  pub rest : List Entry
  pub split : front ++ rest ≡ es
  pub are : dead_letters front ≡ lines

letters_step : (e : Entry) (es : List Entry) (line : List ℕ) (front rest : List (List ℕ)) (o : Option (List ℕ)) → entry_line e ≡ o → ((xs zs : List (List ℕ)) → xs ++ zs ≡ dead_letters es → AreLettersOf es xs)
    → line ∷ (front ++ rest) ≡ cons_option o (dead_letters es) → AreLettersOf (e ∷ es) (line ∷ front)
letters_step e es line front rest None of more split =
    let on = more (line ∷ front) rest split in
    record { front = e ∷ on.front; rest = on.rest; split = ap (λ (l : List Entry). e ∷ l) on.split; are = ap (λ (o : Option (List ℕ)). cons_option o (dead_letters on.front)) of ∙ on.are }
letters_step e es line front rest (Some text) of more split =
    let first : line ≡ text = cc in
    let others : front ++ rest ≡ dead_letters es = cc in
    let on = more front rest others in
    record {
      front = e ∷ on.front;
      rest = on.rest;
      split = ap (λ (l : List Entry). e ∷ l) on.split;
      are = ap (λ (o : Option (List ℕ)). cons_option o (dead_letters on.front)) of ∙ ap₂ (λ (z : List ℕ) (l : List (List ℕ)). z ∷ l) (sym first) on.are;
    }

pub first_letters : (es : List Entry) (front rest : List (List ℕ)) → front ++ rest ≡ dead_letters es → AreLettersOf es front
first_letters [] [] rest split = record { front = []; rest = []; split = refl; are = refl }
first_letters [] (line ∷ front) rest split = absurd (let clash : line ∷ (front ++ rest) ≡ [] = split in cc)
first_letters (e ∷ es) [] rest split = record { front = []; rest = e ∷ es; split = refl; are = refl }
first_letters (e ∷ es) (line ∷ front) rest split = letters_step e es line front rest (entry_line e) refl (first_letters es) split

-- the entries of a book

hand_entries : (messages : List Message) (why : Option Trouble) (owed : List Entry) → in_hand why (redrive_entries messages owed) ≡ redrive_entries messages (in_hand why owed)
hand_entries messages None owed = refl
hand_entries messages (Some Disk) [] = refl
hand_entries messages (Some Disk) (e ∷ owed) = refl
hand_entries messages (Some Dest) owed = refl
hand_entries messages (Some (Changed change)) owed = refl

tried_entries : (messages : List Message) (why : Option Trouble) (owed : List Entry) → in_delivery why (redrive_entries messages owed) ≡ redrive_entries messages (in_delivery why owed)
tried_entries messages None owed = refl
tried_entries messages (Some Disk) owed = refl
tried_entries messages (Some Dest) [] = refl
tried_entries messages (Some Dest) (e ∷ owed) = refl
tried_entries messages (Some (Changed change)) owed = refl

-- no messages are coming that the history or the entry in hand names
pub all_is : {D : Type 0} (b : Book D) → IsSound b → IsConsistent b.core → all_messages b.core ≡ b.core.setting.queue.messages
all_is b sound consistent =
    ap (λ (ms : List Message). b.core.setting.queue.messages ++ ms) (consistent.rests sound.none_coming) ∙ append-nil b.core.setting.queue.messages

pub paid_is : {D : Type 0} (b : Book D) → IsSound b → IsConsistent b.core → reverse (history_of b.core) ≡ redrive_entries b.core.setting.queue.messages (reverse b.core.past)
paid_is b sound consistent =
    sym (map-reverse (redrive_entry (all_messages b.core)) b.core.past) ∙ ap (λ (ms : List Message). redrive_entries ms (reverse b.core.past)) (all_is b sound consistent)

pub hand_is : {D : Type 0} (b : Book D) → IsSound b → IsConsistent b.core → in_hand b.trouble (owed_of b.core) ≡ redrive_entries b.core.setting.queue.messages (in_hand b.trouble b.core.owed)
hand_is b sound consistent =
    hand_entries (all_messages b.core) b.trouble b.core.owed ∙ ap (λ (ms : List Message). redrive_entries ms (in_hand b.trouble b.core.owed)) (all_is b sound consistent)

pub left_is : {D : Type 0} (b : Book D) → IsSound b → IsConsistent b.core → entries_left b ≡ redrive_entries b.core.setting.queue.messages (reverse b.core.past ++ in_hand b.trouble b.core.owed)
left_is b sound consistent =
    ap₂ (λ (xs ys : List RedriveEntry). xs ++ ys) (paid_is b sound consistent) (hand_is b sound consistent)
    ∙ sym (map-append (redrive_entry b.core.setting.queue.messages) (reverse b.core.past) (in_hand b.trouble b.core.owed))

pub tried_is : {D : Type 0} (b : Book D) → IsSound b → IsConsistent b.core → in_delivery b.trouble (owed_of b.core) ≡ redrive_entries b.core.setting.queue.messages (in_delivery b.trouble b.core.owed)
tried_is b sound consistent =
    tried_entries (all_messages b.core) b.trouble b.core.owed ∙ ap (λ (ms : List Message). redrive_entries ms (in_delivery b.trouble b.core.owed)) (all_is b sound consistent)

-- their lines, as they are sent

pub lines_left_are : {D : Type 0} (b : Book D) → IsSound b → IsConsistent b.core → map (λ line. line) (written_of line_in (entries_left b)) ≡ dead_letters (reverse b.core.past ++ in_hand b.trouble b.core.owed)
lines_left_are b sound consistent =
    sent_same (written_of line_in (entries_left b))
    ∙ (ap (written_of line_in) (left_is b sound consistent) ∙ letters_are b.core.setting.queue.messages (reverse b.core.past ++ in_hand b.trouble b.core.owed))

pub tried_lines_are : {D : Type 0} (b : Book D) → IsSound b → IsConsistent b.core → map (λ line. line) (written_of line_in (in_delivery b.trouble (owed_of b.core))) ≡ dead_letters (in_delivery b.trouble b.core.owed)
tried_lines_are b sound consistent =
    sent_same (written_of line_in (in_delivery b.trouble (owed_of b.core)))
    ∙ (ap (written_of line_in) (tried_is b sound consistent) ∙ letters_are b.core.setting.queue.messages (in_delivery b.trouble b.core.owed))

pub all_lines_are : {D : Type 0} (b : Book D) → IsSound b → IsConsistent b.core
    → map (λ line. line) (written_of line_in (entries_left b ++ in_delivery b.trouble (owed_of b.core))) ≡ dead_letters (reverse b.core.past ++ in_hand b.trouble b.core.owed ++ in_delivery b.trouble b.core.owed)
all_lines_are b sound consistent =
    let messages = b.core.setting.queue.messages in
    let hand = in_hand b.trouble b.core.owed in
    let tried = in_delivery b.trouble b.core.owed in
    sent_same (written_of line_in (entries_left b ++ in_delivery b.trouble (owed_of b.core)))
    ∙ (ap (written_of line_in) (ap₂ (λ (xs ys : List RedriveEntry). xs ++ ys) (left_is b sound consistent) (tried_is b sound consistent) ∙ sym (map-append (redrive_entry messages) (reverse b.core.past ++ hand) tried))
    ∙ letters_are messages (reverse b.core.past ++ hand ++ tried))
