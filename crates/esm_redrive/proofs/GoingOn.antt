-- The lines that a redrive adds go on from those that stood in the dead-letter file.
use Rattle.std.proofs.Common.{◌≡◌, ℕ, zero, suc, ◌<◌, Bool, true, List, [], ◌∷◌, ◌++◌, length, map, refl, sym, ap, ◌∙◌, subst, arith, Option, Some, None}
use Rattle.std.specs.Prelude.{slice_get, filter_map, option_map, is_some}
use Rattle.std.specs.List.{All, cons_option}
use Rattle.std.proofs.lemmas.List.Elements.{All-nil, All-cons, All-head, All-tail, filter_map-append}
use Rattle.std.proofs.lemmas.Option.{none-some, same_Some}
use Rattle.esm_model.specs.declared.item.Message.{Message}
use Rattle.esm_model.specs.declared.entry.Entry.{Entry}
use Rattle.esm_model.specs.Books.{lines_of}
use Rattle.esm_queue_model.specs.QueueSetting.{QueueSetting, message_at}
use Rattle.esm_redrive_model.specs.DeadLetter.{dead_letter}
use Rattle.esm_redrive_model.specs.Due.{moved_places, moved_messages, moved_ids}
use Rattle.esm_redrive_model.specs.RedriveSetting.{RedriveSetting}
use Rattle.esm_redrive_model.specs.RedriveLaws.{MovedOnce}
use Rattle.esm_redrive.specs.DeadFile.{dead_message, dead_id, dead_ids, AreLetters, GoesOnWith}
use Rattle.esm_redrive.specs.ReadsBack.{HasLetter}

abbrev id_of : Message → List ℕ
id_of m = m.id

-- the payloads have messages, wherever they stand
abbrev HaveMessages : Bool → List (List ℕ) → Type 0
HaveMessages fifo payloads = (k : ℕ) (payload : List ℕ) → slice_get payloads k ≡ Some payload → is_some (dead_message fifo payload) ≡ true

within : (xs : List (List ℕ)) (k : ℕ) (x : List ℕ) → slice_get xs k ≡ Some x → k < length xs
within [] k x at = absurd (none-some x at)
within (y ∷ xs) zero x at = omega arith
within (y ∷ xs) (suc k) x at = let low = within xs k x at in omega (arith, low)

joined : (fifo : Bool) (xs ys : List (List ℕ)) → HaveMessages fifo xs → HaveMessages fifo ys → HaveMessages fifo (xs ++ ys)
joined fifo [] ys first second k payload at = second k payload at
joined fifo (x ∷ xs) ys first second zero payload at = first zero payload at
joined fifo (x ∷ xs) ys first second (suc k) payload at = joined fifo xs ys (λ j p there. first (suc j) p there) second k payload at

-- the messages of the moved ones have letters

at_place : (fifo : Bool) (messages : List Message) → All (HasLetter fifo) messages → (i : ℕ) (m : Message) → slice_get messages i ≡ Some m → HasLetter fifo m
at_place fifo [] all i m at = absurd (none-some m at)
at_place fifo (x ∷ xs) all zero m at = subst (HasLetter fifo) (same_Some x m at) (All-head (HasLetter fifo) x xs all)
at_place fifo (x ∷ xs) all (suc i) m at = at_place fifo xs (All-tail (HasLetter fifo) x xs all) i m at

one_picked : (fifo : Bool) (o : Option Message) (rest : List Message) → ((m : Message) → o ≡ Some m → HasLetter fifo m) → All (HasLetter fifo) rest → All (HasLetter fifo) (cons_option o rest)
one_picked fifo None rest own all = all
one_picked fifo (Some m) rest own all = All-cons (HasLetter fifo) m rest (own m refl) all

all_picked : (fifo : Bool) (s : QueueSetting) (places : List ℕ) → All (HasLetter fifo) s.messages → All (HasLetter fifo) (filter_map (message_at s) places)
all_picked fifo s [] all = All-nil (HasLetter fifo)
all_picked fifo s (i ∷ places) all = one_picked fifo (message_at s i) (filter_map (message_at s) places) (λ m at. at_place fifo s.messages all i m at) (all_picked fifo s places all)

-- their letters, and the ids of these

letters_have : (fifo : Bool) (messages : List Message) → All (HasLetter fifo) messages → HaveMessages fifo (map dead_letter messages)
letters_have fifo [] all k payload at = absurd (none-some payload at)
letters_have fifo (m ∷ messages) all zero payload at =
    ap (λ (line : List ℕ). is_some (dead_message fifo line)) (sym (same_Some (dead_letter m) payload at)) ∙ ap (λ (o : Option Message). is_some o) (All-head (HasLetter fifo) m messages all)
letters_have fifo (m ∷ messages) all (suc k) payload at = letters_have fifo messages (All-tail (HasLetter fifo) m messages all) k payload at

ids_of_letters : (fifo : Bool) (messages : List Message) → All (HasLetter fifo) messages → dead_ids fifo (map dead_letter messages) ≡ map id_of messages
ids_of_letters fifo [] all = refl
ids_of_letters fifo (m ∷ messages) all =
    ap (λ (o : Option Message). cons_option (option_map id_of o) (dead_ids fifo (map dead_letter messages))) (All-head (HasLetter fifo) m messages all)
    ∙ ap (λ (ids : List (List ℕ)). m.id ∷ ids) (ids_of_letters fifo messages (All-tail (HasLetter fifo) m messages all))

pub lines_go_on_in : (fifo : Bool) (found : List (List ℕ)) (s : RedriveSetting) (h : List Entry) → MovedOnce s h → All (HasLetter fifo) s.queue.messages → AreLetters fifo found (length found) → GoesOnWith fifo found (lines_of h) (moved_ids s h)
lines_go_on_in fifo found s h moved all good =
    let messages = moved_messages s h in
    let own : All (HasLetter fifo) messages = all_picked fifo s.queue (moved_places h) all in
    let have : HaveMessages fifo (lines_of h) = subst (HaveMessages fifo) (sym moved.lines) (letters_have fifo messages own) in
    record {
      letters = λ j payload low at. joined fifo found (lines_of h) (λ k p there. good k p (within found k p there) there) have j payload at;
      ids_are = filter_map-append (dead_id fifo) found (lines_of h)
          ∙ ap (λ (ids : List (List ℕ)). dead_ids fifo found ++ ids) (ap (dead_ids fifo) moved.lines ∙ ids_of_letters fifo messages own);
    }
