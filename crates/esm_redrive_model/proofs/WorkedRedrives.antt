-- Worked examples of redrives, computed.
use Rattle.std.proofs.Common.{◌≡◌, ℕ, true, false, List, [], ◌∷◌, length, take, refl, sym, ap, ◌∙◌, arith, Some, None}
use Rattle.std.specs.Prelude.{◌==◌, codes, nat_le, nat_lt, find}
use Rattle.std.specs.Str.{bytes_eq}
use Rattle.std.specs.Fmt.{digits}
use Rattle.std.specs.Str.{is_utf8, chars}
use Rattle.std.proofs.lemmas.Bool.{false≢true, leb-true, ltb-true}
use Rattle.std.proofs.lemmas.Option.{none-some, same_Some}
use Rattle.md5.specs.Md5.{block_words, rounds, compress, hash_after, digest_bytes, md5}
use Rattle.serde_json.proofs.OnLiterals.{serde_json_on_literals}
use Rattle.esm_model.specs.declared.moment.TheConstants.{MAX_MOMENT}
use Rattle.esm_model.specs.declared.item.Message.{Message}
use Rattle.esm_model.specs.declared.entry.Fate.TheVariants.{Succeeded, Exhausted}
use Rattle.esm_model.specs.declared.entry.Entry.{Entry}
use Rattle.esm_model.specs.declared.entry.Entry.TheVariants.{Came, Gave, Shut}
use Rattle.esm_model.specs.declared.setup.FoundDeletion.{FoundDeletion}
use Rattle.esm_model.specs.Numbers.{last_digits}
use Rattle.esm_model.specs.JsonText.{escaped_byte}
use Rattle.esm_model.specs.Pattern.{read_pattern}
use Rattle.esm_model.specs.Filter.{passes_message}
use Rattle.esm_model.specs.Entries.{moment_of, last_moment, is_shut, calls_begun, is_running}
use Rattle.esm_model.specs.QueueEvent.{hexadecimal, queue_record_text, queue_event_text}
use Rattle.esm_model.specs.QueueReading.{queue_item_reading}
use Rattle.esm_model.specs.Worked.{lane_0, began, ended, gave, fails, succeeds, good_call, all_came}
use Rattle.esm_queue_model.specs.QueueSetting.{message_at}
use Rattle.esm_queue_model.specs.QueueEntries.{queue_lane}
use Rattle.esm_queue_model.specs.QueueBatch.{queue_batch, is_queue_ready}
use Rattle.esm_queue_model.specs.QueueStep.{unsorted_messages, owed_places}
use Rattle.esm_queue_model.specs.WorkedHistories.{plain_message}
use Rattle.esm_redrive_model.specs.RedriveSetting.{RedriveSetting}
use Rattle.esm_redrive_model.specs.DeadLetter.{dead_letter}
use Rattle.esm_redrive_model.specs.Due.{due, known}
use Rattle.esm_redrive_model.specs.RedriveStep.{SettledRedrive, MayBeginRedrive, MayEndRedrive, MayMove, RedriveMayFollow, LegalRedrive}
use Rattle.esm_redrive_model.specs.WorkedRedrives.{moved, twice, line_a, failed_once, failed_twice, RedriveOne, two_calls, RedriveSpent, NearRedriveOne, found_a, came_known, recorded, RedriveFound, NearRedriveFound, of_group, once, grouped_line, first_failed, first_moved, RedriveFifo, NearRedriveFifo}

-- the rows, of tests that compute

next : (s : RedriveSetting) (h : List Entry) (e : Entry) → LegalRedrive s h → nat_le (last_moment h) (moment_of e) ≡ true → nat_le (moment_of e) MAX_MOMENT ≡ true → RedriveMayFollow s h e → LegalRedrive s (e ∷ h)
next s h e legal later within may = (legal, (record { not_back = leb-true _ _ later; within = leb-true _ _ within }, may))

settled : (s : RedriveSetting) (h : List Entry) → known s h ≡ [] → unsorted_messages s.queue h ≡ [] → owed_places s.queue h (queue_lane 0) ≡ [] → SettledRedrive s h
settled s h recorded sorted paid = record { recorded = recorded; sorted = sorted; paid = paid }

begins : (s : RedriveSetting) (h : List Entry) (places : List ℕ) (m : ℕ) → SettledRedrive s h → is_running h lane_0 ≡ false → nat_lt (calls_begun h) s.queue.calls ≡ true → due s h m ≡ [] → places ≡ queue_batch s.queue h m → nat_le 1 (length places) ≡ true → is_queue_ready s.queue h m ≡ true → MayBeginRedrive s h lane_0 places m
begins s h places m settled rests left none exact some ready = record { settled = settled; batcher = refl; rests = rests; calls_left = ltb-true _ _ left; none_due = none; exact = exact; some = leb-true _ _ some; ready = ready }

ends : (h : List Entry) → is_running h lane_0 ≡ true → MayEndRedrive h lane_0
ends h runs = record { batcher = refl; runs = runs }

moves : (s : RedriveSetting) (h : List Entry) (i : ℕ) (message : Message) (line : List ℕ) (m : ℕ) → SettledRedrive s h → is_running h lane_0 ≡ false → take 1 (due s h m) ≡ i ∷ [] → message_at s.queue i ≡ Some message → line ≡ dead_letter message → MayMove s h lane_0 0 (i ∷ []) (Some line) None m
moves s h i message line m settled rests first at line_is = record {
  settled = settled;
  batcher = refl;
  rests = rests;
  queue = refl;
  place = i;
  first = first;
  exact = refl;
  message = message;
  is_there = at;
  line_is = ap Some line_is;
  no_state = refl;
}

-- what is not

nothing_first : (xs : List ℕ) (i : ℕ) → xs ≡ [] → take 1 xs ≡ i ∷ [] → ⊥
nothing_first [] i none first = cc
nothing_first (x ∷ xs) i none first = cc

none_and_one : (xs : List ℕ) (i : ℕ) → xs ≡ [] → xs ≡ i ∷ [] → ⊥
none_and_one xs i none one = cc

-- the first messages come

came : (s : RedriveSetting) (count : ℕ) → known s [] ≡ [] → nat_le 1 count ≡ true → nat_le count (length s.queue.messages) ≡ true → s.queue.deletions ≡ [] → LegalRedrive s (Came 0 0 count 0 ∷ [])
came s count none some within found = next s [] (Came 0 0 count 0) tt refl refl (record {
  recorded = none;
  comes = record {
    not_shut = refl;
    queue = refl;
    next = refl;
    some = leb-true _ _ some;
    within = (let low = leb-true count (length s.queue.messages) within in omega arith);
    kept = λ i f m low high at is. absurd (none-some f (sym (ap (λ (ds : List FoundDeletion). find (λ (d : FoundDeletion). d.place == i) ds) found) ∙ is));
  };
})

shuts : (s : RedriveSetting) (h : List Entry) (m : ℕ) → LegalRedrive s h → nat_le (last_moment h) m ≡ true → nat_le m MAX_MOMENT ≡ true → SettledRedrive s h → is_shut h ≡ false → LegalRedrive s (Shut m ∷ h)
shuts s h m legal later within settled open' = next s h (Shut m) legal later within (settled, open')

-- `redrive-one`

one_failed : LegalRedrive twice failed_once
unfolding block_words rounds compress hash_after digest_bytes md5 digits is_utf8 chars serde_json_on_literals last_digits escaped_byte hexadecimal queue_record_text queue_event_text queue_item_reading read_pattern passes_message
one_failed =
    let shut : LegalRedrive twice (all_came 1 0) = shuts twice (Came 0 0 1 0 ∷ []) 0 (came twice 1 refl refl refl refl) refl refl (settled _ _ refl refl refl) refl in
    let call : LegalRedrive twice (began (0 ∷ []) 0 ∷ all_came 1 0) = next twice (all_came 1 0) (began (0 ∷ []) 0) shut refl refl (begins _ _ _ _ (settled _ _ refl refl refl) refl refl refl refl refl refl) in
    next twice (began (0 ∷ []) 0 ∷ all_came 1 0) (ended fails 0) call refl refl (ends _ refl)

two_failed : LegalRedrive twice failed_twice
unfolding block_words rounds compress hash_after digest_bytes md5 digits is_utf8 chars serde_json_on_literals last_digits escaped_byte hexadecimal queue_record_text queue_event_text queue_item_reading read_pattern passes_message
two_failed =
    let call : LegalRedrive twice (began (0 ∷ []) 30000 ∷ failed_once) = next twice failed_once (began (0 ∷ []) 30000) one_failed refl refl (begins _ _ _ _ (settled _ _ refl refl refl) refl refl refl refl refl refl) in
    next twice (began (0 ∷ []) 30000 ∷ failed_once) (ended fails 30000) call refl refl (ends _ refl)

moved_once : LegalRedrive twice (moved 0 line_a 60000 ∷ failed_twice)
unfolding block_words rounds compress hash_after digest_bytes md5 digits is_utf8 chars serde_json_on_literals last_digits escaped_byte hexadecimal queue_record_text queue_event_text queue_item_reading read_pattern passes_message dead_letter
moved_once = next twice failed_twice (moved 0 line_a 60000) two_failed refl refl (moves _ _ 0 (plain_message (codes "a")) line_a _ (settled _ _ refl refl refl) refl refl refl refl)

pub redrive_one : RedriveOne
unfolding digits last_digits
redrive_one = record {
  not_yet = refl;
  hidden = refl;
  now = refl;
  runs = record { is_legal = moved_once; calls_are = refl; lines_are = refl; left_are = refl; text_is = refl };
}

spent : LegalRedrive two_calls failed_twice
unfolding block_words rounds compress hash_after digest_bytes md5 digits is_utf8 chars serde_json_on_literals last_digits escaped_byte hexadecimal queue_record_text queue_event_text queue_item_reading read_pattern passes_message
spent =
    let shut : LegalRedrive two_calls (all_came 1 0) = shuts two_calls (Came 0 0 1 0 ∷ []) 0 (came two_calls 1 refl refl refl refl) refl refl (settled _ _ refl refl refl) refl in
    let first : LegalRedrive two_calls (began (0 ∷ []) 0 ∷ all_came 1 0) = next two_calls (all_came 1 0) (began (0 ∷ []) 0) shut refl refl (begins _ _ _ _ (settled _ _ refl refl refl) refl refl refl refl refl refl) in
    let after_one : LegalRedrive two_calls failed_once = next two_calls (began (0 ∷ []) 0 ∷ all_came 1 0) (ended fails 0) first refl refl (ends _ refl) in
    let second : LegalRedrive two_calls (began (0 ∷ []) 30000 ∷ failed_once) = next two_calls failed_once (began (0 ∷ []) 30000) after_one refl refl (begins _ _ _ _ (settled _ _ refl refl refl) refl refl refl refl refl refl) in
    next two_calls (began (0 ∷ []) 30000 ∷ failed_once) (ended fails 30000) second refl refl (ends _ refl)

pub redrive_spent : RedriveSpent
unfolding digits last_digits
redrive_spent = record { is_legal = spent; calls_are = refl; lines_are = refl; left_are = refl; text_is = refl }

pub near_redrive_one : NearRedriveOne
near_redrive_one = record {
  early = λ legal. nothing_first (due twice failed_once 30000) legal.1.1.place redrive_one.not_yet legal.1.1.first;
  while_hidden = λ legal. nothing_first (due twice failed_twice 59999) legal.1.1.place redrive_one.hidden legal.1.1.first;
  without_line = λ legal. none-some (dead_letter legal.1.1.message) legal.1.1.line_is;
  called_when_due = λ legal. none_and_one (due twice failed_twice 60000) 0 legal.1.1.none_due redrive_one.now;
}

-- `redrive-found`

was_found : LegalRedrive found_a (Shut 0 ∷ recorded)
unfolding passes_message
was_found =
    let noted : LegalRedrive found_a recorded = next found_a came_known (Gave None 0 (0 ∷ []) Exhausted None None 0) (came found_a 1 refl refl refl refl) refl refl (record { queue = refl; exact = refl; some = leb-true 1 1 refl; no_line = refl; no_state = refl; same_moment = refl }) in
    shuts found_a recorded 0 noted refl refl (settled _ _ refl refl refl) refl

pub redrive_found : RedriveFound
unfolding digits last_digits
redrive_found = record { is_known = refl; runs = record { is_legal = was_found; calls_are = refl; lines_are = refl; left_are = refl; text_is = refl } }

pub near_redrive_found : NearRedriveFound
near_redrive_found = record {
  unrecorded = λ legal. none_and_one (known found_a came_known) 0 legal.1.1.0.recorded redrive_found.is_known;
  called = λ legal. none_and_one (known found_a came_known) 0 legal.1.1.settled.recorded redrive_found.is_known;
  second_line = λ legal. none_and_one (known found_a came_known) 0 legal.1.1.settled.recorded redrive_found.is_known;
}

-- `redrive-fifo`

first_fails : LegalRedrive once first_failed
unfolding block_words rounds compress hash_after digest_bytes md5 digits is_utf8 chars serde_json_on_literals last_digits escaped_byte hexadecimal queue_record_text queue_event_text queue_item_reading read_pattern passes_message
first_fails =
    let shut : LegalRedrive once (all_came 2 0) = shuts once (Came 0 0 2 0 ∷ []) 0 (came once 2 refl refl refl refl) refl refl (settled _ _ refl refl refl) refl in
    let call : LegalRedrive once (began (0 ∷ []) 0 ∷ all_came 2 0) = next once (all_came 2 0) (began (0 ∷ []) 0) shut refl refl (begins _ _ _ _ (settled _ _ refl refl refl) refl refl refl refl refl refl) in
    next once (began (0 ∷ []) 0 ∷ all_came 2 0) (ended fails 0) call refl refl (ends _ refl)

first_moves : LegalRedrive once first_moved
unfolding block_words rounds compress hash_after digest_bytes md5 digits is_utf8 chars serde_json_on_literals last_digits escaped_byte hexadecimal queue_record_text queue_event_text queue_item_reading read_pattern passes_message dead_letter
first_moves = next once first_failed (moved 0 grouped_line 30000) first_fails refl refl (moves _ _ 0 (of_group (codes "a")) grouped_line _ (settled _ _ refl refl refl) refl refl refl refl)

second_succeeds : LegalRedrive once (good_call (1 ∷ []) 30000 first_moved)
unfolding block_words rounds compress hash_after digest_bytes md5 digits is_utf8 chars serde_json_on_literals last_digits escaped_byte hexadecimal queue_record_text queue_event_text queue_item_reading read_pattern passes_message
second_succeeds =
    let call : LegalRedrive once (began (1 ∷ []) 30000 ∷ first_moved) = next once first_moved (began (1 ∷ []) 30000) first_moves refl refl (begins _ _ _ _ (settled _ _ refl refl refl) refl refl refl refl refl refl) in
    let end : LegalRedrive once (ended succeeds 30000 ∷ began (1 ∷ []) 30000 ∷ first_moved) = next once (began (1 ∷ []) 30000 ∷ first_moved) (ended succeeds 30000) call refl refl (ends _ refl) in
    next once (ended succeeds 30000 ∷ began (1 ∷ []) 30000 ∷ first_moved) (gave (1 ∷ []) Succeeded 30000) end refl refl (record { batcher = refl; deletes = record { queue = refl; exact = refl; some = leb-true 1 1 refl; no_line = refl; no_state = refl; same_moment = refl } })

pub redrive_fifo : RedriveFifo
unfolding digits last_digits
redrive_fifo = record { is_legal = second_succeeds; calls_are = refl; lines_are = refl; left_are = refl; text_is = refl }

first_is_due : due once first_failed 30000 ≡ 0 ∷ []
first_is_due = refl

held_back : queue_batch once.queue first_failed 29999 ≡ []
held_back = refl

-- the line of the first message has its group
its_place : (i : ℕ) → take 1 (due once first_failed 30000) ≡ i ∷ [] → i ≡ 0
its_place i first = let is : take 1 (0 ∷ []) ≡ i ∷ [] = sym (ap (take 1) first_is_due) ∙ first in cc

its_line : (i : ℕ) (message : Message) → i ≡ 0 → message_at once.queue i ≡ Some message → dead_letter message ≡ grouped_line
unfolding escaped_byte digits last_digits dead_letter
its_line i message is at =
    let here : Some (of_group (codes "a")) ≡ Some message = sym (ap (message_at once.queue) is) ∙ at in
    ap dead_letter (sym (same_Some (of_group (codes "a")) message here))

no_group : (i : ℕ) (message : Message) → take 1 (due once first_failed 30000) ≡ i ∷ [] → message_at once.queue i ≡ Some message → Some line_a ≡ Some (dead_letter message) → ⊥
no_group i message first at line =
    let same : line_a ≡ grouped_line = same_Some line_a (dead_letter message) line ∙ its_line i message (its_place i first) at in
    false≢true (ap (λ x. bytes_eq x line_a) (sym same))

pub near_redrive_fifo : NearRedriveFifo
near_redrive_fifo = record {
  past_hidden = λ legal. (let none = held_back in let some = legal.1.1.exact in cc);
  past_due = λ legal. none_and_one (due once first_failed 30000) 0 legal.1.1.none_due first_is_due;
  without_group = λ legal. no_group legal.1.1.place legal.1.1.message legal.1.1.first legal.1.1.is_there legal.1.1.line_is;
}
