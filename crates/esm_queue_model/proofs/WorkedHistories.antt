-- Worked examples of queues' histories, computed.
use Rattle.std.proofs.Common.{◌≡◌, ℕ, List, [], refl, ap, arith, true}
use Rattle.std.specs.Prelude.{codes}
use Rattle.std.specs.Str.{bytes_eq}
use Rattle.std.proofs.lemmas.Bool.{false≢true}
use Rattle.std.specs.Fmt.{digits}
use Rattle.std.specs.Str.{is_utf8, chars}
use Rattle.md5.specs.Md5.{block_words, rounds, compress, hash_after, digest_bytes, md5}
use Rattle.serde_json.proofs.OnLiterals.{serde_json_on_literals}
use Rattle.esm_model.specs.declared.entry.Entry.{Entry}
use Rattle.esm_model.specs.declared.entry.Fate.TheVariants.{Succeeded}
use Rattle.esm_model.specs.declared.item.Message.{Message}
use Rattle.esm_model.specs.declared.setup.FoundDeletion.{FoundDeletion}
use Rattle.esm_model.specs.Numbers.{last_digits}
use Rattle.esm_model.specs.JsonText.{escaped_byte}
use Rattle.esm_model.specs.Pattern.{read_pattern}
use Rattle.esm_model.specs.Filter.{passes_message}
use Rattle.esm_model.specs.QueueEvent.{hexadecimal, queue_record_text, queue_event_text}
use Rattle.esm_model.specs.QueueReading.{queue_item_reading}
use Rattle.esm_model.specs.Worked.{calls_in}
use Rattle.esm_queue_model.specs.QueueSetting.{QueueSetting}
use Rattle.esm_queue_model.specs.QueueEntries.{waiting}
use Rattle.esm_queue_model.specs.QueueBatch.{queue_batch}
use Rattle.esm_queue_model.specs.QueueReport.{queue_text}
use Rattle.esm_queue_model.specs.QueueTests.{is_legal_queue}
use Rattle.esm_queue_model.specs.WorkedHistories.{QueueRuns, plain_message, reporting, one_reported, QueueItemFailures, HiddenCallIsNotLegal, TwoGroups, FilteredMessage, FoundDeleted, ChangedMessageIsNotLegal}
use Rattle.esm_queue_model.proofs.QueueTests.{is_legal_queue_sound}

queue_runs : (s : QueueSetting) (h calls : List Entry) (left text : List ℕ) → is_legal_queue s h ≡ true → calls_in h ≡ calls → waiting s h ≡ left → queue_text s h ≡ text → QueueRuns s h calls left text
queue_runs s h calls left text legal c l t = record { is_legal = is_legal_queue_sound s h legal; calls_are = c; left_are = l; text_is = t }

pub queue_item_failures : QueueItemFailures
unfolding block_words rounds compress hash_after digest_bytes md5 digits is_utf8 chars serde_json_on_literals last_digits escaped_byte hexadecimal queue_record_text queue_event_text queue_item_reading read_pattern passes_message
queue_item_failures = record { hidden = refl; event = refl; runs = queue_runs _ _ _ _ _ refl refl refl refl }

hidden_batch : queue_batch reporting one_reported 29999 ≡ []
hidden_batch = queue_item_failures.hidden

pub hidden_call : HiddenCallIsNotLegal
hidden_call legal = let none = hidden_batch in let some = legal.1.1.exact in cc

pub two_groups_run : TwoGroups
unfolding block_words rounds compress hash_after digest_bytes md5 digits is_utf8 chars serde_json_on_literals last_digits escaped_byte hexadecimal queue_record_text queue_event_text queue_item_reading read_pattern passes_message
two_groups_run = record { held_back = refl; runs = queue_runs _ _ _ _ _ refl refl refl refl }

pub filtered_message : FilteredMessage
unfolding block_words rounds compress hash_after digest_bytes md5 digits is_utf8 chars serde_json_on_literals last_digits escaped_byte hexadecimal queue_record_text queue_event_text queue_item_reading read_pattern passes_message
filtered_message = queue_runs _ _ _ _ _ refl refl refl refl

pub found_deleted : FoundDeleted
unfolding block_words rounds compress hash_after digest_bytes md5 digits is_utf8 chars serde_json_on_literals last_digits escaped_byte hexadecimal queue_record_text queue_event_text queue_item_reading read_pattern passes_message
found_deleted = record { left = refl; runs = queue_runs _ _ _ _ _ refl refl refl refl }

pub changed_message : ChangedMessageIsNotLegal
changed_message legal =
    let first : Message = plain_message (codes "z") in
    let kept : FoundDeletion = record { place = 0; fate = Succeeded; text = codes "a" } in
    let same : codes "z" ≡ codes "a" = legal.1.1.kept 0 kept first (omega arith) (omega arith) refl refl in
    false≢true (ap (λ x. bytes_eq x (codes "a")) same)
