-- Worked examples of what a batcher of a queue does next, computed.
use Rattle.std.proofs.Common.{refl}
use Rattle.std.specs.Fmt.{digits}
use Rattle.std.specs.Str.{is_utf8, chars}
use Rattle.md5.specs.Md5.{block_words, rounds, compress, hash_after, digest_bytes, md5}
use Rattle.serde_json.proofs.OnLiterals.{serde_json_on_literals}
use Rattle.esm_model.specs.Numbers.{last_digits}
use Rattle.esm_model.specs.JsonText.{escaped_byte}
use Rattle.esm_model.specs.Pattern.{read_pattern}
use Rattle.esm_model.specs.Filter.{passes_message}
use Rattle.esm_model.specs.QueueEvent.{hexadecimal, queue_record_text, queue_event_text}
use Rattle.esm_model.specs.QueueReading.{queue_item_reading}
use Rattle.esm_queue_core.specs.WorkedNext.{ReportedIsCalledAgain, QueueEventIsCalled, EmptyQueue}

pub reported : ReportedIsCalledAgain
unfolding block_words rounds compress hash_after digest_bytes md5 digits is_utf8 chars serde_json_on_literals last_digits escaped_byte hexadecimal queue_record_text queue_event_text queue_item_reading read_pattern passes_message
reported = record { first = refl; pauses = refl; again = refl; finished = refl }

pub event : QueueEventIsCalled
unfolding block_words rounds compress hash_after digest_bytes md5 digits is_utf8 chars serde_json_on_literals last_digits escaped_byte hexadecimal queue_record_text queue_event_text queue_item_reading read_pattern passes_message
event = refl

pub empty_queue : EmptyQueue
unfolding digits last_digits
empty_queue = record { finished = refl; text_is = refl }
