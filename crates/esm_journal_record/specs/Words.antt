-- The texts that a payload keeps.
use Rattle.std.specs.Prelude.{ℕ, Bool, List}
use Rattle.esm_model.specs.Sequence.{is_sequence}
use Rattle.esm_journal_record.specs.Payload.{is_message_id}
use Rattle.esm_journal_record.specs.declared.word.Word.{Word}
use Rattle.esm_journal_record.specs.declared.word.Word.TheVariants.{Sequence, MessageId}

-- of a record its sequence number, of a message its id
abbrev pub test_of : Word → List ℕ → Bool
test_of Sequence = is_sequence
test_of MessageId = is_message_id
