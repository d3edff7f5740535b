use Rattle.esm_journal_record.specs.Payload.{is_message_id}
use Rattle.esm_journal_record.proofs.WordLemmas.{all_short, id_short}
use Rattle.esm_journal_record.proofs.writing.push_deleted.Goals as goal

pub push_named-requires-clause-short : goal.push_named-requires-clause-short
push_named-requires-clause-short c = all_short is_message_id id_short c.args.texts.now c.requires.2.spelled
