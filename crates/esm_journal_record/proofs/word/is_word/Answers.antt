use Rattle.esm_journal_record.proofs.WordLemmas.{word_utf8}
use Rattle.esm_journal_record.proofs.word.is_word.Goals as goal

pub returns-in-Sequence-clause-text : goal.returns-in-Sequence-clause-text
returns-in-Sequence-clause-text c = word_utf8 c.args.word c.args.bytes.now

pub returns-in-MessageId-clause-text : goal.returns-in-MessageId-clause-text
returns-in-MessageId-clause-text c = word_utf8 c.args.word c.args.bytes.now
