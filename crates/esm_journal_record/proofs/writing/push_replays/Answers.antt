use Rattle.esm_model.specs.Sequence.{is_sequence}
use Rattle.esm_journal_record.proofs.WordLemmas.{all_short, sequence_short}
use Rattle.esm_journal_record.proofs.writing.push_replays.Goals as goal

pub push_names-requires-clause-short : goal.push_names-requires-clause-short
push_names-requires-clause-short c = all_short is_sequence sequence_short c.args.texts.now c.requires.2.spelled
