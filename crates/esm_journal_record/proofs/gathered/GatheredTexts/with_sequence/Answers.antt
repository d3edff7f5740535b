use Rattle.esm_model.proofs.RecordFacts.{sequence_utf8}
use Rattle.esm_journal_record.proofs.gathered.GatheredTexts.with_sequence.Goals as goal

pub with-requires : goal.with-requires
with-requires c = rw c.seq.ensures.value (sequence_utf8 c.args.item.now.seq c.seq.ensures.spelled)
