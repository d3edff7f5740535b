use Rattle.esm_journal_record.proofs.EntryFacts as facts
use Rattle.esm_journal_record.proofs.laws.payload_stays.Goals as goal

pub returns : goal.returns
returns c = facts.payload_stays
