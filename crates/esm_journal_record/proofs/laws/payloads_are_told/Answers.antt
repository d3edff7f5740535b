use Rattle.esm_journal_record.proofs.EntryFacts as facts
use Rattle.esm_journal_record.proofs.laws.payloads_are_told.Goals as goal

pub returns : goal.returns
returns c = facts.payloads_are_told
