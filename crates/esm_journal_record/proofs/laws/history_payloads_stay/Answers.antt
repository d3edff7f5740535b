use Rattle.esm_journal_record.proofs.EntryFacts as facts
use Rattle.esm_journal_record.proofs.laws.history_payloads_stay.Goals as goal

pub returns : goal.returns
returns c = facts.payloads_stay
