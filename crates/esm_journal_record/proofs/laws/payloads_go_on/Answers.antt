use Rattle.esm_journal_record.proofs.EntryFacts as facts
use Rattle.esm_journal_record.proofs.laws.payloads_go_on.Goals as goal

pub returns : goal.returns
returns c = facts.payloads_go_on
