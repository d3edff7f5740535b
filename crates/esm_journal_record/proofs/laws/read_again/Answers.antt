use Rattle.esm_journal_record.proofs.Payloads.{said_again}
use Rattle.esm_journal_record.proofs.laws.read_again.Goals as goal

pub returns : goal.returns
returns c = said_again
