use Rattle.esm_ingest.proofs.Counted.{all_counted}
use Rattle.esm_ingest.proofs.laws.all_have_come.Goals as goal

pub returns : goal.returns
returns c ledger keeps n = all_counted ledger keeps n
