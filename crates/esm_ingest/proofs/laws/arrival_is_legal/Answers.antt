use Rattle.esm_ingest.proofs.Soundness.{arrives_legally}
use Rattle.esm_ingest.proofs.laws.arrival_is_legal.Goals as goal

pub returns : goal.returns
returns c s h rs m may = arrives_legally s h rs m may
