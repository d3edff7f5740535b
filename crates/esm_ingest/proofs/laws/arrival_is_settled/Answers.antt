use Rattle.esm_ingest.proofs.Soundness.{arrives_settled}
use Rattle.esm_ingest.proofs.laws.arrival_is_settled.Goals as goal

pub returns : goal.returns
returns c s h rs m may = arrives_settled s h rs m may
