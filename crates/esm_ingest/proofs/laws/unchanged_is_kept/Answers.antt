use Rattle.esm_ingest.proofs.Soundness.{all_kept}
use Rattle.esm_ingest.proofs.laws.unchanged_is_kept.Goals as goal

pub returns : goal.returns
returns c s h rs m may = all_kept s h rs m may
