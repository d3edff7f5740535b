use Rattle.esm_ingest.proofs.Soundness.{comes_next}
use Rattle.esm_ingest.proofs.laws.parts_come.Goals as goal

pub returns : goal.returns
returns c s h rs m may = comes_next s h rs m may
