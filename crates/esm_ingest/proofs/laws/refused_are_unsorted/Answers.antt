use Rattle.esm_ingest.proofs.Soundness.{refused_unsorted}
use Rattle.esm_ingest.proofs.laws.refused_are_unsorted.Goals as goal

pub returns : goal.returns
returns c s h rs m may = refused_unsorted s h rs m may
