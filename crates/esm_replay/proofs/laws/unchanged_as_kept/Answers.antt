use Rattle.esm_replay.proofs.Unchanged.{none_differs}
use Rattle.esm_replay.proofs.laws.unchanged_as_kept.Goals as goal

pub returns : goal.returns
returns c = none_differs
