-- Worked examples, computed: two lanes of a shard.
use Rattle.std.proofs.Common.{refl}
use Rattle.esm_model.specs.WorkedLanes.{TwoLanes}
use Rattle.esm_model.proofs.WorkedWords.{worked_on_literals}
use Rattle.esm_model.proofs.WorkedLegal.{runs}

pub two_lanes : TwoLanes
unfolding worked_on_literals
two_lanes = record { runs = runs _ _ _ _ _ _ refl refl refl refl refl; checkpoint_before = refl; spread_before = refl; spread_after = refl }
