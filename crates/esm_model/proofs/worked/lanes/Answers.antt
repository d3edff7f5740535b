use Rattle.esm_model.proofs.WorkedLanes as facts
use Rattle.esm_model.proofs.worked.lanes.Goals as goal

pub returns : goal.returns
returns c = facts.two_lanes
