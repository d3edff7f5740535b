use Rattle.esm_worked.proofs.WorkedHistories as facts
use Rattle.esm_worked.proofs.histories.lanes.Goals as goal

pub returns : goal.returns
returns c = facts.two_lanes
