use Rattle.esm_worked.proofs.WorkedNext as facts
use Rattle.esm_worked.proofs.batchers.pauses.Goals as goal

pub returns : goal.returns
returns c = record {
  batching_window = facts.batch_waits;
  retry_delays = facts.lane_waits;
  nothing_to_do = facts.nothing_to_do;
}
