use Rattle.esm_worked.proofs.WorkedHistories as facts
use Rattle.esm_worked.proofs.histories.retries.Goals as goal

pub returns : goal.returns
returns c = record {
  retry_delays = facts.retry_delays;
  throttled_call = facts.throttled_call;
  delay_ladder = facts.delay_ladder;
  tries_outlast = facts.tries_outlast;
}
