use Rattle.esm_model.proofs.WorkedRetries as facts
use Rattle.esm_model.proofs.worked.retries.Goals as goal

pub returns : goal.returns
returns c = record {
  retry_delays = facts.retry_delays;
  early_call = facts.early_call;
  throttled_call = facts.throttled_call;
  delay_ladder = facts.delay_ladder;
  tries_outlast = facts.tries_outlast;
}
