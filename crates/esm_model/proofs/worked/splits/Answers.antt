use Rattle.esm_model.proofs.WorkedSplits as facts
use Rattle.esm_model.proofs.worked.splits.Goals as goal

pub returns : goal.returns
returns c = record {
  bisect_eight = facts.bisect_eight;
  exhaust_eight = facts.exhaust_eight;
  bisect_item_failures = facts.bisect_item_failures;
  budget_and_restart = facts.budget_and_restart;
  short_batch = facts.short_batch;
  later_half = facts.later_half;
  fourth_call = facts.fourth_call;
}
