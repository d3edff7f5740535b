use Rattle.esm_worked.proofs.WorkedHistories as facts
use Rattle.esm_worked.proofs.histories.splits.Goals as goal

pub returns : goal.returns
returns c = record {
  bisect_eight = facts.bisect_eight;
  exhaust_eight = facts.exhaust_eight;
  bisect_item_failures = facts.bisect_item_failures;
  budget_and_restart = facts.budget_and_restart;
}
