use Rattle.esm_queue_model.proofs.WorkedHistories as facts
use Rattle.esm_queue_model.proofs.worked.histories.Goals as goal

pub returns : goal.returns
returns c = record {
  queue_item_failures = facts.queue_item_failures;
  hidden_call = facts.hidden_call;
  two_groups = facts.two_groups_run;
  filtered_message = facts.filtered_message;
  found_deleted = facts.found_deleted;
  changed_message = facts.changed_message;
}
