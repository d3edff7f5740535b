use Rattle.esm_queue_core.proofs.WorkedNext as facts
use Rattle.esm_queue_core.proofs.worked.batchers.Goals as goal

pub returns : goal.returns
returns c = record {
  queue_item_failures = facts.reported;
  queue_event = facts.event;
  empty_queue = facts.empty_queue;
}
