use Rattle.esm_worked.proofs.WorkedHistories as facts
use Rattle.esm_worked.proofs.histories.batches.Goals as goal

pub returns : goal.returns
returns c = record {
  one_record = facts.one_record;
  batching_window = facts.batching_window;
  filtered_data = facts.filtered_data;
}
