use Rattle.esm_model.proofs.WorkedBatches as facts
use Rattle.esm_model.proofs.worked.batches.Goals as goal

pub returns : goal.returns
returns c = record {
  one_record = facts.one_record;
  batching_window = facts.batching_window;
  early_batch = facts.early_batch;
  filtered_data = facts.filtered_data;
}
