use Rattle.esm_model.proofs.WorkedWindows as facts
use Rattle.esm_model.proofs.worked.windows.Goals as goal

pub returns : goal.returns
returns c = record {
  tumbling_windows = facts.tumbling_windows;
  skipped_final_call = facts.skipped_final_call;
  window_restart = facts.window_restart;
  state_spans = facts.state_spans;
}
