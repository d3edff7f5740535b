use Rattle.esm_worked.proofs.WorkedHistories as facts
use Rattle.esm_worked.proofs.histories.windows.Goals as goal

pub returns : goal.returns
returns c = record {
  tumbling_windows = facts.tumbling_windows;
  window_restart = facts.window_restart;
}
