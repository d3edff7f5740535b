-- Worked examples, computed: tumbling windows, their states and their final calls.
use Rattle.std.proofs.Common.{◌≡◌, true, refl}
use Rattle.esm_model.specs.Windows.{is_due}
use Rattle.esm_model.specs.WorkedWindows.{windowed, three_came, first_call, TumblingWindows, SkippedFinalCallIsNotLegal, WindowRestart, StateSpans}
use Rattle.esm_model.proofs.WorkedWords.{worked_on_literals}
use Rattle.esm_model.proofs.WorkedLegal.{runs}

pub tumbling_windows : TumblingWindows
unfolding worked_on_literals
tumbling_windows = record { runs = runs _ _ _ _ _ _ refl refl refl refl refl; events = refl }

first_due : is_due windowed (first_call three_came) 0 0 ≡ true
unfolding worked_on_literals
first_due = refl

pub skipped_final_call : SkippedFinalCallIsNotLegal
skipped_final_call legal = let due = first_due in let not_due = legal.1.1.no_window_due 0 in cc

pub window_restart : WindowRestart
unfolding worked_on_literals
window_restart = record { runs = runs _ _ _ _ _ _ refl refl refl refl refl; events = refl }

pub state_spans : StateSpans
unfolding worked_on_literals
state_spans = record { span = refl; number = refl; no_json = refl; no_answer = refl; no_state = refl }
