-- Worked histories that the rules decide or not, computed.
use Rattle.std.proofs.Common.{refl}
use Rattle.esm_model.proofs.WorkedWords.{worked_on_literals}
use Rattle.esm_worked.specs.WorkedHistories.{BisectEight, ExhaustEight, BisectItemFailures, BudgetAndRestart, RetryDelays, ThrottledCall, DelayLadder, TriesOutlast, RecordAge, AgeEdge, TwoLanes, OneRecord, BatchingWindow, FilteredData, PartialFailure, ItemFailuresCounted, AnswerBodies, HostileBodies, TumblingWindows, WindowRestart}

pub bisect_eight : BisectEight
unfolding worked_on_literals
bisect_eight = record { is_decided = refl; short_batch = refl; later_half = refl }

pub exhaust_eight : ExhaustEight
unfolding worked_on_literals
exhaust_eight = record { is_decided = refl; no_line = refl }

pub bisect_item_failures : BisectItemFailures
unfolding worked_on_literals
bisect_item_failures = refl

pub budget_and_restart : BudgetAndRestart
unfolding worked_on_literals
budget_and_restart = record { first_run = refl; fourth_call = refl; second_run = refl }

pub retry_delays : RetryDelays
unfolding worked_on_literals
retry_delays = record { is_decided = refl; early_call = refl; no_try = refl; given_up = refl }

pub throttled_call : ThrottledCall
unfolding worked_on_literals
throttled_call = record { is_decided = refl; counted = refl }

pub delay_ladder : DelayLadder
unfolding worked_on_literals
delay_ladder = refl

pub tries_outlast : TriesOutlast
unfolding worked_on_literals
tries_outlast = record { first_run = refl; third_call = refl; second_run = refl; counted_again = refl }

pub record_age : RecordAge
unfolding worked_on_literals
record_age = record { in_time = refl; too_old = refl; late_call = refl; early_expiry = refl; no_line = refl }

pub age_edge : AgeEdge
unfolding worked_on_literals
age_edge = record { is_decided = refl; call_first = refl }

pub two_lanes : TwoLanes
unfolding worked_on_literals
two_lanes = record { is_decided = refl; other_lane = refl }

pub one_record : OneRecord
unfolding worked_on_literals
one_record = refl

pub batching_window : BatchingWindow
unfolding worked_on_literals
batching_window = record { after_window = refl; early_batch = refl; full = refl; at_the_end = refl }

pub filtered_data : FilteredData
unfolding worked_on_literals
filtered_data = record { no_json = refl; called = refl; called_after = refl; left_open = refl; passing = refl; passing_filtered = refl; by_key = refl }

pub partial_failure : PartialFailure
unfolding worked_on_literals
partial_failure = refl

pub item_failures_counted : ItemFailuresCounted
unfolding worked_on_literals
item_failures_counted = record { is_decided = refl; other_order = refl; all_succeed = refl }

pub answer_bodies : AnswerBodies
unfolding worked_on_literals
answer_bodies = record { null_list = refl; empty_list = refl; no_list = refl; null = refl; nothing = refl; nothing_else = refl; empty_identifier = refl; unknown_identifier = refl; number = refl; number_else = refl }

pub hostile_bodies : HostileBodies
unfolding worked_on_literals
hostile_bodies = record { number_identifier = refl; object = refl; list = refl; no_identifier = refl; deep = refl; other_key = refl }

pub tumbling_windows : TumblingWindows
unfolding worked_on_literals
tumbling_windows = record { is_decided = refl; skipped_final_call = refl; other_state = refl; other_window = refl; left_open = refl }

pub window_restart : WindowRestart
unfolding worked_on_literals
window_restart = record { is_decided = refl; skipped_final_call = refl }
