-- Worked histories that the rules decide, and similar ones that they do not: a setting, and a history with its newest entry
-- first.
use Rattle.std.specs.Prelude.{ℕ, List, [], ◌∷◌, ◌++◌, codes, replicate, None}
use Rattle.esm_model.specs.declared.entry.Fate.{Fate}
use Rattle.esm_model.specs.declared.entry.Fate.TheVariants.{Succeeded, Expired, Exhausted}
use Rattle.esm_model.specs.declared.entry.Entry.TheVariants.{Came, Tried}
use Rattle.esm_model.specs.Setting.{Setting}
use Rattle.esm_model.specs.Worked.{lane_0, succeeds, began, ended, gave, failed_call, good_call, all_came}
use Rattle.esm_model.specs.WorkedSplits.{bisecting, after_call_1, after_call_3, after_call_7, exhausting, exhausted_history, halving_reports, first_given_up, bisecting_again, fifth_given_up, bisecting_thrice}
use Rattle.esm_model.specs.WorkedRetries.{retrying, tried, after_try_1, after_try_2, once, throttled_call, ladder, tried_twice}
use Rattle.esm_model.specs.WorkedAges.{aging, expired_at, aging_pair}
use Rattle.esm_model.specs.WorkedLanes.{in_two_lanes, both_done}
use Rattle.esm_model.specs.WorkedBatches.{one_record, gathering_one, gathering_two, filtering, on_data, on_key, filtered_history}
use Rattle.esm_model.specs.WorkedAnswers.{reporting, after_report, counting, reports_second, counted_history, one_reporting, answered}
use Rattle.esm_model.specs.WorkedWindows.{windowed, three_came, stateful_call, final_begun, first_call, windows_history, windowed_again, restarted_history}
use Rattle.esm_worked.specs.Decided.{IsDecided, IsUndecided}

-- ---- splits

-- `bisect-eight`: seven calls; no batch omits a record, and the later half is not called first
pub record BisectEight : Type 0 where
  pub is_decided : IsDecided bisecting after_call_7
  pub short_batch : IsUndecided bisecting (began (0 ∷ 1 ∷ 2 ∷ 3 ∷ 4 ∷ 5 ∷ 6 ∷ []) 0 ∷ all_came 8 0)
  pub later_half : IsUndecided bisecting (began (4 ∷ 5 ∷ 6 ∷ 7 ∷ []) 0 ∷ after_call_1)

-- `exhaust-eight`: one call; the records are not given up without the line
pub record ExhaustEight : Type 0 where
  pub is_decided : IsDecided exhausting exhausted_history
  pub no_line : IsUndecided exhausting (gave (0 ∷ 1 ∷ 2 ∷ 3 ∷ 4 ∷ 5 ∷ 6 ∷ 7 ∷ []) Exhausted 0 ∷ after_call_1)

-- `bisect-item-failures`: five calls
abbrev pub BisectItemFailures : Type 0
BisectItemFailures = IsDecided halving_reports (good_call (2 ∷ 3 ∷ []) 0 (good_call (1 ∷ []) 0 first_given_up))

-- `budget-and-restart`: three of three calls, and no fourth; then five calls of a second run
pub record BudgetAndRestart : Type 0 where
  pub first_run : IsDecided bisecting_thrice after_call_3
  pub fourth_call : IsUndecided bisecting_thrice (began (4 ∷ 5 ∷ []) 0 ∷ after_call_3)
  pub second_run : IsDecided bisecting_again (good_call (6 ∷ 7 ∷ []) 0 (good_call (5 ∷ []) 0 fifth_given_up))

-- ---- retries

-- `retry-delays`: calls at 0, 250 and 750; none earlier, and none before the try is counted; the record is not given up
-- while it has retries
pub record RetryDelays : Type 0 where
  pub is_decided : IsDecided retrying (gave (0 ∷ []) Exhausted 750 ∷ failed_call (0 ∷ []) 750 after_try_2)
  pub early_call : IsUndecided retrying (began (0 ∷ []) 249 ∷ after_try_1)
  pub no_try : IsUndecided retrying (began (0 ∷ []) 250 ∷ failed_call (0 ∷ []) 0 (all_came 1 0))
  pub given_up : IsUndecided retrying (gave (0 ∷ []) Exhausted 0 ∷ failed_call (0 ∷ []) 0 (all_came 1 0))

-- `throttled-call`: called again at 250, and no try is counted
pub record ThrottledCall : Type 0 where
  pub is_decided : IsDecided once (good_call (0 ∷ []) 250 (throttled_call 0 (all_came 1 0)))
  pub counted : IsUndecided once (tried 1 0 ∷ throttled_call 0 (all_came 1 0))

-- `delay-ladder`: ten calls, each as soon as the delay is over
abbrev pub DelayLadder : Type 0
DelayLadder = IsDecided once ladder

-- `tries-outlast`: the first run may make two calls; after both tries the second run makes one

abbrev pub retrying_twice : Setting
retrying_twice = record retrying { calls = 2 }

pub record TriesOutlast : Type 0 where
  pub first_run : IsDecided retrying_twice after_try_2
  pub third_call : IsUndecided retrying_twice (began (0 ∷ []) 750 ∷ after_try_2)
  pub second_run : IsDecided tried_twice (gave (0 ∷ []) Exhausted 0 ∷ failed_call (0 ∷ []) 0 (all_came 1 0))
  pub counted_again : IsUndecided tried_twice after_try_1

-- ---- ages

-- `record-age`: at 60000 the record is called; at 60001 it has expired, with its line
pub record RecordAge : Type 0 where
  pub in_time : IsDecided aging (good_call (0 ∷ []) 60000 (all_came 1 60000))
  pub too_old : IsDecided aging (expired_at 60001 (all_came 1 60001))
  pub late_call : IsUndecided aging (began (0 ∷ []) 60001 ∷ all_came 1 60001)
  pub early_expiry : IsUndecided aging (expired_at 60000 (all_came 1 60000))
  pub no_line : IsUndecided aging (gave (0 ∷ []) Expired 60001 ∷ all_came 1 60001)

-- `age-edge`: one record expires, and the other is called, but not before the first has expired
pub record AgeEdge : Type 0 where
  pub is_decided : IsDecided aging_pair (good_call (1 ∷ []) 60001 (expired_at 60001 (all_came 2 60001)))
  pub call_first : IsUndecided aging_pair (began (1 ∷ []) 60001 ∷ all_came 2 60001)

-- ---- lanes

-- `two-lanes`: three calls; the first record is not called in lane 0
pub record TwoLanes : Type 0 where
  pub is_decided : IsDecided in_two_lanes both_done
  pub other_lane : IsUndecided in_two_lanes (began (0 ∷ []) 0 ∷ all_came 2 0)

-- ---- batches

-- `one-record`: one call
abbrev pub OneRecord : Type 0
OneRecord = IsDecided one_record (good_call (0 ∷ []) 0 (all_came 1 0))

-- `batching-window`: the call begins at 1000, and not at 999; at once if the batch is full or the input ended
pub record BatchingWindow : Type 0 where
  pub after_window : IsDecided gathering_one (good_call (0 ∷ []) 1000 (Came 0 0 1 0 ∷ []))
  pub early_batch : IsUndecided gathering_one (began (0 ∷ []) 999 ∷ Came 0 0 1 0 ∷ [])
  pub full : IsDecided gathering_two (good_call (0 ∷ 1 ∷ []) 0 (Came 0 0 2 0 ∷ []))
  pub at_the_end : IsDecided gathering_one (good_call (0 ∷ []) 0 (all_came 1 0))

-- `filtered-data`: a record that does not pass is filtered and not called; one that passes is called and not filtered
pub record FilteredData : Type 0 where
  pub no_json : IsDecided (filtering on_data (codes "Hello")) filtered_history
  pub called : IsUndecided (filtering on_data (codes "Hello")) (good_call (0 ∷ []) 0 (all_came 1 0))
  pub called_after : IsUndecided (filtering on_data (codes "Hello")) (began (0 ∷ []) 0 ∷ filtered_history)
  pub left_open : IsUndecided (filtering on_data (codes "Hello")) (Came 0 0 1 0 ∷ [])
  pub passing : IsDecided (filtering on_data (codes "{\"n\":1}")) (good_call (0 ∷ []) 0 (all_came 1 0))
  pub passing_filtered : IsUndecided (filtering on_data (codes "{\"n\":1}")) filtered_history
  pub by_key : IsDecided (filtering on_key (codes "Hello")) (good_call (0 ∷ []) 0 (all_came 1 0))

-- ---- answers

-- `partial-failure`: two calls; the second has the records from the least position reported on
abbrev pub PartialFailure : Type 0
PartialFailure = IsDecided reporting (good_call (3 ∷ 4 ∷ 5 ∷ 6 ∷ 7 ∷ []) 250 after_report)

-- `item-failures-counted`: two calls, and the rest is given up; the success is recorded before the try
pub record ItemFailuresCounted : Type 0 where
  pub is_decided : IsDecided counting counted_history
  pub other_order : IsUndecided counting (gave (0 ∷ []) Succeeded 0 ∷ Tried lane_0 (1 ∷ 2 ∷ []) None 1 0 ∷ ended reports_second 0 ∷ began (0 ∷ 1 ∷ 2 ∷ []) 0 ∷ all_came 3 0)
  pub all_succeed : IsUndecided counting (gave (0 ∷ 1 ∷ 2 ∷ []) Succeeded 0 ∷ ended reports_second 0 ∷ began (0 ∷ 1 ∷ 2 ∷ []) 0 ∷ all_came 3 0)

-- the one record is called with this answer, and then gets the fate
abbrev pub Leads : List ℕ → Fate → Type 0
Leads body fate = IsDecided one_reporting (answered body fate)

-- `answer-bodies`; the record gets no other fate
pub record AnswerBodies : Type 0 where
  pub null_list : Leads (codes "{\"batchItemFailures\":null}") Succeeded
  pub empty_list : Leads (codes "{\"batchItemFailures\":[]}") Succeeded
  pub no_list : Leads (codes "{}") Succeeded
  pub null : Leads (codes "null") Succeeded
  pub nothing : Leads [] Succeeded
  pub nothing_else : IsUndecided one_reporting (answered [] Exhausted)
  pub empty_identifier : Leads (codes "{\"batchItemFailures\":[{\"itemIdentifier\":\"\"}]}") Exhausted
  pub unknown_identifier : Leads (codes "{\"batchItemFailures\":[{\"itemIdentifier\":\"9\"}]}") Exhausted
  pub number : Leads (codes "7") Exhausted
  pub number_else : IsUndecided one_reporting (answered (codes "7") Succeeded)

-- `hostile-bodies`
pub record HostileBodies : Type 0 where
  pub number_identifier : Leads (codes "{\"batchItemFailures\":[{\"itemIdentifier\":7}]}") Exhausted
  pub object : Leads (codes "{\"batchItemFailures\":{}}") Exhausted
  pub list : Leads (codes "[]") Exhausted
  pub no_identifier : Leads (codes "{\"batchItemFailures\":[{}]}") Exhausted
  pub deep : Leads (replicate 200 91 ++ replicate 200 93) Exhausted
  pub other_key : Leads (codes "{\"other\":1}") Succeeded

-- ---- windows

-- `tumbling-windows`: four calls; the state is that of the answer, no final call is skipped or made for another window, and
-- each closes its window
pub record TumblingWindows : Type 0 where
  pub is_decided : IsDecided windowed windows_history
  pub skipped_final_call : IsUndecided windowed (began (2 ∷ []) 120000 ∷ first_call three_came)
  pub other_state : IsUndecided windowed (stateful_call (0 ∷ 1 ∷ []) succeeds (record { window = 0; text = codes "{\"n\":2}" }) three_came)
  pub other_window : IsUndecided windowed (final_begun 120000 ∷ first_call three_came)
  pub left_open : IsUndecided windowed (ended succeeds 120000 ∷ final_begun 0 ∷ first_call three_came)

-- `window-restart`: the final call of the window whose state was found comes first
pub record WindowRestart : Type 0 where
  pub is_decided : IsDecided windowed_again restarted_history
  pub skipped_final_call : IsUndecided windowed_again (began (2 ∷ []) 120000 ∷ three_came)
