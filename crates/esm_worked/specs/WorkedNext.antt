-- Worked examples of what a batcher of a stream does next: a setting, a history with its newest entry first, and the answer.
use Rattle.std.specs.Prelude.{◌≡◌, ℕ, ◌+◌, ◌<◌, ◌≤◌, true, List, [], ◌∷◌, codes, Some, None}
use Rattle.esm_model.specs.declared.moment.TheConstants.{MAX_MOMENT}
use Rattle.esm_model.specs.declared.book.Next.TheVariants as next
use Rattle.esm_model.specs.declared.entry.Entry.{Entry}
use Rattle.esm_model.specs.declared.entry.Entry.TheVariants.{Came, Began, Shut}
use Rattle.esm_model.specs.Batches.{batch, is_ready}
use Rattle.esm_model.specs.Worked.{lane_0, good_call, all_came}
use Rattle.esm_model.specs.WorkedSplits.{bisecting_thrice, after_call_3}
use Rattle.esm_model.specs.WorkedRetries.{retrying, after_try_1, after_try_2}
use Rattle.esm_model.specs.WorkedLanes.{lane_1, in_two_lanes}
use Rattle.esm_model.specs.WorkedBatches.{one_record, one_record_event, gathering_one, filtering, on_data, filtered_history}
use Rattle.esm_model.specs.WorkedWindows.{windowed, three_came, first_call, first_final_event}
use Rattle.esm_next.specs.Following.{job_of, next_for}
use Rattle.esm_worked.specs.WorkedHistories.{retrying_twice}

-- ---- calls

-- `one-record`: the call has the whole event
abbrev pub OneRecordIsCalled : Type 0
OneRecordIsCalled = next_for one_record (all_came 1 0) 0 0 ≡ next.Call (record { lane = lane_0; places = 0 ∷ []; closing = None; event = one_record_event })

-- `two-lanes`: each batcher gets its lane's call, while the other lane's call runs

abbrev pub first_begun : List Entry
first_begun = Began lane_1 (0 ∷ []) None 0 ∷ all_came 2 0

pub record BothLanesCall : Type 0 where
  pub first : next_for in_two_lanes (all_came 2 0) 1 0 ≡ next.Call (job_of in_two_lanes (all_came 2 0) lane_1 (0 ∷ []) None)
  pub second : next_for in_two_lanes first_begun 0 0 ≡ next.Call (job_of in_two_lanes first_begun lane_0 (1 ∷ []) None)

-- `tumbling-windows`: the first window is due and a batch of the next one is ready; the final call comes first
pub record FinalCallIsFirst : Type 0 where
  pub batch_is : batch windowed (first_call three_came) lane_0 120000 ≡ 2 ∷ []
  pub is_ready : is_ready windowed (first_call three_came) lane_0 120000 ≡ true
  pub final_call : next_for windowed (first_call three_came) 0 120000 ≡ next.Call (record { lane = lane_0; places = []; closing = Some 0; event = first_final_event })

-- ---- pauses

-- `batching-window`: a record that arrived at 0 waits until its batching window is over

abbrev pub one_came : List Entry
one_came = Came 0 0 1 0 ∷ []

pub record BatchWaits : Type 0 where
  pub before : (m : ℕ) → m < 1000 → next_for gathering_one one_came 0 m ≡ next.Idle 1000
  pub after : next_for gathering_one one_came 0 1000 ≡ next.Call (job_of gathering_one one_came lane_0 (0 ∷ []) None)

-- `retry-delays`: a lane whose call failed waits until its delay is over
pub record LaneWaits : Type 0 where
  pub first : (m : ℕ) → m < 250 → next_for retrying after_try_1 0 m ≡ next.Idle 250
  pub second : (m : ℕ) → m < 750 → next_for retrying after_try_2 0 m ≡ next.Idle 750

-- no shard of the batcher arrived, or its lane has no open record
pub record NothingToDo : Type 0 where
  pub no_shard : (m : ℕ) → m + 20 ≤ MAX_MOMENT → next_for one_record [] 0 m ≡ next.Idle (m + 20)
  pub no_other_shard : (m : ℕ) → m + 20 ≤ MAX_MOMENT → next_for one_record one_came 1 m ≡ next.Idle (m + 20)
  pub no_record : (m : ℕ) → m + 20 ≤ MAX_MOMENT → next_for gathering_one (good_call (0 ∷ []) 1000 one_came) 0 m ≡ next.Idle (m + 20)

-- ---- ends

-- `empty-input`, `one-record` and `filtered-data`: the input ended, and nothing is left
pub record Finishes : Type 0 where
  pub no_shard : (m : ℕ) → next_for one_record (Shut 0 ∷ []) 0 m ≡ next.Finished
  pub no_other_shard : (m : ℕ) → next_for one_record (all_came 1 0) 1 m ≡ next.Finished
  pub no_record : (m : ℕ) → next_for one_record (good_call (0 ∷ []) 0 (all_came 1 0)) 0 m ≡ next.Finished
  pub filtered : (m : ℕ) → next_for (filtering on_data (codes "Hello")) filtered_history 0 m ≡ next.Finished

-- `budget-and-restart` and `tries-outlast`: records are open, and the first run has made all calls allowed
pub record Stops : Type 0 where
  pub three_calls : (m : ℕ) → next_for bisecting_thrice after_call_3 0 m ≡ next.Spent
  pub two_calls : (m : ℕ) → next_for retrying_twice after_try_2 0 m ≡ next.Spent
