-- How many calls suffice for a history's records and windows, where the retries are finite: each call gives a fate, adds
-- a try, cuts a batch between two records, closes a window, or was not run. This product's own.
use Rattle.std.specs.Prelude.{◌≡◌, ℕ, suc, ◌+◌, ◌*◌, ◌==◌, Bool, true, false, ◌&&◌, List, [], ◌∷◌, ◌++◌, length, map, Option, Some, None, unwrap_or, is_some, if◌then◌else◌}
use Rattle.std.specs.List.{list_any, flat_map}
use Rattle.esm_model.specs.declared.entry.Reply.{Reply}
use Rattle.esm_model.specs.declared.entry.Reply.TheVariants.{Answered}
use Rattle.esm_model.specs.declared.entry.Entry.{Entry}
use Rattle.esm_model.specs.declared.entry.Entry.TheVariants.{Came, Began, Ended}
use Rattle.esm_model.specs.declared.verdict.Reading.{Reading}
use Rattle.esm_model.specs.declared.verdict.Reading.TheVariants.{NotRun}
use Rattle.esm_model.specs.declared.setup.FoundState.{FoundState}
use Rattle.esm_model.specs.Setting.{Setting, sequences_at}
use Rattle.esm_model.specs.Entries.{Call, last_call, shards_that_came}
use Rattle.esm_model.specs.Fates.{came_places}
use Rattle.esm_model.specs.Reading.{reading}
use Rattle.esm_model.specs.Windows.{has_windows, window_of}

-- records

abbrev pub records_after : ℕ → Entry → ℕ
records_after before (Came shard first count moment) = count + before
records_after before _ = before

-- the number of records that arrived, over all shards
abbrev pub record_count : List Entry → ℕ
record_count [] = 0
record_count (e ∷ h) = records_after (record_count h) e

-- windows

-- a tumbling window, by its shard and its start
pub record Window : Type 0 where
  pub shard : ℕ
  pub start : ℕ

abbrev pub same_window : Window → Window → Bool
same_window a b = (a.shard == b.shard) && (a.start == b.start)

-- each window once
abbrev pub distinct : List Window → List Window
distinct [] = []
distinct (w ∷ ws) = if list_any (same_window w) ws then distinct ws else w ∷ distinct ws

-- the windows of the shard's records that arrived
abbrev pub windows_that_came : Setting → List Entry → ℕ → List Window
windows_that_came s h n = map (λ (i : ℕ). record { shard = n; start = window_of s n i }) (came_places h n)

-- the windows whose state the journal had at opening
abbrev pub found_windows : Setting → List Window
found_windows s = map (λ (f : FoundState). record { shard = f.shard; start = f.window }) s.states

-- the number of windows of the records that arrived and of the found ones, where windows are configured
abbrev pub window_count : Setting → List Entry → ℕ
window_count s h =
    if has_windows s.config then length (distinct (flat_map (windows_that_came s h) (shards_that_came h) ++ found_windows s)) else 0

-- calls that were not run

abbrev pub is_not_run : Reading → Bool
is_not_run NotRun = true
is_not_run _ = false

-- the reply says that this call of the shard was not run
abbrev pub was_not_run : Setting → ℕ → Option Call → Reply → Bool
was_not_run s n None reply = false
was_not_run s n (Some call) reply = is_not_run (reading s.config (sequences_at s n call.places) (is_some call.closing) reply)

abbrev pub not_run_after : Setting → List Entry → ℕ → Entry → ℕ
not_run_after s h before (Ended lane reply moment) = if was_not_run s lane.shard (last_call h lane) reply then suc before else before
not_run_after s h before _ = before

-- the number of replies that say that their call was not run
abbrev pub not_run_count : Setting → List Entry → ℕ
not_run_count s [] = 0
not_run_count s (e ∷ h) = not_run_after s h (not_run_count s h) e

-- the bound

-- from the retry attempts and the numbers of records, windows and replies that were not run
abbrev pub calls_needed : (retries records windows not_run : ℕ) → ℕ
calls_needed retries records windows not_run = records * (retries + 3) + windows * (retries + 1) + not_run

-- the bound of a history
abbrev pub call_bound : Setting → List Entry → ℕ
call_bound s h = calls_needed (unwrap_or s.config.retries 0) (record_count h) (window_count s h) (not_run_count s h)

-- a worked number

-- three records of one shard arrived, and the first call of them was throttled
abbrev pub throttled_once : List Entry
throttled_once =
    Ended (record { shard = 0; lane = 0 }) (Answered 429 false []) 1
    ∷ Began (record { shard = 0; lane = 0 }) (0 ∷ 1 ∷ 2 ∷ []) None 0
    ∷ Came 0 0 3 0
    ∷ []

-- with two retry attempts and no tumbling windows: five calls for each record, and the one that was not run
abbrev pub BoundOfThree : Type 0
BoundOfThree = (s : Setting) → s.config.retries ≡ Some 2 → s.config.tumbling_ms ≡ 0 → call_bound s throttled_once ≡ 16
