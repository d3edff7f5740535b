-- Groups, batches, and when a batch is ready. Source: the Lambda Developer Guide, event source mappings, batching
-- behavior (`BatchSize`, `MaximumBatchingWindowInSeconds`, 6 MB of payload) and the maximum record age of Kinesis.
-- This product's own: groups by mark and tries, and the delay after a failure.
use Rattle.std.specs.Prelude.{ℕ, suc, zero, ◌-◌, ◌*◌, ◌^◌, ◌==◌, nat_lt, nat_le, min, Bool, false, not, ◌&&◌, ◌||◌, List, [], ◌∷◌, ◌++◌, length, Option, Some, None, option_map, unwrap_or, slice_index, take_while, if◌then◌else◌}
use Rattle.std.specs.List.{list_all}
use Rattle.esm_model.specs.declared.limits.TheConstants.{MAX_EVENT}
use Rattle.esm_model.specs.Moment.{moment_after}
use Rattle.esm_model.specs.Lane.{same_lane}
use Rattle.esm_model.specs.Records.{Record}
use Rattle.esm_model.specs.declared.lane.LaneId.{LaneId}
use Rattle.esm_model.specs.declared.verdict.Rest.{Rest}
use Rattle.esm_model.specs.declared.entry.Entry.{Entry}
use Rattle.esm_model.specs.declared.entry.Entry.TheVariants.{Ended}
use Rattle.esm_model.specs.Setting.{Setting, record_at}
use Rattle.esm_model.specs.Entries.{is_shut, came_moment}
use Rattle.esm_model.specs.Fates.{open_places}
use Rattle.esm_model.specs.Ruling.{is_failure}
use Rattle.esm_model.specs.Tries.{tries, mark, same_mark, is_fresh, verdict_after}
use Rattle.esm_model.specs.Windows.{has_windows, window_of}
use Rattle.esm_model.specs.Calls.{event_of}

-- groups

-- the two records have the same mark and the same number of tries
abbrev pub same_piece : Setting → List Entry → ℕ → ℕ → ℕ → Bool
same_piece s h n i j = same_mark (mark s h n i) (mark s h n j) && (tries s h n i == tries s h n j)

-- the longest prefix whose records have the mark and the tries of its first record
abbrev pub group_of : Setting → List Entry → ℕ → List ℕ → List ℕ
group_of s h n places = take_while (same_piece s h n (slice_index places 0)) places

-- the group of the lane: the first of its open records that have one mark and one number of tries
abbrev pub group : Setting → List Entry → LaneId → List ℕ
group s h lane = group_of s h lane.shard (open_places s h lane)

-- the age

-- an age is set, and the record is older; one that arrives after the moment has the age 0
abbrev pub is_older : Option ℕ → Record → ℕ → Bool
is_older None r m = false
is_older (Some age) r m = nat_lt age (m - r.arrival)

-- the record at the place is older than the age at the moment
abbrev pub is_expired : Setting → ℕ → ℕ → ℕ → Bool
is_expired s n m i = unwrap_or (option_map (λ (r : Record). is_older s.config.age_ms r m) (record_at s n i)) false

-- batches

-- `seen`, continued by the longest prefix of xs along which every prefix passes
abbrev pub longest : (List ℕ → Bool) → List ℕ → List ℕ → List ℕ
longest p seen [] = seen
longest p seen (x ∷ xs) = if p (seen ++ x ∷ []) then longest p (seen ++ x ∷ []) xs else seen

-- the records are all in one tumbling window, where windows are configured
abbrev pub is_one_window : Setting → ℕ → List ℕ → Bool
is_one_window s n places = not (has_windows s.config) || list_all (λ i. window_of s n i == window_of s n (slice_index places 0)) places

-- the four limits: the batch size, the length of the event text, one tumbling window, none expired
abbrev pub fits : Setting → List Entry → ℕ → ℕ → List ℕ → Bool
fits s h n m places =
    nat_le (length places) s.config.batch_size
    && nat_le (length (event_of s h n places None)) MAX_EVENT
    && is_one_window s n places
    && list_all (λ i. not (is_expired s n m i)) places

-- the longest prefix of the group that meets the four limits at the moment
abbrev pub batch : Setting → List Entry → LaneId → ℕ → List ℕ
batch s h lane m = longest (fits s h lane.shard m) [] (group s h lane)

-- the delay

-- the number of failures in a row: one more, or 0 after an end that is none
abbrev pub failures_by : Rest → ℕ → ℕ
failures_by r before = if is_failure r then suc before else 0

abbrev pub failures_after : Setting → List Entry → LaneId → ℕ → Entry → ℕ
failures_after s h lane before (Ended at reply moment) = if same_lane at lane then failures_by (verdict_after s h lane reply).rest before else before
failures_after s h lane before _ = before

-- the number of the lane's last `Ended` entries in a row whose rest is `Again` or `Counted`
abbrev pub failures : Setting → List Entry → LaneId → ℕ
failures s [] lane = 0
failures s (e ∷ h) lane = failures_after s h lane (failures s h lane) e

abbrev pub end_after : LaneId → ℕ → Entry → ℕ
end_after lane before (Ended at reply moment) = if same_lane at lane then moment else before
end_after lane before _ = before

-- the moment of the lane's last `Ended`
abbrev pub last_end : List Entry → LaneId → ℕ
last_end [] lane = 0
last_end (e ∷ h) lane = end_after lane (last_end h lane) e

-- the end of the delay after the last end, in milliseconds: 250 after one failure, twice as long after each further one, at
-- most a minute
abbrev pub delay_from : ℕ → ℕ → ℕ
delay_from zero m = 0
delay_from (suc n) m = moment_after m (min (250 * 2 ^ n) 60000)

-- the moment at which the lane's delay runs out; 0 where there is none
abbrev pub delay_end : Setting → List Entry → LaneId → ℕ
delay_end s h lane = delay_from (failures s h lane) (last_end h lane)

-- ready

-- the group is not fresh, or the batch is full or shorter than the group, or the input ended, or the batching window is over
abbrev pub is_group_ready : Setting → List Entry → LaneId → ℕ → List ℕ → List ℕ → Bool
is_group_ready s h lane m group batch =
    not (is_fresh s h lane.shard (slice_index group 0))
    || ((length batch == s.config.batch_size) || nat_lt (length batch) (length group))
    || is_shut h
    || nat_le (moment_after (came_moment h lane.shard (slice_index group 0)) s.config.window_ms) m

-- the delay is over and the group is ready
abbrev pub is_ready : Setting → List Entry → LaneId → ℕ → Bool
is_ready s h lane m = nat_le (delay_end s h lane) m && is_group_ready s h lane m (group s h lane) (batch s h lane m)
