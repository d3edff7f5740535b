-- What a batcher does next: the first rule that holds. Source: the Lambda Developer Guide, event source mappings for
-- Kinesis; the order of the rules and the pause of 20 milliseconds are this product's own.
use Rattle.std.specs.Prelude.{ℕ, ◌==◌, nat_lt, nat_le, min, Bool, true, false, ◌&&◌, List, [], ◌∷◌, length, map, filter, take, take_while, Option, Some, None, slice_index, if◌then◌else◌}
use Rattle.esm_model.specs.declared.limits.TheConstants.{MAX_EXPIRED}
use Rattle.esm_model.specs.Moment.{moment_after}
use Rattle.esm_model.specs.declared.lane.LaneId.{LaneId}
use Rattle.esm_model.specs.declared.book.Job.{Job}
use Rattle.esm_model.specs.declared.book.Next.{Next}
use Rattle.esm_model.specs.declared.book.Next.TheVariants as next
use Rattle.esm_model.specs.declared.entry.Fate.TheVariants.{Expired}
use Rattle.esm_model.specs.declared.entry.Entry.{Entry}
use Rattle.esm_model.specs.declared.entry.Entry.TheVariants.{Began, Gave}
use Rattle.esm_model.specs.Setting.{Setting}
use Rattle.esm_model.specs.declared.setup.FoundState.{FoundState}
use Rattle.esm_model.specs.Entries.{is_shut, came_moment, calls_begun}
use Rattle.esm_model.specs.Fates.{open_places}
use Rattle.esm_model.specs.Windows.{is_outstanding, is_due}
use Rattle.esm_model.specs.Calls.{event_of}
use Rattle.esm_model.specs.Batches.{group, batch, is_expired, is_group_ready, delay_end}
use Rattle.esm_model.specs.FailureLine.{failure_line}
use Rattle.esm_model.specs.Step.{is_front_expired}
use Rattle.esm_ledger.specs.Reading.{lane_of_batcher}

-- the call of the lane with these places, or the one that closes the window
abbrev pub job_of : Setting → List Entry → LaneId → List ℕ → Option ℕ → Job
job_of s h lane places closing = record { lane = lane; places = places; closing = closing; event = event_of s h lane.shard places closing }

-- the places that expire: the longest prefix of the group that is expired, at most `MAX_EXPIRED` at once
abbrev pub expiring : Setting → List Entry → LaneId → ℕ → List ℕ
expiring s h lane m = take MAX_EXPIRED (take_while (is_expired s lane.shard m) (group s h lane))

-- windows

abbrev pub windows_after : ℕ → List ℕ → Entry → List ℕ
windows_after n before (Gave by shard places fate line (Some state) moment) = if shard == n then state.window ∷ before else before
windows_after n before _ = before

-- the windows of the shard to which the journal or the history gave a state
abbrev pub told_windows : Setting → List Entry → ℕ → List ℕ
told_windows s [] n = map (λ (f : FoundState). f.window) (filter (λ (f : FoundState). f.shard == n) s.states)
told_windows s (e ∷ h) n = windows_after n (told_windows s h n) e

abbrev pub outstanding : Setting → List Entry → ℕ → List ℕ
outstanding s h n = filter (is_outstanding s h n) (told_windows s h n)

abbrev pub due_windows : Setting → List Entry → ℕ → List ℕ
due_windows s h n = filter (is_due s h n) (told_windows s h n)

abbrev pub lesser : ℕ → Option ℕ → Option ℕ
lesser w None = Some w
lesser w (Some v) = Some (min w v)

-- the least of the numbers
abbrev pub least : List ℕ → Option ℕ
least [] = None
least (w ∷ ws) = lesser w (least ws)

-- there are none
abbrev pub is_nothing : List ℕ → Bool
is_nothing [] = true
is_nothing (w ∷ ws) = false

-- the rules, from the last one up

-- the lane pauses
abbrev pub pause : ℕ → Next
pause m = next.Idle (moment_after m 20)

-- a batch that is not ready waits until its batching window is over
abbrev pub next_batch : Setting → List Entry → LaneId → ℕ → Next
next_batch s h lane m =
    if is_group_ready s h lane m (group s h lane) (batch s h lane m)
    then next.Call (job_of s h lane (batch s h lane m) None)
    else next.Idle (moment_after (came_moment h lane.shard (slice_index (group s h lane) 0)) s.config.window_ms)

-- a window that is due is closed before a batch begins
abbrev pub next_call : Setting → List Entry → LaneId → ℕ → Option ℕ → Next
next_call s h lane m None = next_batch s h lane m
next_call s h lane m (Some window) = next.Call (job_of s h lane [] (Some window))

-- the calls allowed, then the delay
abbrev pub next_allowed : Setting → List Entry → LaneId → ℕ → Next
next_allowed s h lane m =
    if nat_le s.calls (calls_begun h) then next.Spent
    else if nat_lt m (delay_end s h lane) then next.Idle (delay_end s h lane)
    else next_call s h lane m (least (due_windows s h lane.shard))

-- a lane without open records finishes if the book is shut and no window is outstanding, and pauses if none is due
abbrev pub next_quiet : Setting → List Entry → LaneId → ℕ → List ℕ → Next
next_quiet s h lane m (i ∷ places) = next_allowed s h lane m
next_quiet s h lane m [] =
    if is_shut h && is_nothing (outstanding s h lane.shard) then next.Finished
    else if is_nothing (due_windows s h lane.shard) then pause m
    else next_allowed s h lane m

-- expired records first
abbrev pub next_of : Setting → List Entry → LaneId → ℕ → Next
next_of s h lane m =
    if is_front_expired s h lane m then next.Gave (length (expiring s h lane m))
    else next_quiet s h lane m (open_places s h lane)

-- a batcher whose lane's shard has not come
abbrev pub next_without_lane : List Entry → ℕ → Next
next_without_lane h m = if is_shut h then next.Finished else pause m

abbrev pub next_in : Setting → List Entry → ℕ → Option LaneId → Next
next_in s h m None = next_without_lane h m
next_in s h m (Some lane) = next_of s h lane m

-- what the batcher does next
abbrev pub next_for : Setting → List Entry → ℕ → ℕ → Next
next_for s h k m = next_in s h m (lane_of_batcher s h k)

-- the entries that the answer adds

abbrev pub entries_of_lane : Setting → List Entry → ℕ → LaneId → List Entry
entries_of_lane s h m lane = Gave (Some lane) lane.shard (expiring s h lane m) Expired (failure_line s h lane.shard (expiring s h lane m) true m) None m ∷ []

abbrev pub expiry_entries : Setting → List Entry → ℕ → Option LaneId → List Entry
expiry_entries s h m None = []
expiry_entries s h m (Some lane) = entries_of_lane s h m lane

-- a call begins, or records expire
abbrev pub next_entries : Setting → List Entry → ℕ → ℕ → Next → List Entry
next_entries s h k m (next.Call job) = Began job.lane job.places job.closing m ∷ []
next_entries s h k m (next.Gave n) = expiry_entries s h m (lane_of_batcher s h k)
next_entries s h k m (next.Idle until) = []
next_entries s h k m next.Spent = []
next_entries s h k m next.Finished = []
