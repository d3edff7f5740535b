-- Failed tries and marks. Source: the Lambda Developer Guide, error handling for Kinesis: retry attempts count for a
-- batch; that a mark keeps batches apart that were split or tried together is this product's own.
use Rattle.std.specs.Prelude.{ℕ, suc, ◌==◌, Bool, true, false, ◌&&◌, List, [], ◌∷◌, length, take, drop, Option, Some, None, option_map, slice_index, if◌then◌else◌, is_some, is_none}
use Rattle.std.specs.Option.{option_or}
use Rattle.esm_model.specs.declared.entry.Reply.{Reply}
use Rattle.esm_model.specs.declared.lane.LaneId.{LaneId}
use Rattle.esm_model.specs.declared.entry.Entry.{Entry}
use Rattle.esm_model.specs.declared.entry.Entry.TheVariants.{Ended, Closed}
use Rattle.esm_model.specs.declared.verdict.Rest.{Rest}
use Rattle.esm_model.specs.declared.verdict.Rest.TheVariants as rest
use Rattle.esm_model.specs.declared.verdict.Verdict.{Verdict}
use Rattle.esm_model.specs.Setting.{Setting, sequences_at, found_try, found_tries, found_window_tries}
use Rattle.esm_model.specs.Entries.{Call, holds, last_call, batch_of}
use Rattle.esm_model.specs.Reading.{reading}
use Rattle.esm_model.specs.Ruling.{ruling, verdict, capped_tries, is_counted}

-- the verdict on a call of the shard

-- the ruling, from the batch's length, its tries before the end, and the reading of the reply
abbrev pub call_verdict : Setting → ℕ → Call → ℕ → Reply → Verdict
call_verdict s n call tries reply = ruling s.config (length call.places) tries (reading s.config (sequences_at s n call.places) (is_some call.closing) reply)

-- tries of records

-- the verdict counts a try of the place, which is one of those after the records that succeeded
abbrev pub counts : Verdict → List ℕ → ℕ → Bool
counts v places i = is_counted v.rest && holds (drop v.succeeded places) i

-- the reply to the call counts a try of the place; the tries of a batch are those of its first record
abbrev pub counts_in_call : Setting → ℕ → Option Call → (ℕ → ℕ) → Reply → ℕ → Bool
counts_in_call s n None before reply i = false
counts_in_call s n (Some call) before reply i = counts (call_verdict s n call (capped_tries (before (slice_index call.places 0))) reply) call.places i

abbrev pub tries_after : Setting → List Entry → (ℕ → ℕ) → ℕ → ℕ → Entry → ℕ
tries_after s h before n i (Ended lane reply moment) =
    if (lane.shard == n) && counts_in_call s n (last_call h lane) before reply i then suc (before i) else before i
tries_after s h before n i _ = before i

-- the found tries plus the `Ended` entries that counted a try of the place
abbrev pub tries_sum : Setting → List Entry → ℕ → ℕ → ℕ
tries_sum s [] n i = found_tries s n i
tries_sum s (e ∷ h) n i = tries_after s h (tries_sum s h n) n i e

-- that sum, capped at `MAX_TRIES` (10,001)
abbrev pub tries : Setting → List Entry → ℕ → ℕ → ℕ
tries s h n i = capped_tries (tries_sum s h n i)

-- tries of a window's final call

-- the call is the final one of this window
abbrev pub is_closed_by : Option ℕ → ℕ → Bool
is_closed_by None w = false
is_closed_by (Some closing) w = closing == w

-- the call is the window's final one, and its verdict counts a try
abbrev pub counts_in_final_call : Setting → ℕ → Option Call → ℕ → ℕ → Reply → Bool
counts_in_final_call s n None w before reply = false
counts_in_final_call s n (Some call) w before reply = is_closed_by call.closing w && is_counted (call_verdict s n call (capped_tries before) reply).rest

abbrev pub window_tries_after : Setting → List Entry → ℕ → ℕ → ℕ → Entry → ℕ
window_tries_after s h n w before (Ended lane reply moment) =
    if (lane.shard == n) && counts_in_final_call s n (last_call h lane) w before reply then suc before else before
window_tries_after s h n w before (Closed lane window moment) = if (lane.shard == n) && (window == w) then 0 else before
window_tries_after s h n w before _ = before

-- the found tries plus the final calls of the window that counted a try; the last `Closed` sets them to 0
abbrev pub window_tries_sum : Setting → List Entry → ℕ → ℕ → ℕ
window_tries_sum s [] n w = found_window_tries s n w
window_tries_sum s (e ∷ h) n w = window_tries_after s h n w (window_tries_sum s h n w) e

-- that sum, capped at `MAX_TRIES`
abbrev pub window_tries : Setting → List Entry → ℕ → ℕ → ℕ
window_tries s h n w = capped_tries (window_tries_sum s h n w)

-- verdicts

-- the tries of a batch, or of the window's final call
abbrev pub tries_for : Setting → List Entry → ℕ → List ℕ → Option ℕ → ℕ
tries_for s h n places None = tries s h n (slice_index places 0)
tries_for s h n places (Some w) = window_tries s h n w

-- the tries of a call before its end: its window's for a final call, else those of its first record
abbrev pub tries_of : Setting → List Entry → ℕ → Call → ℕ
tries_of s h n call = tries_for s h n call.places call.closing

-- the ruling, with the tries that the history has
abbrev pub verdict_on : Setting → List Entry → ℕ → Option Call → Reply → Verdict
verdict_on s h n None reply = verdict 0 rest.Nothing
verdict_on s h n (Some call) reply = call_verdict s n call (tries_of s h n call) reply

-- the ruling on the lane's call by an `Ended` that follows the history
abbrev pub verdict_after : Setting → List Entry → LaneId → Reply → Verdict
verdict_after s h lane reply = verdict_on s h lane.shard (last_call h lane) reply

-- marks

-- the side of a place: 1 for the records after the first k of a split, and 0 for all others that were tried or split
abbrev pub side : Rest → List ℕ → ℕ → Option ℕ
side rest.Counted places i = if holds places i then Some 0 else None
side (rest.Split k) places i = if holds places i then (if holds (take k places) i then Some 0 else Some 1) else None
side _ places i = None

-- the side that an `Ended` gives to the place: its rest is counted or split, and its batch has the place after those that
-- succeeded
abbrev pub marked_by : Setting → List Entry → ℕ → ℕ → Entry → Option ℕ
marked_by s h n i (Ended lane reply moment) =
    if lane.shard == n
    then side (verdict_after s h lane reply).rest (drop (verdict_after s h lane reply).succeeded (batch_of (last_call h lane))) i
    else None
marked_by s h n i _ = None

-- the last `Ended` that gave the place a side, identified by the number of entries before it, and that side
abbrev pub mark : Setting → List Entry → ℕ → ℕ → Option (ℕ × ℕ)
mark s [] n i = None
mark s (e ∷ h) n i = option_or (option_map (λ (k : ℕ). (length h, k)) (marked_by s h n i e)) (mark s h n i)

-- both have no mark, or both got one from the same `Ended` and on the same side
abbrev pub same_mark : Option (ℕ × ℕ) → Option (ℕ × ℕ) → Bool
same_mark None None = true
same_mark (Some a) (Some b) = (a.0 == b.0) && (a.1 == b.1)
same_mark _ _ = false

-- the place has no mark, and the journal had no tries of it
abbrev pub is_fresh : Setting → List Entry → ℕ → ℕ → Bool
is_fresh s h n i = is_none (mark s h n i) && is_none (found_try s n i)
