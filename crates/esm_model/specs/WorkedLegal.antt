-- Legality as a test that computes: the conditions of each entry, over the shards, lanes and windows that occur in the
-- history. A history that passes is legal; the worked histories are proved legal by it.
use Rattle.std.specs.Prelude.{ℕ, ◌+◌, ◌==◌, nat_eq, nat_le, nat_lt, Bool, true, false, not, ◌&&◌, List, [], ◌∷◌, length, map, take, take_while, Option, Some, None, option_map, is_none, slice_get, if◌then◌else◌}
use Rattle.std.specs.List.{list_any, list_all}
use Rattle.std.specs.Option.{option_eq}
use Rattle.std.specs.Str.{bytes_eq}
use Rattle.esm_model.specs.declared.limits.TheConstants.{MAX_EXPIRED}
use Rattle.esm_model.specs.declared.moment.TheConstants.{MAX_MOMENT}
use Rattle.esm_model.specs.Lane.{same_lane}
use Rattle.esm_model.specs.Records.{Record}
use Rattle.esm_model.specs.declared.lane.LaneId.{LaneId}
use Rattle.esm_model.specs.declared.entry.Fate.{Fate}
use Rattle.esm_model.specs.declared.entry.Fate.TheVariants.{Succeeded, Filtered, Expired, Exhausted}
use Rattle.esm_model.specs.declared.entry.WindowState.{WindowState}
use Rattle.esm_model.specs.declared.entry.Entry.{Entry}
use Rattle.esm_model.specs.declared.entry.Entry.TheVariants.{Came, Began, Ended, Gave, Tried, Closed, Replayed, Shut}
use Rattle.esm_model.specs.declared.setup.FoundFate.{FoundFate}
use Rattle.esm_model.specs.declared.setup.FoundTries.{FoundTries}
use Rattle.esm_model.specs.declared.setup.FoundState.{FoundState}
use Rattle.esm_model.specs.Setting.{Setting, records_of, record_at, found_fate, found_try}
use Rattle.esm_model.specs.Entries.{holds, moment_of, last_moment, came_count, is_shut, shards_that_came, calls_begun, is_running}
use Rattle.esm_model.specs.Fates.{below, same_fate}
use Rattle.esm_model.specs.Batches.{group, batch, is_expired, is_ready, delay_end}
use Rattle.esm_model.specs.Windows.{is_due}
use Rattle.esm_model.specs.FailureLine.{failure_line}
use Rattle.esm_model.specs.Owed.{Debt, debts, unsorted, owed}
use Rattle.esm_model.specs.Step.{is_front_expired}

-- ---- equality of values

abbrev pub same_state : WindowState → WindowState → Bool
same_state a b = (a.window == b.window) && bytes_eq a.text b.text

-- the two entries are equal, for the kinds that a lane may owe
abbrev pub same_entry : Entry → Entry → Bool
same_entry (Gave by n places f line state m) (Gave by2 n2 places2 f2 line2 state2 m2) =
    option_eq same_lane by by2 && ((n == n2) && (bytes_eq places places2 && (same_fate f f2 && (option_eq bytes_eq line line2 && (option_eq same_state state state2 && (m == m2))))))
same_entry (Tried lane places closing tries m) (Tried lane2 places2 closing2 tries2 m2) =
    same_lane lane lane2 && (bytes_eq places places2 && (option_eq nat_eq closing closing2 && ((tries == tries2) && (m == m2))))
same_entry (Closed lane window m) (Closed lane2 window2 m2) = same_lane lane lane2 && ((window == window2) && (m == m2))
same_entry _ _ = false

-- ---- what occurs in a history

abbrev pub lanes_after : List LaneId → Entry → List LaneId
lanes_after before (Ended lane reply moment) = if list_any (λ at. same_lane at lane) before then before else lane ∷ before
lanes_after before _ = before

-- the lanes in which a call ended: no other lane owes anything
abbrev pub lanes_that_ended : List Entry → List LaneId
lanes_that_ended [] = []
lanes_that_ended (e ∷ h) = lanes_after (lanes_that_ended h) e

abbrev pub with_window : List ℕ → Option WindowState → List ℕ
with_window before None = before
with_window before (Some state) = if holds before state.window then before else state.window ∷ before

abbrev pub windows_after : List ℕ → Entry → List ℕ
windows_after before (Gave by shard places fate line state moment) = with_window before state
windows_after before _ = before

-- the windows that have a state in the history or had one at opening: no other window is due
abbrev pub windows_seen : Setting → List Entry → List ℕ
windows_seen s [] = map (λ (f : FoundState). f.window) s.states
windows_seen s (e ∷ h) = windows_after (windows_seen s h) e

-- ---- the conditions of each entry

abbrev pub is_later : List Entry → ℕ → Bool
is_later h m = nat_le (last_moment h) m && nat_le m MAX_MOMENT

abbrev pub is_text_of : Option (List ℕ) → Option Record → Bool
is_text_of (Some text) (Some r) = bytes_eq r.seq text
is_text_of _ _ = true

-- the record at the place has the sequence number that the journal kept of it
abbrev pub is_kept : Setting → ℕ → ℕ → Bool
is_kept s n i =
    is_text_of (option_map (λ (f : FoundFate). f.text) (found_fate s n i)) (record_at s n i)
    && is_text_of (option_map (λ (f : FoundTries). f.text) (found_try s n i)) (record_at s n i)

abbrev pub may_come : Setting → List Entry → ℕ → ℕ → ℕ → Bool
may_come s h n first count =
    not (is_shut h) && ((first == came_count h n) && (nat_le 1 count && (nat_le (first + count) (length (records_of s n)) && list_all (is_kept s n) (below (first + count)))))

abbrev pub may_filter : Setting → List Entry → ℕ → List ℕ → Option (List ℕ) → Option WindowState → ℕ → Bool
may_filter s h n places line state m = bytes_eq places (unsorted s h n) && (nat_le 1 (length places) && (is_none line && (is_none state && (m == last_moment h))))

abbrev pub is_sorted : Setting → List Entry → ℕ → Bool
is_sorted s h n = bytes_eq (unsorted s h n) []

abbrev pub no_debts : List Debt → Bool
no_debts [] = true
no_debts _ = false

abbrev pub is_settled : Setting → List Entry → Bool
is_settled s h = list_all (is_sorted s h) (shards_that_came h) && list_all (λ lane. no_debts (debts s h lane)) (lanes_that_ended h)

abbrev pub may_call : Setting → List Entry → LaneId → ℕ → Bool
may_call s h lane m =
    is_settled s h
    && (nat_le 1 (came_count h lane.shard) && (nat_lt lane.lane s.config.factor && (not (is_running h lane) && (nat_lt (calls_begun h) s.calls && not (is_front_expired s h lane m)))))

abbrev pub may_begin : Setting → List Entry → LaneId → List ℕ → ℕ → Bool
may_begin s h lane places m =
    may_call s h lane m
    && (list_all (λ w. not (is_due s h lane.shard w)) (windows_seen s h) && (is_ready s h lane m && (bytes_eq places (batch s h lane m) && nat_le 1 (length places))))

abbrev pub is_not_before : Setting → List Entry → ℕ → ℕ → ℕ → Bool
is_not_before s h n window w = if is_due s h n w then nat_le window w else true

abbrev pub may_begin_final : Setting → List Entry → LaneId → List ℕ → ℕ → ℕ → Bool
may_begin_final s h lane places window m =
    may_call s h lane m
    && (nat_le (delay_end s h lane) m && (is_due s h lane.shard window && (list_all (is_not_before s h lane.shard window) (windows_seen s h) && bytes_eq places [])))

abbrev pub may_expire : Setting → List Entry → LaneId → ℕ → List ℕ → Option (List ℕ) → Option WindowState → ℕ → Bool
may_expire s h lane n places line state m =
    is_settled s h
    && (not (is_running h lane)
    && ((n == lane.shard)
    && (bytes_eq places (take MAX_EXPIRED (take_while (is_expired s lane.shard m) (group s h lane)))
    && (nat_le 1 (length places) && (option_eq bytes_eq line (failure_line s h lane.shard places true m) && is_none state)))))

abbrev pub is_entry : Option Entry → Entry → Bool
is_entry None e = false
is_entry (Some first) e = same_entry first e

-- the entry is the first that the lane owes
abbrev pub is_owed : Setting → List Entry → LaneId → Entry → Bool
is_owed s h lane e = is_entry (slice_get (owed s h lane) 0) e

abbrev pub may_give : Setting → List Entry → Option LaneId → ℕ → List ℕ → Fate → Option (List ℕ) → Option WindowState → ℕ → Bool
may_give s h None n places Filtered line state m = may_filter s h n places line state m
may_give s h (Some lane) n places Succeeded line state m = is_owed s h lane (Gave (Some lane) n places Succeeded line state m)
may_give s h (Some lane) n places Exhausted line state m = is_owed s h lane (Gave (Some lane) n places Exhausted line state m)
may_give s h (Some lane) n places Expired line state m = may_expire s h lane n places line state m
may_give s h _ n places _ line state m = false

abbrev pub may_follow : Setting → List Entry → Entry → Bool
may_follow s h (Came shard first count moment) = may_come s h shard first count
may_follow s h (Began lane places None moment) = may_begin s h lane places moment
may_follow s h (Began lane places (Some window) moment) = may_begin_final s h lane places window moment
may_follow s h (Ended lane reply moment) = is_running h lane
may_follow s h (Gave by shard places fate line state moment) = may_give s h by shard places fate line state moment
may_follow s h (Tried lane places closing tries moment) = is_owed s h lane (Tried lane places closing tries moment)
may_follow s h (Closed lane window moment) = is_owed s h lane (Closed lane window moment)
may_follow s h (Replayed shard places moment) = false
may_follow s h (Shut moment) = is_settled s h && not (is_shut h)

-- each entry may follow those before it
abbrev pub is_legal : Setting → List Entry → Bool
is_legal s [] = true
is_legal s (e ∷ h) = is_legal s h && (is_later h (moment_of e) && may_follow s h e)
