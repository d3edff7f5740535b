-- What each entry does to the windows of a shard as they are kept, and what is read off them.
use Rattle.std.specs.Prelude.{ℕ, ◌≡◌, ◌+◌, ◌-◌, ◌<◌, ◌≤◌, ◌==◌, max, true, ◌&&◌, List, [], ◌∷◌, map, filter, Option, Some, None, is_some, is_none, if◌then◌else◌}
use Rattle.esm_model.specs.Records.{Record}
use Rattle.esm_model.specs.declared.lane.LaneId.{LaneId}
use Rattle.esm_model.specs.declared.entry.Fate.{Fate}
use Rattle.esm_model.specs.declared.entry.Reply.{Reply}
use Rattle.esm_model.specs.declared.entry.WindowState.{WindowState}
use Rattle.esm_model.specs.declared.entry.Entry.{Entry}
use Rattle.esm_model.specs.declared.entry.Entry.TheVariants.{Came, Ended, Gave, Closed}
use Rattle.esm_model.specs.Setting.{Setting, record_at, found_state, found_window_tries}
use Rattle.esm_model.specs.Entries.{Call, holds, came_count, is_shut, last_call}
use Rattle.esm_model.specs.Fates.{lacks_fate}
use Rattle.esm_model.specs.Ruling.{capped_tries, is_counted}
use Rattle.esm_model.specs.Tries.{is_closed_by, verdict_after}
use Rattle.esm_model.specs.Windows.{window_floor, window_of, text_for, is_outstanding, is_due}
use Rattle.esm_shard_index.specs.Callings.{StandOnce}
use Rattle.esm_shard_index.specs.Progress.{found_at}
use Rattle.esm_shard_index.specs.Places.{places_from}
use Rattle.esm_shard_index.specs.Windows.{WindowTable, open_in, state_in, tries_in, times, window_before, is_due_in, IsWindows, LeavesWindows}

-- the windows of the records from a place on of which no fate was found, one for each
abbrev pub open_windows : Setting → ℕ → ℕ → ℕ → List ℕ
open_windows s n first count = map (window_of s n) (filter (λ i. is_none (found_at s n i)) (places_from first count))

-- before anything came, with what was found of the windows; found tries are capped
abbrev pub WindowsBegin : Setting → ℕ → WindowTable → Type 0
WindowsBegin s n t =
    ((w : ℕ) → open_in t w ≡ 0) → ((w : ℕ) → state_in t w ≡ found_state s n w) → ((w : ℕ) → tries_in t w ≡ capped_tries (found_window_tries s n w))
    → t.last ≡ 0
    → IsWindows s [] n t

-- records of the shard come
abbrev pub WindowsCome : Setting → List Entry → ℕ → WindowTable → Type 0
WindowsCome s h n t =
    (after : WindowTable) (first count m : ℕ) → IsWindows s h n t
    → ((w : ℕ) → open_in after w ≡ open_in t w + times (open_windows s n (came_count h n) count) w)
    → after.last ≡ window_before s n (came_count h n + count)
    → after.states ≡ t.states → after.tries ≡ t.tries
    → IsWindows s (Came n first count m ∷ h) n after

-- open places of the shard get a fate, and their window perhaps a state
abbrev pub WindowsGive : Setting → List Entry → ℕ → WindowTable → Type 0
WindowsGive s h n t =
    (after : WindowTable) (by : Option LaneId) (places : List ℕ) (f : Fate) (line : Option (List ℕ)) (state : Option WindowState) (m : ℕ) → IsWindows s h n t
    → StandOnce places
    → ((i : ℕ) → holds places i ≡ true → (i < came_count h n) × (lacks_fate s h n i ≡ true))
    → ((w : ℕ) → open_in after w ≡ open_in t w - times (map (window_of s n) places) w)
    → ((w : ℕ) → state_in after w ≡ text_for w (state_in t w) state)
    → after.tries ≡ t.tries → after.last ≡ t.last
    → IsWindows s (Gave by n places f line state m ∷ h) n after

-- the window that a call closes, if it closes one
abbrev pub closing_of : Option Call → Option ℕ
closing_of None = None
closing_of (Some call) = call.closing

-- a call of one of its lanes ends: a try of the window that it closes counts if the verdict says so
abbrev pub WindowsEnd : Setting → List Entry → LaneId → WindowTable → Type 0
WindowsEnd s h lane t =
    (after : WindowTable) (reply : Reply) (m : ℕ) → IsWindows s h lane.shard t
    → ((w : ℕ) → tries_in after w ≡ (if is_closed_by (closing_of (last_call h lane)) w && is_counted (verdict_after s h lane reply).rest then capped_tries (tries_in t w + 1) else tries_in t w))
    → after.opened ≡ t.opened → after.states ≡ t.states → after.last ≡ t.last
    → IsWindows s (Ended lane reply m ∷ h) lane.shard after

-- a window is closed
abbrev pub WindowsClose : Setting → List Entry → LaneId → WindowTable → Type 0
WindowsClose s h lane t =
    (after : WindowTable) (window m : ℕ) → IsWindows s h lane.shard t
    → ((w : ℕ) → state_in after w ≡ (if window == w then None else state_in t w))
    → ((w : ℕ) → tries_in after w ≡ (if window == w then 0 else tries_in t w))
    → after.opened ≡ t.opened → after.last ≡ t.last
    → IsWindows s (Closed lane window m ∷ h) lane.shard after

-- another entry follows
abbrev pub WindowsStay : Setting → List Entry → ℕ → WindowTable → Type 0
WindowsStay s h n t = (e : Entry) → LeavesWindows n e → IsWindows s h n t → IsWindows s (e ∷ h) n t

-- what is read off the table of a shard that came, if windows are configured
pub record WindowsTell (s : Setting) (h : List Entry) (n : ℕ) (t : WindowTable) : Type 0 where
  pub outstanding_is : (w : ℕ) → is_outstanding s h n w ≡ is_some (state_in t w)
  pub due_is : (w : ℕ) → is_due s h n w ≡ is_due_in t (is_shut h) w

-- a window never goes back in a shard
abbrev pub WindowsRise : Setting → ℕ → Type 0
WindowsRise s n = (i j : ℕ) → i ≤ j → window_of s n i ≤ window_of s n j

-- the window of a record is known from that of the record before it
abbrev pub WindowFollows : Setting → ℕ → Type 0
WindowFollows s n = (i : ℕ) (r : Record) → record_at s n i ≡ Some r → window_of s n i ≡ max (window_before s n i) (window_floor s.config.tumbling_ms r.arrival)
