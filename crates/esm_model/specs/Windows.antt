-- Tumbling windows and their states. Source: the Lambda Developer Guide, stateful processing for Kinesis
-- (`TumblingWindowInSeconds`). That the windows of a shard never go back is this product's own.
use Rattle.std.specs.Prelude.{ℕ, suc, zero, ◌-◌, ◌%◌, ◌==◌, nat_lt, max, Bool, not, ◌&&◌, ◌||◌, List, [], ◌∷◌, Option, Some, None, unwrap_or, codes, if◌then◌else◌, is_some}
use Rattle.std.specs.List.{list_any}
use Rattle.esm_model.specs.declared.config.Config.{Config}
use Rattle.esm_model.specs.Records.{Record}
use Rattle.esm_model.specs.declared.entry.WindowState.{WindowState}
use Rattle.esm_model.specs.declared.entry.Entry.{Entry}
use Rattle.esm_model.specs.declared.entry.Entry.TheVariants.{Gave, Closed}
use Rattle.esm_model.specs.Setting.{Setting, records_of, found_state}
use Rattle.esm_model.specs.Entries.{came_count, is_shut}
use Rattle.esm_model.specs.Fates.{lacks_fate, came_places}

-- tumbling windows are configured
abbrev pub has_windows : Config → Bool
has_windows c = not (c.tumbling_ms == 0)

-- the greatest multiple of the width that is not after the arrival
abbrev pub window_floor : ℕ → ℕ → ℕ
window_floor width arrival = arrival - arrival % width

-- a record's window: the floor of its arrival, or the window of the record before it in the shard where that is later
abbrev pub window_from : ℕ → ℕ → List Record → ℕ → ℕ
window_from width before [] i = before
window_from width before (r ∷ rs) zero = max before (window_floor width r.arrival)
window_from width before (r ∷ rs) (suc i) = window_from width (max before (window_floor width r.arrival)) rs i

-- the window of the record at the place, named by its start in milliseconds
abbrev pub window_of : Setting → ℕ → ℕ → ℕ
window_of s n i = window_from s.config.tumbling_ms 0 (records_of s n) i

-- states

-- the text of the state, where the state is that of the window; else the one before
abbrev pub text_for : ℕ → Option (List ℕ) → Option WindowState → Option (List ℕ)
text_for w before None = before
text_for w before (Some state) = if state.window == w then Some state.text else before

abbrev pub state_after : ℕ → ℕ → Option (List ℕ) → Entry → Option (List ℕ)
state_after n w before (Gave by shard places fate line state moment) = if shard == n then text_for w before state else before
state_after n w before (Closed lane window moment) = if (lane.shard == n) && (window == w) then None else before
state_after n w before _ = before

-- the text in the window's last `Gave` after its last `Closed`; else the state found in the journal, unless a `Closed`
-- removed it
abbrev pub kept_state : Setting → List Entry → ℕ → ℕ → Option (List ℕ)
kept_state s [] n w = found_state s n w
kept_state s (e ∷ h) n w = state_after n w (kept_state s h n w) e

-- the window's state; a window begins with `{}`
abbrev pub window_state : Setting → List Entry → ℕ → ℕ → List ℕ
window_state s h n w = unwrap_or (kept_state s h n w) (codes "{}")

-- the window has a state, and records of its shard arrived
abbrev pub is_outstanding : Setting → List Entry → ℕ → ℕ → Bool
is_outstanding s h n w = has_windows s.config && nat_lt 0 (came_count h n) && is_some (kept_state s h n w)

-- a record of the window is open
abbrev pub has_open_record : Setting → List Entry → ℕ → ℕ → Bool
has_open_record s h n w = list_any (λ i. lacks_fate s h n i && (window_of s n i == w)) (came_places h n)

-- a record of a later window arrived
abbrev pub has_later_record : Setting → List Entry → ℕ → ℕ → Bool
has_later_record s h n w = list_any (λ i. nat_lt w (window_of s n i)) (came_places h n)

-- a window is due if it is outstanding, no record of it is open, and a record of a later window arrived or the input ended
abbrev pub is_due : Setting → List Entry → ℕ → ℕ → Bool
is_due s h n w = is_outstanding s h n w && not (has_open_record s h n w) && (has_later_record s h n w || is_shut h)
