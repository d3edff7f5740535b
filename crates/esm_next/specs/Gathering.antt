-- What the cut of a batch needs to know. Only this crate's proofs cite this.
use Rattle.std.specs.Prelude.{◌≡◌, ℕ, ◌-◌, ◌≤◌, Bool, true, List, [], length, Option, Some, None, option_map, unwrap_or, slice_index, if◌then◌else◌}
use Rattle.esm_model.specs.declared.limits.TheConstants.{MAX_EVENT}
use Rattle.esm_model.specs.Records.{Record}
use Rattle.esm_model.specs.declared.lane.LaneId.{LaneId}
use Rattle.esm_model.specs.declared.entry.Entry.{Entry}
use Rattle.esm_model.specs.declared.event.WindowCall.{WindowCall}
use Rattle.esm_model.specs.Setting.{Setting, record_at}
use Rattle.esm_model.specs.Entries.{came_moment, is_shut}
use Rattle.esm_model.specs.Tries.{is_fresh}
use Rattle.esm_model.specs.Windows.{has_windows, window_of, window_state}
use Rattle.esm_model.specs.EventText.{record_text, event_text}
use Rattle.esm_model.specs.Batches.{group}
use Rattle.esm_model.specs.FailureLine.{arrival_at}
use Rattle.esm_next.specs.declared.piece.SizedItem.{SizedItem}
use Rattle.esm_next.specs.declared.piece.Limits.{Limits}
use Rattle.esm_next.specs.declared.piece.Why.{Why}
use Rattle.esm_next.specs.declared.piece.Why.TheVariants.{Waiting}

-- the bytes of the record's element in an event
abbrev pub element_bytes : Setting → ℕ → ℕ → ℕ
element_bytes s n i = unwrap_or (option_map (λ (r : Record). length (record_text s.config r)) (record_at s n i)) 0

-- its window; the same for all if no windows are configured
abbrev pub window_in : Setting → ℕ → ℕ → ℕ
window_in s n i = if has_windows s.config then window_of s n i else 0

abbrev pub piece_of : Setting → List Entry → ℕ → ℕ → SizedItem
piece_of s h n i = record { bytes = element_bytes s n i; came = came_moment h n i; arrival = arrival_at s n i; window = window_in s n i }

-- what an event says of the window, if windows are configured
abbrev pub call_in : Setting → List Entry → ℕ → ℕ → Bool → Option WindowCall
call_in s h n window closing =
    if has_windows s.config
    then Some (record { shard = n; state = record { window = window; text = window_state s h n window }; closing = closing })
    else None

-- the bytes of an event besides its elements
abbrev pub frame_of : Setting → Option WindowCall → ℕ
frame_of s w = length (event_text s.config [] w)

-- the limits of a batch whose event says this of its window
abbrev pub limits_of : Setting → List Entry → Option WindowCall → Limits
limits_of s h w = record { count = s.config.batch_size; payload = MAX_EVENT - frame_of s w; window_ms = s.config.window_ms; age_ms = s.config.age_ms; shut = is_shut h }

-- these places, at least one, are the lane's group, and whether the first of them is fresh
pub record IsFrontOf (s : Setting) (h : List Entry) (lane : LaneId) (places : List ℕ) (fresh : Bool) : Type 0 where
  pub group_is : group s h lane ≡ places
  pub fresh_is : is_fresh s h lane.shard (slice_index places 0) ≡ fresh
  pub some : 1 ≤ length places

-- until when a batch waits: one that is fresh and whose window is not over
abbrev pub wait_of : Bool → Why → Option ℕ
wait_of true (Waiting until) = Some until
wait_of _ _ = None
