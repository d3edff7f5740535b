-- The event of a call, and the calls of a batcher. Source of the event: the Lambda Developer Guide, event source
-- mappings for Kinesis (the record event, and `window`, `state` and `isFinalInvokeForWindow` of tumbling windows).
use Rattle.std.specs.Prelude.{ℕ, ◌==◌, Bool, false, ◌||◌, List, [], ◌∷◌, ◌++◌, Option, Some, None, unwrap_or, slice_index, is_some, if◌then◌else◌}
use Rattle.esm_model.specs.Lane.{same_lane}
use Rattle.esm_model.specs.declared.lane.LaneId.{LaneId}
use Rattle.esm_model.specs.declared.entry.Entry.{Entry}
use Rattle.esm_model.specs.declared.entry.Entry.TheVariants.{Began, Ended}
use Rattle.esm_model.specs.declared.event.WindowCall.{WindowCall}
use Rattle.esm_model.specs.declared.called.Called.{Called}
use Rattle.esm_model.specs.Setting.{Setting, records_at}
use Rattle.esm_model.specs.Entries.{batcher}
use Rattle.esm_model.specs.Windows.{has_windows, window_of, window_state}
use Rattle.esm_model.specs.EventText.{event_text}

-- the window of a call: the one that it closes, else that of its first record
abbrev pub window_of_call : Setting → ℕ → List ℕ → Option ℕ → ℕ
window_of_call s n places closing = unwrap_or closing (window_of s n (slice_index places 0))

-- what the event of a call says of its window, with the state before the call; nothing without tumbling windows
abbrev pub window_call : Setting → List Entry → ℕ → List ℕ → Option ℕ → Option WindowCall
window_call s h n places closing =
    if has_windows s.config
    then Some (record {
      shard = n;
      state = record { window = window_of_call s n places closing; text = window_state s h n (window_of_call s n places closing) };
      closing = is_some closing;
    })
    else None

-- the event text of a call that begins after the history
abbrev pub event_of : Setting → List Entry → ℕ → List ℕ → Option ℕ → List ℕ
event_of s h n places closing = event_text s.config (records_at s n places) (window_call s h n places closing)

-- the calls of a batcher

abbrev pub event_after : Setting → List Entry → LaneId → List ℕ → Entry → List ℕ
event_after s h lane before (Began at places closing moment) = if same_lane at lane then event_of s h lane.shard places closing else before
event_after s h lane before _ = before

-- the event text of the lane's last call
abbrev pub last_event : Setting → List Entry → LaneId → List ℕ
last_event s [] lane = []
last_event s (e ∷ h) lane = event_after s h lane (last_event s h lane) e

abbrev pub calls_after : Setting → (List ℕ → List ℕ) → List Entry → ℕ → List Called → Entry → List Called
calls_after s sends h k before (Ended lane reply moment) =
    if batcher s h lane == k
    then before ++ record { name = s.config.function; event = sends (last_event s h lane); reply = reply } ∷ []
    else before
calls_after s sends h k before _ = before

-- the calls of the batcher's lane that ended, oldest first, as its caller logs them; `sends` maps an event to the bytes that
-- the caller sends
abbrev pub calls : Setting → (List ℕ → List ℕ) → List Entry → ℕ → List Called
calls s sends [] k = []
calls s sends (e ∷ h) k = calls_after s sends h k (calls s sends h k) e

-- what a history adds to the one that it follows

-- the calls of the batcher that end in `later`, oldest first
abbrev pub calls_since : Setting → (List ℕ → List ℕ) → (later before : List Entry) → ℕ → List Called
calls_since s sends [] before k = []
calls_since s sends (e ∷ later) before k = calls_after s sends (later ++ before) k (calls_since s sends later before k) e

-- the entry, which follows the history, ends a call of the batcher
abbrev pub is_end_of : Setting → List Entry → ℕ → Entry → Bool
is_end_of s h k (Ended lane reply moment) = batcher s h lane == k
is_end_of s h k _ = false

-- some entry of `later` ends a call of the batcher
abbrev pub has_end_of : Setting → (later before : List Entry) → ℕ → Bool
has_end_of s [] before k = false
has_end_of s (e ∷ later) before k = is_end_of s (later ++ before) k e || has_end_of s later before k
