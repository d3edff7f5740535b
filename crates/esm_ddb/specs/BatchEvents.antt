-- The events of a run over records that carry elements: each call gets exactly the elements of its batch, also in a
-- tumbling window.
use Rattle.std.specs.Prelude.{◌≡◌, ℕ, ◌==◌, true, List, [], ◌∷◌, ◌++◌, Some, if◌then◌else◌}
use Rattle.std.specs.List.{All}
use Rattle.esm_model.specs.Calls.{calls, last_event, window_call}
use Rattle.esm_model.specs.Entries.{batcher, is_running}
use Rattle.esm_model.specs.Lane.{same_lane}
use Rattle.esm_model.specs.Setting.{Setting, found_state, records_at, records_of}
use Rattle.esm_model.specs.Step.{Legal}
use Rattle.esm_model.specs.Valid.{IsStreamConfig}
use Rattle.esm_model.specs.Windows.{has_windows, kept_state}
use Rattle.esm_model.specs.declared.called.Called.{Called}
use Rattle.esm_model.specs.declared.entry.Entry.{Entry}
use Rattle.esm_model.specs.declared.entry.Entry.TheVariants.{Began, Ended}
use Rattle.esm_model.specs.declared.lane.LaneId.{LaneId}
use Rattle.esm_ddb.specs.Event.{ddb_event}
use Rattle.esm_ddb.specs.LineByLine.{IsOfChange}
use Rattle.esm_ddb.specs.RunEvent.{IsState, elements_event}
use Rattle.esm_ddb.specs.Translating.{source_of}

-- ---- what is required

-- each window state that was found at opening reads as a JSON object
abbrev pub AreStates : Setting → Type 0
AreStates s = (n w : ℕ) (text : List ℕ) → found_state s n w ≡ Some text → IsState text

-- this holds where none was found
abbrev pub AreStatesWhereNone : Type 0
AreStatesWhereNone = (s : Setting) → s.states ≡ [] → AreStates s

-- and where it holds, each state that a legal history keeps also reads so
abbrev pub AreStatesKept : Type 0
AreStatesKept = (s : Setting) → AreStates s → (h : List Entry) → Legal s h → (n w : ℕ) (text : List ℕ) → kept_state s h n w ≡ Some text → IsState text

-- required only where windows are configured
abbrev pub AreStatesOfWindows : Setting → Type 0
AreStatesOfWindows s = has_windows s.config ≡ true → AreStates s

-- each record is that of a change
abbrev pub AreRecordsOfChanges : Setting → Type 0
AreRecordsOfChanges s = (n : ℕ) → All (IsOfChange (source_of s.config)) (records_of s n)

-- ---- what is sent

-- the event of the lane's last call: the elements of its batch, and what the event says of its window
abbrev pub last_elements : Setting → List Entry → LaneId → List ℕ
last_elements s [] lane = []
last_elements s (Began at places closing moment ∷ h) lane =
    if same_lane at lane then elements_event s.config (records_at s lane.shard places) (window_call s h lane.shard places closing) else last_elements s h lane
last_elements s (e ∷ h) lane = last_elements s h lane

-- the ended calls of the batcher with number k, oldest first, each with that event; `sends` gives the bytes that are sent
-- for it
abbrev pub element_calls : Setting → (List ℕ → List ℕ) → List Entry → ℕ → List Called
element_calls s sends [] k = []
element_calls s sends (Ended lane reply moment ∷ h) k =
    if batcher s h lane == k
    then element_calls s sends h k ++ record { name = s.config.function; event = sends (last_elements s h lane); reply = reply } ∷ []
    else element_calls s sends h k
element_calls s sends (e ∷ h) k = element_calls s sends h k

-- Over a legal history with such records these are the calls of each batcher, if each event is sent as its `ddb_event`.
abbrev pub HaveTheirElements : Type 0
HaveTheirElements = (s : Setting) (sends : List ℕ → List ℕ) (h : List Entry) → Legal s h → IsStreamConfig s.config → AreStatesOfWindows s → AreRecordsOfChanges s
    → (k : ℕ) → calls s (λ event. sends (ddb_event event)) h k ≡ element_calls s sends h k

-- the same of the event of each call that is still running
abbrev pub HaveTheirElementsRunning : Type 0
HaveTheirElementsRunning = (s : Setting) (h : List Entry) → Legal s h → IsStreamConfig s.config → AreStatesOfWindows s → AreRecordsOfChanges s
    → (lane : LaneId) → is_running h lane ≡ true → ddb_event (last_event s h lane) ≡ last_elements s h lane
