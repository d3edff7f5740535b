-- What a batcher of a stream's book knows of the history that the seats of a turn share. This product's own.
use Rattle.std.specs.Prelude.{◌≡◌, ℕ, ◌≤◌, true, false, List}
use Rattle.esm_model.specs.declared.book.Job.{Job}
use Rattle.esm_model.specs.declared.called.Called.{Called}
use Rattle.esm_model.specs.declared.lane.LaneId.{LaneId}
use Rattle.esm_model.specs.declared.setup.Setup.{Setup}
use Rattle.esm_model.specs.declared.setup.Told.{Told}
use Rattle.esm_model.specs.Entries.{batcher, is_running, came_count, last_call, batch_of}
use Rattle.esm_model.specs.Calls.{calls, last_event}
use Rattle.esm_model.specs.Books.{entries_told, setting_told}

-- the calls of the batcher that ended, oldest first, as its caller logs them
abbrev pub calls_told : Setup → (List ℕ → List ℕ) → List Told → ℕ → List Called
calls_told setup sends history k = calls (setting_told setup history) sends (entries_told history) k

-- the lane is served by the batcher
abbrev pub IsServed : Setup → List Told → ℕ → LaneId → Type 0
IsServed setup history k lane = batcher (setting_told setup history) (entries_told history) lane ≡ k

-- no lane of the batcher runs a call
abbrev pub Rests : Setup → List Told → ℕ → Type 0
Rests setup history k = (lane : LaneId) → IsServed setup history k lane → is_running (entries_told history) lane ≡ false

-- the job is that of the call that a lane of the batcher runs
pub record RunsJob (setup : Setup) (history : List Told) (k : ℕ) (job : Job) : Type 0 where
  pub served : IsServed setup history k job.lane
  pub came : 1 ≤ came_count (entries_told history) job.lane.shard
  pub running : is_running (entries_told history) job.lane ≡ true
  pub places : job.places ≡ batch_of (last_call (entries_told history) job.lane)
  pub event : job.event ≡ last_event (setting_told setup history) (entries_told history) job.lane
