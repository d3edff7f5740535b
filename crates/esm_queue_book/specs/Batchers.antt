-- What a batcher of a queue's book knows of the history that the seats of a turn share. This product's own.
use Rattle.std.specs.Prelude.{◌≡◌, ℕ, true, false, List}
use Rattle.esm_model.specs.declared.book.Job.{Job}
use Rattle.esm_model.specs.declared.called.Called.{Called}
use Rattle.esm_model.specs.declared.setup.Setup.{Setup}
use Rattle.esm_model.specs.declared.setup.Told.{Told}
use Rattle.esm_model.specs.Entries.{is_running, last_call, batch_of}
use Rattle.esm_model.specs.Books.{entries_told}
use Rattle.esm_queue_model.specs.QueueBatch.{queue_calls, last_queue_event}
use Rattle.esm_queue_model.specs.QueueBooks.{queue_setting_told}
use Rattle.esm_queue_model.specs.QueueEntries.{queue_lane}

-- the calls of the batcher that ended, oldest first, as its caller logs them
abbrev pub queue_calls_told : Setup → (List ℕ → List ℕ) → List Told → ℕ → List Called
queue_calls_told setup sends history k = queue_calls (queue_setting_told setup history) sends (entries_told history) k

-- the batcher runs no call
abbrev pub QueueRests : Setup → List Told → ℕ → Type 0
QueueRests setup history k = is_running (entries_told history) (queue_lane k) ≡ false

-- the job is that of the call that the batcher runs
pub record RunsQueueJob (setup : Setup) (history : List Told) (k : ℕ) (job : Job) : Type 0 where
  pub lane : job.lane ≡ queue_lane k
  pub running : is_running (entries_told history) (queue_lane k) ≡ true
  pub places : job.places ≡ batch_of (last_call (entries_told history) (queue_lane k))
  pub event : job.event ≡ last_queue_event (queue_setting_told setup history) (entries_told history) (queue_lane k)
