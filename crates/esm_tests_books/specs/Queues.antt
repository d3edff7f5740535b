-- What the helpers of the tests know of a queue's book. Only this crate's tests cite this.
use Rattle.std.specs.Prelude.{◌≡◌, ℕ, ◌≤◌, List, [], length, false}
use Rattle.esm_model.specs.declared.book.Job.{Job}
use Rattle.esm_model.specs.declared.config.Config.{Config}
use Rattle.esm_model.specs.declared.config.Kind.TheVariants.{Standard}
use Rattle.esm_model.specs.declared.entry.Entry.{Entry}
use Rattle.esm_model.specs.Entries.{is_shut, is_running}
use Rattle.esm_model.specs.QueueEvent.{IsQueueConfig}
use Rattle.esm_queue_model.specs.QueueEntries.{queue_lane}
use Rattle.esm_queue_core.specs.CoreView.{CoreView, IsRunningJob}

-- the input has not ended, and batcher 0 has no running call
pub record Rests (h : List Entry) : Type 0 where
  pub going : is_shut h ≡ false
  pub idle : is_running h (queue_lane 0) ≡ false

-- a book of a standard queue at which at most `n` messages arrived
pub record IsReady (n : ℕ) (v : CoreView) : Type 0 where
  pub rests : Rests v.past
  pub kind : v.setting.config.kind ≡ Standard
  pub few : length v.setting.messages ≤ n

-- a standard queue's mapping without patterns
pub record IsQueue (c : Config) : Type 0 where
  pub config : IsQueueConfig c
  pub kind : c.kind ≡ Standard
  pub no_filters : c.filters ≡ []

-- the job's call is the running one of batcher 0
pub record Calls (h : List Entry) (job : Job) : Type 0 where
  pub lane : job.lane ≡ queue_lane 0
  pub runs : IsRunningJob h job
