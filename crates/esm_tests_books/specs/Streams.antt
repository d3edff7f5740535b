-- What the helpers of the tests know of a stream's book. Only this crate's tests cite this.
use Rattle.std.specs.Prelude.{◌≡◌, ◌≢◌, ℕ, List, Some, false}
use Rattle.esm_model.specs.declared.book.Job.{Job}
use Rattle.esm_model.specs.declared.config.Config.{Config}
use Rattle.esm_model.specs.declared.entry.Entry.{Entry}
use Rattle.esm_model.specs.declared.lane.LaneId.{LaneId}
use Rattle.esm_model.specs.Entries.{is_shut, is_running}
use Rattle.esm_model.specs.Worked.{plain_mapping}
use Rattle.esm_ledger.specs.Reading.{lane_of_batcher}
use Rattle.esm_stream_core.specs.CoreView.{CoreView}
use Rattle.esm_stream_core.specs.Calls.{IsResting, IsRunningJob}

-- the mapping of the stream `s` to the function `f`, with two lanes a shard and one retry
abbrev pub lanes_mapping : Config
lanes_mapping = record plain_mapping { factor = 2; retries = Some 1 }

-- the input has not ended, and no call is running
pub record IsOpen (h : List Entry) : Type 0 where
  pub going : is_shut h ≡ false
  pub quiet : (lane : LaneId) → is_running h lane ≡ false

-- the job's call is the running one of the batcher
pub record Runs (v : CoreView) (batcher : ℕ) (job : Job) : Type 0 where
  pub lane : lane_of_batcher v.setting v.past batcher ≡ Some job.lane
  pub job_is : IsRunningJob v.past job

-- what one batcher did leaves the calls of the others as they were, and does not end the input
pub record KeepsOthers (batcher : ℕ) (before after : CoreView) : Type 0 where
  pub going : is_shut after.past ≡ is_shut before.past
  pub rest : (other : ℕ) → other ≢ batcher → IsResting before other → IsResting after other
  pub run : (other : ℕ) (job : Job) → other ≢ batcher → Runs before other job → Runs after other job
