-- What contracts see of the core of a redrive: the setting over which its history is judged, the history, and what is
-- decided and not yet added. This product's own.
use Rattle.std.specs.Prelude.{◌≡◌, ℕ, List, [], ◌∷◌, ◌++◌, take, drop, true}
use Rattle.esm_model.specs.declared.config.Config.{Config}
use Rattle.esm_model.specs.declared.item.Message.{Message}
use Rattle.esm_model.specs.declared.entry.Entry.{Entry}
use Rattle.esm_model.specs.declared.setup.FoundDeletion.{FoundDeletion}
use Rattle.esm_model.specs.declared.book.Job.{Job}
use Rattle.esm_model.specs.Entries.{last_call, batch_of, is_running}
use Rattle.esm_queue_model.specs.QueueEntries.{queue_lane}
use Rattle.esm_redrive_model.specs.RedriveSetting.{RedriveSetting, redrive_over}

-- The setting has the messages that arrived; the history has its newest entry first. `coming` are messages whose `Came`
-- is owed; the owed entries are oldest first.
pub record RedriveView : Type 0 where
  pub setting : RedriveSetting
  pub past : List Entry
  pub coming : List Message
  pub owed : List Entry

-- no message has arrived
abbrev pub new_setting : Config → ℕ → ℕ → List FoundDeletion → ℕ → List (List ℕ) → RedriveSetting
new_setting config calls visibility deletions max_receives dead_ids = record {
  queue = record { config = config; calls = calls; visibility = visibility; messages = []; deletions = deletions };
  max_receives = max_receives;
  dead_ids = dead_ids;
}

abbrev pub new_view : RedriveSetting → RedriveView
new_view s = record { setting = s; past = []; coming = []; owed = [] }

-- the messages that arrived, and then those that are arriving
abbrev pub all_messages : RedriveView → List Message
all_messages v = v.setting.queue.messages ++ v.coming

-- the job is the running one of batcher 0
pub record IsRunningJob (h : List Entry) (job : Job) : Type 0 where
  pub lane : job.lane ≡ queue_lane 0
  pub runs : is_running h (queue_lane 0) ≡ true
  pub places : job.places ≡ batch_of (last_call h (queue_lane 0))

-- what a core turns into

-- entries are owed, and messages are arriving
abbrev pub owing : RedriveView → List Message → List Entry → RedriveView
owing v coming entries = record v { coming = coming; owed = entries }

-- the first owed entry is added; arriving messages have then arrived, since their `Came` is owed first
abbrev pub paid : RedriveView → RedriveView
paid v = record {
  setting = redrive_over v.setting (all_messages v);
  past = take 1 v.owed ++ v.past;
  coming = [];
  owed = drop 1 v.owed;
}

-- nothing is owed any more
abbrev pub forgotten : RedriveView → RedriveView
forgotten v = record v { coming = []; owed = [] }

-- one more entry is added, but not what it requires
abbrev pub noted : RedriveView → Entry → RedriveView
noted v e = record v { past = e ∷ v.past }
