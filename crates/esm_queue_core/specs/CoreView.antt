-- What contracts see of a core: what its history is judged over, the history, and what is decided and not yet added. This
-- product's own.
use Rattle.std.specs.Prelude.{◌≡◌, ℕ, max, List, [], ◌∷◌, ◌++◌, reverse, take, drop, true}
use Rattle.esm_model.specs.Moment.{capped_moment}
use Rattle.esm_model.specs.declared.config.Config.{Config}
use Rattle.esm_model.specs.declared.item.Message.{Message}
use Rattle.esm_model.specs.declared.entry.Entry.{Entry}
use Rattle.esm_model.specs.declared.setup.FoundDeletion.{FoundDeletion}
use Rattle.esm_model.specs.declared.book.Job.{Job}
use Rattle.esm_model.specs.Entries.{last_moment, last_call, batch_of, is_running}
use Rattle.esm_queue_model.specs.QueueSetting.{QueueSetting, ExtendsMessages, over_messages}
use Rattle.esm_queue_model.specs.QueueStep.{LegalQueue, SettledQueue}

-- The setting has the messages that came; the newest entry of the history is first, and the oldest of the owed ones.
-- Messages are coming whose `Came` is owed.
pub record CoreView : Type 0 where
  pub setting : QueueSetting
  pub past : List Entry
  pub coming : List Message
  pub owed : List Entry

-- no message came
abbrev pub new_setting : Config → ℕ → ℕ → List FoundDeletion → QueueSetting
new_setting config calls visibility deletions = record { config = config; calls = calls; visibility = visibility; messages = []; deletions = deletions }

abbrev pub new_view : QueueSetting → CoreView
new_view s = record { setting = s; past = []; coming = []; owed = [] }

-- the moment of an entry that comes next: not before the last one
abbrev pub moment_for : List Entry → ℕ → ℕ
moment_for h moment = capped_moment (max moment (last_moment h))

-- the messages that came, and then those that are coming
abbrev pub all_messages : CoreView → List Message
all_messages v = v.setting.messages ++ v.coming

-- the history with all owed entries on it
abbrev pub ahead : CoreView → List Entry
ahead v = reverse v.owed ++ v.past

-- it is legal over all lists of messages that extend those that came or are coming
abbrev pub LegalAhead : CoreView → Type 0
LegalAhead v = (messages : List Message) → ExtendsMessages (all_messages v) messages → LegalQueue (over_messages v.setting messages) (ahead v)

-- and over all of them nothing is required that is not owed
abbrev pub SettledAhead : CoreView → Type 0
SettledAhead v = (messages : List Message) → ExtendsMessages (all_messages v) messages → SettledQueue (over_messages v.setting messages) (ahead v)

-- the job is its lane's running one
pub record IsRunningJob (h : List Entry) (job : Job) : Type 0 where
  pub runs : is_running h job.lane ≡ true
  pub places : job.places ≡ batch_of (last_call h job.lane)

-- what calls make of a core

-- entries are owed, and messages are coming
abbrev pub owing : CoreView → List Message → List Entry → CoreView
owing v coming entries = record v { coming = coming; owed = entries }

-- the first owed entry is added; the messages that are coming have come, since a `Came` is owed first
abbrev pub paid : CoreView → CoreView
paid v = record {
  setting = over_messages v.setting (all_messages v);
  past = take 1 v.owed ++ v.past;
  coming = [];
  owed = drop 1 v.owed;
}

-- nothing is owed any more
abbrev pub forgotten : CoreView → CoreView
forgotten v = record v { coming = []; owed = [] }

-- one more entry is added, and what it requires is not
abbrev pub noted : CoreView → Entry → CoreView
noted v e = record v { past = e ∷ v.past }
