-- What contracts see of a replay's core: what it was opened with, the records that arrived, the history, and what is
-- decided and not yet added. This product's own.
use Rattle.std.specs.Prelude.{◌≡◌, ℕ, ◌≤◌, max, List, [], ◌∷◌, ◌++◌, length, take, drop, reverse}
use Rattle.esm_model.specs.Records.{Record}
use Rattle.esm_model.specs.declared.book.Job.{Job}
use Rattle.esm_model.specs.declared.entry.Entry.{Entry}
use Rattle.esm_model.specs.Moment.{capped_moment}
use Rattle.esm_model.specs.Entries.{last_moment}
use Rattle.esm_journal_record.specs.EntryPayload.{AllMayBeSaid}
use Rattle.esm_replay_model.specs.ReplaySetting.{ReplaySetting}
use Rattle.esm_replay_model.specs.ReplayRun.{replay_lane, call_out, IsReplay}
use Rattle.esm_replay.specs.Records.{setting_with}
use Rattle.esm_replay_core.specs.declared.decisions.Opened.{Opened}

-- The records are in the order of their arrival; the history has its newest entry first. `coming` are records whose
-- arrival is owed; the owed entries are oldest first.
pub record ReplayView : Type 0 where
  pub opened : Opened
  pub records : List Record
  pub past : List Entry
  pub coming : List Record
  pub owed : List Entry

-- the setting over which the history is judged
abbrev pub setting_of : ReplayView → ReplaySetting
setting_of v = setting_with v.opened.config v.opened.calls v.opened.said v.opened.ranges v.records

abbrev pub new_view : Opened → ReplayView
new_view opened = record { opened = opened; records = []; past = []; coming = []; owed = [] }

-- the moment of the next entry: not before the last one
abbrev pub moment_for : List Entry → ℕ → ℕ
moment_for h moment = capped_moment (max moment (last_moment h))

-- the job is the running call
pub record IsJobOut (h : List Entry) (job : Job) : Type 0 where
  pub lane : job.lane ≡ replay_lane (call_out h).shard
  pub places : job.places ≡ (call_out h).places
  pub some : 1 ≤ length job.places

-- the history with all owed entries is a run
abbrev pub RunAhead : ReplayView → Type 0
RunAhead v = IsReplay (setting_of v) (reverse v.owed ++ v.past)

-- and the journal accepts the payloads of all of it
abbrev pub SaidAhead : ReplayView → Type 0
SaidAhead v = AllMayBeSaid (setting_of v).base (reverse v.owed ++ v.past)

-- what a core turns into

abbrev pub owing : ReplayView → List Record → List Entry → ReplayView
owing v coming entries = record v { coming = coming; owed = entries }

-- the first arriving record has arrived, or else the first owed entry is added
abbrev pub paid_from : ReplayView → List Record → ReplayView
paid_from v [] = record v { past = take 1 v.owed ++ v.past; owed = drop 1 v.owed }
paid_from v (r ∷ rs) = record v { records = v.records ++ r ∷ []; coming = rs }

abbrev pub paid : ReplayView → ReplayView
paid v = paid_from v v.coming

abbrev pub forgotten : ReplayView → ReplayView
forgotten v = record v { coming = []; owed = [] }
