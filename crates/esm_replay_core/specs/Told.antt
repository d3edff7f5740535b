-- A core's entries as a book over devices sees them, and what its calls decide. This product's own.
use Rattle.std.specs.Prelude.{◌≡◌, ℕ, ◌+◌, ◌<◌, ◌≤◌, ◌^◌, List, [], ◌++◌, length, map, reverse, Option, Some, None}
use Rattle.std.specs.List.{All}
use Rattle.esm_model.specs.Records.{Record}
use Rattle.esm_model.specs.declared.book.Change.{Change}
use Rattle.esm_model.specs.declared.book.Job.{Job}
use Rattle.esm_model.specs.declared.entry.Reply.{Reply}
use Rattle.esm_model.specs.declared.entry.Entry.{Entry}
use Rattle.esm_model.specs.Valid.{IsValidRecord}
use Rattle.esm_journal_record.specs.EntryPayload.{entry_payload}
use Rattle.esm_replay_model.specs.ReplaySetting.{ReplaySetting}
use Rattle.esm_replay_model.specs.ReplayRun.{call_out}
use Rattle.esm_replay_core.specs.declared.decisions.Opened.{Opened}
use Rattle.esm_replay_core.specs.declared.decisions.ReplayEntry.{ReplayEntry}
use Rattle.esm_replay_core.specs.declared.decisions.ReplayEntry.TheVariants.{Came, Added}
use Rattle.esm_replay_core.specs.declared.decisions.ReplayCall.{ReplayCall}
use Rattle.esm_replay_core.specs.declared.decisions.ReplayCall.TheVariants as call
use Rattle.esm_replay_core.specs.declared.decisions.ReplayAnswer.{ReplayAnswer}
use Rattle.esm_replay_core.specs.declared.decisions.ReplayAnswer.TheVariants as answer
use Rattle.esm_replay_core.specs.View.{ReplayView, setting_of, moment_for, IsJobOut, RunAhead, owing}
use Rattle.esm_replay_core.specs.Deciding.{next_of, next_entries, done_entries, done_count}
use Rattle.esm_replay.specs.Coming.{first_change, IsKeptChange}

-- entries

abbrev pub came_entries : List Record → List ReplayEntry
came_entries rs = map (λ (r : Record). Came r) rs

abbrev pub added_entry : ReplaySetting → Entry → ReplayEntry
added_entry s e = Added e (entry_payload s.base e)

abbrev pub added_entries : ReplaySetting → List Entry → List ReplayEntry
added_entries s es = map (added_entry s) es

abbrev pub history_of : ReplayView → List ReplayEntry
history_of v = added_entries (setting_of v) v.past ++ came_entries (reverse v.records)

abbrev pub owed_of : ReplayView → List ReplayEntry
owed_of v = came_entries v.coming ++ added_entries (setting_of v) v.owed

abbrev pub payload_in : ReplayEntry → Option (List ℕ)
payload_in (Came r) = None
payload_in (Added e payload) = payload

abbrev pub no_line : ReplayEntry → Option (List ℕ)
no_line e = None

-- records arrive only before the first call begins
abbrev pub IsPayable : ReplayView → Type 0
IsPayable v = 1 ≤ length v.coming → (v.past ≡ []) × (v.owed ≡ [])

-- calls

-- records may arrive before the first call began
pub record MayCome (v : ReplayView) (items : List Record) : Type 0 where
  pub early : v.past ≡ []
  pub valid : All IsValidRecord items
  pub places : length v.records + length items < 2 ^ 32

abbrev pub MayAsk : ReplayView → ReplayCall → Type 0
MayAsk v (call.Came items) = MayCome v items.items
MayAsk v (call.Next moment) = (call_out v.past).places ≡ []
MayAsk v (call.Done job reply moment) = IsJobOut v.past job

-- these entries are owed, and with them the history is a run
pub record Adds (v : ReplayView) (es : List Entry) (entries : List ReplayEntry) : Type 0 where
  pub entries_are : entries ≡ added_entries (setting_of v) es
  pub run : RunAhead (owing v [] es)

-- the records arrive; none of them differs from what was kept
abbrev pub DecidesCame : ReplayView → List Record → ReplayAnswer → List ReplayEntry → Type 0
DecidesCame v items answer.Taken entries = (first_change v.opened.said v.records items ≡ None) × (entries ≡ came_entries items)
DecidesCame v items _ entries = ⊥

abbrev pub DecidesNext : ReplayView → ℕ → ReplayAnswer → List ReplayEntry → Type 0
DecidesNext v m (answer.Next next) entries = (next ≡ next_of (setting_of v) v.past) × Adds v (next_entries next m) entries
DecidesNext v m _ entries = ⊥

abbrev pub DecidesDone : ReplayView → Job → Reply → ℕ → ReplayAnswer → List ReplayEntry → Type 0
DecidesDone v job reply m (answer.Replayed count) entries = (count ≡ done_count (setting_of v) v.past reply) × Adds v (done_entries (setting_of v) v.past job.lane reply m) entries
DecidesDone v job reply m _ entries = ⊥

abbrev pub Decides : ReplayView → ReplayCall → ReplayAnswer → List ReplayEntry → Type 0
Decides v (call.Came items) a entries = DecidesCame v items.items a entries
Decides v (call.Next moment) a entries = DecidesNext v (moment_for v.past moment) a entries
Decides v (call.Done job reply moment) a entries = DecidesDone v job reply (moment_for v.past moment) a entries

abbrev pub Refuses : ReplayView → ReplayCall → Change → Type 0
Refuses v (call.Came items) change = first_change v.opened.said v.records items.items ≡ Some change
Refuses v (call.Next moment) change = ⊥
Refuses v (call.Done job reply moment) change = ⊥

abbrev pub IsChange : Opened → Change → Type 0
IsChange o change = IsKeptChange o.said change

-- a call of a replay that is down adds nothing
abbrev pub Notes : ReplayView → ReplayCall → List ReplayEntry → Type 0
Notes v asked entries = entries ≡ []
