-- A core's entries as a book over devices shows them, and what its calls decide. This product's own.
use Rattle.std.specs.Prelude.{◌≡◌, ℕ, ◌≤◌, List, [], ◌∷◌, length, map, take, drop, reverse, Some, true, false}
use Rattle.std.specs.List.{All}
use Rattle.esm_model.specs.declared.limits.TheConstants.{MAX_BATCH}
use Rattle.esm_model.specs.Records.{Record}
use Rattle.esm_model.specs.declared.book.Change.{Change}
use Rattle.esm_model.specs.declared.book.Job.{Job}
use Rattle.esm_model.specs.declared.entry.Reply.{Reply}
use Rattle.esm_model.specs.declared.entry.Entry.{Entry}
use Rattle.esm_model.specs.declared.setup.Told.{Told}
use Rattle.esm_model.specs.declared.entry.Entry.TheVariants.{Came, Ended, Shut}
use Rattle.esm_model.specs.Setting.{Setting, Stream, records_of}
use Rattle.esm_model.specs.Entries.{is_shut}
use Rattle.esm_model.specs.Valid.{IsValidRecord}
use Rattle.esm_model.specs.Books.{entry_line}
use Rattle.esm_journal_record.specs.EntryPayload.{entry_payload}
use Rattle.esm_ingest.specs.Changes.{kept_otherwise}
use Rattle.esm_stream_core.specs.Standing.{can_pay}
use Rattle.esm_stream_core.specs.CoreView.{CoreView, full_setting, setting_with, LegalAhead, SettledAhead, owing}
use Rattle.esm_stream_core.specs.declared.decisions.Opened.{Opened}
use Rattle.esm_stream_core.specs.declared.decisions.StreamEntry.{StreamEntry}
use Rattle.esm_stream_core.specs.declared.decisions.StreamCall.{StreamCall}
use Rattle.esm_stream_core.specs.declared.decisions.StreamCall.TheVariants as call
use Rattle.esm_stream_core.specs.declared.decisions.StreamAnswer.{StreamAnswer}
use Rattle.esm_stream_core.specs.declared.decisions.StreamAnswer.TheVariants as answer
use Rattle.esm_stream_core.specs.Calls.{moment_for, coming_lists, came_entries, Differs, NoneDiffers, IsResting, IsNextOver, next_adds, IsRunningJob, ended_entries, given_by_end}

-- entries

-- the records that an entry covers
abbrev pub covered : Setting → Entry → List Record
covered s (Came shard first count moment) = take count (drop first (records_of s shard))
covered s _ = []

-- the entry with these, its payload and its line
abbrev pub stream_entry : Setting → Entry → StreamEntry
stream_entry s e = record { told = record { entry = e; records = covered s e; messages = [] }; payload = entry_payload s e; line = entry_line e }

abbrev pub stream_entries : Setting → List Entry → List StreamEntry
stream_entries s es = map (stream_entry s) es

abbrev pub history_of : CoreView → List StreamEntry
history_of v = stream_entries (full_setting v) v.past

abbrev pub owed_of : CoreView → List StreamEntry
owed_of v = stream_entries (full_setting v) v.owed

-- as threads pass them
abbrev pub told_entries : Setting → List Entry → List Told
told_entries s es = map (λ (x : StreamEntry). x.told) (stream_entries s es)

-- the whole history as threads pass it, its oldest entry first
abbrev pub told_of : CoreView → List Told
told_of v = told_entries (full_setting v) (reverse v.past)

abbrev pub opened : CoreView → Opened
opened v = record {
  config = v.setting.config;
  calls = v.setting.calls;
  fates = v.setting.fates;
  tries = v.setting.tries;
  states = v.setting.states;
  window_tries = v.setting.window_tries;
}

-- what is owed can be added
abbrev pub IsPayable : CoreView → Type 0
IsPayable v = can_pay v.standing ≡ true

-- calls

-- records may come to a book that is not shut
pub record MayCome (v : CoreView) (items : List Record) : Type 0 where
  pub going : is_shut v.past ≡ false
  pub few : length items ≤ MAX_BATCH
  pub valid : All IsValidRecord items

abbrev pub MayAsk : CoreView → StreamCall → Type 0
MayAsk v (call.Came items moment) = MayCome v items.items
MayAsk v (call.Shut moment) = is_shut v.past ≡ false
MayAsk v (call.Next batcher moment) = IsResting v batcher
MayAsk v (call.Done job reply moment) = IsRunningJob v.past job

-- these entries are added, and records come with them: with them the history is legal, and settled
pub record Adds (v : CoreView) (coming : List Stream) (es : List Entry) (entries : List StreamEntry) : Type 0 where
  pub entries_are : entries ≡ stream_entries (setting_with v.setting coming) es
  pub legal : LegalAhead (owing v coming es)
  pub settled : SettledAhead (owing v coming es)

abbrev pub DecidesCame : CoreView → List Record → ℕ → StreamAnswer → List StreamEntry → Type 0
DecidesCame v items m answer.Taken entries = NoneDiffers v items × Adds v (coming_lists v items) (came_entries v items m) entries
DecidesCame v items m _ entries = ⊥

-- of the batcher at the moment
abbrev pub DecidesNext : CoreView → ℕ → ℕ → StreamAnswer → List StreamEntry → Type 0
DecidesNext v k m (answer.Next next) entries = IsNextOver v k m next × Adds v [] (next_adds v k m next) entries
DecidesNext v k m _ entries = ⊥

abbrev pub DecidesDone : CoreView → Job → Reply → ℕ → StreamAnswer → List StreamEntry → Type 0
DecidesDone v job reply m (answer.Given count) entries = (count ≡ given_by_end v job.lane reply m) × Adds v [] (ended_entries v job.lane reply m) entries
DecidesDone v job reply m _ entries = ⊥

-- the end of the input is noted, and not decided
abbrev pub Decides : CoreView → StreamCall → StreamAnswer → List StreamEntry → Type 0
Decides v (call.Came items moment) a entries = DecidesCame v items.items (moment_for v.past moment) a entries
Decides v (call.Shut moment) a entries = ⊥
Decides v (call.Next batcher moment) a entries = DecidesNext v batcher (moment_for v.past moment) a entries
Decides v (call.Done job reply moment) a entries = DecidesDone v job reply (moment_for v.past moment) a entries

abbrev pub Refuses : CoreView → StreamCall → Change → Type 0
Refuses v (call.Came items moment) change = Differs v items.items change
Refuses v _ change = ⊥

-- the setting at opening: no record came
abbrev pub setting_opened : Opened → Setting
setting_opened o = record {
  config = o.config;
  calls = o.calls;
  streams = [];
  fates = o.fates;
  tries = o.tries;
  states = o.states;
  window_tries = o.window_tries;
}

-- another sequence number was kept of the place, with a fate or with tries, than is given now
abbrev pub IsChange : Opened → Change → Type 0
IsChange o change = kept_otherwise (setting_opened o) change.shard change.place change.given ≡ Some change.kept

-- what is noted of a call: the end of a call of the function, or of the input
abbrev pub noted_entries : CoreView → StreamCall → List Entry
noted_entries v (call.Came items moment) = []
noted_entries v (call.Shut moment) = Shut (moment_for v.past moment) ∷ []
noted_entries v (call.Next batcher moment) = []
noted_entries v (call.Done job reply moment) = Ended job.lane reply (moment_for v.past moment) ∷ []

abbrev pub Notes : CoreView → StreamCall → List StreamEntry → Type 0
Notes v asked entries = entries ≡ stream_entries (full_setting v) (noted_entries v asked)
