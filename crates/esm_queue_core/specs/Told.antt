-- A core's entries as a book over devices shows them, and what its calls decide. This product's own.
use Rattle.std.specs.Prelude.{◌≡◌, ℕ, ◌+◌, ◌^◌, ◌<◌, ◌≤◌, List, [], ◌∷◌, ◌++◌, length, map, take, drop, reverse, Option, Some, None, false}
use Rattle.std.specs.List.{All}
use Rattle.esm_model.specs.declared.limits.TheConstants.{MAX_BATCH}
use Rattle.esm_model.specs.declared.item.Message.{Message}
use Rattle.esm_model.specs.declared.book.Change.{Change}
use Rattle.esm_model.specs.declared.book.Job.{Job}
use Rattle.esm_model.specs.declared.entry.Reply.{Reply}
use Rattle.esm_model.specs.declared.entry.Entry.{Entry}
use Rattle.esm_model.specs.declared.entry.Entry.TheVariants.{Came, Ended, Shut}
use Rattle.esm_model.specs.declared.setup.FoundDeletion.{FoundDeletion}
use Rattle.esm_model.specs.declared.setup.Told.{Told}
use Rattle.esm_model.specs.Entries.{is_shut, is_running}
use Rattle.esm_model.specs.ValidMessage.{IsValidMessage}
use Rattle.esm_journal_record.specs.EntryPayload.{queue_payload}
use Rattle.esm_queue_model.specs.QueueEntries.{queue_lane}
use Rattle.esm_queue_core.specs.declared.decisions.Opened.{Opened}
use Rattle.esm_queue_core.specs.declared.decisions.QueueEntry.{QueueEntry}
use Rattle.esm_queue_core.specs.declared.decisions.QueueCall.{QueueCall}
use Rattle.esm_queue_core.specs.declared.decisions.QueueCall.TheVariants as call
use Rattle.esm_queue_core.specs.declared.decisions.QueueAnswer.{QueueAnswer}
use Rattle.esm_queue_core.specs.declared.decisions.QueueAnswer.TheVariants as answer
use Rattle.esm_queue_core.specs.CoreView.{CoreView, all_messages, moment_for, LegalAhead, SettledAhead, IsRunningJob, owing}
use Rattle.esm_queue_core.specs.Coming.{came_entries, deletion_at, IsFirstChange}
use Rattle.esm_queue_core.specs.Ending.{ended_places, ended_entries}
use Rattle.esm_queue_core.specs.Next.{next_for, next_entries}

-- entries

-- the messages that an entry covers, of the list of all
abbrev pub messages_of : List Message → Entry → List Message
messages_of messages (Came shard first count moment) = take count (drop first messages)
messages_of messages _ = []

-- the entry with these, and its payload
abbrev pub queue_entry : List Message → Entry → QueueEntry
queue_entry messages e = record { told = record { entry = e; records = []; messages = messages_of messages e }; payload = queue_payload messages e }

abbrev pub queue_entries : List Message → List Entry → List QueueEntry
queue_entries messages es = map (queue_entry messages) es

abbrev pub history_of : CoreView → List QueueEntry
history_of v = queue_entries (all_messages v) v.past

abbrev pub owed_of : CoreView → List QueueEntry
owed_of v = queue_entries (all_messages v) v.owed

-- as threads pass them
abbrev pub told_entries : List Message → List Entry → List Told
told_entries messages es = map (λ (x : QueueEntry). x.told) (queue_entries messages es)

-- the whole history as threads pass it, its oldest entry first
abbrev pub told_of : CoreView → List Told
told_of v = told_entries (all_messages v) (reverse v.past)

abbrev pub no_line : QueueEntry → Option (List ℕ)
no_line e = None

abbrev pub opened : CoreView → Opened
opened v = record { config = v.setting.config; calls = v.setting.calls; visibility_ms = v.setting.visibility; deletions = v.setting.deletions }

-- calls

-- messages may come to a book that is not shut
pub record MayCome (v : CoreView) (items : List Message) : Type 0 where
  pub going : is_shut v.past ≡ false
  pub few : length items ≤ MAX_BATCH
  pub valid : All (IsValidMessage v.setting.config.kind) items
  pub places : length v.setting.messages + length items < 2 ^ 32

abbrev pub MayAsk : CoreView → QueueCall → Type 0
MayAsk v (call.Came items moment) = MayCome v items.items
MayAsk v (call.Shut moment) = is_shut v.past ≡ false
MayAsk v (call.Next batcher moment) = is_running v.past (queue_lane batcher) ≡ false
MayAsk v (call.Done job reply moment) = IsRunningJob v.past job

-- these entries are added, and messages come with them: with them the history is legal, and settled
pub record Adds (v : CoreView) (coming : List Message) (es : List Entry) (entries : List QueueEntry) : Type 0 where
  pub entries_are : entries ≡ queue_entries (v.setting.messages ++ coming) es
  pub legal : LegalAhead (owing v coming es)
  pub settled : SettledAhead (owing v coming es)

abbrev pub DecidesCame : CoreView → List Message → ℕ → QueueAnswer → List QueueEntry → Type 0
DecidesCame v items m answer.Taken entries = Adds v items (came_entries v items m) entries
DecidesCame v items m _ entries = ⊥

-- of the batcher at the moment
abbrev pub DecidesNext : CoreView → ℕ → ℕ → QueueAnswer → List QueueEntry → Type 0
DecidesNext v k m (answer.Next next) entries = (next ≡ next_for v.setting v.past k m) × Adds v [] (next_entries next m) entries
DecidesNext v k m _ entries = ⊥

abbrev pub DecidesDone : CoreView → Job → Reply → ℕ → QueueAnswer → List QueueEntry → Type 0
DecidesDone v job reply m (answer.Deleted count) entries = (count ≡ length (ended_places v.setting v.past job.lane reply m)) × Adds v [] (ended_entries v.setting v.past job.lane reply m) entries
DecidesDone v job reply m _ entries = ⊥

-- the end of the input is noted, and not decided
abbrev pub Decides : CoreView → QueueCall → QueueAnswer → List QueueEntry → Type 0
Decides v (call.Came items moment) a entries = DecidesCame v items.items moment a entries
Decides v (call.Shut moment) a entries = ⊥
Decides v (call.Next batcher moment) a entries = DecidesNext v batcher (moment_for v.past moment) a entries
Decides v (call.Done job reply moment) a entries = DecidesDone v job reply (moment_for v.past moment) a entries

abbrev pub Refuses : CoreView → QueueCall → Change → Type 0
Refuses v (call.Came items moment) change = IsFirstChange v items.items change
Refuses v _ change = ⊥

-- the message at the place was found deleted, and another id is given now than was kept
pub record IsChange (o : Opened) (change : Change) : Type 0 where
  pub found : FoundDeletion
  pub queue : change.shard ≡ 0
  pub deletion : deletion_at o.deletions change.place ≡ Some found
  pub kept : change.kept ≡ found.text
  pub differs : change.given ≡ found.text → ⊥

-- what is noted of a call: the end of a call of the function, or of the input
abbrev pub noted_entries : CoreView → QueueCall → List Entry
noted_entries v (call.Came items moment) = []
noted_entries v (call.Shut moment) = Shut (moment_for v.past moment) ∷ []
noted_entries v (call.Next batcher moment) = []
noted_entries v (call.Done job reply moment) = Ended job.lane reply (moment_for v.past moment) ∷ []

abbrev pub Notes : CoreView → QueueCall → List QueueEntry → Type 0
Notes v asked entries = entries ≡ queue_entries (all_messages v) (noted_entries v asked)
