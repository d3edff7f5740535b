-- The entries of a redrive's core as a book over devices sees them, and what its calls decide. This product's own.
use Rattle.std.specs.Prelude.{◌≡◌, ◌+◌, ◌^◌, ◌<◌, ◌≤◌, List, [], ◌∷◌, ◌++◌, length, map, take, drop, reverse, Some, false}
use Rattle.std.specs.List.{All}
use Rattle.esm_model.specs.declared.limits.TheConstants.{MAX_BATCH}
use Rattle.esm_model.specs.declared.item.Message.{Message}
use Rattle.esm_model.specs.declared.book.Change.{Change}
use Rattle.esm_model.specs.declared.entry.Entry.{Entry}
use Rattle.esm_model.specs.declared.entry.Entry.TheVariants.{Came, Ended, Shut}
use Rattle.esm_model.specs.declared.setup.FoundDeletion.{FoundDeletion}
use Rattle.esm_model.specs.declared.setup.Told.{Told}
use Rattle.esm_model.specs.Books.{entry_line}
use Rattle.esm_model.specs.Entries.{is_shut, is_running}
use Rattle.esm_model.specs.ValidMessage.{IsValidMessage}
use Rattle.esm_journal_record.specs.EntryPayload.{queue_payload}
use Rattle.esm_queue_model.specs.QueueEntries.{queue_lane}
use Rattle.esm_queue_core.specs.CoreView.{moment_for}
use Rattle.esm_queue_core.specs.Coming.{deletion_at, NoneHasChanged}
use Rattle.esm_redrive_core.specs.declared.decisions.RedriveOpened.{RedriveOpened}
use Rattle.esm_redrive_core.specs.declared.decisions.RedriveEntry.{RedriveEntry}
use Rattle.esm_redrive_core.specs.declared.decisions.RedriveCall.{RedriveCall}
use Rattle.esm_redrive_core.specs.declared.decisions.RedriveCall.TheVariants as call
use Rattle.esm_redrive_core.specs.declared.decisions.RedriveAnswer.{RedriveAnswer}
use Rattle.esm_redrive_core.specs.declared.decisions.RedriveAnswer.TheVariants as answer
use Rattle.esm_redrive_core.specs.RedriveView.{RedriveView, all_messages, IsRunningJob}
use Rattle.esm_redrive_core.specs.Refusing.{IsFirstChange}
use Rattle.esm_redrive_core.specs.Adding.{came_entries, redrive_next, redrive_next_entries, ended_entries}
use Rattle.esm_redrive_core.specs.Sound.{ended_places}

-- entries

-- the messages that an entry covers, from the list of all
abbrev pub messages_of : List Message → Entry → List Message
messages_of messages (Came shard first count moment) = take count (drop first messages)
messages_of messages _ = []

-- the entry with what is written of it
abbrev pub redrive_entry : List Message → Entry → RedriveEntry
redrive_entry messages e = record { told = record { entry = e; records = []; messages = messages_of messages e }; payload = queue_payload messages e; line = entry_line e }

abbrev pub redrive_entries : List Message → List Entry → List RedriveEntry
redrive_entries messages es = map (redrive_entry messages) es

abbrev pub history_of : RedriveView → List RedriveEntry
history_of v = redrive_entries (all_messages v) v.past

abbrev pub owed_of : RedriveView → List RedriveEntry
owed_of v = redrive_entries (all_messages v) v.owed

-- the entries with the messages that they cover, as `Told` has them
abbrev pub told_entries : List Message → List Entry → List Told
told_entries messages es = map (λ (x : RedriveEntry). x.told) (redrive_entries messages es)

-- the whole history in this form, oldest entry first
abbrev pub told_of : RedriveView → List Told
told_of v = told_entries (all_messages v) (reverse v.past)

abbrev pub opened : RedriveView → RedriveOpened
opened v = record {
  config = v.setting.queue.config;
  calls = v.setting.queue.calls;
  visibility_ms = v.setting.queue.visibility;
  max_receives = v.setting.max_receives;
  deletions = v.setting.queue.deletions;
  dead_ids = v.setting.dead_ids;
}

-- calls

-- messages may arrive at a core that is not shut
pub record MayCome (v : RedriveView) (items : List Message) : Type 0 where
  pub going : is_shut v.past ≡ false
  pub few : length items ≤ MAX_BATCH
  pub valid : All (IsValidMessage v.setting.queue.config.kind) items
  pub places : length v.setting.queue.messages + length items < 2 ^ 32

abbrev pub MayAsk : RedriveView → RedriveCall → Type 0
MayAsk v (call.Came items moment) = MayCome v items.items
MayAsk v (call.Shut moment) = is_shut v.past ≡ false
MayAsk v (call.Next moment) = is_running v.past (queue_lane 0) ≡ false
MayAsk v (call.Done job reply moment) = IsRunningJob v.past job

-- the messages that arrive with the call
abbrev pub coming_by : RedriveCall → List Message
coming_by (call.Came items moment) = items.items
coming_by _ = []

-- the entries that the call adds, oldest first
abbrev pub entries_by : RedriveView → RedriveCall → List Entry
entries_by v (call.Came items moment) = came_entries v items.items moment
entries_by v (call.Shut moment) = []
entries_by v (call.Next moment) = redrive_next_entries v.setting v.past (moment_for v.past moment)
entries_by v (call.Done job reply moment) = ended_entries v.setting v.past reply (moment_for v.past moment)

-- the answer to the call; messages are taken if none was found deleted with another id; the end of the input is noted and
-- not decided
abbrev pub IsAnswer : RedriveView → RedriveCall → RedriveAnswer → Type 0
IsAnswer v (call.Came items moment) answer.Taken = NoneHasChanged v.setting.queue.deletions (length v.setting.queue.messages) items.items (length items.items)
IsAnswer v (call.Next moment) (answer.Next next) = next ≡ redrive_next v.setting v.past (moment_for v.past moment)
IsAnswer v (call.Done job reply moment) (answer.Deleted count) = count ≡ length (ended_places v.setting v.past reply (moment_for v.past moment))
IsAnswer v _ _ = ⊥

pub record Decides (v : RedriveView) (asked : RedriveCall) (given : RedriveAnswer) (entries : List RedriveEntry) : Type 0 where
  pub answer_is : IsAnswer v asked given
  pub entries_are : entries ≡ redrive_entries (v.setting.queue.messages ++ coming_by asked) (entries_by v asked)

abbrev pub Refuses : RedriveView → RedriveCall → Change → Type 0
Refuses v (call.Came items moment) change = IsFirstChange v items.items change
Refuses v _ change = ⊥

-- the message at the place was found deleted, and the id that is given now differs from the one that was kept
pub record IsChange (o : RedriveOpened) (change : Change) : Type 0 where
  pub found : FoundDeletion
  pub queue : change.shard ≡ 0
  pub deletion : deletion_at o.deletions change.place ≡ Some found
  pub kept : change.kept ≡ found.text
  pub differs : change.given ≡ found.text → ⊥

-- what is noted of a call: the end of a call of the function, or of the input
abbrev pub noted_entries : RedriveView → RedriveCall → List Entry
noted_entries v (call.Came items moment) = []
noted_entries v (call.Shut moment) = Shut (moment_for v.past moment) ∷ []
noted_entries v (call.Next moment) = []
noted_entries v (call.Done job reply moment) = Ended job.lane reply (moment_for v.past moment) ∷ []

abbrev pub Notes : RedriveView → RedriveCall → List RedriveEntry → Type 0
Notes v asked entries = entries ≡ redrive_entries (all_messages v) (noted_entries v asked)
