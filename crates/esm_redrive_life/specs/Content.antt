-- What the journal's content says after a history of a queue: that of a redrive or of an ordinary run. A content has its
-- oldest payload first, a history its newest entry. This product's own.
use Rattle.std.specs.Prelude.{◌≡◌, ◌++◌, ◌<◌, ◌^◌, ℕ, List, length, Option, Some, None, filter_map, is_some, option_map, reverse}
use Rattle.std.specs.List.{All}
use Rattle.std.specs.Option.{option_or}
use Rattle.esm_model.specs.declared.entry.Entry.{Entry}
use Rattle.esm_model.specs.declared.entry.Fate.{Fate}
use Rattle.esm_model.specs.declared.item.Message.{Message}
use Rattle.esm_model.specs.Fates.{given}
use Rattle.esm_model.specs.ValidMessage.{IsValidMessage}
use Rattle.esm_journal_record.specs.EntryPayload.{queue_payload}
use Rattle.esm_journal_state.specs.declared.kept.KeptFate.{KeptFate}
use Rattle.esm_journal_state.specs.Meaning.{deletion_said, fate_kept, history}
use Rattle.esm_journal_state.specs.SaidLists.{SaidLists}
use Rattle.esm_journal_state.specs.Tells.{Tells}
use Rattle.esm_queue_model.specs.QueueEntries.{deletion_fate, is_deleted, queue_count}
use Rattle.esm_queue_model.specs.QueueSetting.{QueueSetting, message_at}

-- the found deletions of the setting are those that this content says
pub record IsOpenedOver (s : QueueSetting) (content : List (List ℕ)) : Type 0 where
  pub told : SaidLists
  pub tells : Tells told (history (reverse content))
  pub found : s.deletions ≡ told.deletions

-- the messages are valid, as an input gives them, and a payload can name their places
pub record HasValidMessages (s : QueueSetting) : Type 0 where
  pub valid : All (IsValidMessage s.config.kind) s.messages
  pub few : length s.messages < 2 ^ 32

-- the content that the history leaves of an old one: each deletion adds a payload
abbrev pub content_after : QueueSetting → List Entry → List (List ℕ) → List (List ℕ)
content_after s h old = old ++ filter_map (queue_payload s.messages) (reverse h)

-- what the content says of the deletion of the message at the place: its fate, and the message's id
abbrev pub deletion_in : List (List ℕ) → ℕ → Option KeptFate
deletion_in content i = deletion_said (history (reverse content)) i

-- this fate of this message, with its id
abbrev pub kept_of : Option Fate → Option Message → Option KeptFate
kept_of None message = None
kept_of (Some fate) None = None
kept_of (Some fate) (Some message) = Some (fate_kept fate message.id)

-- the deletion that the history gave the message at the place
abbrev pub given_deletion : QueueSetting → List Entry → ℕ → Option KeptFate
given_deletion s h i = kept_of (given h 0 i) (message_at s i)

-- Deletions are recorded: the content says what it said, and then the deletions of the history with their fates and ids.
-- So it gives each place the fate of its deletion, found or given; and a message that arrived is deleted if and only if
-- the content says so.
pub record DeletionsAreRecorded (old : List (List ℕ)) (s : QueueSetting) (h : List Entry) : Type 0 where
  pub said : (i : ℕ) → deletion_in (content_after s h old) i ≡ option_or (deletion_in old i) (given_deletion s h i)
  pub fates : (i : ℕ) → option_map (λ (k : KeptFate). k.fate) (deletion_in (content_after s h old) i) ≡ deletion_fate s h i
  pub deleted : (i : ℕ) → i < queue_count h → is_some (deletion_in (content_after s h old) i) ≡ is_deleted s h i
