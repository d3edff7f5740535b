-- What is true of every core of a redrive, and what its decisions leave of a history that is legal and settled. This
-- product's own.
use Rattle.std.specs.Prelude.{◌≡◌, ◌≤◌, Bool, true, false, List, [], ◌∷◌, ◌++◌, length, reverse}
use Rattle.std.specs.List.{All}
use Rattle.esm_model.specs.declared.item.Message.{Message}
use Rattle.esm_model.specs.declared.moment.TheConstants.{MAX_MOMENT}
use Rattle.esm_model.specs.declared.entry.Entry.{Entry}
use Rattle.esm_model.specs.declared.entry.Entry.TheVariants.{Came}
use Rattle.esm_model.specs.Entries.{last_moment}
use Rattle.esm_model.specs.Valid.{is_stream}
use Rattle.esm_model.specs.ValidMessage.{IsValidMessage}
use Rattle.esm_queue_model.specs.QueueSetting.{ExtendsMessages, is_fifo}
use Rattle.esm_queue_model.specs.QueueEntries.{queue_count}
use Rattle.esm_queue_model.specs.QueueBooks.{messages_told}
use Rattle.esm_redrive.specs.declared.limited.TheConstants.{MAX_RECEIVES}
use Rattle.esm_redrive.specs.ReadsBack.{HasLetter}
use Rattle.esm_redrive_model.specs.RedriveSetting.{redrive_over}
use Rattle.esm_redrive_core.specs.RedriveView.{RedriveView, all_messages}
use Rattle.esm_redrive_core.specs.Sound.{Sound}
use Rattle.esm_redrive_core.specs.Told.{redrive_entries, told_of}

abbrev pub is_coming : Entry → Bool
is_coming (Came shard first count moment) = true
is_coming _ = false

-- the first of the entries is the arrival of messages
abbrev pub comes_first : List Entry → Bool
comes_first [] = false
comes_first (e ∷ es) = is_coming e

-- The mapping is a queue's, with a limit that may be set. The messages that arrived are those of its history, whose
-- entries are the same over every longer list of messages. Each message is valid, and its dead letter reads back as it.
-- Messages are arriving only if their `Came` is owed first.
pub record IsConsistent (v : RedriveView) : Type 0 where
  pub queue : is_stream v.setting.queue.config.kind ≡ false
  pub some_receives : 1 ≤ v.setting.max_receives
  pub few_receives : v.setting.max_receives ≤ MAX_RECEIVES
  pub count : queue_count v.past ≡ length v.setting.queue.messages
  pub messages : v.setting.queue.messages ≡ messages_told (told_of v)
  pub stays : (more : List Message) → redrive_entries (v.setting.queue.messages ++ more) v.past ≡ redrive_entries v.setting.queue.messages v.past
  pub valid : All (IsValidMessage v.setting.queue.config.kind) v.setting.queue.messages
  pub letters : All (HasLetter (is_fifo v.setting.queue.config.kind)) v.setting.queue.messages
  pub rests : comes_first v.owed ≡ false → v.coming ≡ []
  pub in_time : last_moment v.past ≤ MAX_MOMENT

-- over every list that extends the messages that arrived and those that are arriving, the history with all owed entries
-- is legal, and requires nothing more
abbrev pub SoundAhead : RedriveView → Type 0
SoundAhead v = (messages : List Message) → ExtendsMessages (all_messages v) messages → Sound (redrive_over v.setting messages) (reverse v.owed ++ v.past)
