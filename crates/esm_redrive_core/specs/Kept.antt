-- The invariant of a redrive's core. Only this crate's proofs cite this.
use Rattle.std.specs.Prelude.{◌≡◌, ℕ, ◌+◌, ◌<◌, ◌≤◌, ◌^◌, Bool, List, [], ◌∷◌, ◌++◌, length, map, Option, Some, None, ⊤, if◌then◌else◌}
use Rattle.std.specs.List.{All}
use Rattle.esm_model.specs.declared.limits.TheConstants.{MAX_BATCH, MAX_LINE, MAX_PAYLOAD}
use Rattle.esm_model.specs.declared.moment.TheConstants.{MAX_MOMENT}
use Rattle.esm_model.specs.declared.config.Config.{Config}
use Rattle.esm_model.specs.declared.item.Message.{Message}
use Rattle.esm_model.specs.declared.entry.Entry.{Entry}
use Rattle.esm_model.specs.declared.entry.Entry.TheVariants as entry
use Rattle.esm_model.specs.declared.setup.FoundDeletion.{FoundDeletion}
use Rattle.esm_model.specs.Moment.{moment_after}
use Rattle.esm_model.specs.Entries.{last_moment, is_shut, calls_begun, is_running, last_call, batch_of, came_moment}
use Rattle.esm_model.specs.QueueEvent.{IsQueueConfig}
use Rattle.esm_model.specs.ValidMessage.{IsValidMessage}
use Rattle.esm_filter.specs.Criteria.{JudgesMessages}
use Rattle.esm_filter.specs.declared.criteria.Criteria.{Criteria}
use Rattle.esm_book.specs.Decided.{written_of}
use Rattle.esm_journal_record.specs.EntryPayload.{queue_payload}
use Rattle.esm_queue_model.specs.declared.stored.Stored.{Stored}
use Rattle.esm_queue_model.specs.Queue.{receivable, stored_at}
use Rattle.esm_queue_model.specs.QueueSetting.{QueueSetting, ExtendsMessages, over_messages}
use Rattle.esm_queue_model.specs.QueueEntries.{queue_lane, queue_of, queue_count}
use Rattle.esm_queue_core.specs.declared.owed.First.{First}
use Rattle.esm_queue_core.specs.declared.owed.First.TheVariants.{Came, Began, Ended}
use Rattle.esm_queue_core.specs.Next.{deleted_number, IsValidStored}
use Rattle.esm_queue_core.specs.Kept.{messages_stored, first_entries, IsRisingFrom}
use Rattle.esm_redrive_model.specs.RedriveSetting.{RedriveSetting}
use Rattle.esm_redrive.specs.declared.limited.TheConstants.{MAX_RECEIVES}
use Rattle.esm_redrive.specs.Limited.{Limited, due_in}
use Rattle.esm_redrive.specs.ReadsBack.{IsUtf8Message}
use Rattle.esm_redrive_core.specs.declared.owed.Gift.{Gift}
use Rattle.esm_redrive_core.specs.RedriveView.{RedriveView}

-- entries that are owed

abbrev pub gift_entry : Gift → Entry
gift_entry g = entry.Gave g.by 0 g.places g.fate g.line None g.moment

abbrev pub gift_entries : List Gift → List Entry
gift_entries gifts = map gift_entry gifts

abbrev pub owed_entries : Option First → List Gift → List Entry
owed_entries first gifts = first_entries first ++ gift_entries gifts

-- the parts of a core

-- the fields of a core; the history has its newest entry first, and `number` is its length; the gifts are in the order in
-- which they are paid
pub record Parts : Type 0 where
  pub config : Config
  pub calls : ℕ
  pub visibility : ℕ
  pub deletions : List FoundDeletion
  pub dead : List (List ℕ)
  pub criteria : Criteria
  pub limited : Limited
  pub past : List Entry
  pub number : ℕ
  pub capacity : ℕ
  pub last : ℕ
  pub shut : Bool
  pub begun : ℕ
  pub deleted : ℕ
  pub running : Bool
  pub coming : List Message
  pub first : Option First
  pub gifts : List Gift

-- the queue's setting, with the messages that arrived
abbrev pub own : Parts → QueueSetting
own p = record { config = p.config; calls = p.calls; visibility = p.visibility; messages = messages_stored p.limited.state; deletions = p.deletions }

abbrev pub setting_of : Parts → RedriveSetting
setting_of p = record { queue = own p; max_receives = p.limited.max_receives; dead_ids = p.dead }

abbrev pub seen_of : Parts → RedriveView
seen_of p = record { setting = setting_of p; past = p.past; coming = p.coming; owed = owed_entries p.first p.gifts }

-- the messages that arrived, and those that are arriving
abbrev pub all_of : Parts → List Message
all_of p = messages_stored p.limited.state ++ p.coming

-- room in the history

-- for how many entries an owed one needs room: itself, and the end of a call that begins
abbrev pub first_cost : Option First → ℕ
first_cost None = 0
first_cost (Some (Began lane places moment)) = 2
first_cost (Some _) = 1

-- for what is owed, for the end of the running call, and for the end of the input
abbrev pub cost : Option First → List Gift → Bool → Bool → ℕ
cost first gifts running shut = first_cost first + length gifts + (if running then 1 else 0) + (if shut then 0 else 1)

-- what is owed can be added without memory

abbrev pub CanComeFirst : Limited → List Message → ℕ → ℕ → ℕ → Type 0
CanComeFirst q coming from count moment = (from ≡ length q.state.messages) × (count ≡ length coming) × (length coming ≤ q.spare) × (moment ≤ MAX_MOMENT)

pub record CanBegin (q : Limited) (places : List ℕ) (moment : ℕ) : Type 0 where
  pub ready : q.ready ≡ moment_after moment q.state.visibility
  pub receives : places ≡ receivable q.state moment (length places)
  pub none_due : due_in q.max_receives q.state moment ≡ []
  pub few : length places ≤ MAX_BATCH
  pub in_time : moment ≤ MAX_MOMENT

abbrev pub CanAddFirst : Limited → List Message → Option First → Type 0
CanAddFirst q coming None = coming ≡ []
CanAddFirst q coming (Some (Came from count moment)) = CanComeFirst q coming from count moment
CanAddFirst q coming (Some (Began lane places moment)) = (coming ≡ []) × (lane ≡ queue_lane 0) × CanBegin q places moment
CanAddFirst q coming (Some (Ended lane reply moment)) = (coming ≡ []) × (lane ≡ queue_lane 0) × (moment ≤ MAX_MOMENT)

abbrev pub gift_line : Gift → Option (List ℕ)
gift_line g = g.line

-- its payload fits into the journal
abbrev pub HasShortPayload : Gift → Type 0
HasShortPayload g = length g.payload.items ≤ MAX_PAYLOAD

abbrev pub payloads_in : List Gift → List (List ℕ)
payloads_in gifts = map (λ (g : Gift). g.payload.items) gifts

abbrev pub IsShortLine : Option (List ℕ) → Type 0
IsShortLine None = ⊤
IsShortLine (Some line) = length line ≤ MAX_LINE

-- of the owed deletions, only the first may have a line
abbrev pub HaveLineFirst : List Gift → Type 0
HaveLineFirst [] = ⊤
HaveLineFirst (g ∷ gifts) = IsShortLine g.line × (written_of gift_line gifts ≡ [])

pub record IsGiftOf (messages : List Message) (gift : Gift) : Type 0 where
  pub within : All (λ i. i < length messages) gift.places
  pub payload : queue_payload messages (gift_entry gift) ≡ Some gift.payload.items
  pub short : length gift.payload.items ≤ MAX_PAYLOAD
  pub in_time : gift.moment ≤ MAX_MOMENT

-- the batch of the last call: places of messages that arrived, in ascending order, and within the greatest batch
pub record IsBatch (n : ℕ) (places : List ℕ) : Type 0 where
  pub within : All (λ i. i < n) places
  pub rising : IsRisingFrom 0 places
  pub few : length places ≤ MAX_BATCH

-- the messages that an entry covers or names are among the first n
abbrev pub IsCovered : ℕ → Entry → Type 0
IsCovered n (entry.Came shard first count moment) = first + count ≤ n
IsCovered n (entry.Gave by shard places fate line state moment) = All (λ i. i < n) places
IsCovered n _ = ⊤

-- the fields agree with the history
pub record IsKept (p : Parts) : Type 0 where
  pub config : IsQueueConfig p.config
  pub criteria : JudgesMessages p.config.kind p.config.filters p.criteria
  pub valid : All (IsValidMessage p.config.kind) (all_of p)
  pub texts : All IsUtf8Message (all_of p)
  pub few : length (all_of p) < 2 ^ 32
  -- the queue is that of the history, over every list that extends the messages that arrived
  pub queue : (messages : List Message) → ExtendsMessages (messages_stored p.limited.state) messages → p.limited.state ≡ queue_of (over_messages (own p) messages) p.past
  pub stored : All (IsValidStored p.config.kind) p.limited.state.messages
  pub count : length p.limited.state.messages ≡ queue_count p.past
  pub arrivals : (i : ℕ) (x : Stored) → stored_at p.limited.state i ≡ Some x → x.came ≡ came_moment p.past 0 i
  pub covered : All (IsCovered (length p.limited.state.messages)) p.past
  pub last : p.last ≡ last_moment p.past
  pub in_time : p.last ≤ MAX_MOMENT
  pub shut : p.shut ≡ is_shut p.past
  pub begun : p.begun ≡ calls_begun p.past
  pub deleted : p.deleted ≡ deleted_number p.limited.state
  pub running : p.running ≡ is_running p.past (queue_lane 0)
  pub batch : IsBatch (length p.limited.state.messages) (batch_of (last_call p.past (queue_lane 0)))
  pub room : p.number + cost p.first p.gifts p.running p.shut ≤ p.capacity
  pub short : p.number + cost p.first p.gifts p.running p.shut ≤ 2 ^ 40
  pub some_receives : 1 ≤ p.limited.max_receives
  pub few_receives : p.limited.max_receives ≤ MAX_RECEIVES
  pub first : CanAddFirst p.limited p.coming p.first
  pub gifts : All (IsGiftOf (all_of p)) p.gifts
  pub lines : HaveLineFirst p.gifts
