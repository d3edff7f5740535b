-- What is kept of a core.
use Rattle.std.specs.Prelude.{◌≡◌, ℕ, ◌+◌, ◌<◌, ◌≤◌, ◌^◌, Bool, true, false, not, List, [], ◌∷◌, ◌++◌, length, map, filter, Option, Some, None, ⊤}
use Rattle.std.specs.List.{All}
use Rattle.esm_model.specs.declared.limits.TheConstants.{MAX_BATCH, MAX_PAYLOAD}
use Rattle.esm_model.specs.declared.moment.TheConstants.{MAX_MOMENT}
use Rattle.esm_model.specs.declared.item.Message.{Message}
use Rattle.esm_model.specs.declared.lane.LaneId.{LaneId}
use Rattle.esm_model.specs.declared.entry.Fate.{Fate}
use Rattle.esm_model.specs.declared.entry.Entry.{Entry}
use Rattle.esm_model.specs.declared.entry.Entry.TheVariants as entry
use Rattle.esm_model.specs.declared.book.Next.{Next}
use Rattle.esm_model.specs.declared.book.Next.TheVariants as next
use Rattle.esm_model.specs.declared.verdict.QueueReading.{QueueReading}
use Rattle.esm_model.specs.declared.verdict.QueueReading.TheVariants.{NotRun, Failed, Done}
use Rattle.esm_model.specs.Lane.{same_lane}
use Rattle.esm_model.specs.Moment.{moment_after}
use Rattle.esm_model.specs.Entries.{last_moment, is_shut, calls_begun}
use Rattle.esm_model.specs.QueueEvent.{IsQueueConfig}
use Rattle.esm_model.specs.ValidMessage.{IsValidMessage}
use Rattle.esm_filter.specs.Criteria.{JudgesMessages}
use Rattle.esm_filter.specs.declared.criteria.Criteria.{Criteria}
use Rattle.esm_model.specs.declared.config.Config.{Config}
use Rattle.esm_model.specs.declared.setup.FoundDeletion.{FoundDeletion}
use Rattle.esm_journal_record.specs.declared.said.Said.TheVariants.{Deleted}
use Rattle.esm_journal_record.specs.EntryPayload.{ids_at, queue_payload}
use Rattle.esm_journal_record.specs.Payload.{IsSaid}
use Rattle.esm_queue.specs.Held.{Held}
use Rattle.esm_queue_model.specs.declared.stored.Stored.{Stored}
use Rattle.esm_queue_model.specs.Queue.{QueueState, receivable}
use Rattle.esm_queue_model.specs.QueueSetting.{QueueSetting, over_messages}
use Rattle.esm_queue_model.specs.QueueEntries.{queue_of}
use Rattle.esm_queue_core.specs.declared.owed.First.{First}
use Rattle.esm_queue_core.specs.declared.owed.First.TheVariants.{Came, Began, Ended}
use Rattle.esm_queue_core.specs.declared.owed.Gift.{Gift}
use Rattle.esm_queue_core.specs.declared.standing.Standing.{Standing}
use Rattle.esm_queue_core.specs.declared.standing.Standing.TheVariants.{Whole, Paying, Left}
use Rattle.esm_queue_core.specs.CoreView.{CoreView}
use Rattle.esm_queue_core.specs.Next.{deleted_number}
use Rattle.esm_queue_core.specs.Sound.{Sound}

-- entries that are owed

abbrev pub first_entry : First → Entry
first_entry (Came from count moment) = entry.Came 0 from count moment
first_entry (Began lane places moment) = entry.Began lane places None moment
first_entry (Ended lane reply moment) = entry.Ended lane reply moment

abbrev pub gift_entry : Gift → Entry
gift_entry g = entry.Gave g.by 0 g.places g.fate None None g.moment

abbrev pub gift_entries : Option Gift → List Entry
gift_entries None = []
gift_entries (Some gift) = gift_entry gift ∷ []

abbrev pub first_entries : Option First → List Entry
first_entries None = []
first_entries (Some first) = first_entry first ∷ []

abbrev pub owed_entries : Option First → Option Gift → List Entry
owed_entries None gift = gift_entries gift
owed_entries (Some first) gift = first_entry first ∷ gift_entries gift

-- the history with them on it
abbrev pub with_gift : Option Gift → List Entry → List Entry
with_gift None h = h
with_gift (Some gift) h = gift_entry gift ∷ h

abbrev pub with_first : Option First → List Entry → List Entry
with_first None h = h
with_first (Some first) h = first_entry first ∷ h

abbrev pub with_owed : Option First → Option Gift → List Entry → List Entry
with_owed first gift h = with_gift gift (with_first first h)

-- a call that begins by an answer
abbrev pub IsBegunBy : Next → ℕ → Option First → Type 0
IsBegunBy (next.Call job) m first = first ≡ Some (Began job.lane job.places m)
IsBegunBy _ m first = first ≡ None

-- the parts of a core

abbrev pub messages_stored : QueueState → List Message
messages_stored q = map (λ (x : Stored). x.message) q.messages

abbrev pub one_coming : Message → List Message
one_coming message = message ∷ []

-- what is kept of a core; the history has its newest entry first, and `number` is its length
pub record Parts : Type 0 where
  pub config : Config
  pub calls : ℕ
  pub visibility : ℕ
  pub deletions : List FoundDeletion
  pub criteria : Criteria
  pub held : Held
  pub past : List Entry
  pub number : ℕ
  pub capacity : ℕ
  pub last : ℕ
  pub shut : Bool
  pub begun : ℕ
  pub deleted : ℕ
  pub running : ℕ
  pub coming : List Message
  pub first : Option First
  pub gift : Option Gift
  pub standing : Standing

-- the setting, of the messages that came
abbrev pub own : Parts → QueueSetting
own p = record { config = p.config; calls = p.calls; visibility = p.visibility; messages = messages_stored p.held.state; deletions = p.deletions }

abbrev pub seen_of : Parts → CoreView
seen_of p = record { setting = own p; past = p.past; coming = p.coming; owed = owed_entries p.first p.gift }

-- with the messages that are coming
abbrev pub all_of : Parts → List Message
all_of p = messages_stored p.held.state ++ p.coming

abbrev pub full : Parts → QueueSetting
full p = over_messages (own p) (all_of p)

-- room

-- the lanes whose last call has not ended
abbrev pub lanes_after : List LaneId → Entry → List LaneId
lanes_after before (entry.Began lane places closing moment) = lane ∷ before
lanes_after before (entry.Ended lane reply moment) = filter (λ at. not (same_lane lane at)) before
lanes_after before _ = before

abbrev pub running_lanes : List Entry → List LaneId
running_lanes [] = []
running_lanes (e ∷ h) = lanes_after (running_lanes h) e

-- the entries that an owed one makes room for: itself, and the end of a call that begins
abbrev pub first_cost : Option First → ℕ
first_cost None = 0
first_cost (Some (Began lane places moment)) = 2
first_cost (Some _) = 1

abbrev pub gift_cost : Option Gift → ℕ
gift_cost None = 0
gift_cost (Some gift) = 1

abbrev pub shut_cost : Bool → ℕ
shut_cost true = 0
shut_cost false = 1

-- for what is owed, the ends of the calls that run, and the end of the input
abbrev pub cost : Option First → Option Gift → List Entry → ℕ
cost first gift h = first_cost first + gift_cost gift + length (running_lanes h) + shut_cost (is_shut h)

-- what is owed can be added without memory

abbrev pub CanAddFirst : Held → List Message → Option First → Type 0
CanAddFirst q coming None = coming ≡ []
CanAddFirst q coming (Some (Came from count moment)) =
    (from ≡ length q.state.messages) × (count ≡ length coming) × (length coming ≤ q.spare) × (moment ≤ MAX_MOMENT)
CanAddFirst q coming (Some (Began lane places moment)) =
    (coming ≡ []) × (q.ready ≡ moment_after moment q.state.visibility) × (places ≡ receivable q.state moment (length places)) × (moment ≤ MAX_MOMENT)
CanAddFirst q coming (Some (Ended lane reply moment)) = (coming ≡ []) × (moment ≤ MAX_MOMENT)

-- a deletion of messages of the list may be written
pub record MayBeGiven (messages : List Message) (places : List ℕ) (fate : Fate) (moment : ℕ) : Type 0 where
  pub within : All (λ i. i < length messages) places
  pub few : length places ≤ MAX_BATCH
  pub said : 1 ≤ length places → IsSaid (Deleted fate moment places (ids_at messages places))
  pub in_time : moment ≤ MAX_MOMENT

pub record IsGiftOf (messages : List Message) (gift : Gift) : Type 0 where
  pub within : All (λ i. i < length messages) gift.places
  pub payload : queue_payload messages (gift_entry gift) ≡ Some gift.payload.items
  pub short : length gift.payload.items ≤ MAX_PAYLOAD
  pub in_time : gift.moment ≤ MAX_MOMENT

abbrev pub IsGift : List Message → Option Gift → Type 0
IsGift messages None = ⊤
IsGift messages (Some gift) = IsGiftOf messages gift

-- legality

-- what holds by how far more is decided: the history is legal and settled over the messages that came; with all owed entries
-- it is so over those that are coming too; and `running` is at least the number of running calls
abbrev pub StandsSo : QueueSetting → QueueSetting → List Entry → List Entry → ℕ → Standing → Type 0
StandsSo own full h ahead running Whole = Sound own h × Sound full ahead × (length (running_lanes h) ≤ running)
StandsSo own full h ahead running Paying = Sound full ahead × (length (running_lanes h) ≤ running)
StandsSo own full h ahead running Left = ⊤

-- all that is kept agrees with the history
pub record IsKept (p : Parts) : Type 0 where
  pub config : IsQueueConfig p.config
  pub criteria : JudgesMessages p.config.kind p.config.filters p.criteria
  pub valid : All (IsValidMessage p.config.kind) (all_of p)
  pub few : length (all_of p) < 2 ^ 32
  pub queue : p.held.state ≡ queue_of (own p) p.past
  pub queue_ahead : p.held.state ≡ queue_of (full p) p.past
  pub last : p.last ≡ last_moment p.past
  pub in_time : p.last ≤ MAX_MOMENT
  pub shut : p.shut ≡ is_shut p.past
  pub begun : p.begun ≡ calls_begun p.past
  pub deleted : p.deleted ≡ deleted_number p.held.state
  pub room : p.number + cost p.first p.gift p.past ≤ p.capacity
  pub short : p.number + cost p.first p.gift p.past ≤ 2 ^ 40
  pub first : CanAddFirst p.held p.coming p.first
  pub gift : IsGift (all_of p) p.gift
  pub standing : StandsSo (own p) (full p) p.past (with_owed p.first p.gift p.past) p.running p.standing

-- positions

-- they rise, from the lower bound on
abbrev pub IsRisingFrom : ℕ → List ℕ → Type 0
IsRisingFrom low [] = ⊤
IsRisingFrom low (i ∷ is) = (low ≤ i) × IsRisingFrom (i + 1) is

abbrev pub HasRisingFailed : QueueReading → Type 0
HasRisingFailed NotRun = ⊤
HasRisingFailed Failed = ⊤
HasRisingFailed (Done failed) = IsRisingFrom 0 failed
