-- What a batcher of a queue does next: the first rule that holds. Source: the Lambda Developer Guide, "Using Lambda with
-- Amazon SQS"; the order of the rules and the pause of 20 milliseconds are this product's own.
use Rattle.std.specs.Prelude.{◌≡◌, ℕ, ◌≤◌, length, count_by, IfSome, nat_le, min, Bool, true, false, List, [], ◌∷◌, Option, Some, None, unwrap_or, if◌then◌else◌}
use Rattle.esm_model.specs.Moment.{moment_after}
use Rattle.esm_model.specs.declared.moment.TheConstants.{MAX_MOMENT}
use Rattle.esm_model.specs.declared.config.Config.{Config}
use Rattle.esm_model.specs.declared.config.Kind.{Kind}
use Rattle.esm_model.specs.declared.book.Job.{Job}
use Rattle.esm_model.specs.declared.book.Next.{Next}
use Rattle.esm_model.specs.declared.book.Next.TheVariants as next
use Rattle.esm_model.specs.declared.entry.Entry.{Entry}
use Rattle.esm_model.specs.declared.entry.Entry.TheVariants.{Began}
use Rattle.esm_model.specs.ValidMessage.{IsValidMessage}
use Rattle.esm_model.specs.Entries.{is_shut, calls_begun, came_moment}
use Rattle.esm_queue_model.specs.declared.stored.Stored.{Stored}
use Rattle.esm_queue_model.specs.Queue.{QueueState, stored_at, next_show}
use Rattle.esm_queue_model.specs.QueueSetting.{QueueSetting}
use Rattle.esm_queue_model.specs.QueueEntries.{queue_lane, queue_of, queue_count, waiting}
use Rattle.esm_queue_model.specs.QueueBatch.{queue_event, queue_batch, is_queue_ready}
use Rattle.esm_queue_core.specs.declared.next.Counts.{Counts}

-- the call of the batcher with these places at the moment
abbrev pub job_of : QueueSetting → List Entry → ℕ → List ℕ → ℕ → Job
job_of s h k places m = record { lane = queue_lane k; places = places; closing = None; event = queue_event s (queue_of s h) m places }

-- there are none
abbrev pub is_nothing : List ℕ → Bool
is_nothing [] = true
is_nothing (i ∷ places) = false

-- every message that came is deleted
abbrev pub is_all_deleted : QueueSetting → List Entry → Bool
is_all_deleted s h = is_nothing (waiting s h)

-- the pause

-- the lesser of two moments, if there are any
abbrev pub lesser_of : Option ℕ → Option ℕ → Option ℕ
lesser_of None other = other
lesser_of (Some one) None = Some one
lesser_of (Some one) (Some other) = Some (min one other)

-- the moment at which the batching window of a batch is over, if there is a batch
abbrev pub window_end : QueueSetting → List Entry → List ℕ → Option ℕ
window_end s h [] = None
window_end s h (i ∷ places) = Some (moment_after (came_moment h 0 i) s.config.window_ms)

-- the least later moment at which a hidden message shows or the batching window is over, or 20 milliseconds later if there
-- is none
abbrev pub pause_end : QueueSetting → List Entry → ℕ → List ℕ → ℕ
pause_end s h m batch = unwrap_or (lesser_of (next_show (queue_of s h) m) (window_end s h batch)) (moment_after m 20)

-- the rules, from the last one up

-- a batch that is ready is called
abbrev pub next_batch : QueueSetting → List Entry → ℕ → ℕ → List ℕ → Next
next_batch s h k m [] = next.Idle (pause_end s h m [])
next_batch s h k m (i ∷ places) =
    if is_queue_ready s h m then next.Call (job_of s h k (i ∷ places) m)
    else next.Idle (pause_end s h m (i ∷ places))

-- the calls allowed, if a message waits
abbrev pub next_allowed : QueueSetting → List Entry → ℕ → ℕ → Next
next_allowed s h k m =
    if nat_le s.calls (calls_begun h) then next.Spent
    else next_batch s h k m (queue_batch s h m)

-- what the batcher does next at the moment
abbrev pub next_for : QueueSetting → List Entry → ℕ → ℕ → Next
next_for s h k m =
    if is_all_deleted s h then (if is_shut h then next.Finished else next.Idle (moment_after m 20))
    else next_allowed s h k m

-- the entry that the answer adds: a call begins
abbrev pub next_entries : Next → ℕ → List Entry
next_entries (next.Call job) m = Began job.lane job.places job.closing m ∷ []
next_entries _ m = []

-- what a decision looks at is what the history says
pub record IsToldBy (config : Config) (q : QueueState) (counts : Counts) (s : QueueSetting) (h : List Entry) : Type 0 where
  pub config_is : config ≡ s.config
  pub queue_is : q ≡ queue_of s h
  pub calls_are : counts.calls ≡ s.calls
  pub begun_is : counts.begun ≡ calls_begun h
  pub shut_is : counts.shut ≡ is_shut h
  pub came_is : length q.messages ≡ queue_count h
  pub arrivals : (i : ℕ) (x : Stored) → stored_at q i ≡ Some x → x.came ≡ came_moment h 0 i

-- a message as a queue's book stores it: valid, and its moments within the end
pub record IsValidStored (kind : Kind) (x : Stored) : Type 0 where
  pub message : IsValidMessage kind x.message
  pub came : x.came ≤ MAX_MOMENT
  pub first : IfSome x.first (λ m. m ≤ MAX_MOMENT)

-- how many messages of a queue are deleted
abbrev pub deleted_number : QueueState → ℕ
deleted_number q = count_by (λ (x : Stored). x.deleted) q.messages
