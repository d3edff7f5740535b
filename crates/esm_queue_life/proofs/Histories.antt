-- What the calls of one history of a queue hold, a run's or a redrive's.
use Rattle.std.proofs.Common.{◌≡◌, ◌∙◌, ◌⊎◌, ℕ, ◌+◌, ◌<◌, true, false, cond, List, [], ◌∷◌, ◌++◌, length, take, drop, map, Option, Some, None, ap, ap₂, arith, inl, inr, refl, subst, sym}
use Rattle.std.specs.Prelude.{◌==◌, option_map, slice_get}
use Rattle.std.proofs.Math.Seq.{take-add}
use Rattle.std.proofs.lemmas.Bool.{cases_Bool}
use Rattle.std.proofs.lemmas.List.{map-append}
use Rattle.std.proofs.lemmas.Option.{none-some, same_Some, slice_get-map}
use Rattle.esm_model.specs.declared.entry.Entry.{Entry}
use Rattle.esm_model.specs.declared.entry.Entry.TheVariants.{Came, Began, Ended, Gave, Tried, Closed, Replayed, Shut}
use Rattle.esm_model.specs.declared.item.Message.{Message}
use Rattle.esm_model.specs.declared.lane.LaneId.{LaneId}
use Rattle.esm_model.specs.Entries.{holds}
use Rattle.esm_model.specs.Fates.{below}
use Rattle.esm_queue_model.specs.declared.stored.Stored.{Stored}
use Rattle.esm_queue_model.specs.Queue.{changed_from, deleted_once, eligible, is_eligible, is_group, received_once, stored_at}
use Rattle.esm_queue_model.specs.QueueEntries.{coming_from, is_deleted, queue_count, queue_of}
use Rattle.esm_queue_model.specs.QueueSetting.{QueueSetting, is_fifo, message_at}
use Rattle.esm_queue_model.proofs.EligibleFacts.{eligible_by_group}
use Rattle.esm_queue_model.proofs.Groups.{at_take}
use Rattle.esm_queue_model.proofs.Places.{In, In-filter, In-take, front_closed}
use Rattle.esm_queue_model.proofs.QueueHistories.{fifo_is, message_of}
use Rattle.esm_redrive_model.proofs.Built.{AreEligible, Built, called_came}
use Rattle.esm_redrive_model.proofs.Named.{eligible_waits}
use Rattle.esm_queue_life.specs.History.{NoDeletedCalled}

pub built_before : (s : QueueSetting) (later before : List Entry) → Built s (later ++ before) → Built s before
built_before s [] before built = built
built_before s (e ∷ later) before built = built_before s later before built.0

-- a call of the history

pub record IsCall (s : QueueSetting) (before : List Entry) (places : List ℕ) (m : ℕ) : Type 0 where
  pub built : Built s before
  pub eligible : AreEligible s before places m

pub call_at : (s : QueueSetting) (h later before : List Entry) (lane : LaneId) (places : List ℕ) (closing : Option ℕ) (m : ℕ) → Built s h → h ≡ later ++ Began lane places closing m ∷ before → IsCall s before places m
call_at s h later before lane places closing m built split =
    let there : Built s (Began lane places closing m ∷ before) = built_before s later (Began lane places closing m ∷ before) (subst (Built s) split built) in
    record { built = there.0; eligible = there.1 }

pub called_waits : (s : QueueSetting) (before : List Entry) (places : List ℕ) (m i : ℕ) → IsCall s before places m → In places i → is_deleted s before i ≡ false
called_waits s before places m i call member =
    eligible_waits s before m i (In-take call.eligible.0 (eligible (queue_of s before) m) i (subst (λ (ps : List ℕ). In ps i) call.eligible.1 member))

pub none_deleted : (s : QueueSetting) (h : List Entry) → Built s h → NoDeletedCalled s h
none_deleted s h built later before lane places closing m split i member = called_waits s before places m i (call_at s h later before lane places closing m built split) member

-- messages

changed_messages : (f : Stored → Stored) → ((x : Stored) → message_of (f x) ≡ message_of x) → (places : List ℕ) (k : ℕ) (xs : List Stored) → map message_of (changed_from f places k xs) ≡ map message_of xs
changed_messages f same places k [] = refl
changed_messages f same places k (x ∷ xs) =
    let rest = changed_messages f same places (k + 1) xs in
    let here : message_of (cond (holds places k) (f x) x) ≡ message_of x = elim (cases_Bool (holds places k)) [ inl is ↦ rw is (same x) | inr other ↦ rw other refl ] in
    ap₂ (λ (m : Message) (ms : List Message). m ∷ ms) here rest

coming_messages : (s : QueueSetting) (m k : ℕ) (xs : List Message) → map message_of (coming_from s m k xs) ≡ xs
coming_messages s m k [] = refl
coming_messages s m k (x ∷ xs) = ap (λ (ms : List Message). x ∷ ms) (coming_messages s m (k + 1) xs)

-- the messages that came, in order
messages_are : (s : QueueSetting) (h : List Entry) → Built s h → map message_of (queue_of s h).messages ≡ take (queue_count h) s.messages
messages_are s [] built = refl
messages_are s (Came shard first count m ∷ h) built =
    let may = built.1 in
    let before = messages_are s h built.0 in
    let number : cond (shard == 0) (count + queue_count h) (queue_count h) ≡ first + count = rw may.queue (omega (arith, may.next)) in
    let all = (queue_of s h).messages in
    map-append message_of all (coming_from s m first (take count (drop first s.messages)))
    ∙ (ap₂ (λ (xs ys : List Message). xs ++ ys) (before ∙ ap (λ n. take n s.messages) (sym may.next)) (coming_messages s m first (take count (drop first s.messages)))
    ∙ (sym (take-add first count s.messages) ∙ ap (λ n. take n s.messages) (sym number)))
messages_are s (Began lane places closing m ∷ h) built = changed_messages (received_once m) (λ x. refl) places 0 (queue_of s h).messages ∙ messages_are s h built.0
messages_are s (Gave by shard places f line state m ∷ h) built = changed_messages deleted_once (λ x. refl) places 0 (queue_of s h).messages ∙ messages_are s h built.0
messages_are s (Ended lane reply m ∷ h) built = messages_are s h built.0
messages_are s (Tried lane places closing tries m ∷ h) built = messages_are s h built.0
messages_are s (Closed lane window m ∷ h) built = messages_are s h built.0
messages_are s (Replayed shard places m ∷ h) built = messages_are s h built.0
messages_are s (Shut m ∷ h) built = messages_are s h built.0

-- the message that stands at a place of the queue
pub record Stands (s : QueueSetting) (h : List Entry) (i : ℕ) (x : Message) : Type 0 where
  pub stored : Stored
  pub at : stored_at (queue_of s h) i ≡ Some stored
  pub message : stored.message ≡ x

stands_so : (s : QueueSetting) (h : List Entry) (i : ℕ) (x : Message) (o : Option Stored) → stored_at (queue_of s h) i ≡ o → option_map message_of o ≡ Some x → Stands s h i x
stands_so s h i x None at is = absurd (none-some x is)
stands_so s h i x (Some y) at is = record { stored = y; at = at; message = same_Some y.message x is }

pub stands : (s : QueueSetting) (h : List Entry) (i : ℕ) (x : Message) → Built s h → i < queue_count h → message_at s i ≡ Some x → Stands s h i x
stands s h i x built low at =
    stands_so s h i x (stored_at (queue_of s h) i) refl
    (sym (slice_get-map message_of (queue_of s h).messages i)
    ∙ (ap (λ (ms : List Message). slice_get ms i) (messages_are s h built)
    ∙ at_take (queue_count h) s.messages i x low at))

-- groups

-- of a FIFO queue an earlier message of the group is deleted, or in the batch too
pub earlier_first : (s : QueueSetting) (before : List Entry) (places : List ℕ) (m i j : ℕ) (x y : Message) → is_fifo s.config.kind ≡ true → IsCall s before places m
    → message_at s i ≡ Some x → message_at s j ≡ Some y → is_group y.group x.group ≡ true → In places i → j < i → (is_deleted s before j ≡ true) ⊎ In places j
earlier_first s before places m i j x y fifo call at_i at_j group member earlier =
    let q = queue_of s before in
    let n = length q.messages in
    let k = call.eligible.0 in
    let low : i < queue_count before = called_came s before places m i call.built call.eligible member in
    let one = stands s before i x call.built low at_i in
    let other = stands s before j y call.built (omega (arith, low, earlier)) at_j in
    let here : In (take k (eligible q m)) i = subst (λ (ps : List ℕ). In ps i) call.eligible.1 member in
    let passes : is_eligible q m i ≡ true = (In-filter (is_eligible q m) (below n) i (In-take k (eligible q m) i here)).1 in
    let of_group : is_group other.stored.message.group one.stored.message.group ≡ true =
    ap₂ (λ (a b : Message). is_group a.group b.group) other.message one.message ∙ group in
    elim ((eligible_by_group q m i one.stored one.at).earlier passes (fifo_is s before ∙ fifo) j other.stored earlier other.at of_group) [
      | inl deleted ↦ inl (deleted_there s before j other.stored other.at deleted)
      | inr waits ↦ inr (subst (λ (ps : List ℕ). In ps j) (sym call.eligible.1) (front_closed (is_eligible q m) n k i j here earlier waits))
    ]
  where
    deleted_there : (s : QueueSetting) (h : List Entry) (i : ℕ) (x : Stored) → stored_at (queue_of s h) i ≡ Some x → x.deleted ≡ true → is_deleted s h i ≡ true
    deleted_there s h i x at is = rw at is
