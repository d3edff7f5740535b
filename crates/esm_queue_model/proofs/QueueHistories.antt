-- What holds of legal histories of queues.
use Rattle.std.proofs.Common.{◌≡◌, ℕ, suc, ◌+◌, Bool, true, false, not, cond, List, [], ◌∷◌, ◌++◌, length, take, drop, map, refl, sym, ap, ap₂, ◌∙◌, subst, inl, inr, arith, append_assoc, Option, Some, None}
use Rattle.std.specs.Prelude.{◌==◌}
use Rattle.std.proofs.Math.Seq.{take-add}
use Rattle.std.proofs.lemmas.List.{append-nil, map-append}
use Rattle.std.proofs.lemmas.Bool.{cases_Bool, and_parts, not-true, cond-true, cond-false}
use Rattle.esm_model.specs.declared.item.Message.{Message}
use Rattle.esm_model.specs.declared.lane.LaneId.{LaneId}
use Rattle.esm_model.specs.declared.entry.Fate.{Fate}
use Rattle.esm_model.specs.declared.entry.Fate.TheVariants.{Succeeded, Filtered, Expired, Exhausted}
use Rattle.esm_model.specs.declared.entry.WindowState.{WindowState}
use Rattle.esm_model.specs.declared.entry.Entry.{Entry}
use Rattle.esm_model.specs.declared.entry.Entry.TheVariants.{Came, Began, Ended, Gave, Tried, Closed, Replayed, Shut}
use Rattle.esm_model.specs.Entries.{holds}
use Rattle.esm_model.specs.Fates.{below}
use Rattle.esm_model.specs.Batches.{longest}
use Rattle.esm_queue_model.specs.declared.stored.Stored.{Stored}
use Rattle.esm_queue_model.specs.Queue.{is_eligible, eligible, changed_from, received_once, deleted_once}
use Rattle.esm_queue_model.specs.QueueSetting.{QueueSetting, is_fifo}
use Rattle.esm_queue_model.specs.QueueEntries.{coming_from, queue_of, queue_count, is_deleted}
use Rattle.esm_queue_model.specs.QueueBatch.{queue_fits, eligible_after}
use Rattle.esm_queue_model.specs.QueueStep.{is_unsorted_message, succeeded_places, QueueMayFollow, MayGiveQueue, LegalQueue}
use Rattle.esm_queue_model.specs.HistoryLaws.{DeletedOnce, OrderPerGroup, EveryMessageCounted}
use Rattle.esm_queue_model.proofs.Places.{In, In-filter, In-take, front_closed, length-parted, length-below}
use Rattle.esm_queue_model.proofs.EligibleFacts.{eligible_by_group}

-- what stands before an entry

pub legal_before : (s : QueueSetting) (later before : List Entry) → LegalQueue s (later ++ before) → LegalQueue s before
legal_before s [] before legal = legal
legal_before s (e ∷ later) before legal = legal_before s later before legal.0

pub follows_at : (s : QueueSetting) (later before : List Entry) (e : Entry) → LegalQueue s (later ++ e ∷ before) → QueueMayFollow s before e
follows_at s later before e legal = (legal_before s later (e ∷ before) legal).1.1

-- deletions

given_waits : (s : QueueSetting) (h : List Entry) (by : Option LaneId) (shard : ℕ) (places : List ℕ) (f : Fate) (line : Option (List ℕ)) (state : Option WindowState) (m i : ℕ) → MayGiveQueue s h by shard places f line state m → In places i → is_deleted s h i ≡ false
given_waits s h None shard places Filtered line state m i may member =
    let passes : is_unsorted_message s h i ≡ true = (In-filter (is_unsorted_message s h) (below (queue_count h)) i (subst (λ ps. In ps i) may.exact member)).1 in
    not-true (is_deleted s h i) (and_parts _ _ passes).0
given_waits s h (Some lane) shard places Succeeded line state m i may member =
    not-true (is_deleted s h i) (In-filter (λ j. not (is_deleted s h j)) (succeeded_places s h lane) i (subst (λ ps. In ps i) may.exact member)).1
given_waits s h None shard places Succeeded line state m i may member = absurd may
given_waits s h None shard places Expired line state m i may member = absurd may
given_waits s h None shard places Exhausted line state m i may member = absurd may
given_waits s h (Some lane) shard places Filtered line state m i may member = absurd may
given_waits s h (Some lane) shard places Expired line state m i may member = absurd may
given_waits s h (Some lane) shard places Exhausted line state m i may member = absurd may

pub deleted_once_in : (s : QueueSetting) (h : List Entry) → LegalQueue s h → DeletedOnce s h
deleted_once_in s h legal later before by shard places f line state m split i member =
    given_waits s before by shard places f line state m i (follows_at s later before (Gave by shard places f line state m) (subst (LegalQueue s) split legal)) member

-- groups

-- a longest prefix is a front
pub longest_front : (p : List ℕ → Bool) (seen xs : List ℕ) → (k : ℕ) × (longest p seen xs ≡ seen ++ take k xs)
longest_front p seen [] = (0, sym (append-nil seen))
longest_front p seen (x ∷ xs) =
    let rest = longest_front p (seen ++ x ∷ []) xs in
    elim (cases_Bool (p (seen ++ x ∷ []))) [
      | inl passes ↦ (suc rest.0, cond-true (p (seen ++ x ∷ [])) (longest p (seen ++ x ∷ []) xs) seen passes ∙ (rest.1 ∙ append_assoc seen (x ∷ []) (take rest.0 xs)))
      | inr fails ↦ (0, cond-false (p (seen ++ x ∷ [])) (longest p (seen ++ x ∷ []) xs) seen fails ∙ sym (append-nil seen))
    ]

pub fifo_is : (s : QueueSetting) (h : List Entry) → (queue_of s h).fifo ≡ is_fifo s.config.kind
fifo_is s [] = refl
fifo_is s (Came shard first count m ∷ h) = fifo_is s h
fifo_is s (Began lane places closing m ∷ h) = fifo_is s h
fifo_is s (Ended lane reply m ∷ h) = fifo_is s h
fifo_is s (Gave by shard places f line state m ∷ h) = fifo_is s h
fifo_is s (Tried lane places closing tries m ∷ h) = fifo_is s h
fifo_is s (Closed lane window m ∷ h) = fifo_is s h
fifo_is s (Replayed shard places m ∷ h) = fifo_is s h
fifo_is s (Shut m ∷ h) = fifo_is s h

-- the places of a call are a front of the eligible ones
pub called_exactly : (s : QueueSetting) (h : List Entry) (lane : LaneId) (places : List ℕ) (closing : Option ℕ) (m : ℕ) → QueueMayFollow s h (Began lane places closing m) → (k : ℕ) × (places ≡ take k (eligible (queue_of s h) m))
called_exactly s h lane places None m may = let front = longest_front (queue_fits s h m) [] (eligible_after s h m) in (front.0, may.exact ∙ front.1)
called_exactly s h lane places (Some window) m may = absurd may

pub order_per_group_in : (s : QueueSetting) (h : List Entry) → LegalQueue s h → OrderPerGroup s h
order_per_group_in s h legal later before lane places closing m split fifo i j x y at_i at_j group member earlier =
    let q = queue_of s before in
    let n = length q.messages in
    let front = called_exactly s before lane places closing m (follows_at s later before (Began lane places closing m) (subst (LegalQueue s) split legal)) in
    let here : In (take front.0 (eligible q m)) i = subst (λ ps. In ps i) front.1 member in
    let passes : is_eligible q m i ≡ true = (In-filter (is_eligible q m) (below n) i (In-take front.0 (eligible q m) i here)).1 in
    let is_fifo_queue : q.fifo ≡ true = fifo_is s before ∙ fifo in
    elim ((eligible_by_group q m i x at_i).earlier passes is_fifo_queue j y earlier at_j group) [
      | inl deleted ↦ inl deleted
      | inr waits ↦ inr (subst (λ ps. In ps j) (sym front.1) (front_closed (is_eligible q m) n front.0 i j here earlier waits))
    ]

-- messages

abbrev pub message_of : Stored → Message
message_of x = x.message

messages-changed_from : (f : Stored → Stored) → ((x : Stored) → message_of (f x) ≡ message_of x) → (places : List ℕ) (k : ℕ) (xs : List Stored) → map message_of (changed_from f places k xs) ≡ map message_of xs
messages-changed_from f same places k [] = refl
messages-changed_from f same places k (x ∷ xs) =
    let rest = messages-changed_from f same places (k + 1) xs in
    let here : message_of (cond (holds places k) (f x) x) ≡ message_of x = elim (cases_Bool (holds places k)) [ inl is ↦ rw is (same x) | inr not' ↦ rw not' refl ] in
    ap₂ (λ (m : Message) (ms : List Message). m ∷ ms) here rest

messages-coming_from : (s : QueueSetting) (m k : ℕ) (xs : List Message) → map message_of (coming_from s m k xs) ≡ xs
messages-coming_from s m k [] = refl
messages-coming_from s m k (x ∷ xs) = ap (λ (ms : List Message). x ∷ ms) (messages-coming_from s m (k + 1) xs)

pub messages_are : (s : QueueSetting) (h : List Entry) → LegalQueue s h → map message_of (queue_of s h).messages ≡ take (queue_count h) s.messages
messages_are s [] legal = refl
messages_are s (Came shard first count m ∷ h) legal =
    let may = legal.1.1 in
    let before = messages_are s h legal.0 in
    let number : cond (shard == 0) (count + queue_count h) (queue_count h) ≡ first + count = rw may.queue (omega (arith, may.next)) in
    let all = (queue_of s h).messages in
    map-append message_of all (coming_from s m first (take count (drop first s.messages)))
    ∙ (ap₂ (λ (xs ys : List Message). xs ++ ys) (before ∙ ap (λ n. take n s.messages) (sym may.next)) (messages-coming_from s m first (take count (drop first s.messages)))
    ∙ (sym (take-add first count s.messages) ∙ ap (λ n. take n s.messages) (sym number)))
messages_are s (Began lane places closing m ∷ h) legal = messages-changed_from (received_once m) (λ x. refl) places 0 (queue_of s h).messages ∙ messages_are s h legal.0
messages_are s (Gave by shard places f line state m ∷ h) legal = messages-changed_from deleted_once (λ x. refl) places 0 (queue_of s h).messages ∙ messages_are s h legal.0
messages_are s (Ended lane reply m ∷ h) legal = messages_are s h legal.0
messages_are s (Tried lane places closing tries m ∷ h) legal = messages_are s h legal.0
messages_are s (Closed lane window m ∷ h) legal = messages_are s h legal.0
messages_are s (Replayed shard places m ∷ h) legal = messages_are s h legal.0
messages_are s (Shut m ∷ h) legal = messages_are s h legal.0

pub every_message_counted_in : (s : QueueSetting) (h : List Entry) → LegalQueue s h → EveryMessageCounted s h
every_message_counted_in s h legal = record {
  counted = sym (length-below (queue_count h)) ∙ length-parted (is_deleted s h) (below (queue_count h));
  messages = messages_are s h legal;
}
