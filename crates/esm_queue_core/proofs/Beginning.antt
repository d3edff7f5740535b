-- A call that is decided may begin, of the first eligible messages.
use Rattle.std.proofs.Common.{◌≡◌, ℕ, zero, suc, ◌<◌, ◌≤◌, Bool, true, false, cond, List, [], ◌∷◌, length, take, refl, sym, ap, ◌∙◌, subst, inl, inr, arith, None}
use Rattle.std.specs.Prelude.{nat_le}
use Rattle.std.proofs.lemmas.Bool.{cases_Bool, leb-false}
use Rattle.esm_model.specs.declared.lane.LaneId.{LaneId}
use Rattle.esm_model.specs.declared.book.Job.{Job}
use Rattle.esm_model.specs.declared.book.Next.TheVariants as next
use Rattle.esm_model.specs.declared.entry.Entry.{Entry}
use Rattle.esm_model.specs.Moment.{moment_after}
use Rattle.esm_model.specs.Entries.{is_shut, calls_begun, is_running}
use Rattle.esm_queue_model.specs.Queue.{eligible, receivable}
use Rattle.esm_queue_model.specs.QueueSetting.{QueueSetting}
use Rattle.esm_queue_model.specs.QueueEntries.{queue_lane, queue_of}
use Rattle.esm_queue_model.specs.QueueBatch.{queue_fits, queue_batch, eligible_after, is_queue_ready}
use Rattle.esm_queue_model.specs.QueueStep.{SettledQueue, MayBeginQueue}
use Rattle.esm_queue_model.proofs.QueueHistories.{longest_front}
use Rattle.esm_queue_core.specs.Next.{is_all_deleted, pause_end, job_of, next_batch, next_allowed, next_for}
use Rattle.esm_queue_core.specs.Choosing.{rest_of}

-- a call that is decided

-- it is of the batch, which is ready and has a message, and calls are left
pub record IsCalled (s : QueueSetting) (h : List Entry) (k m : ℕ) (job : Job) : Type 0 where
  pub lane : job.lane ≡ queue_lane k
  pub places : job.places ≡ queue_batch s h m
  pub closing : job.closing ≡ None
  pub some : 1 ≤ length job.places
  pub left : calls_begun h < s.calls
  pub ready : is_queue_ready s h m ≡ true

module _ (s : QueueSetting) (h : List Entry) (k m : ℕ) (job : Job) where
  called_with : (places : List ℕ) → queue_batch s h m ≡ places → calls_begun h < s.calls → next_batch s h k m places ≡ next.Call job → IsCalled s h k m job
  called_with [] is left answer = (let clash : next.Idle (pause_end s h m []) ≡ next.Call job = answer in absurd (cc))
  called_with (i ∷ places) is left answer = elim (cases_Bool (is_queue_ready s h m)) [
    | inl ready ↦
        (let call : next.Call (job_of s h k (i ∷ places) m) ≡ next.Call job = sym (ap (λ (b : Bool). cond b (next.Call (job_of s h k (i ∷ places) m)) (next.Idle (pause_end s h m (i ∷ places)))) ready) ∙ answer in
        let same : job_of s h k (i ∷ places) m ≡ job = cc in
        record {
          lane = sym (ap (λ (j : Job). j.lane) same);
          places = sym (ap (λ (j : Job). j.places) same) ∙ sym is;
          closing = sym (ap (λ (j : Job). j.closing) same);
          some = subst (λ (ps : List ℕ). 1 ≤ length ps) (ap (λ (j : Job). j.places) same) (omega arith);
          left = left;
          ready = ready;
        })
    | inr waits ↦
        (let clash : next.Idle (pause_end s h m (i ∷ places)) ≡ next.Call job = sym (ap (λ (b : Bool). cond b (next.Call (job_of s h k (i ∷ places) m)) (next.Idle (pause_end s h m (i ∷ places)))) waits) ∙ answer in
        absurd (cc))
  ]

  allowed_with : next_allowed s h k m ≡ next.Call job → IsCalled s h k m job
  allowed_with answer = elim (cases_Bool (nat_le s.calls (calls_begun h))) [
    | inl spent ↦
        (let clash : next.Spent ≡ next.Call job = sym (ap (λ (b : Bool). cond b next.Spent (next_batch s h k m (queue_batch s h m))) spent) ∙ answer in
        absurd (cc))
    | inr left ↦
        called_with (queue_batch s h m) refl (leb-false s.calls (calls_begun h) left)
        (sym (ap (λ (b : Bool). cond b next.Spent (next_batch s h k m (queue_batch s h m))) left) ∙ answer)
  ]

  rest_is_no_call : (shut : Bool) → rest_of shut m ≡ next.Call job → ⊥
  rest_is_no_call true answer = let clash : next.Finished ≡ next.Call job = answer in cc
  rest_is_no_call false answer = let clash : next.Idle (moment_after m 20) ≡ next.Call job = answer in cc

  pub called_by : next_for s h k m ≡ next.Call job → IsCalled s h k m job
  called_by answer = elim (cases_Bool (is_all_deleted s h)) [
    | inl all ↦ absurd (rest_is_no_call (is_shut h) (sym (ap (λ (b : Bool). cond b (rest_of (is_shut h) m) (next_allowed s h k m)) all) ∙ answer))
    | inr some ↦ allowed_with (sym (ap (λ (b : Bool). cond b (rest_of (is_shut h) m) (next_allowed s h k m)) some) ∙ answer)
  ]

  -- its `Began` may follow
  pub may_begin : SettledQueue s h → is_running h (queue_lane k) ≡ false → IsCalled s h k m job → MayBeginQueue s h job.lane job.places m
  may_begin settled rests is = record {
    settled = settled;
    queue = ap (λ (l : LaneId). l.shard) is.lane;
    rests = ap (is_running h) is.lane ∙ rests;
    calls_left = is.left;
    exact = is.places;
    some = is.some;
    ready = is.ready;
  }

take_again : (k : ℕ) (xs : List ℕ) → take k xs ≡ take (length (take k xs)) xs
take_again zero xs = refl
take_again (suc k) [] = refl
take_again (suc k) (x ∷ xs) = ap (λ ys. x ∷ ys) (take_again k xs)

-- its messages are the first eligible ones
pub batch_receivable : (s : QueueSetting) (h : List Entry) (m : ℕ) → queue_batch s h m ≡ receivable (queue_of s h) m (length (queue_batch s h m))
batch_receivable s h m =
    let front = longest_front (queue_fits s h m) [] (eligible_after s h m) in
    front.1 ∙ (take_again front.0 (eligible (queue_of s h) m) ∙ ap (λ (ps : List ℕ). take (length ps) (eligible (queue_of s h) m)) (sym front.1))
