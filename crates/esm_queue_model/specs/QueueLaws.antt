-- Laws of a queue's state. This product's own.
use Rattle.std.specs.Prelude.{ℕ, ◌≡◌, ◌<◌, true, ◌⊎◌, Some}
use Rattle.esm_queue_model.specs.declared.stored.Stored.{Stored}
use Rattle.esm_queue_model.specs.Queue.{QueueState, stored_at, is_shown, is_eligible, same_group}

-- each earlier message of its group is deleted or eligible. A message is eligible if and only if it is neither deleted nor
-- hidden and, in a FIFO queue, this holds.
abbrev pub EachEarlierIsDeletedOrEligible : QueueState → ℕ → ℕ → Stored → Type 0
EachEarlierIsDeletedOrEligible q m i x = (j : ℕ) (y : Stored) → j < i → stored_at q j ≡ Some y → same_group y x ≡ true → (y.deleted ≡ true) ⊎ (is_eligible q m j ≡ true)

pub record EligibleByGroup (q : QueueState) (m i : ℕ) (x : Stored) : Type 0 where
  pub shown : is_eligible q m i ≡ true → is_shown q.visibility m x ≡ true
  pub earlier : is_eligible q m i ≡ true → q.fifo ≡ true → EachEarlierIsDeletedOrEligible q m i x
  pub enough : is_shown q.visibility m x ≡ true → (q.fifo ≡ true → EachEarlierIsDeletedOrEligible q m i x) → is_eligible q m i ≡ true
