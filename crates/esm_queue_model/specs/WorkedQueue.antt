-- Worked examples of a queue's state: `fifo-receive` and `queue-peek`.
use Rattle.std.specs.Prelude.{◌≡◌, ℕ, true, List, [], ◌∷◌, codes, Some, None}
use Rattle.esm_model.specs.declared.item.Message.{Message}
use Rattle.esm_queue_model.specs.Queue.{QueueState, empty_queue, after_arrival, after_receipt, after_deletion, receivable, count_at, first_at, next_show, stored_at}

abbrev pub grouped : List ℕ → List ℕ → Message
grouped id group = record { id = id; group = Some group; body = codes "x"; sent = 0 }

-- messages of the groups A, B and A arrived at 0
abbrev pub three_came : QueueState
three_came =
    after_arrival (grouped (codes "c") (codes "A")) 0
    (after_arrival (grouped (codes "b") (codes "B")) 0
    (after_arrival (grouped (codes "a") (codes "A")) 0 (empty_queue true 30000)))

-- the queue after a receipt of at most `max` messages
abbrev pub received : ℕ → ℕ → QueueState → QueueState
received m max q = after_receipt m (receivable q m max) q

abbrev pub one_given : QueueState
one_given = received 0 1 three_came

abbrev pub two_given : QueueState
two_given = received 0 10 one_given

abbrev pub given_again : QueueState
given_again = received 30000 1 two_given

abbrev pub one_deleted : QueueState
one_deleted = after_deletion (0 ∷ []) given_again

-- a message in flight holds back the later ones of its group, until it is visible again or deleted
pub record FifoReceive : Type 0 where
  pub all : receivable three_came 0 10 ≡ 0 ∷ 1 ∷ 2 ∷ []
  pub first : receivable three_came 0 1 ≡ 0 ∷ []
  pub other_group : receivable one_given 0 10 ≡ 1 ∷ []
  pub shown_again : receivable two_given 30000 1 ≡ 0 ∷ []
  pub counted : count_at given_again 0 ≡ 2
  pub after_deletion_of_first : receivable one_deleted 30000 10 ≡ 1 ∷ 2 ∷ []

-- what the queue shows while its first message is in flight
pub record QueuePeek : Type 0 where
  pub all : receivable three_came 0 10 ≡ 0 ∷ 1 ∷ 2 ∷ []
  pub other_group : receivable one_given 0 10 ≡ 1 ∷ []
  pub count : count_at one_given 0 ≡ 1
  pub first : first_at one_given 0 ≡ Some 0
  pub never : first_at one_given 1 ≡ None
  pub next : next_show one_given 0 ≡ Some 30000
  pub no_such_place : stored_at one_given 3 ≡ None
