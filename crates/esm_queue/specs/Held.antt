-- What contracts see of a queue. This product's own.
use Rattle.std.specs.Prelude.{ℕ}
use Rattle.esm_queue_model.specs.Queue.{QueueState}

-- its state, for how many more messages there is room, and a moment at which messages may be made to show without memory
pub record Held : Type 0 where
  pub state : QueueState
  pub spare : ℕ
  pub ready : ℕ
