-- What a run of a queue's batchers leaves if memory runs out. This product's own.
use Rattle.std.specs.Prelude.{◌≡◌, ◌⊎◌, ℕ, true, List, [], ◌∷◌, ◌++◌, Option}
use Rattle.esm_io.specs.Told.{Grows}
use Rattle.esm_model.specs.declared.called.Called.{Called}
use Rattle.esm_model.specs.declared.entry.Entry.{Entry}
use Rattle.esm_model.specs.declared.entry.Reply.{Reply}
use Rattle.esm_model.specs.Entries.{is_running}
use Rattle.esm_queue_model.specs.QueueSetting.{QueueSetting}
use Rattle.esm_queue_model.specs.QueueEntries.{queue_lane}
use Rattle.esm_queue_model.specs.QueueBatch.{queue_calls, last_queue_event}

-- the log grew by the calls of batcher k, and by one further call of its lane, which still runs
pub record HasOneMore (sends : List ℕ → List ℕ) (s : QueueSetting) (h : List Entry) (k : ℕ) (old new : Option (List Called)) : Type 0 where
  pub runs : is_running h (queue_lane k) ≡ true
  pub reply : Reply
  pub logged : Grows old new (queue_calls s sends h k ++ record { name = s.config.function; event = sends (last_queue_event s h (queue_lane k)); reply = reply } ∷ [])

-- the log grew by the calls of batcher k, and perhaps by one further call whose end is not in the history
abbrev pub HasLogged : (List ℕ → List ℕ) → QueueSetting → List Entry → ℕ → (old new : Option (List Called)) → Type 0
HasLogged sends s h k old new = Grows old new (queue_calls s sends h k) ⊎ HasOneMore sends s h k old new
