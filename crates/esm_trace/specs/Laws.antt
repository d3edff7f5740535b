-- The replies in the logs of a run's callers are those of its history. This product's own.
use Rattle.std.specs.Prelude.{◌≡◌, ℕ, List, map}
use Rattle.esm_model.specs.declared.called.Called.{Called}
use Rattle.esm_model.specs.declared.entry.Entry.{Entry}
use Rattle.esm_model.specs.Setting.{Setting}
use Rattle.esm_model.specs.Calls.{calls}
use Rattle.esm_queue_model.specs.QueueSetting.{QueueSetting}
use Rattle.esm_queue_model.specs.QueueBatch.{queue_calls}
use Rattle.esm_trace.specs.declared.batchers.Batchers.TheVariants.{OfStream, OfQueue}
use Rattle.esm_trace.specs.InOrder.{replies_by}

-- of a stream
abbrev pub StreamCallsTell : Type 0
StreamCallsTell = (s : Setting) (sends : List ℕ → List ℕ) (h : List Entry) (k : ℕ)
    → map (λ (c : Called). c.reply) (calls s sends h k) ≡ replies_by (OfStream s.config.factor) h k

-- of a queue
abbrev pub QueueCallsTell : Type 0
QueueCallsTell = (s : QueueSetting) (sends : List ℕ → List ℕ) (h : List Entry) (k : ℕ)
    → map (λ (c : Called). c.reply) (queue_calls s sends h k) ≡ replies_by OfQueue h k
