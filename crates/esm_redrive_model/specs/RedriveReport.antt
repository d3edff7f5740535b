-- What a redrive calls, and what its report says of its messages. This product's own.
use Rattle.std.specs.Prelude.{ℕ, List, ◌++◌, codes}
use Rattle.esm_model.specs.declared.called.Called.{Called}
use Rattle.esm_model.specs.declared.entry.Fate.TheVariants.{Exhausted}
use Rattle.esm_model.specs.declared.entry.Entry.{Entry}
use Rattle.esm_model.specs.Numbers.{decimal}
use Rattle.esm_queue_model.specs.QueueEntries.{deleted_with}
use Rattle.esm_queue_model.specs.QueueBatch.{queue_calls}
use Rattle.esm_queue_model.specs.QueueReport.{queue_text}
use Rattle.esm_redrive_model.specs.RedriveSetting.{RedriveSetting}

-- the calls that ended, oldest first, as the caller logs them; `sends` maps an event to the bytes that the caller sends
abbrev pub redrive_calls : RedriveSetting → (List ℕ → List ℕ) → List Entry → List Called
redrive_calls s sends h = queue_calls s.queue sends h 0

-- the report of a queue's run, followed by the number of moved messages, found ones included; without the line feed
abbrev pub redrive_text : RedriveSetting → List Entry → List ℕ
redrive_text s h = queue_text s.queue h ++ codes " moved " ++ decimal (deleted_with s.queue h Exhausted)
