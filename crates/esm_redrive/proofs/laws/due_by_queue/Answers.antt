use Rattle.std.proofs.Common.{sym, ap}
use Rattle.std.specs.Prelude.{nat_le}
use Rattle.esm_model.proofs.Records.{filter_same}
use Rattle.esm_queue_model.specs.QueueEntries.{queue_of}
use Rattle.esm_queue_model.specs.QueueBatch.{eligible_after}
use Rattle.esm_redrive_model.specs.Due.{is_at_limit}
use Rattle.esm_redrive.specs.Limited.{is_spent}
use Rattle.esm_redrive.proofs.laws.due_by_queue.Goals as goal

pub returns : goal.returns
returns c = λ s h few legal m. filter_same (is_at_limit s h) (is_spent s.max_receives (queue_of s.queue h)) (eligible_after s.queue h m)
    (λ i member. ap (nat_le s.max_receives) (sym (c.receives_are_counted.ensures s h few legal i)))
