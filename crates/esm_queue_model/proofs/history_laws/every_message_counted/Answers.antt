use Rattle.esm_queue_model.proofs.QueueHistories.{every_message_counted_in}
use Rattle.esm_queue_model.proofs.history_laws.every_message_counted.Goals as goal

pub returns : goal.returns
returns c = every_message_counted_in
