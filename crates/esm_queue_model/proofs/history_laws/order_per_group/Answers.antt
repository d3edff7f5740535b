use Rattle.esm_queue_model.proofs.QueueHistories.{order_per_group_in}
use Rattle.esm_queue_model.proofs.history_laws.order_per_group.Goals as goal

pub returns : goal.returns
returns c = order_per_group_in
