use Rattle.esm_queue_model.proofs.queue_laws.eligible_by_group.Goals as goal
use Rattle.esm_queue_model.proofs.EligibleFacts as facts

pub returns : goal.returns
returns c = facts.eligible_by_group
