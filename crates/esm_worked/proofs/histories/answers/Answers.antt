use Rattle.esm_worked.proofs.WorkedHistories as facts
use Rattle.esm_worked.proofs.histories.answers.Goals as goal

pub returns : goal.returns
returns c = record {
  partial_failure = facts.partial_failure;
  item_failures_counted = facts.item_failures_counted;
  answer_bodies = facts.answer_bodies;
  hostile_bodies = facts.hostile_bodies;
}
