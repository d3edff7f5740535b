use Rattle.esm_model.proofs.WorkedAnswers as facts
use Rattle.esm_model.proofs.worked.answers.Goals as goal

pub returns : goal.returns
returns c = record {
  partial_failure = facts.partial_failure;
  item_failures_counted = facts.item_failures_counted;
  answer_bodies = facts.answer_bodies;
  hostile_bodies = facts.hostile_bodies;
}
