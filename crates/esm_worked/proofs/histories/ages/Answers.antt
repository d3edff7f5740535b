use Rattle.esm_worked.proofs.WorkedHistories as facts
use Rattle.esm_worked.proofs.histories.ages.Goals as goal

pub returns : goal.returns
returns c = record {
  record_age = facts.record_age;
  age_edge = facts.age_edge;
}
