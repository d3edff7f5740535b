use Rattle.esm_model.proofs.WorkedAges as facts
use Rattle.esm_model.proofs.worked.ages.Goals as goal

pub returns : goal.returns
returns c = record {
  record_age = facts.record_age;
  late_call = facts.late_call;
  age_edge = facts.age_edge;
}
