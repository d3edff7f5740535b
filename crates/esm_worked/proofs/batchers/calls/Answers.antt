use Rattle.esm_worked.proofs.WorkedNext as facts
use Rattle.esm_worked.proofs.batchers.calls.Goals as goal

pub returns : goal.returns
returns c = record {
  one_record = facts.one_record_is_called;
  two_lanes = facts.both_lanes_call;
  final_call = facts.final_call_is_first;
}
