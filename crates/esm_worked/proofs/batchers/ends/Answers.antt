use Rattle.esm_worked.proofs.WorkedNext as facts
use Rattle.esm_worked.proofs.batchers.ends.Goals as goal

pub returns : goal.returns
returns c = record {
  finished = facts.finishes;
  spent = facts.stops;
}
