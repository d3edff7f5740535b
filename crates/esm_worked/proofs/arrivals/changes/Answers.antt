use Rattle.esm_worked.proofs.WorkedArrivals as facts
use Rattle.esm_worked.proofs.arrivals.changes.Goals as goal

pub returns : goal.returns
returns c = record {
  with_fate = facts.changed_stream;
  with_tries = facts.changed_after_tries;
}
